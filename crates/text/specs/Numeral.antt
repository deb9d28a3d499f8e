-- A number as text, in ASCII (01, Values to check: words and masks are eight lower-case hexadecimal digits, all other numbers are decimal without
-- leading zeros).
use Rattle.std.specs.Prelude.{ℕ, zero, suc, ◌+◌, ◌-◌, ◌/◌, ◌%◌, Bool, ◌&&◌, List, [], ◌∷◌, ◌++◌, ltb, leb}
use Rattle.bits.specs.Choose.{pick}

-- the digit of a number below 16: 0 to 9, then a to f
unfoldable pub glyph_of : ℕ → ℕ
glyph_of d = pick (ltb d 10) (48 + d) (87 + d)

-- whether one digit is enough for n, where at least so many are asked for
unfoldable pub is_short : ℕ → ℕ → ℕ → Bool
is_short base least n = ltb n base && leb least 1

-- n in a base from 2 to 16: at least `least` digits and at most `places`, the highest first; of a number that has more, the last ones
unfoldable pub numeral_of : ℕ → ℕ → ℕ → ℕ → List ℕ
numeral_of base least zero n = []
numeral_of base least (suc places) n =
    pick (is_short base least n) [] (numeral_of base (least - 1) places (n / base)) ++ (glyph_of (n % base) ∷ [])

-- a number below 2 ^ 32 has at most ten decimal digits
abbrev pub decimal_of : ℕ → List ℕ
decimal_of n = numeral_of 10 1 10 n

-- exactly eight hexadecimal digits
abbrev pub word_text : ℕ → List ℕ
word_text n = numeral_of 16 8 8 n
