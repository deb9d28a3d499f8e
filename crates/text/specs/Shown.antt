-- What a person is shown: a word of which some bits are unknown, and the colour of a dot.
use Rattle.std.specs.Prelude.{ℕ, ◌/◌, ◌%◌, List, [], ◌∷◌, eqb}
use Rattle.bits.specs.Choose.{pick}
use Rattle.chip.specs.declared.Colour.{Colour}
use Rattle.text.specs.Numeral.{glyph_of}

-- a digit where all four bits are known, else ? (63)
unfoldable pub digit_shown : ℕ → ℕ → ℕ → ℕ
digit_shown word known unit = pick (eqb (known / unit % 16) 15) (glyph_of (word / unit % 16)) 63

-- eight digits, the highest first
unfoldable pub word_shown : ℕ → ℕ → List ℕ
word_shown word known =
    digit_shown word known 0x10000000
    ∷ digit_shown word known 0x1000000
    ∷ digit_shown word known 0x100000
    ∷ digit_shown word known 0x10000
    ∷ digit_shown word known 0x1000
    ∷ digit_shown word known 0x100
    ∷ digit_shown word known 0x10
    ∷ digit_shown word known 1
    ∷ []

-- the colour of a dot's word: a drawn one's own (01, the five rules), and for each reason why a dot is not drawn a loud one, never black
unfoldable pub colour_shown : ℕ → Colour
colour_shown word =
    pick (eqb (word / 0x1000000) 1) (record { red = word / 0x10000 % 256; green = word / 0x100 % 256; blue = word % 256 })
    (pick (eqb (word / 0x1000000) 2) (record { red = 0xFF; green = 0; blue = 0xFF })  -- beyond fitted memory: magenta
    (pick (eqb (word / 0x1000000) 3) (record { red = 0xFF; green = 0x80; blue = 0 })  -- not the indexed mode: orange
    (pick (eqb (word / 0x1000000) 4) (record { red = 0x80; green = 0xFF; blue = 0 })  -- an entry never stored: lime
    (pick (eqb (word / 0x1000000) 5) (record { red = 0; green = 0xFF; blue = 0xFF })  -- base, stride or mask not known: cyan
    (record { red = 0xFF; green = 0xFF; blue = 0xFF })))))
