-- What a line of a trace, or of explain, asks for (01, Values to check; docs/DECISIONS.md, D-30, D-42). A line is given without its newline.
use Rattle.std.specs.Prelude.{ℕ, ◌+◌, ◌-◌, ◌*◌, Bool, ◌&&◌, List, [], ◌∷◌, eqb, ltb, leb, length, Option, Some, None, option_and_then}
use Rattle.bits.specs.Choose.{pick, every_in}
use Rattle.chip.specs.declared.Access.{Access}
use Rattle.chip.specs.declared.Kind.{Kind}
use Rattle.chip.specs.declared.Kind.TheVariants.{Read, Write, Look}
use Rattle.chip.specs.Access.{writing}

-- ---- one field

-- what a hexadecimal digit counts, in either case; 16 for a byte that is none
unfoldable pub digit_of : ℕ → ℕ
digit_of c =
    pick (leb 48 c && leb c 57) (c - 48)  -- 0 to 9
    (pick (leb 65 c && leb c 70) (c - 55)  -- A to F
    (pick (leb 97 c && leb c 102) (c - 87) 16))  -- a to f

abbrev pub is_digit : ℕ → ℕ → Bool
is_digit base c = ltb (digit_of c) base

-- one to eight digits of a base
unfoldable pub is_number : ℕ → List ℕ → Bool
is_number base f = leb 1 (length f) && (leb (length f) 8 && every_in (is_digit base) f)

-- the number that digits spell, where those before them spell v
unfoldable pub spelled : ℕ → ℕ → List ℕ → ℕ
spelled base v [] = v
spelled base v (c ∷ f) = spelled base (v * base + digit_of c) f

unfoldable pub number_of : ℕ → List ℕ → Option ℕ
number_of base f = pick (is_number base f) (Some (spelled base 0 f)) None

-- the target: one decimal digit
unfoldable pub target_in : List ℕ → Option ℕ
target_in [] = None
target_in (c ∷ []) = pick (ltb (digit_of c) 10) (Some (digit_of c)) None
target_in (c ∷ d ∷ f) = None

-- ---- the fields of a line

-- a byte more at the front of the first field; a line always has one
abbrev pub longer : ℕ → List (List ℕ) → List (List ℕ)
longer c [] = (c ∷ []) ∷ []
longer c (f ∷ fs) = (c ∷ f) ∷ fs

-- all of them: every space parts two, so that two spaces part an empty one
unfoldable pub fields_of : List ℕ → List (List ℕ)
fields_of [] = [] ∷ []
fields_of (c ∷ l) = pick (eqb c 32) ([] ∷ fields_of l) (longer c (fields_of l))

-- ---- the fields in turn: r (114), w (119) or, where looks are asked for, l (108); target, offset, enables, for w a word, and nothing more

-- nothing behind the enables is a read or a look, whose word nobody asks for and is 0; one field more is a write's word
unfoldable pub word_next : Kind → ℕ → ℕ → ℕ → List (List ℕ) → Option Access
word_next k t o e [] =
    pick (writing k) None (Some (record { target = t; offset = o; kind = k; enables = e; word = 0 }))
word_next k t o e (v ∷ []) =
    pick (writing k)
    (pick (is_number 16 v) (Some (record { target = t; offset = o; kind = k; enables = e; word = spelled 16 0 v })) None) None
word_next k t o e (v ∷ x ∷ fs) = None

unfoldable pub enables_next : Kind → ℕ → ℕ → List (List ℕ) → Option Access
enables_next k t o [] = None
enables_next k t o (e ∷ fs) = pick (is_number 16 e) (word_next k t o (spelled 16 0 e) fs) None

unfoldable pub offset_next : Kind → ℕ → List (List ℕ) → Option Access
offset_next k t [] = None
offset_next k t (o ∷ fs) = pick (is_number 16 o) (enables_next k t (spelled 16 0 o) fs) None

unfoldable pub target_next : Kind → List (List ℕ) → Option Access
target_next k [] = None
target_next k (t ∷ fs) = option_and_then (λ n. offset_next k n fs) (target_in t)

-- the first field is one byte
unfoldable pub kind_next : Bool → ℕ → List (List ℕ) → Option Access
kind_next looks c fs =
    pick (eqb c 114) (target_next Read fs)
    (pick (eqb c 119) (target_next Write fs)
    (pick (looks && eqb c 108) (target_next Look fs) None))

unfoldable pub kind_first : Bool → List (List ℕ) → Option Access
kind_first looks [] = None
kind_first looks ([] ∷ fs) = None
kind_first looks ((c ∷ []) ∷ fs) = kind_next looks c fs
kind_first looks ((c ∷ d ∷ f) ∷ fs) = None

-- a line of over 64 bytes is of no form. A line of a trace has no look (02, C-12; docs/DECISIONS.md, D-42): one of explain may
unfoldable pub line_of : Bool → List ℕ → Option Access
line_of looks l = pick (ltb 64 (length l)) None (kind_first looks (fields_of l))
