-- Lines and answers worked out: 01's own example, and the forms that look right and aren't (docs/DECISIONS.md, D-30).
-- By computing the definitions. Assumes nothing.
use mathlib.Core.Bool.{true, false}
use mathlib.Core.List.{[], ◌∷◌}
use mathlib.Core.Path.{◌≡◌, refl}
use Rattle.chip.specs.declared.Kind.TheVariants.{Read, Write, Look}
use Rattle.std.specs.Prelude.{Some, None}
use Rattle.text.specs.Numeral.{glyph_of, is_short, numeral_of}
use Rattle.text.specs.Answer.{answer_text}
use Rattle.text.specs.Line.{digit_of, is_number, spelled, target_in, fields_of, word_next, enables_next, offset_next, target_next, kind_next, kind_first, line_of}

-- w 0 1040 f ffffffff
write : line_of false (119 ∷ 32 ∷ 48 ∷ 32 ∷ 49 ∷ 48 ∷ 52 ∷ 48 ∷ 32 ∷ 102 ∷ 32 ∷ 102 ∷ 102 ∷ 102 ∷ 102 ∷ 102 ∷ 102 ∷ 102 ∷ 102 ∷ []) ≡ Some (record { target = 0; offset = 0x1040; kind = Write; enables = 15; word = 0xffffffff })
unfolding line_of kind_first kind_next target_next offset_next enables_next word_next fields_of target_in is_number spelled digit_of
write = refl

-- r 0 1040 f
read : line_of false (114 ∷ 32 ∷ 48 ∷ 32 ∷ 49 ∷ 48 ∷ 52 ∷ 48 ∷ 32 ∷ 102 ∷ []) ≡ Some (record { target = 0; offset = 0x1040; kind = Read; enables = 15; word = 0 })
unfolding line_of kind_first kind_next target_next offset_next enables_next word_next fields_of target_in is_number spelled digit_of
read = refl

-- r 9 1040 1f
form_alone : line_of false (114 ∷ 32 ∷ 57 ∷ 32 ∷ 49 ∷ 48 ∷ 52 ∷ 48 ∷ 32 ∷ 49 ∷ 102 ∷ []) ≡ Some (record { target = 9; offset = 0x1040; kind = Read; enables = 31; word = 0 })
unfolding line_of kind_first kind_next target_next offset_next enables_next word_next fields_of target_in is_number spelled digit_of
form_alone = refl

-- r 3 000000fc F
either_case : line_of false (114 ∷ 32 ∷ 51 ∷ 32 ∷ 48 ∷ 48 ∷ 48 ∷ 48 ∷ 48 ∷ 48 ∷ 102 ∷ 99 ∷ 32 ∷ 70 ∷ []) ≡ Some (record { target = 3; offset = 0xfc; kind = Read; enables = 15; word = 0 })
unfolding line_of kind_first kind_next target_next offset_next enables_next word_next fields_of target_in is_number spelled digit_of
either_case = refl

-- l 0 4008 1: in explain a look, in a trace of another form
look : line_of true (108 ∷ 32 ∷ 48 ∷ 32 ∷ 52 ∷ 48 ∷ 48 ∷ 56 ∷ 32 ∷ 49 ∷ []) ≡ Some (record { target = 0; offset = 0x4008; kind = Look; enables = 1; word = 0 })
unfolding line_of kind_first kind_next target_next offset_next enables_next word_next fields_of target_in is_number spelled digit_of
look = refl

no_look : line_of false (108 ∷ 32 ∷ 48 ∷ 32 ∷ 52 ∷ 48 ∷ 48 ∷ 56 ∷ 32 ∷ 49 ∷ []) ≡ None
unfolding line_of kind_first kind_next target_next offset_next enables_next word_next fields_of target_in is_number spelled digit_of
no_look = refl

-- L 0 4008 1
upper_look : line_of true (76 ∷ 32 ∷ 48 ∷ 32 ∷ 52 ∷ 48 ∷ 48 ∷ 56 ∷ 32 ∷ 49 ∷ []) ≡ None
unfolding line_of kind_first kind_next target_next offset_next enables_next word_next fields_of target_in is_number spelled digit_of
upper_look = refl

-- l 0 4008 1 1
word_on_look : line_of true (108 ∷ 32 ∷ 48 ∷ 32 ∷ 52 ∷ 48 ∷ 48 ∷ 56 ∷ 32 ∷ 49 ∷ 32 ∷ 49 ∷ []) ≡ None
unfolding line_of kind_first kind_next target_next offset_next enables_next word_next fields_of target_in is_number spelled digit_of
word_on_look = refl

-- r 0 1040 f in explain
read_there : line_of true (114 ∷ 32 ∷ 48 ∷ 32 ∷ 49 ∷ 48 ∷ 52 ∷ 48 ∷ 32 ∷ 102 ∷ []) ≡ Some (record { target = 0; offset = 0x1040; kind = Read; enables = 15; word = 0 })
unfolding line_of kind_first kind_next target_next offset_next enables_next word_next fields_of target_in is_number spelled digit_of
read_there = refl

-- R 0 1040 f
upper_kind : line_of false (82 ∷ 32 ∷ 48 ∷ 32 ∷ 49 ∷ 48 ∷ 52 ∷ 48 ∷ 32 ∷ 102 ∷ []) ≡ None
unfolding line_of kind_first kind_next target_next offset_next enables_next word_next fields_of target_in is_number spelled digit_of
upper_kind = refl

-- r  0 1040 f
two_spaces : line_of false (114 ∷ 32 ∷ 32 ∷ 48 ∷ 32 ∷ 49 ∷ 48 ∷ 52 ∷ 48 ∷ 32 ∷ 102 ∷ []) ≡ None
unfolding line_of kind_first kind_next target_next offset_next enables_next word_next fields_of target_in is_number spelled digit_of
two_spaces = refl

-- r 0 1040 f
space_behind : line_of false (114 ∷ 32 ∷ 48 ∷ 32 ∷ 49 ∷ 48 ∷ 52 ∷ 48 ∷ 32 ∷ 102 ∷ 32 ∷ []) ≡ None
unfolding line_of kind_first kind_next target_next offset_next enables_next word_next fields_of target_in is_number spelled digit_of
space_behind = refl

-- r 0 1040 123456789
nine_digits : line_of false (114 ∷ 32 ∷ 48 ∷ 32 ∷ 49 ∷ 48 ∷ 52 ∷ 48 ∷ 32 ∷ 49 ∷ 50 ∷ 51 ∷ 52 ∷ 53 ∷ 54 ∷ 55 ∷ 56 ∷ 57 ∷ []) ≡ None
unfolding line_of kind_first kind_next target_next offset_next enables_next word_next fields_of target_in is_number spelled digit_of
nine_digits = refl

-- r 0 1040 f 1
word_on_read : line_of false (114 ∷ 32 ∷ 48 ∷ 32 ∷ 49 ∷ 48 ∷ 52 ∷ 48 ∷ 32 ∷ 102 ∷ 32 ∷ 49 ∷ []) ≡ None
unfolding line_of kind_first kind_next target_next offset_next enables_next word_next fields_of target_in is_number spelled digit_of
word_on_read = refl

-- w 0 1040 f
no_word : line_of false (119 ∷ 32 ∷ 48 ∷ 32 ∷ 49 ∷ 48 ∷ 52 ∷ 48 ∷ 32 ∷ 102 ∷ []) ≡ None
unfolding line_of kind_first kind_next target_next offset_next enables_next word_next fields_of target_in is_number spelled digit_of
no_word = refl

-- r 0 1040 f<CR>
carriage_return : line_of false (114 ∷ 32 ∷ 48 ∷ 32 ∷ 49 ∷ 48 ∷ 52 ∷ 48 ∷ 32 ∷ 102 ∷ 13 ∷ []) ≡ None
unfolding line_of kind_first kind_next target_next offset_next enables_next word_next fields_of target_in is_number spelled digit_of
carriage_return = refl

-- r<TAB>0 1040 f
tab : line_of false (114 ∷ 9 ∷ 48 ∷ 32 ∷ 49 ∷ 48 ∷ 52 ∷ 48 ∷ 32 ∷ 102 ∷ []) ≡ None
unfolding line_of kind_first kind_next target_next offset_next enables_next word_next fields_of target_in is_number spelled digit_of
tab = refl

-- (nothing)
empty : line_of false [] ≡ None
unfolding line_of kind_first kind_next target_next offset_next enables_next word_next fields_of target_in is_number spelled digit_of
empty = refl

-- r a 1040 f
hexadecimal_target : line_of false (114 ∷ 32 ∷ 97 ∷ 32 ∷ 49 ∷ 48 ∷ 52 ∷ 48 ∷ 32 ∷ 102 ∷ []) ≡ None
unfolding line_of kind_first kind_next target_next offset_next enables_next word_next fields_of target_in is_number spelled digit_of
hexadecimal_target = refl

-- 0 00000010 ffffffff 0
answer : answer_text 0 0x10 0xffffffff 0 ≡ (48 ∷ 32 ∷ 48 ∷ 48 ∷ 48 ∷ 48 ∷ 48 ∷ 48 ∷ 49 ∷ 48 ∷ 32 ∷ 102 ∷ 102 ∷ 102 ∷ 102 ∷ 102 ∷ 102 ∷ 102 ∷ 102 ∷ 32 ∷ 48 ∷ 10 ∷ [])
unfolding answer_text numeral_of is_short glyph_of
answer = refl

-- 4 00000000 00000000 0
refusal : answer_text 4 0x0 0x0 0 ≡ (52 ∷ 32 ∷ 48 ∷ 48 ∷ 48 ∷ 48 ∷ 48 ∷ 48 ∷ 48 ∷ 48 ∷ 32 ∷ 48 ∷ 48 ∷ 48 ∷ 48 ∷ 48 ∷ 48 ∷ 48 ∷ 48 ∷ 32 ∷ 48 ∷ 10 ∷ [])
unfolding answer_text numeral_of is_short glyph_of
refusal = refl

-- 0 00000000 00000000 1048576
count : answer_text 0 0x0 0x0 1048576 ≡ (48 ∷ 32 ∷ 48 ∷ 48 ∷ 48 ∷ 48 ∷ 48 ∷ 48 ∷ 48 ∷ 48 ∷ 32 ∷ 48 ∷ 48 ∷ 48 ∷ 48 ∷ 48 ∷ 48 ∷ 48 ∷ 48 ∷ 32 ∷ 49 ∷ 48 ∷ 52 ∷ 56 ∷ 53 ∷ 55 ∷ 54 ∷ 10 ∷ [])
unfolding answer_text numeral_of is_short glyph_of
count = refl
