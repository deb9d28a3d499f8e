-- The two layouts of the palette at single entries: flag, red, green and blue, the word, and whether either is a state. Neither has to be a state.
-- By computing. Assumes nothing.
use Prim.Native.Nat.{ℕ}
use mathlib.Core.Bool.{Bool, true, false}
use mathlib.Core.Path.{◌≡◌, refl}
use lib.ListN.{set, replicate}
use Rattle.chip.specs.declared.State.{State}
use Rattle.chip.specs.Palette.{empty_palette}
use Rattle.chip.specs.Bank.{bank_resets, bank_knowns}
use Rattle.chip.specs.Dac.{aimed_at}
use Rattle.chip.specs.Sound.{is_state}
use Rattle.chip.proofs.Computed.{computed}
use Rattle.promises.specs.PaletteColumns.{Columns, column_ok, columns_ok, ColumnState, is_column_state}
use Rattle.promises.specs.PaletteAlike.{packed_at}

-- nothing stored but entry e
columns : (e f r g b : ℕ) → Columns
columns e f r g b =
    record { red = set (replicate 256 0) e r; green = set (replicate 256 0) e g; blue = set (replicate 256 0) e b; stored = set (replicate 256 0) e f }

before : (e f r g b : ℕ) → ColumnState
before e f r g b =
    record { width = 4; height = 1; fitted = 16; once = 0; values = bank_resets; knowns = bank_knowns; dac = aimed_at 7; palette = columns e f r g b }

now : (e w : ℕ) → State
now e w =
    record { width = 4; height = 1; fitted = 16; once = 0; values = bank_resets; knowns = bank_knowns; dac = aimed_at 7; palette = set empty_palette e w }

record Both (e f r g b w : ℕ) (t : Bool) : Type 0 where
  packed : packed_at (columns e f r g b) e ≡ w
  columns_state : is_column_state (before e f r g b) ≡ t
  words_state : is_state (now e w) ≡ t

unset : Both 0 0 0 0 0 0x00000000 true
unfolding computed columns before now column_ok columns_ok is_column_state
unset = record { packed = refl; columns_state = refl; words_state = refl }

black : Both 255 1 0 0 0 0x01000000 true
unfolding computed columns before now column_ok columns_ok is_column_state
black = record { packed = refl; columns_state = refl; words_state = refl }

coloured : Both 9 1 1 2 3 0x01010203 true
unfolding computed columns before now column_ok columns_ok is_column_state
coloured = record { packed = refl; columns_state = refl; words_state = refl }

blue_unset : Both 255 0 0 0 1 0x00000001 false
unfolding computed columns before now column_ok columns_ok is_column_state
blue_unset = record { packed = refl; columns_state = refl; words_state = refl }

flag_two : Both 9 2 3 4 5 0x02030405 false
unfolding computed columns before now column_ok columns_ok is_column_state
flag_two = record { packed = refl; columns_state = refl; words_state = refl }

flag_many : Both 0 129 0 0 0 0x81000000 false
unfolding computed columns before now column_ok columns_ok is_column_state
flag_many = record { packed = refl; columns_state = refl; words_state = refl }

all_ones : Both 128 255 255 255 255 0xFFFFFFFF false
unfolding computed columns before now column_ok columns_ok is_column_state
all_ones = record { packed = refl; columns_state = refl; words_state = refl }
