-- The width does to a byte what 01, with 02, C-13, says: each conversion of the definitions is the one of specs/Width, and what is stored is a byte.
-- By computing, and the last by the two widths. Assumes nothing.
use Prim.Native.Nat.{ℕ, ◌<◌}
use mathlib.Core.Path.{◌≡◌, refl}
use native.Mathlib.Omega.{arith}
use Rattle.bits.specs.Word.{lane_byte}
use Rattle.bits.proofs.Cases.{pick_by}
use Rattle.bits.proofs.Lanes.{lane_lt}
use Rattle.chip.specs.declared.State.{State}
use Rattle.chip.specs.declared.Access.{Access}
use Rattle.chip.specs.declared.Colour.{Colour}
use Rattle.chip.specs.Palette.{kept_as, shown_as, part_of}
use Rattle.chip.specs.Port.{wide, kept_from}
use Rattle.promises.specs.Width.{eight_bits, stored_byte, read_byte, component_of}

-- the byte of a palette data write
pub kept_told : (s : State) (a : Access) → kept_from s a ≡ stored_byte s (lane_byte 0 a.word)
unfolding kept_from kept_as wide stored_byte eight_bits
kept_told s a = refl

-- .. which is one of eight bits
pub stored_lt : (s : State) (w : ℕ) → stored_byte s (lane_byte 0 w) < 256
unfolding stored_byte
stored_lt s w = pick_by (λ (k : ℕ). k < 256) (eight_bits s) _ _ (lane_lt 0 w) (omega arith)

-- a component of an entry, as it is read
pub shown_told : (s : State) (c : ℕ) (x : Colour) → shown_as (wide s) (part_of c x) ≡ read_byte s (component_of c x)
unfolding shown_as wide part_of read_byte eight_bits component_of
shown_told s c x = refl
