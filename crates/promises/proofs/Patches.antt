-- What an access, made at a world, stores, as the definitions have it: the words that the proofs here use between the definitions and the promises.
use Prim.Native.Nat.{ℕ}
use mathlib.Core.Bool.{Bool, ◌&&◌}
use mathlib.Core.List.{List, [], ◌∷◌}
use mathlib.Core.Option.{Option, none, some}
use lib.Dec.{eqb}
use Rattle.bits.specs.Choose.{pick}
use Rattle.bits.specs.Bit.{bit}
use Rattle.chip.specs.declared.Access.{Access}
use Rattle.chip.specs.declared.Colour.{Colour}
use Rattle.chip.specs.declared.Dac.{Dac}
use Rattle.chip.specs.Dac.{Paint}
use Rattle.chip.specs.Aperture.{Put}
use Rattle.chip.specs.Patch.{Store, Patch, nothing_stored}
use Rattle.chip.specs.Step.{patch_of}
use Rattle.chip.specs.Trace.{World}
use Rattle.promises.specs.Along.{later_of}
use Rattle.promises.specs.History.{accepted, Spot}

-- what it stores: by its rule where it is accepted, and nothing where it is refused
unfoldable pub patch_at : World → Access → Patch
patch_at x a = pick (accepted x a) (patch_of x.state a) nothing_stored

-- a store of some bits of a word puts bit b of the word into row r, if it is that row and one of those bits
unfoldable pub puts_bit : Spot → Option Store → Option (Option Bool)
puts_bit q none = none
puts_bit q (some x) = pick (eqb x.row q.row && bit q.b x.bits) (some (some (bit q.b x.word))) none

-- the last of a list of stores into byte k
abbrev pub last_poke : ℕ → List Put → Option ℕ
last_poke k [] = none
last_poke k (x ∷ l) = later_of (last_poke k l) (pick (eqb x.at.0 k) (some x.byte) none)

-- entry e takes the colour that it is painted with
unfoldable pub puts_entry : ℕ → Option Paint → Option (Option Colour)
puts_entry e none = none
puts_entry e (some x) = pick (eqb x.entry e) (some (some x.colour)) none

-- of an access
abbrev pub entry_put : ℕ → World → Access → Option (Option Colour)
entry_put e x a = puts_entry e (patch_at x a).paint

abbrev pub dac_put : World → Access → Option Dac
dac_put x a = (patch_at x a).dac
