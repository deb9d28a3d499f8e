-- What a read stores: the RAMDAC's address, component and stage, and nothing else.
-- By the place. Assumes nothing.
use Rattle.std.proofs.Common.{◌≡◌, [], refl}
use mathlib.Core.Option.{Option, none}
use Rattle.chip.specs.declared.State.{State}
use Rattle.chip.specs.declared.Access.{Access}
use Rattle.chip.specs.declared.Dac.{Dac}
use Rattle.chip.specs.declared.Place.{Place}
use Rattle.chip.specs.declared.Place.TheVariants.{Register, Address, PaletteData, Window, Blank, Nowhere}
use Rattle.chip.specs.Patch.{Patch}
use Rattle.chip.specs.Port.{fetch_patch, port_at}

-- nothing but the pointer
abbrev pub step_only : Option Dac → Patch
step_only d = record { store = none; once = none; dac = d; paint = none; puts = [] }

pub read_steps : (s : State) (a : Access) (p : Place) → (port_at s a p).fetched ≡ step_only (port_at s a p).fetched.dac
unfolding port_at fetch_patch
read_steps s a (Register i) = refl
read_steps s a Address = refl
read_steps s a PaletteData = refl
read_steps s a (Window i) = refl
read_steps s a Blank = refl
read_steps s a Nowhere = refl
