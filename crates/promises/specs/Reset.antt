-- A state at reset, in 01's words (01, An access and its answer, RAMDAC, Configuration header).
use Rattle.std.specs.Prelude.{ℕ, false, ◌≡◌, get_or}
use Rattle.std.proofs.Math.Option.{none}
use Rattle.bits.specs.Bit.{bit}
use Rattle.chip.specs.declared.State.{State}
use Rattle.chip.specs.Palette.{entry_of}
use Rattle.promises.specs.Good.{Formed}
use Rattle.promises.specs.Frame.{Unstaged}
use Rattle.promises.specs.History.{Spot, Real, holds, stated}

pub record IsReset (s : State) (w h f : ℕ) : Type 0 where
  -- the panel, and memory's length
  pub width : s.width ≡ w
  pub height : s.height ≡ h
  pub fitted : s.fitted ≡ f
  -- every bit of a register is as its table states it: its reset where that is known, else unknown
  pub registers : (q : Spot) → Real q → holds s q ≡ stated q
  -- neither subsystem number is fixed
  pub once : s.once ≡ 0
  -- a bit that is unknown is zero
  pub zero : (q : Spot) → Real q → bit q.b (get_or s.knowns q.row 0) ≡ false → bit q.b (get_or s.values q.row 0) ≡ false
  -- no bit of the address is known, the component is 0, nothing is staged
  pub address : (s.dac.address ≡ 0) × (s.dac.known ≡ 0)
  pub component : s.dac.component ≡ 0
  pub staged : Unstaged s.dac
  -- no palette entry was stored, and its word is zero
  pub palette : (e : ℕ) → entry_of s.palette e ≡ none
  pub words : (e : ℕ) → get_or s.palette e 0 ≡ 0
  -- the arrays have their types' lengths
  pub formed : Formed s
