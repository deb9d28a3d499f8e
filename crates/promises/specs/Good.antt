-- A state with memory and picture of the lengths that it was opened with.
use Rattle.std.specs.Prelude.{ℕ, ◌*◌, ◌<◌, true, List, ◌≡◌, get_or, length, replicate}
use Rattle.chip.specs.declared.State.{State}
use Rattle.chip.specs.declared.Access.{Access}
use Rattle.chip.specs.declared.Dac.{Dac}
use Rattle.chip.specs.Bank.{bank_count}
use Rattle.chip.specs.Palette.{entry_count}
use Rattle.chip.specs.Sound.{is_state}
use Rattle.chip.specs.Refusal.{status_of}
use Rattle.chip.specs.State.{reset_state}
use Rattle.chip.specs.Step.{open_of}
use Rattle.chip.specs.Trace.{World, opened}

-- staged components are bytes
pub record Stage (d : Dac) : Type 0 where
  pub red : d.red < 256
  pub green : d.green < 256

-- a state as its type has it: the arrays' lengths, and an address and staged components that are bytes
pub record Formed (s : State) : Type 0 where
  pub values : length s.values ≡ bank_count
  pub knowns : length s.knowns ≡ bank_count
  pub palette : length s.palette ≡ entry_count
  pub address : s.dac.address < 256
  pub stage : Stage s.dac

-- memory as its type has it
abbrev pub AreBytes : List ℕ → Type 0
AreBytes m = (k : ℕ) → get_or m k 0 < 256

pub record Good (x : World) : Type 0 where
  pub state : is_state x.state ≡ true
  pub formed : Formed x.state
  pub memory : length x.memory ≡ x.state.fitted
  pub picture : length x.picture ≡ x.state.width * x.state.height
  pub bytes : AreBytes x.memory

-- the status of an access made at x
abbrev pub status_at : World → Access → ℕ
status_at x a = status_of x.state (length x.memory) (length x.picture) a

-- an opening of w by h dots with memory m, bytes as its type has them, and picture p is not refused
pub record Openable (w h : ℕ) (m p : List ℕ) : Type 0 where
  pub accepted : (open_of w h m p).answer.status ≡ 0
  pub bytes : AreBytes m

-- what an opening that is not refused leaves
pub record Fresh (w h : ℕ) (m p : List ℕ) : Type 0 where
  pub status : (open_of w h m p).answer.status ≡ 0
  pub state : (opened w h m p).state ≡ reset_state w h (length m)
  pub memory : (opened w h m p).memory ≡ m
  pub picture : (opened w h m p).picture ≡ replicate (w * h) 0x03000000

-- the panel and the memory's length stay
pub record Sizes (s n : State) : Type 0 where
  pub width : n.width ≡ s.width
  pub height : n.height ≡ s.height
  pub fitted : n.fitted ≡ s.fitted
