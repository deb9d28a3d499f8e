-- One lane of a write through an aperture, and the four together, by a view and the palette q.
use Rattle.std.specs.Prelude.{ℕ, List, ◌≡◌, length, set}
use Rattle.bits.specs.Choose.{pick}
use Rattle.bits.specs.Bit.{bit}
use Rattle.bits.specs.Word.{lane_byte}
use Rattle.chip.specs.declared.Access.{Access}
use Rattle.chip.specs.Units.{at_byte}
use Rattle.chip.specs.Aperture.{swap_of, lane_of, byte_from, puts_of, put_all}
use Rattle.picture.specs.declared.view.View.{View}
use Rattle.picture.specs.View.{dot_in, fits}
use Rattle.picture.specs.Draw.{Redraws}

-- the byte of lane j
abbrev pub place_in : ℕ → Access → ℕ → ℕ
place_in control a j = (byte_from (at_byte a.offset) (lane_of (swap_of control) j)).0

-- memory after lane j: its byte takes the lane's where the lane is enabled
unfoldable pub lane_in : ℕ → Access → ℕ → List ℕ → List ℕ
lane_in control a j m = pick (bit j a.enables) (set m (place_in control a j) (lane_byte j a.word)) m

pub record LaneIn (v : View) (q : List ℕ) (control : ℕ) (a : Access) (j : ℕ) (m p : List ℕ) (r : ℕ) (m' p' : List ℕ) : Type 0 where
  pub memory : m' ≡ lane_in control a j m
  pub drawn : Redraws (fits v v (length p)) (dot_in v q m) (dot_in v q (lane_in control a j m)) p r p'

-- the four lanes of a write: memory takes what the definition stores, and the dots that show it are redrawn
pub record WindowIn (v : View) (q : List ℕ) (control : ℕ) (a : Access) (m p : List ℕ) (r : ℕ) (m' p' : List ℕ) : Type 0 where
  pub memory : m' ≡ put_all m (puts_of control (at_byte a.offset) a.enables a.word)
  pub drawn : Redraws (fits v v (length p)) (dot_in v q m) (dot_in v q m') p r p'
