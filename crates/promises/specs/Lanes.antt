-- A word that is written through an aperture and read back: the read of the same, and which write a lane's byte is from (01, Apertures; 02, C-17).
use Rattle.std.specs.Prelude.{ℕ, ◌+◌, ◌%◌, true, false, List, ◌∷◌, ◌++◌, ◌≡◌, get_or}
use Rattle.std.proofs.Math.Option.{none}
use Rattle.bits.specs.Bit.{bit}
use Rattle.chip.specs.declared.Access.{Access}
use Rattle.chip.specs.declared.Place.TheVariants.{Window}
use Rattle.chip.specs.Access.{is_write}
use Rattle.chip.specs.Trace.{World, after, run}
use Rattle.promises.specs.Good.{status_at}
use Rattle.promises.specs.Places.{Leads}
use Rattle.promises.specs.Along.{last_put}
use Rattle.promises.specs.Frame.{lane_at, byte_put}

-- a, made at x, is an accepted write through the aperture whose control register is in row i
pub record WritesWindow (x : World) (a : Access) (i : ℕ) : Type 0 where
  pub accepted : status_at x a ≡ 0
  pub write : is_write a ≡ true
  pub through : Leads x.state a (Window i)

-- r is a read or a look with the target and the offset of a
pub record ReadsThere (a r : Access) : Type 0 where
  pub read : is_write r ≡ false
  pub target : r.target ≡ a.target
  pub offset : r.offset ≡ a.offset

-- of a read or a look a, made after list l through the aperture whose control register is in row i: an accepted write of the list, through either aperture, had its offset, its swap code and lane j, and no access after
-- it stores the byte of that lane
pub record LaneWritten (x : World) (l : List Access) (a : Access) (i j : ℕ) : Type 0 where
  pub before : List Access
  pub by : Access
  pub rest : List Access
  pub split : l ≡ before ++ by ∷ rest
  pub window : ℕ
  pub writes : WritesWindow (run x before) by window
  pub offset : by.offset ≡ a.offset
  pub swap : get_or (run x before).state.values window 0 % 4 ≡ get_or (run x l).state.values i 0 % 4
  pub lane : bit j by.enables ≡ true
  pub silent : last_put after (byte_put (a.offset + lane_at (get_or (run x l).state.values i 0) j)) (after (run x before) by) rest ≡ none
