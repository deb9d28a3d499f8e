-- Promise 4, in one statement: after an opening and any list of accesses a read or a look shows a bit as known, with value v, exactly where it was told v: by the reset
-- tables, by PCI, by memory as lent, or by accepted writes of the list. So a zero that nobody stated or stored is never shown as known. From Known. Assumes nothing.
use Prim.Native.Nat.{ℕ, ◌<◌}
use mathlib.Core.Bool.{Bool, false}
use mathlib.Core.List.{List}
use mathlib.Core.Logic.{◌↔◌}
use mathlib.Core.Option.{some}
use mathlib.Core.Path.{◌≡◌}
use Rattle.chip.specs.declared.Access.{Access}
use Rattle.chip.specs.Trace.{opened, step, run}
use Rattle.promises.specs.Good.{Openable}
use Rattle.promises.specs.History.{shows}
use Rattle.promises.specs.Told.{Told, ShownBy}
use Rattle.promises.proofs.Known.{known_exact}

-- a read or a look shows bit b as known, with value v, exactly where it is accepted, the bit's lane is enabled, and it was told v
pub known_exactly : (w h : ℕ) (m p : List ℕ) → Openable w h m p → (l : List Access) (a : Access) (b : ℕ) → b < 32 → (v : Bool)
    → (shows (step (run (opened w h m p) l) a).answer b ≡ some v) ↔ ShownBy (opened w h m p) l a b v
known_exactly = known_exact

-- a zero that nobody stated or stored is never shown as known
pub no_untold_zero : (w h : ℕ) (m p : List ℕ) → Openable w h m p → (l : List Access) (a : Access) (b : ℕ) → b < 32
    → (Told (opened w h m p) l a b false → ⊥) → shows (step (run (opened w h m p) l) a).answer b ≡ some false → ⊥
no_untold_zero w h m p o l a b hb n e = n ((known_exactly w h m p o l a b hb false).0 e).told
