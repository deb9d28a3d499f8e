-- That there is such a call: what it answers, and what it leaves.
use Rattle.std.specs.Prelude.{ℕ, List}
use Rattle.chip.specs.declared.Access.{Access}
use Rattle.chip.specs.declared.Answer.{Answer}
use Rattle.chip.specs.declared.Opened.{Opened}
use Rattle.chip.specs.Trace.{World}
use Rattle.calls.specs.Calls.{Called, OpenCalled, Calls}

-- some call of `read`, `write` or `look` at world x, as access a asks
pub record SomeCall (x : World) (a : Access) : Type 1 where
  pub answer : Answer
  pub left : World
  pub call : Called x a answer left

-- some call of `open` with w by h dots, memory m and picture p
pub record SomeOpening (w h : ℕ) (m p : List ℕ) : Type 1 where
  pub answer : Opened
  pub left : World
  pub call : OpenCalled w h m p answer left

-- some calls, one after the other, with the accesses of l from world x
pub record SomeCalls (x : World) (l : List Access) : Type 1 where
  pub answers : List Answer
  pub left : World
  pub calls : Calls x l answers left

-- some call of `open`, and then calls with the accesses of l from what it left
pub record SomeUse (w h : ℕ) (m p : List ℕ) (l : List Access) : Type 1 where
  pub opening : SomeOpening w h m p
  pub calls : SomeCalls opening.left l
