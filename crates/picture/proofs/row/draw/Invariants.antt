use Prim.Native.Nat.{ℕ, ◌≤◌}
use Rattle.picture.specs.Draw.{Tells}
use Rattle.picture.proofs.RowLaws.{Along}
use Rattle.picture.proofs.row.draw.Given as goal

abbrev pub invariant-loop-x : goal.invariant-loop-x
invariant-loop-x g l = (l.n ≤ l.x) × ((f h : ℕ → ℕ) → Tells (goal.F-post g l.words) f h l.first l.width → Along f h l.first l.width l.initial.picture l.n l.x l.picture)
