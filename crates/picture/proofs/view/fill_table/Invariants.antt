use Rattle.picture.specs.Draw.{TableFrom}
use Rattle.picture.proofs.view.fill_table.Given as goal

abbrev pub invariant-loop-b : goal.invariant-loop-b
invariant-loop-b l = TableFrom l.v l.palette l.b l.t
