use Rattle.text.proofs.NumberLaws.{Read}
use Rattle.text.proofs.number.number.Given as goal

abbrev pub invariant-loop-b : goal.invariant-loop-b
invariant-loop-b l = Read l.base l.s l.n l.b-index
