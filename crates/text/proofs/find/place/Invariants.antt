use Rattle.text.proofs.FieldLaws.{Passed}
use Rattle.text.proofs.find.place.Given as goal

abbrev pub invariant-loop-i : goal.invariant-loop-i
invariant-loop-i l = Passed l.b l.s l.i
