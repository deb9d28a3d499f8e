use Rattle.picture.proofs.TouchLaws.{Touching}
use Rattle.picture.proofs.poke.touch.Given as goal

abbrev pub invariant-loop-y : goal.invariant-loop-y
invariant-loop-y l = Touching l.l.base.0 l.l.stride.0 l.l.width l.l.height l.at.0 l.a l.b l.initial.picture l.n l.y-iterator.start l.y-iterator.end l.picture
