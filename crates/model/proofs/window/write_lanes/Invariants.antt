use Rattle.model.proofs.WindowLaws.{Lanes}
use Rattle.model.proofs.window.write_lanes.Given as goal

abbrev pub invariant-loop-j : goal.invariant-loop-j
invariant-loop-j l = Lanes l.v l.palette l.control l.a l.initial.memory l.initial.picture l.j l.changed l.memory l.picture
