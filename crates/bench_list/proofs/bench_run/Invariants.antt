use Rattle.chip.specs.Parts.{state_of}
use Rattle.bench_list.specs.Run.{world_of}
use Rattle.bench_list.proofs.RunLaws.{Ran}
use Rattle.bench_list.proofs.bench_run.Given as goal

abbrev pub invariant-loop-k : goal.invariant-loop-k
invariant-loop-k l = Ran (world_of (state_of l.width l.height l.fitted l.initial.once l.initial.values l.initial.knowns l.initial.palette l.initial.dac) l.initial.memory l.initial.picture) l.list l.n l.initial.answers l.k (state_of l.width l.height l.fitted l.once l.values l.knowns l.palette l.dac) l.memory l.picture l.answers
