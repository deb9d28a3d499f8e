-- Any two outcomes that the contract of an exported function allows are equal: the status, the parts that are lent, memory, picture and answers.
-- Each is an equation. Assumes nothing.
use mathlib.Core.Path.{ap}
use Rattle.chip.specs.declared.State.{State}
use Rattle.chip.specs.Trace.{World}
use Rattle.chip.specs.Parts.{made, state_of}
use Rattle.bits.proofs.Cases.{same_value}
use Rattle.bits.proofs.Fixes.{Fixes, FixesLent, FixesAll}
use Rattle.bench_list.proofs.RunLaws.{same_status, same_world, same_answers}
use Rattle.bench_list.proofs.bench_run.Reads as run
use Rattle.bench_list.proofs.bench_read.Reads as read
use Rattle.bench_list.proofs.bench_write.Reads as write

pub bench_read_one : Fixes read.Post
bench_read_one κs a r r' x x' p q = same_value p.answer q.answer

pub bench_write_one : FixesAll write.Post (λ κs x. x.1.1.1.1.1.0.now) (λ κs x. x.1.1.1.1.1.1.0.now)
bench_write_one κs a r r' x x' p q = ((same_value p.answer q.answer, same_value p.memory q.memory), same_value p.picture q.picture)

-- the parts that a run is lent, of what it leaves
abbrev parts_in : World → State
parts_in w = made 0 0 0 w.state.once w.state.values w.state.knowns w.state.palette w.state.dac

-- the status, and with it what is left: parts, memory, picture and answers
pub bench_run_one : Fixes run.Post × FixesLent run.Post (λ κs x. state_of 0 0 0 x.1.1.1.0.now x.1.1.1.1.0.now x.1.1.1.1.1.0.now x.1.1.1.1.1.1.0.now x.1.1.1.1.1.1.1.0.now) × FixesLent run.Post (λ κs x. x.1.1.1.1.1.1.1.1.1.1.0.now) × FixesLent run.Post (λ κs x. x.1.1.1.1.1.1.1.1.1.1.1.0.now) × FixesLent run.Post (λ κs x. x.1.1.1.1.1.1.1.1.1.0.now)
bench_run_one = (
  λ κs a r r' x x' p q. same_status _ _ _ _ _ _ _ _ _ _ _ _ _ _ _ p q,
  λ κs a r r' x x' p q. ap parts_in (same_world _ _ _ _ _ _ _ _ _ _ _ _ _ _ _ p q),
  λ κs a r r' x x' p q. ap (λ (w : World). w.memory) (same_world _ _ _ _ _ _ _ _ _ _ _ _ _ _ _ p q),
  λ κs a r r' x x' p q. ap (λ (w : World). w.picture) (same_world _ _ _ _ _ _ _ _ _ _ _ _ _ _ _ p q),
  λ κs a r r' x x' p q. same_answers _ _ _ _ _ _ _ _ _ _ _ _ _ _ _ p q,
)
