-- `bench_list::bench_run` is a run over a list after one test.
-- The loop keeps what the accesses passed leave (RunLaws.Ran). Assumes nothing.
use Rattle.bench_list.proofs.RunLaws.{tested, runs_none, runs_wrong, runs_done, list_wrong, room_wrong, room_odd, list_right}
use Rattle.bench_list.proofs.bench_run.Goals as goal
use Rattle.bench_list.proofs.bench_run.Goals.{then-list-ne0-via-then-list-ne0, then-list-ne0-via-else-list-ne0+then-answers-n, then-list-ne0-via-else-list-ne0+else-answers-n+then-answers-ne0}

pub returns-then-not-is_state : goal.returns-then-not-is_state
returns-then-not-is_state c = runs_none _ _ _ _ _ _ (tested _ _ _ _ _ _ _ _ c.args.dac.now _ c.is_state.ensures c.dac_of-d.ensures) _ c.from.ensures c.if-not-is_state.true

pub returns-then-list-ne0 : goal.returns-then-list-ne0
returns-then-list-ne0 c =
    runs_wrong _ _ _ _ _ _ (tested _ _ _ _ _ _ _ _ c.args.dac.now _ c.is_state.ensures c.dac_of-d.ensures) c.if-not-is_state.false _ c.from-then-list-ne0.ensures
    (elim c.then-list-ne0.branch [
      | then-list-ne0-via-then-list-ne0 w ↦ list_wrong _ _ w.if-list-ne0.true
      | then-list-ne0-via-else-list-ne0+then-answers-n w ↦ room_wrong _ _ w.if-answers-n.true
      | then-list-ne0-via-else-list-ne0+else-answers-n+then-answers-ne0 w ↦ room_odd _ _ w.if-answers-ne0.true
    ])

pub returns : goal.returns
returns c =
    runs_done _ _ _ _ _ _ (tested _ _ _ _ _ _ _ _ c.args.dac.now _ c.is_state.ensures c.dac_of-d.ensures) c.if-not-is_state.false _ _ _ _ _
    (list_right _ _ c.if-list-ne0.false c.if-answers-n.false c.if-answers-ne0.false) c.loop-k.invariant c.loop-k-test.false
