-- `bench_list::one` is one access of a list, with its answer.
-- A read or a write without refusal 1 (RunLaws). Assumes nothing.
use Rattle.bench_list.proofs.RunLaws.{one_read, one_write}
use Rattle.bench_list.proofs.one.Goals as goal

pub returns-then-word_at-eq0 : goal.returns-then-word_at-eq0
returns-then-word_at-eq0 c = one_read _ _ _ _ _ _ _ _ _ _ _ c.word_at-target.ensures c.word_at-offset.ensures c.word_at-enables.ensures c.word_at.ensures _ _ _ c.if-word_at-eq0.true c.sure_read-r.ensures c.put_answer.ensures

pub returns-else-word_at-eq0 : goal.returns-else-word_at-eq0
returns-else-word_at-eq0 c = one_write _ _ _ _ _ _ _ _ _ _ _ c.word_at-target.ensures c.word_at-offset.ensures c.word_at-enables.ensures c.word_at.ensures _ _ _ _ _ _ c.if-word_at-eq0.false c.word_at-else-word_at-eq0.ensures c.sure_write-w.ensures c.put_answer-else-word_at-eq0.ensures
