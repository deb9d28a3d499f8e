-- `text::number::number` is what a field spells.
-- The digits one by one, of at most eight (NumberLaws). Assumes nothing.
use Rattle.text.proofs.NumberLaws.{read_digit}
use Rattle.text.proofs.number.number.Goals as goal

pub loop-b-preserved : goal.loop-b-preserved
loop-b-preserved c = read_digit _ c.requires.most _ _ _ c.loop-b-test.true c.loop-b.invariant _ _ c.from.ensures c.in_ok-n.ensures.value.0 c.in_ok-n.ensures.value.1
