-- `picture::row::draw` redraws the dots of its row by the words that it asks for.
-- The loop keeps the dots passed drawn (RowLaws.Along); a turn is one more dot. Assumes nothing.
use native.Mathlib.Omega.{arith}
use Rattle.picture.proofs.RowLaws.{along_start, along_more, put_one}
use Rattle.picture.proofs.row.draw.Goals as goal

pub loop-x-init : goal.loop-x-init
loop-x-init g c = (omega arith, λ f h t. along_start _ _ _ _ _)

pub loop-x-preserved : goal.loop-x-preserved
loop-x-preserved g c = (
  omega (arith, put_one _ _ _ _ _ _ c.put-n.ensures),
  λ f h t. let z = t.told c.loop-x.x c.words-a.result c.loop-x-test.true c.words-a.ensures in
      along_more _ _ _ _ _ _ _ _ (c.loop-x.invariant.1 f h t) _ _ _ _ c.loop-x-test.true c.requires.room z.0 z.1 c.put-n.ensures,
)
