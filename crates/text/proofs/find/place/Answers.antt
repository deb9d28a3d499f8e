-- `text::find::place` is where the library finds a byte.
-- The loop keeps that none of the bytes passed is it (FieldLaws.Passed). Assumes nothing.
use Rattle.text.proofs.FieldLaws.{passed_hit, passed_all}
use Rattle.text.proofs.find.place.Goals as goal

pub returns-then-s-i : goal.returns-then-s-i
returns-then-s-i c = passed_hit _ _ _ c.loop-i.invariant c.loop-i-test.true c.if-s-i.true

pub returns : goal.returns
returns c = passed_all _ _ _ c.loop-i.invariant c.loop-i-test.false c.loop-i.auto.i-end
