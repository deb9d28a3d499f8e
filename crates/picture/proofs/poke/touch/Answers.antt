-- `picture::poke::touch` redraws the dots whose byte is at.
-- The loop keeps the rows passed drawn (TouchLaws.Touching); a turn is one dot of one more row. Assumes nothing.
use native.Mathlib.Omega.{arith}
use mathlib.Core.Path.{sym, ◌∙◌}
use borrow.Author.Tests.{ltb-true, ltb-false}
use Rattle.chip.proofs.Sums.{in_bytes_is, since_is}
use Rattle.picture.proofs.TouchLaws.{all_before, touching_start, touching_turn, touching_more, touching_end}
use Rattle.picture.proofs.poke.touch.Goals as goal

pub returns-then-below : goal.returns-then-below
returns-then-below c = all_before _ _ _ _ _ _ _ _ c.requires (omega (arith, ltb-true c.args.at.0 c.in_bytes-start.result.0 (sym c.below.ensures ∙ c.if-below.true), in_bytes_is _ _ c.in_bytes-start.ensures))

pub loop-y-init : goal.loop-y-init
loop-y-init c = rw c.into_iter-y-iterator.ensures.into_iter_gives (touching_start _ _ _ _ _ _ _ _ c.requires _ _ _ _ (in_bytes_is _ _ c.in_bytes-start.ensures) (in_bytes_is _ _ c.in_bytes.ensures) (ltb-false c.args.at.0 c.in_bytes-start.result.0 (sym c.below.ensures ∙ c.if-below.false)) (rw c.since.ensures at c.span_of-y-items.ensures))

pub overflow_add-y : goal.overflow_add-y
overflow_add-y c = let s = c.in-Some.ensures.steps in rw s.1.1 (omega (arith, c.index.ensures, since_is _ _ _ c.since-column.ensures, touching_turn _ _ _ _ _ c.args.a c.args.b _ c.requires _ _ _ _ c.loop-y.invariant _ (rw s.1.1 at c.row.ensures) (omega (arith, s.1.0))))

pub put-n-requires : goal.put-n-requires
put-n-requires c = let s = c.in-Some.ensures.steps in rw s.1.1 (omega (arith, c.index.ensures, since_is _ _ _ c.since-column.ensures, touching_turn _ _ _ _ _ c.args.a c.args.b _ c.requires _ _ _ _ c.loop-y.invariant _ (rw s.1.1 at c.row.ensures) (omega (arith, s.1.0))))

pub loop-y-preserved : goal.loop-y-preserved
loop-y-preserved c = let s = c.in-Some.ensures.steps in rw (s.1.2, s.0) (touching_more _ _ _ _ _ _ _ _ c.requires _ _ _ _ c.loop-y.invariant _ _ _ (rw s.1.1 at c.row.ensures) (omega (arith, s.1.0)) (rw (s.1.1, c.index.ensures ∙ since_is _ _ _ c.since-column.ensures) at c.put-n.ensures))

pub returns : goal.returns
returns c = let s = c.in-None.ensures.steps in touching_end _ _ _ _ _ _ _ _ c.requires _ _ _ _ c.loop-y.invariant (omega (arith, s.1.0))
