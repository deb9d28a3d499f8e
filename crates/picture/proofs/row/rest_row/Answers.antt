-- `picture::row::rest_row` redraws the rest of a row.
-- Dot by dot as far as one layout lies in memory, and past its end in both at once (EntryLaws.rest_end). Assumes nothing.
use native.Mathlib.Omega.{arith}
use Rattle.picture.proofs.EntryLaws.{rest_end}
use Rattle.picture.proofs.row.rest_row.Goals as goal

pub returns : goal.returns
returns c = rest_end c.args.row _ _ _ _ _ _ _ _ _ _ _ c.inside-one.ensures c.inside-two.ensures (omega (arith, c.max-d.ensures)) (omega (arith, c.max-d.ensures)) (omega (arith, c.max-d.ensures, c.inside-one.ensures.narrow, c.inside-two.ensures.narrow)) (rw c.cut_to.ensures at c.draw_row-n.ensures) (rw c.rest_of.ensures at c.past_row.ensures)
