-- `picture::row::draw_row` redraws the dots of its row: each by its word (RowLaws.look_along). Assumes nothing.
use Rattle.std.proofs.Common.{rules}
use Rattle.picture.proofs.RowLaws.{look_along}
use Rattle.picture.proofs.row.draw_row.Goals as goal

pub returns : goal.returns
returns c = c.draw.ensures.drawn _ _ (record { told = λ x r h p. search (rules, look_along) })
