-- `picture::rows::draw_rows` redraws every dot that can change.
-- The loop keeps the rows passed drawn (RowLaws.Rows); a turn is one more row. Assumes nothing.
use Rattle.picture.proofs.RowLaws.{rows_start, rows_more}
use Rattle.picture.proofs.RowsLaws.{table_row}
use Rattle.picture.proofs.rows.draw_rows.Goals as goal

pub loop-y-init : goal.loop-y-init
loop-y-init c = rows_start _ _ _ _

pub loop-y-preserved : goal.loop-y-preserved
loop-y-preserved c = rows_more _ _ _ _ _ _ _ c.loop-y.invariant _ _ (table_row _ _ _ _ _ _ _ _ _ _ _ _ _ _ _ _ c.row.ensures c.row-in-loop-y.ensures c.both_row-n.ensures)
