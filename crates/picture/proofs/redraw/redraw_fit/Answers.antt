-- `picture::redraw::redraw_fit` redraws every dot between two views.
-- The layouts and tables of both (FitLaws). Assumes nothing.
use Rattle.picture.proofs.FitLaws.{fit_width, laid_old, laid_new, views_drawn}
use Rattle.picture.proofs.redraw.redraw_fit.Goals as goal

pub draw_rows-requires : goal.draw_rows-requires
draw_rows-requires c = (laid_old _ _ _ c.requires _ c.layout_of.ensures, laid_new _ _ _ c.requires _ c.layout_of.ensures _ c.layout_of-2.ensures)

pub returns : goal.returns
returns c = views_drawn _ _ _ _ _ _ _ _ _ _ _ c.layout_of.ensures c.layout_of-2.ensures c.fill_table.ensures c.fill_table-2.ensures (λ k. (c.type_inv.memory k).fits) (fit_width _ _ _ c.requires) c.draw_rows.ensures
