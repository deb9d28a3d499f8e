-- `picture::redraw::redraw_entry` redraws the dots that show one entry.
-- None where one word is every dot's, or nothing fits; else row by row (MarkLaws). Assumes nothing.
use mathlib.Core.Path.{sym, ap, ◌∙◌}
use mathlib.Core.Bool.{not}
use Rattle.picture.proofs.Parts.{no_redraw}
use Rattle.picture.proofs.FitLaws.{laid_old}
use Rattle.picture.proofs.MarkLaws.{marks_none, marks_drawn}
use Rattle.picture.proofs.redraw.redraw_entry.Goals as goal
use Rattle.picture.proofs.redraw.redraw_entry.Goals.{then-is_some-via-then-is_some, then-is_some-via-else-is_some+then-not-both_fit}

pub returns-then-is_some : goal.returns-then-is_some
returns-then-is_some c =
    elim c.then-is_some.branch [
      | then-is_some-via-then-is_some w ↦ marks_none _ _ _ _ _ _ (ap not (sym c.is_some.ensures ∙ w.if-is_some.true))
      | then-is_some-via-else-is_some+then-not-both_fit w ↦ no_redraw _ _ _ _ (sym w.both_fit.ensures ∙ w.if-not-both_fit.true)
    ]

pub entry_rows-requires : goal.entry_rows-requires
entry_rows-requires c = laid_old _ _ _ (sym c.both_fit.ensures ∙ c.if-not-both_fit.false) _ c.layout_of.ensures

pub returns : goal.returns
returns c = marks_drawn _ _ _ _ _ _ _ _ _ (ap not (sym c.is_some.ensures ∙ c.if-is_some.false)) (sym c.both_fit.ensures ∙ c.if-not-both_fit.false) c.layout_of.ensures c.entry_rows.ensures
