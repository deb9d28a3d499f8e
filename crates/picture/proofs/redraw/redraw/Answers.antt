-- `picture::redraw::redraw` is the redraw by the rules where all fits, and nothing where it does not.
-- Nothing too where no dot's word can differ (PokeLaws); else the redraw of every dot (Parts). Assumes nothing.
use mathlib.Core.Path.{sym, ◌∙◌}
use native.Mathlib.Omega.{arith}
use Rattle.picture.proofs.Parts.{part_redraws, no_redraw, still_redraws}
use Rattle.picture.proofs.PokeLaws.{same_words}
use Rattle.picture.proofs.FitLaws.{fit_size}
use Rattle.picture.proofs.redraw.redraw.Goals as goal
use Rattle.picture.proofs.redraw.redraw.Goals.{then-same_view-via-then-same_view, then-same_view-via-else-same_view+then-not-both_fit}

pub returns-then-same_view : goal.returns-then-same_view
returns-then-same_view c =
    elim c.then-same_view.branch [
      | then-same_view-via-then-same_view w ↦ still_redraws _ _ _ _ (same_words _ _ _ _ _ c.same_view.ensures w.if-same_view.true)
      | then-same_view-via-else-same_view+then-not-both_fit w ↦ no_redraw _ _ _ _ (sym w.both_fit.ensures ∙ w.if-not-both_fit.true)
    ]

pub returns : goal.returns
returns c = let f = sym c.both_fit.ensures ∙ c.if-not-both_fit.false in part_redraws _ _ _ _ _ _ _ f (omega (arith, fit_size _ _ _ f)) c.redraw_fit.ensures
