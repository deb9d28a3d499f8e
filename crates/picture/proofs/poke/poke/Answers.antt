-- `picture::poke::poke` stores a byte and redraws the dots that show it.
-- Past the end; two bytes of one word; a panel that does not fit; else by touch (PokeLaws). Assumes nothing.
use mathlib.Core.Path.{sym, ◌∙◌, ap}
use native.Mathlib.Omega.{arith}
use borrow.Author.Tests.{ltb-false}
use Rattle.picture.specs.View.{byte_word}
use Rattle.picture.proofs.FitLaws.{fit_size, laid_old, as_placed}
use Rattle.picture.proofs.PokeLaws.{poked_out, poked_unfit, poked_same, poked}
use Rattle.picture.proofs.poke.poke.Goals as goal
use Rattle.picture.proofs.poke.poke.Goals.{then-a-b-via-then-a-b, then-a-b-via-else-a-b+then-not-both_fit}

pub returns-in_default : goal.returns-in_default
returns-in_default c = rw (sym c.index-k.ensures) (poked_out _ _ _ _ _ _ (ltb-false _ _ (sym c.in_default.ensures.lookup.0)))

pub returns-then-a-b : goal.returns-then-a-b
returns-then-a-b c =
    let h = c.in-Some.ensures.lookup in
    elim c.then-a-b.branch [
      | then-a-b-via-then-a-b w ↦ rw (sym c.index-k.ensures) (poked_same _ _ _ _ _ _ _ _ h.3.0 (c.byte_word-a.ensures ∙ ap (byte_word c.args.v c.args.palette.now) (h.3.1 0)) c.byte_word-b.ensures w.if-a-b.true)
      | then-a-b-via-else-a-b+then-not-both_fit w ↦ rw (sym c.index-k.ensures) (poked_unfit _ _ _ _ _ _ (sym w.both_fit.ensures ∙ w.if-not-both_fit.true))
    ]

pub touch-requires : goal.touch-requires
touch-requires c = laid_old _ _ _ (sym c.both_fit.ensures ∙ c.if-not-both_fit.false) _ c.layout_of.ensures

pub returns : goal.returns
returns c =
    let h = c.in-Some.ensures.lookup in
    let f = sym c.both_fit.ensures ∙ c.if-not-both_fit.false in
    rw (sym c.index-k.ensures) (poked _ _ _ _ _ _ _ _ h.3.0 (c.byte_word-a.ensures ∙ ap (byte_word c.args.v c.args.palette.now) (h.3.1 0)) c.byte_word-b.ensures _ _ _ f (omega (arith, fit_size _ _ _ f)) (as_placed _ _ _ _ _ _ _ _ c.layout_of.ensures (rw (sym c.index-k.ensures) at c.touch.ensures)))
