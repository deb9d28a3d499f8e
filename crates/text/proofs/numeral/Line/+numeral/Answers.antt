-- `text::numeral::Line::numeral` puts a number's text.
-- The digits before the last one by the call of itself, the last one behind them (WroteLaws). Assumes nothing.
use mathlib.Core.Path.{sym, ap, subst, ◌∙◌}
use mathlib.Core.List.{[], ◌∷◌, ◌++◌}
use Prim.Native.Nat.{ℕ, ◌-◌, ◌/◌, ◌%◌}
use Rattle.text.specs.declared.numeral.Line.{Line}
use Rattle.text.specs.Answer.{Wrote}
use Rattle.text.specs.Numeral.{glyph_of, numeral_of}
use Rattle.text.proofs.WroteLaws.{behind, renamed, numeral_short, numeral_more}
use Rattle.text.proofs.numeral.Line.+numeral.Goals as goal
use Rattle.text.proofs.numeral.Line.+numeral.Goals.{then-not-is_short, else-not-is_short}

pub returns : goal.returns
returns t c =
    elim c.if-not-is_short.branch [
      | then-not-is_short w ↦
          renamed
          (ap (λ (g : ℕ). numeral_of c.args.base w.saturating_sub.result (c.args.places - 1) (c.args.n / c.args.base) ++ (g ∷ [])) c.glyph.ensures
          ∙ ap (λ (k : ℕ). numeral_of c.args.base k (c.args.places - 1) (c.args.n / c.args.base) ++ (glyph_of (c.args.n % c.args.base) ∷ [])) w.saturating_sub.ensures
          ∙ numeral_more _ _ _ _ c.if-places-eq0.false (sym w.if-not-is_short.ensures))
          (behind w.numeral.ensures (subst (λ (s : Line). Wrote (c.glyph.result ∷ []) s.at s.bytes c.put.new.self.at c.put.new.self.bytes) w.self-is c.put.ensures))
      | else-not-is_short w ↦
          renamed
          (ap (λ (g : ℕ). g ∷ []) c.glyph.ensures ∙ numeral_short _ _ _ _ c.if-places-eq0.false (sym w.if-not-is_short.ensures))
          (subst (λ (s : Line). Wrote (c.glyph.result ∷ []) s.at s.bytes c.put.new.self.at c.put.new.self.bytes) w.self-is c.put.ensures)
    ]
