-- Promise 6. On a picture that somebody else altered, an access writes at exactly the dots whose word by the rules differs, and leaves every other dot.
-- From the law of a dot after a redraw. Assumes nothing.
use Prim.Native.Nat.{ℕ, ◌<◌}
use mathlib.Core.Bool.{Bool}
use mathlib.Core.Path.{◌≡◌, ap, ◌∙◌}
use borrow.Author.Tests.{eq-eqb, ne_eqb}
use lib.ListN.{get_or, length}
use Rattle.bits.specs.Choose.{pick}
use Rattle.chip.specs.declared.Access.{Access}
use Rattle.chip.specs.Picture.{word_of}
use Rattle.chip.specs.Trace.{World, after}
use Rattle.promises.proofs.Pictures.{dots}

module _ (x : World) (a : Access) (i : ℕ) (h : i < length x.picture) where
  -- a dot whose word by the rules is the same before and after stays as lent, whatever it is
  pub other_dots_stay : word_of x.state x.memory i ≡ word_of (after x a).state (after x a).memory i
      → get_or (after x a).picture i 0 ≡ get_or x.picture i 0
  other_dots_stay e =
      dots x a i h
      ∙ ap (λ (t : Bool). pick t (get_or x.picture i 0) (word_of (after x a).state (after x a).memory i)) (eq-eqb _ _ e)

  -- a dot whose word differs takes the new word
  pub differing_dots_change : (word_of x.state x.memory i ≡ word_of (after x a).state (after x a).memory i → ⊥)
      → get_or (after x a).picture i 0 ≡ word_of (after x a).state (after x a).memory i
  differing_dots_change d =
      dots x a i h
      ∙ ap (λ (t : Bool). pick t (get_or x.picture i 0) (word_of (after x a).state (after x a).memory i)) (ne_eqb _ _ d)
