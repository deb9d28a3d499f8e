-- The dots that show one palette entry: a redraw of them, and that it is the redraw by the rules where a palette differs in that entry alone.
-- Dot by dot: one that shows the entry has the entry's word, any other the same word in both. Assumes nothing.
use Prim.Native.Nat.{ℕ, suc, ◌*◌}
use mathlib.Core.Bool.{Bool, true, false}
use mathlib.Core.List.{List, [], ◌∷◌}
use Rattle.std.specs.Prelude.{Option, Some, None, is_none}
use mathlib.Core.Path.{◌≡◌, refl, sym, ap, ap₂, subst, ◌∙◌}
use native.Mathlib.Omega.{arith}
use borrow.Author.Tests.{eqb-true, eqb-false, lt-leb, le-leb, ltb-true, ltb-false}
use lib.Dec.{eqb, ltb, leb}
use lib.ListN.{get_or, length}
use Rattle.bits.specs.Choose.{pick}
use Rattle.bits.specs.Word.{inside}
use Rattle.bits.proofs.Cases.{by_test}
use Rattle.chip.specs.Palette.{entry_of}
use Rattle.chip.specs.Picture.{ruled, beyond, colour_word, dot_entry, under_byte, chosen, redrawn_from, redrawn, diffs}
use Rattle.picture.specs.declared.view.View.{View}
use Rattle.picture.specs.declared.view.Layout.{Layout}
use Rattle.picture.specs.View.{fixed_in, viewed, dot_in, fits}
use Rattle.picture.specs.Draw.{Redraws, Part}
use Rattle.picture.specs.Layout.{layout_of}
use Rattle.picture.specs.Entry.{shows_byte, laid_marks, entry_marks}
use Rattle.picture.proofs.Parts.{part_by_lem, part_redraws, still_redraws}
use Rattle.picture.proofs.FitLaws.{fit_size}
use Rattle.picture.proofs.PokeLaws.{place_of, placed, unchanged}

-- ---- the redraw

module _ (v : View) (e : ℕ) (m : List ℕ) (a b : ℕ) (l : List ℕ) where
  pub marks_none : is_none v.shown ≡ false → Redraws (fits v v (length l)) (entry_marks v e m a) (entry_marks v e m b) l 0 l
  unfolding entry_marks
  marks_none f = still_redraws _ _ _ l (λ j. simp f)

  pub marks_drawn : (r : ℕ) (l' : List ℕ) (k : Layout) → is_none v.shown ≡ true → fits v v (length l) ≡ true → k ≡ layout_of v
      → Part (laid_marks k v.mask e m a) (laid_marks k v.mask e m b) 0 (k.height * k.width) l r l'
      → Redraws (fits v v (length l)) (entry_marks v e m a) (entry_marks v e m b) l r l'
  unfolding entry_marks layout_of
  marks_drawn r l' k f g ek d =
      part_redraws _ _ _ (v.height * v.width) l r l' g (omega (arith, fit_size v v (length l) g))
      (part_by_lem _ _ _ _ 0 (v.height * v.width) l r l' (λ j x y z. (sym (simp f), sym (simp f)))
      (subst (λ (x : Layout). Part (laid_marks x v.mask e m a) (laid_marks x v.mask e m b) 0 (x.height * x.width) l r l') ek d))

-- ---- by the rules

-- what matters of two words at a dot is whether they differ, and the new one
like_from : (f g f' g' : ℕ → ℕ) → ((j x : ℕ) → chosen (f j) (g j) x ≡ chosen (f' j) (g' j) x) → (i : ℕ) (l : List ℕ) → redrawn_from f g i l ≡ redrawn_from f' g' i l
like_from f g f' g' h i [] = refl
like_from f g f' g' h i (x ∷ l) = ap₂ (λ (y : ℕ) (k : List ℕ). y ∷ k) (h i x) (like_from f g f' g' h (suc i) l)

pub redraws_like : (t : Bool) (f g f' g' : ℕ → ℕ) (l : List ℕ) (r : ℕ) (l' : List ℕ) → ((j x : ℕ) → chosen (f j) (g j) x ≡ chosen (f' j) (g' j) x) → Redraws t f g l r l'
    → Redraws t f' g' l r l'
unfolding redrawn
redraws_like t f g f' g' l r l' h d =
    let e : redrawn_from f g 0 l ≡ redrawn_from f' g' 0 l = like_from f g f' g' h 0 l in
    record { picture = d.picture ∙ ap (λ (k : List ℕ). pick t k l) e; count = d.count ∙ ap (λ (k : List ℕ). pick t (diffs l k) 0) e }

pub redraws_as : (t : Bool) (f g f' g' : ℕ → ℕ) (l : List ℕ) (r : ℕ) (l' : List ℕ) → ((j : ℕ) → f j ≡ f' j) → ((j : ℕ) → g j ≡ g' j) → Redraws t f g l r l' → Redraws t f' g' l r l'
redraws_as t f g f' g' l r l' x y d = redraws_like t f g f' g' l r l' (λ j z. ap₂ (λ (u w : ℕ). chosen u w z) (x j) (y j)) d

module _ (v : View) (p q m : List ℕ) (e a b : ℕ) (ea : a ≡ colour_word (entry_of p e)) (eb : b ≡ colour_word (entry_of q e))
    (other : (k : ℕ) → (k ≡ e → ⊥) → entry_of p k ≡ entry_of q k) where
  -- a dot by its place in memory: it shows the entry, or has one word in both
  under : (at : ℕ) (x : ℕ) → chosen (pick (shows_byte v.mask e m at) a 0) (pick (shows_byte v.mask e m at) b 0) x
      ≡ chosen (pick (leb (length m) at) 0x02000000 (colour_word (entry_of p (inside (get_or m at 0) v.mask)))) (pick (leb (length m) at) 0x02000000 (colour_word (entry_of q (inside (get_or m at 0) v.mask)))) x
  unfolding shows_byte
  under at x =
      by_test (ltb at (length m))
      (λ t. by_test (eqb (inside (get_or m at 0) v.mask) e)
      (λ u. let i = eqb-true (inside (get_or m at 0) v.mask) e u in
      simp (t, u, lt-leb (length m) at (ltb-true at (length m) t))
      (ap₂ (λ (y z : ℕ). chosen y z x) (ea ∙ sym (ap (λ (k : ℕ). colour_word (entry_of p k)) i)) (eb ∙ sym (ap (λ (k : ℕ). colour_word (entry_of q k)) i))))
      (λ u. simp (t, u, lt-leb (length m) at (ltb-true at (length m) t))
      (unchanged 0 0 _ _ x refl (ap colour_word (other (inside (get_or m at 0) v.mask) (eqb-false (inside (get_or m at 0) v.mask) e u))))))
      (λ t. simp (t, le-leb (length m) at (ltb-false at (length m) t)) (unchanged 0 0 0x02000000 0x02000000 x refl refl))

  by_shown : (h : Option ℕ) (at x : ℕ) → chosen (pick (is_none h) (pick (shows_byte v.mask e m at) a 0) 0) (pick (is_none h) (pick (shows_byte v.mask e m at) b 0) 0) x
      ≡ chosen (ruled (fixed_in h) (pick (leb (length m) at) 0x02000000 (colour_word (entry_of p (inside (get_or m at 0) v.mask)))))
      (ruled (fixed_in h) (pick (leb (length m) at) 0x02000000 (colour_word (entry_of q (inside (get_or m at 0) v.mask))))) x
  by_shown (Some w) at x = unchanged 0 0 w w x refl refl
  by_shown None at x = under at x

  marked : (j x : ℕ) → chosen (entry_marks v e m a j) (entry_marks v e m b j) x ≡ chosen (dot_in v p m j) (dot_in v q m j) x
  unfolding entry_marks layout_of under_byte beyond dot_entry viewed
  marked j x = by_shown v.shown (place_of v j) x ∙ ap₂ (λ (y z : ℕ). chosen y z x) (sym (placed v p m j)) (sym (placed v q m j))

  pub marks_ruled : (t : Bool) (l : List ℕ) (r : ℕ) (l' : List ℕ) → Redraws t (entry_marks v e m a) (entry_marks v e m b) l r l' → Redraws t (dot_in v p m) (dot_in v q m) l r l'
  marks_ruled t l r l' d = redraws_like t _ _ _ _ l r l' marked d
