-- The refusals of an opening line by line, and the opening put together.
-- By cases on the tests, and field by field. Assumes nothing.
use Prim.Native.Nat.{ℕ, ◌*◌, ◌%◌, ◌≤◌}
use mathlib.Core.Bool.{Bool, true, false, ◌&&◌}
use mathlib.Core.List.{List}
use mathlib.Core.Path.{◌≡◌, refl, sym, ap, ap₂, ◌∙◌, subst}
use borrow.Author.Tests.{eq-eqb, ne_eqb, leb-true}
use lib.Dec.{eqb, leb}
use lib.ListN.{length, replicate}
use Rattle.bits.specs.Choose.{pick}
use Rattle.std.specs.Cmp.{second_so}
use Rattle.chip.specs.declared.State.{State}
use Rattle.chip.specs.declared.Opened.{Opened}
use Rattle.chip.specs.Sound.{panel_ok, memory_ok}
use Rattle.chip.specs.State.{reset_state}
use Rattle.chip.specs.Refusal.{opening_lines, opening_status}
use Rattle.chip.specs.Step.{Opening, Opens, blank_word, open_of}
use Rattle.chip.proofs.Refusals.{unrefused_opening}

-- ---- the refusals

module _ (w h ml pl : ℕ) (x : Bool) (ex : x ≡ panel_ok w h) where
  pub line_eight : x ≡ false → 8 ≡ opening_status w h ml pl
  unfolding opening_status opening_lines
  line_eight e = simp (sym ex ∙ e)

  module _ (y : Bool) (ey : y ≡ memory_ok ml) (e : x ≡ true) where
    pub line_nine : y ≡ false → 9 ≡ opening_status w h ml pl
    unfolding opening_status opening_lines
    line_nine f = simp (sym ex ∙ e, sym ey ∙ f)

    pub line_size : y ≡ true → (pl ≡ w * h → ⊥) → 2 ≡ opening_status w h ml pl
    unfolding opening_status opening_lines
    line_size f n = simp (sym ex ∙ e, sym ey ∙ f, ne_eqb pl (w * h) n)

    pub line_none : y ≡ true → pl ≡ w * h → 0 ≡ opening_status w h ml pl
    unfolding opening_status opening_lines
    line_none f n = simp (sym ex ∙ e, sym ey ∙ f, eq-eqb pl (w * h) n)

-- an opening that is not refused has memory within the limits
pub opens_small : (w h ml pl n : ℕ) → n ≡ opening_status w h ml pl → n ≡ 0 → ml ≤ 8388608
unfolding memory_ok
opens_small w h ml pl n e z =
    let m = (unrefused_opening w h ml pl (sym e ∙ z)).memory in
    leb-true ml 8388608 (second_so (leb 8 ml) (leb ml 8388608) (second_so (eqb (ml % 8) 0) (leb 8 ml && leb ml 8388608) m))

-- ---- the opening

module _ (w h : ℕ) (m p : List ℕ) (n : ℕ) (en : n ≡ opening_status w h (length m) (length p)) (s : State) where
  pub opens_refused : (n ≡ 0 → ⊥) → s ≡ reset_state 0 0 0 → Opens (open_of w h m p) (record { status = n; state = s }) m p
  unfolding open_of
  opens_refused z e =
      let a : Opening = record { answer = record { status = 0; state = reset_state w h (length m) }; memory = m; picture = replicate (length p) blank_word } in
      let b : Opening = record { answer = record { status = opening_status w h (length m) (length p); state = reset_state 0 0 0 }; memory = m; picture = p } in
      let t : eqb (opening_status w h (length m) (length p)) 0 ≡ false = ap (λ (k : ℕ). eqb k 0) (sym en) ∙ ne_eqb n 0 z in
      subst (λ (o : Opening). Opens o (record { status = n; state = s }) m p) (ap (λ (u : Bool). pick u a b) (sym t))
      (record { answer = ap₂ (λ (k : ℕ) (x : State). (let o : Opened = record { status = k; state = x } in o)) en e; memory = refl; picture = refl })

  pub opens_done : (q : List ℕ) → n ≡ 0 → s ≡ reset_state w h (length m) → q ≡ replicate (length p) blank_word → Opens (open_of w h m p) (record { status = 0; state = s }) m q
  unfolding open_of
  opens_done q z e f =
      let a : Opening = record { answer = record { status = 0; state = reset_state w h (length m) }; memory = m; picture = replicate (length p) blank_word } in
      let b : Opening = record { answer = record { status = opening_status w h (length m) (length p); state = reset_state 0 0 0 }; memory = m; picture = p } in
      let t : eqb (opening_status w h (length m) (length p)) 0 ≡ true = ap (λ (k : ℕ). eqb k 0) (sym en ∙ z) in
      subst (λ (o : Opening). Opens o (record { status = 0; state = s }) m q) (ap (λ (u : Bool). pick u a b) (sym t))
      (record { answer = ap (λ (x : State). (let o : Opened = record { status = 0; state = x } in o)) e; memory = refl; picture = f })
