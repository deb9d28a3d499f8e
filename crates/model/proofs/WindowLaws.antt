-- Four lanes stored one after the other are the write through the aperture, and their redraws are one redraw.
-- No dot's byte is in two lanes, so no dot changes twice, and the counts add up. Assumes nothing.
use Prim.Native.Nat.{ℕ, zero, suc, ◌+◌, ◌<◌, ◌≤◌}
use mathlib.Core.Bool.{Bool, true, false}
use mathlib.Core.List.{List, []}
use mathlib.Core.Logic.{◌⊎◌, inl, inr}
use mathlib.Core.Path.{◌≡◌, refl, sym, ap, ap₂, ◌∙◌, subst}
use native.Mathlib.Nat.{le_refl, mul_comm}
use native.Mathlib.Numerals.{add-one}
use native.Mathlib.Omega.{arith}
use borrow.Author.Tests.{eqb-true, eqb-false, eq-eqb}
use lib.Dec.{eqb, leb}
use lib.ListN.{get_or, length, length-set}
use lib.Seq.{get_or-set_other, ext_get_or}
use Rattle.bits.specs.Choose.{pick}
use Rattle.bits.specs.Bit.{bit}
use Rattle.bits.specs.Word.{inside}
use Rattle.bits.proofs.Cases.{by_test, pick_by}
use Rattle.chip.specs.declared.Access.{Access}
use Rattle.chip.specs.Aperture.{Put, swap_of, lane_of, reach, put_lane, puts_of, put_all}
use Rattle.chip.specs.Units.{at_byte}
use Rattle.chip.specs.Palette.{entry_of}
use Rattle.chip.specs.Picture.{ruled, beyond, colour_word, dot_entry, under_byte, chosen, redrawn, diffs}
use Rattle.chip.proofs.Lent.{lane_back}
use Rattle.chip.proofs.Redraw.{redrawn_length, redrawn_at, diffs_le}
use Rattle.picture.specs.declared.view.View.{View}
use Rattle.picture.specs.View.{fixed_in, viewed, dot_in, fits}
use Rattle.picture.specs.Draw.{Redraws}
use Rattle.picture.proofs.Parts.{diffs_add, still, still_redraws}
use Rattle.picture.proofs.PokeLaws.{place_of, placed}
use Rattle.picture.proofs.FitLaws.{panel_product, fit_panel, fit_size}
use Rattle.model.specs.Lanes.{place_in, lane_in, LaneIn, WindowIn}

-- ---- one lane

-- a redraw keeps the picture's length
redraws_size : (t : Bool) (f g : ℕ → ℕ) (l : List ℕ) (r : ℕ) (k : List ℕ) → Redraws t f g l r k → length k ≡ length l
redraws_size true f g l r k d = ap length d.picture ∙ redrawn_length f g l
redraws_size false f g l r k d = ap length d.picture

redraws_few : (t : Bool) (f g : ℕ → ℕ) (l : List ℕ) (r : ℕ) (k : List ℕ) → Redraws t f g l r k → r ≤ length l
redraws_few true f g l r k d = subst (λ (x : ℕ). x ≤ length l) (sym d.count) (diffs_le l _)
redraws_few false f g l r k d = subst (λ (x : ℕ). x ≤ length l) (sym d.count) (omega arith)

lane_length : (control : ℕ) (a : Access) (i : ℕ) (m : List ℕ) → length (lane_in control a i m) ≡ length m
unfolding lane_in
lane_length control a i m = pick_by (λ (q : List ℕ). length q ≡ length m) (bit i a.enables) _ m (length-set m (place_in control a i) _) refl

lane_other : (control : ℕ) (a : Access) (i : ℕ) (m : List ℕ) (k : ℕ) → (k ≡ place_in control a i → ⊥) → get_or (lane_in control a i m) k 0 ≡ get_or m k 0
unfolding lane_in
lane_other control a i m k n =
    pick_by (λ (q : List ℕ). get_or q k 0 ≡ get_or m k 0) (bit i a.enables) _ m (get_or-set_other m (place_in control a i) k _ 0 n) refl

-- ---- two redraws in which no dot changes twice

chosen_first : (x y z p : ℕ) → x ≡ y → chosen y z (chosen x y p) ≡ chosen x z p
chosen_first x y z p e = rw (e, eq-eqb y y refl)

chosen_last : (x y z p : ℕ) → y ≡ z → chosen y z (chosen x y p) ≡ chosen x z p
chosen_last x y z p e = rw (e, eq-eqb z z refl)

module _ (f g h : ℕ → ℕ) (l : List ℕ) (r : ℕ) (k : List ℕ) (q : ℕ) (n : List ℕ) (once : (j : ℕ) → (f j ≡ g j) ⊎ (g j ≡ h j))
    (d : Redraws true f g l r k) (e : Redraws true g h k q n) where
  size_k : length k ≡ length l
  size_k = ap length d.picture ∙ redrawn_length f g l

  size_n : length n ≡ length l
  size_n = ap length e.picture ∙ redrawn_length g h k ∙ size_k

  at_k : (j : ℕ) → j < length l → get_or k j 0 ≡ chosen (f j) (g j) (get_or l j 0)
  at_k j b = ap (λ (x : List ℕ). get_or x j 0) d.picture ∙ redrawn_at f g l j b

  at_n : (j : ℕ) → j < length l → get_or n j 0 ≡ chosen (g j) (h j) (get_or k j 0)
  at_n j b = ap (λ (x : List ℕ). get_or x j 0) e.picture ∙ redrawn_at g h k j (subst (λ (x : ℕ). j < x) (sym size_k) b)

  whole : (j : ℕ) → (f j ≡ g j) ⊎ (g j ≡ h j) → chosen (g j) (h j) (chosen (f j) (g j) (get_or l j 0)) ≡ chosen (f j) (h j) (get_or l j 0)
  whole j (inl p) = chosen_first (f j) (g j) (h j) (get_or l j 0) p
  whole j (inr p) = chosen_last (f j) (g j) (h j) (get_or l j 0) p

  one_still : (j : ℕ) → j < length l → (f j ≡ g j) ⊎ (g j ≡ h j) → (get_or l j 0 ≡ get_or k j 0) ⊎ (get_or k j 0 ≡ get_or n j 0)
  one_still j b (inl p) = inl (still (f j) (g j) (get_or l j 0) p ∙ sym (at_k j b))
  one_still j b (inr p) = inr (still (g j) (h j) (get_or k j 0) p ∙ sym (at_n j b))

  drawn_n : n ≡ redrawn f h l
  drawn_n =
      ext_get_or 0 n (redrawn f h l) (size_n ∙ sym (redrawn_length f h l))
      (λ j b.
      let z : j < length l = subst (λ (x : ℕ). j < x) size_n b in
      at_n j z ∙ ap (chosen (g j) (h j)) (at_k j z) ∙ whole j (once j) ∙ sym (redrawn_at f h l j z))

  drawn_true : Redraws true f h l (r + q) n
  drawn_true =
      record {
        picture = drawn_n;
        count =
            ap₂ (λ (x y : ℕ). x + y) (d.count ∙ ap (diffs l) (sym d.picture)) (e.count ∙ ap (diffs k) (sym e.picture))
            ∙ sym (diffs_add l k n size_k size_n (λ j b. one_still j b (once j)))
            ∙ ap (diffs l) drawn_n;
      }

pub drawn_twice : (t : Bool) (f g h : ℕ → ℕ) (l : List ℕ) (r : ℕ) (k : List ℕ) (q : ℕ) (n : List ℕ) → ((j : ℕ) → (f j ≡ g j) ⊎ (g j ≡ h j)) → Redraws t f g l r k → Redraws t g h k q n
    → Redraws t f h l (r + q) n
drawn_twice true f g h l r k q n once d e = drawn_true f g h l r k q n once d e
drawn_twice false f g h l r k q n once d e =
    record { picture = e.picture ∙ d.picture; count = let z : r + q ≡ 0 = omega (arith, d.count, e.count) in z }

-- ---- lane after lane

word_by_lem : (v : View) (pal m n : List ℕ) (j : ℕ) → length n ≡ length m → get_or n (place_of v j) 0 ≡ get_or m (place_of v j) 0 → dot_in v pal m j ≡ dot_in v pal n j
unfolding under_byte beyond dot_entry viewed
word_by_lem v pal m n j e h =
    placed v pal m j
    ∙ ap₂ (λ (x y : ℕ). ruled (fixed_in v.shown) (pick (leb y (place_of v j)) 0x02000000 (colour_word (entry_of pal (inside x v.mask))))) (sym h) (sym e)
    ∙ sym (placed v pal n j)

-- no two lanes have one byte
lanes_apart : (control : ℕ) (a : Access) (i k : ℕ) → i < k → k < 4 → place_in control a k ≡ place_in control a i → ⊥
lanes_apart control a i k h l e =
    let z : lane_of (swap_of control) k ≡ lane_of (swap_of control) i = omega arith in
    let y : k ≡ i = sym (lane_back (swap_of control) k l) ∙ ap (lane_of (swap_of control)) z ∙ lane_back (swap_of control) i (omega arith) in
    omega arith

-- the lanes below i are stored
pub record Sofar (v : View) (pal : List ℕ) (control : ℕ) (a : Access) (i : ℕ) (m p : List ℕ) (r : ℕ) (m' p' : List ℕ) : Type 0 where
  pub drawn : Redraws (fits v v (length p)) (dot_in v pal m) (dot_in v pal m') p r p'
  pub size : length m' ≡ length m
  pub rest : (k : ℕ) → i ≤ k → k < 4 → get_or m' (place_in control a k) 0 ≡ get_or m (place_in control a k) 0

sofar_none : (v : View) (pal : List ℕ) (control : ℕ) (a : Access) (m p : List ℕ) → Sofar v pal control a 0 m p 0 m p
sofar_none v pal control a m p = record { drawn = still_redraws _ _ _ p (λ j. refl); size = refl; rest = λ k h l. refl }

sofar_more : (v : View) (pal : List ℕ) (control : ℕ) (a : Access) (i : ℕ) (m p : List ℕ) (r : ℕ) (m' p' : List ℕ) (q : ℕ) (m'' p'' : List ℕ) → i < 4
    → Sofar v pal control a i m p r m' p' → LaneIn v pal control a i m' p' q m'' p'' → Sofar v pal control a (i + 1) m p (r + q) m'' p''
sofar_more v pal control a i m p r m' p' q m'' p'' hi k l =
    let once : (j : ℕ) → (dot_in v pal m j ≡ dot_in v pal m' j) ⊎ (dot_in v pal m' j ≡ dot_in v pal (lane_in control a i m') j) =
    λ j. by_test (eqb (place_of v j) (place_in control a i))
    (λ e. inl (word_by_lem v pal m m' j k.size
    (subst (λ (x : ℕ). get_or m' x 0 ≡ get_or m x 0) (sym (eqb-true (place_of v j) (place_in control a i) e)) (k.rest i (le_refl i) hi))))
    (λ e. inr (word_by_lem v pal m' (lane_in control a i m') j (lane_length control a i m') (lane_other control a i m' (place_of v j) (eqb-false (place_of v j) (place_in control a i) e)))) in
    let sized : length p' ≡ length p = redraws_size _ _ _ p r p' k.drawn in
    record {
      drawn =
          subst (λ (x : List ℕ). Redraws (fits v v (length p)) (dot_in v pal m) (dot_in v pal x) p (r + q) p'') (sym l.memory)
          (drawn_twice (fits v v (length p)) (dot_in v pal m) (dot_in v pal m') (dot_in v pal (lane_in control a i m')) p r p' q p'' once k.drawn
          (subst (λ (x : ℕ). Redraws (fits v v x) (dot_in v pal m') (dot_in v pal (lane_in control a i m')) p' q p'') sized l.drawn));
      size = ap length l.memory ∙ lane_length control a i m' ∙ k.size;
      rest = λ n h b.
          ap (λ (x : List ℕ). get_or x (place_in control a n) 0) l.memory
          ∙ lane_other control a i m' (place_in control a n) (lanes_apart control a i n (omega arith) b)
          ∙ k.rest n (omega arith) b;
    }

-- ---- the four lanes

put_step : (control : ℕ) (a : Access) (i : ℕ) (m : List ℕ) (l : List Put)
    → put_all m (put_lane control (at_byte a.offset) a.enables a.word i l) ≡ put_all (lane_in control a i m) l
unfolding put_lane reach lane_in
put_step control a i m l = by_test (bit i a.enables) (λ t. simp t) (λ t. simp t)

four_puts : (control : ℕ) (a : Access) (m : List ℕ)
    → put_all m (puts_of control (at_byte a.offset) a.enables a.word) ≡ lane_in control a 3 (lane_in control a 2 (lane_in control a 1 (lane_in control a 0 m)))
unfolding puts_of
four_puts control a m =
    put_step control a 0 m _ ∙ put_step control a 1 _ _ ∙ put_step control a 2 _ _ ∙ put_step control a 3 _ []

-- memory after the lanes below i
abbrev pub lanes_to : ℕ → Access → ℕ → List ℕ → List ℕ
lanes_to control a zero m = m
lanes_to control a (suc i) m = lane_in control a i (lanes_to control a i m)

-- the lanes below i of one write
pub record Lanes (v : View) (pal : List ℕ) (control : ℕ) (a : Access) (m p : List ℕ) (i r : ℕ) (m' p' : List ℕ) : Type 0 where
  pub memory : m' ≡ lanes_to control a i m
  pub sofar : Sofar v pal control a i m p r m' p'

pub no_lanes : (v : View) (pal : List ℕ) (control : ℕ) (a : Access) (m p : List ℕ) → Lanes v pal control a m p 0 0 m p
no_lanes v pal control a m p = record { memory = refl; sofar = sofar_none v pal control a m p }

pub one_lane : {v : View} {pal : List ℕ} {control : ℕ} {a : Access} {m p : List ℕ} {i r : ℕ} {m' p' : List ℕ} {q : ℕ} {m'' p'' : List ℕ} → i < 4
    → Lanes v pal control a m p i r m' p' → LaneIn v pal control a i m' p' q m'' p'' → Lanes v pal control a m p (i + 1) (r + q) m'' p''
one_lane {v} {pal} {control} {a} {m} {p} {i} {r} {m'} {p'} {q} {m''} {p''} h k l =
    record {
      memory = l.memory ∙ ap (lane_in control a i) k.memory ∙ rw add-one refl;
      sofar = sofar_more v pal control a i m p r m' p' q m'' p'' h k.sofar l;
    }

-- no more words change than the panel has
pub lanes_small : {v : View} {pal : List ℕ} {control : ℕ} {a : Access} {m p : List ℕ} {i r : ℕ} {m' p' : List ℕ} → Lanes v pal control a m p i r m' p' → r ≤ 0x100000
lanes_small {v} {p = p} {r = r} {p' = p'} k =
    by_test (fits v v (length p))
    (λ f. omega (arith, redraws_few _ _ _ p r p' k.sofar.drawn, fit_size v v (length p) f, mul_comm v.width v.height, panel_product v.width v.height (fit_panel v v (length p) f)))
    (λ f. let z : r ≡ 0 = k.sofar.drawn.count ∙ simp f in omega arith)

pub four_lanes : {v : View} {pal : List ℕ} {control : ℕ} {a : Access} {m p : List ℕ} {r : ℕ} {m' p' : List ℕ}
    → Lanes v pal control a m p 4 r m' p' → WindowIn v pal control a m p r m' p'
four_lanes {control = control} {a = a} {m = m} k = record { memory = k.memory ∙ sym (four_puts control a m); drawn = k.sofar.drawn }
