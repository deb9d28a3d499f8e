-- What a store of one byte does to the dots' words: those whose byte it is go from the old byte's word to the new one's, and no other changes.
-- From the rules, by where a dot's byte lies. Assumes nothing.
use Prim.Native.Nat.{ℕ, ◌+◌, ◌/◌, ◌%◌, ◌<◌, ◌≤◌}
use mathlib.Core.Bool.{Bool, true, false, ◌&&◌}
use mathlib.Core.List.{List}
use Rattle.std.specs.Prelude.{Option, Some, None}
use mathlib.Core.Path.{◌≡◌, refl, sym, ap, ap₂, ◌∙◌}
use native.Mathlib.Omega.{arith}
use borrow.Author.Tests.{eqb-true, eqb-false, eq-eqb, lt-leb}
use lib.Dec.{eqb, leb}
use lib.ListN.{get_or, set, length, length-set}
use lib.Seq.{get_or-set_same, get_or-set_other, set_out}
use Rattle.bits.specs.Choose.{pick}
use Rattle.bits.specs.Word.{inside}
use Rattle.bits.proofs.Cases.{by_test}
use Rattle.std.specs.Cmp.{first_so, second_so}
use Rattle.bits.proofs.Bools.{clash}
use Rattle.chip.specs.Units.{at_byte}
use Rattle.chip.specs.Palette.{entry_of}
use Rattle.chip.specs.Picture.{row_start, dot_byte, ruled, beyond, colour_word, dot_entry, under_byte, under_at, laid_at, word_at, view_word, chosen}
use Rattle.picture.specs.declared.view.View.{View}
use Rattle.picture.specs.View.{fixed_in, units_in, viewed, dot_in, byte_word, same_place, same_shown, same_view, fits}
use Rattle.picture.specs.Draw.{Part}
use Rattle.picture.specs.Poke.{Pokes, row_byte, hits}
use Rattle.picture.proofs.Parts.{part_like, part_redraws, no_redraw, still_redraws}
use Rattle.picture.proofs.ViewLaws.{shown_ruled}
use Rattle.picture.proofs.TouchLaws.{hit, miss}

-- ---- the word of a byte in memory

fitted : (s : View) (q : List ℕ) (m : List ℕ) (at : ℕ) → at < length m → under_byte (viewed s q) m (at_byte at) ≡ byte_word s q (get_or m at 0)
unfolding under_byte beyond dot_entry byte_word viewed
fitted s q m at h = simp (lt-leb (length m) at h) (sym (shown_ruled s.shown _))

-- where the byte of dot j lies
abbrev pub place_of : View → ℕ → ℕ
place_of s j = row_byte (units_in s.base).0 (units_in s.stride).0 (j / s.width) + j % s.width

pub placed : (s : View) (q : List ℕ) (m : List ℕ) (j : ℕ) → dot_in s q m j ≡ under_byte (viewed s q) m (at_byte (place_of s j))
unfolding dot_in view_word viewed word_at laid_at under_at dot_byte row_start
placed s q m j = refl

module _ (s : View) (q : List ℕ) (m : List ℕ) (at v j : ℕ) where
  -- another byte's dot
  other : (place_of s j ≡ at → ⊥) → dot_in s q m j ≡ dot_in s q (set m at v) j
  unfolding under_byte beyond dot_entry viewed
  other d =
      placed s q m j
      ∙ ap₂ (λ (x n : ℕ). ruled (fixed_in s.shown) (pick (leb n (place_of s j)) 0x02000000 (colour_word (entry_of q (inside x s.mask)))))
      (sym (get_or-set_other m at (place_of s j) v 0 d)) (sym (length-set m at v))
      ∙ sym (placed s q (set m at v) j)

  module _ (h : at < length m) (e : place_of s j ≡ at) where
    old : dot_in s q m j ≡ byte_word s q (get_or m at 0)
    old = placed s q m j ∙ ap (λ (x : ℕ). under_byte (viewed s q) m (at_byte x)) e ∙ fitted s q m at h

    new : dot_in s q (set m at v) j ≡ byte_word s q v
    new =
        placed s q (set m at v) j ∙ ap (λ (x : ℕ). under_byte (viewed s q) (set m at v) (at_byte x)) e
        ∙ fitted s q (set m at v) at (omega (arith, length-set m at v)) ∙ ap (byte_word s q) (get_or-set_same m at v 0 h)

-- ---- two views of one panel

places : (v n : View) → same_place v n ≡ true → (v.base ≡ n.base) × (v.stride ≡ n.stride) × (v.mask ≡ n.mask) × (v.width ≡ n.width)
unfolding same_place
places v n e =
    let a = second_so (eqb v.base n.base) (eqb v.stride n.stride && (eqb v.mask n.mask && eqb v.width n.width)) e in
    let b = second_so (eqb v.stride n.stride) (eqb v.mask n.mask && eqb v.width n.width) a in (
      eqb-true _ _ (first_so (eqb v.base n.base) (eqb v.stride n.stride && (eqb v.mask n.mask && eqb v.width n.width)) e),
      eqb-true _ _ (first_so (eqb v.stride n.stride) (eqb v.mask n.mask && eqb v.width n.width) a),
      eqb-true _ _ (first_so (eqb v.mask n.mask) (eqb v.width n.width) b),
      eqb-true _ _ (second_so (eqb v.mask n.mask) (eqb v.width n.width) b),
    )

-- a dot's word by what the view says of every dot, its place in memory and the mask
abbrev word_by : Option ℕ → List ℕ → List ℕ → (at mask : ℕ) → ℕ
word_by h q m at mask = ruled (fixed_in h) (pick (leb (length m) at) 0x02000000 (colour_word (entry_of q (inside (get_or m at 0) mask))))

same_shown_lem : (a b : Option ℕ) (t : Bool) (q m : List ℕ) (at at' mask mask' : ℕ) → same_shown a b t ≡ true → (t ≡ true → (at ≡ at') × (mask ≡ mask')) → word_by a q m at mask ≡ word_by b q m at' mask'
same_shown_lem (Some x) (Some y) t q m at at' mask mask' e h = eqb-true x y e
same_shown_lem (Some x) None t q m at at' mask mask' e h = clash false e refl
same_shown_lem None (Some y) t q m at at' mask mask' e h = clash false e refl
same_shown_lem None None t q m at at' mask mask' e h = let z = h e in ap₂ (λ (i k : ℕ). word_by None q m i k) z.0 z.1

pub same_words : (v n : View) (q m : List ℕ) (t : Bool) → t ≡ same_view v n → t ≡ true → (j : ℕ) → dot_in v q m j ≡ dot_in n q m j
unfolding same_view under_byte beyond dot_entry viewed
same_words v n q m t et e j =
    placed v q m j
    ∙ same_shown_lem v.shown n.shown (same_place v n) q m (place_of v j) (place_of n j) v.mask n.mask (sym et ∙ e)
    (λ h. let z = places v n h in (
      ap₂ (λ (b s : ℕ). row_byte (units_in b).0 (units_in s).0 (j / v.width) + j % v.width) z.0 z.1
          ∙ ap (λ (w : ℕ). row_byte (units_in n.base).0 (units_in n.stride).0 (j / w) + j % w) z.3,
      z.2,
    ))
    ∙ sym (placed n q m j)

-- ---- the redraw

-- equal words choose what stands there, whichever they are
pub unchanged : (a b c d w : ℕ) → a ≡ b → c ≡ d → chosen a b w ≡ chosen c d w
unchanged a b c d w p q = simp (eq-eqb a b p, eq-eqb c d q)

module _ (s : View) (q : List ℕ) (m p : List ℕ) (at v : ℕ) where
  -- past memory's end
  pub poked_out : length m ≤ at → Pokes s q at v m p 0 m p
  poked_out h =
      let e : set m at v ≡ m = set_out m at v h in
      record {
        memory = sym e;
        drawn = still_redraws _ _ _ p (λ j. ap (λ (k : List ℕ). dot_in s q k j) (sym e));
      }

  -- a panel or picture that does not fit
  pub poked_unfit : fits s s (length p) ≡ false → Pokes s q at v m p 0 (set m at v) p
  poked_unfit e = record { memory = refl; drawn = no_redraw _ _ _ p e }

  module _ (a b : ℕ) (h : at < length m) (ea : a ≡ byte_word s q (get_or m at 0)) (eb : b ≡ byte_word s q v) where
    -- two bytes of one word
    pub poked_same : a ≡ b → Pokes s q at v m p 0 (set m at v) p
    poked_same e =
        record {
          memory = refl;
          drawn = still_redraws _ _ _ p (λ j. by_test (eqb (place_of s j) at)
              (λ t. let z : place_of s j ≡ at = eqb-true (place_of s j) at t in old s q m at v j h z ∙ sym ea ∙ e ∙ eb ∙ sym (new s q m at v j h z))
              (λ t. other s q m at v j (eqb-false (place_of s j) at t)));
        }

    -- the dots of the byte, from its old word to its new one
    pub poked : (n r : ℕ) (p' : List ℕ) → fits s s (length p) ≡ true → length p ≤ n
        → Part (hits (units_in s.base).0 (units_in s.stride).0 s.width at a) (hits (units_in s.base).0 (units_in s.stride).0 s.width at b) 0 n p r p'
        → Pokes s q at v m p r (set m at v) p'
    poked n r p' f k d =
        record {
          memory = refl;
          drawn = part_redraws _ _ _ n p r p' f k
              (part_like _ _ (dot_in s q m) (dot_in s q (set m at v)) 0 n p r p'
              (λ j x y z w. by_test (eqb (place_of s j) at)
              (λ t. let i : place_of s j ≡ at = eqb-true (place_of s j) at t in
              ap₂ (λ (x y : ℕ). chosen x y w)
              (hit (units_in s.base).0 (units_in s.stride).0 s.width at a j i ∙ ea ∙ sym (old s q m at v j h i))
              (hit (units_in s.base).0 (units_in s.stride).0 s.width at b j i ∙ eb ∙ sym (new s q m at v j h i)))
              (λ t. let i : place_of s j ≡ at → ⊥ = eqb-false (place_of s j) at t in
              unchanged _ _ _ _ w (miss (units_in s.base).0 (units_in s.stride).0 s.width at a b j i) (other s q m at v j i)))
              d);
        }
