-- What an aperture write stores in a byte is its lane's byte, where the lane is enabled; and what a read gives in a lane is its byte.
-- The lanes' rule is its own inverse; the four lanes one by one. Assumes nothing.
use Prim.Native.Nat.{ℕ, ◌+◌, ◌-◌, ◌%◌, ◌<◌, ◌≤◌}
use mathlib.Core.Bool.{◌&&◌, and-false, and-true}
use mathlib.Core.List.{List, []}
use mathlib.Core.Option.{Option, none, some}
use mathlib.Core.Path.{◌≡◌, refl, sym, ap, ap₂, ◌∙◌}
use native.Mathlib.Omega.{arith}
use borrow.Author.Tests.{eq-eqb, ne_eqb, eqb-true, eqb-false, le-leb, lt-ltb, leb-true, leb-false, ltb-true, ltb-false}
use lib.Dec.{eqb, leb, ltb}
use lib.ListN.{get_or}
use Rattle.bits.specs.Choose.{pick}
use Rattle.bits.specs.Bit.{bit}
use Rattle.bits.specs.Word.{lane_byte}
use Rattle.bits.proofs.Cases.{by_test, pick_by}
use Rattle.bits.proofs.Lanes.{by_lane}
use Rattle.chip.specs.declared.Access.{Access}
use Rattle.chip.specs.Units.{at_byte}
use Rattle.chip.specs.Aperture.{Put, swap_of, lane_of, reach, read_lane, put_lane, puts_of}
use Rattle.chip.proofs.Lent.{lane_back}
use Rattle.promises.specs.Along.{later_of}
use Rattle.promises.specs.Frame.{lane_at, lane_put}
use Rattle.promises.proofs.Patches.{last_poke}

-- ---- the lanes

-- only the swap code counts
at_code : (c i : ℕ) → lane_at c i ≡ lane_at (c % 4) i
unfolding lane_at
at_code c i = let e : c % 4 % 4 ≡ c % 4 = omega arith in simp e

-- a lane exchanges with one of four bytes
pub at_lt : (c i : ℕ) → i < 4 → lane_at c i < 4
unfolding lane_at
at_lt c i h =
    pick_by (λ (n : ℕ). n < 4) (eqb (c % 4) 1) (3 - i) _ (omega arith)
    (pick_by (λ (n : ℕ). n < 4) (eqb (c % 4) 2) ((i + 2) % 4) i (omega arith) h)

-- the rule is its own inverse, so lane j exchanges with byte i exactly where byte i does with lane j
pub at_back : (c j : ℕ) → j < 4 → lane_at c (lane_at c j) ≡ j
unfolding lane_of lane_at
at_back c = lane_back (c % 4)

at_agree : (c j i : ℕ) → j < 4 → i < 4 → eqb (lane_at c j) i ≡ eqb j (lane_at c i)
at_agree c j i hj hi =
    by_test (eqb j (lane_at c i))
    (λ t. eq-eqb _ i (ap (lane_at c) (eqb-true j _ t) ∙ at_back c i hi) ∙ sym t)
    (λ t. ne_eqb _ i (λ e. eqb-false j _ t (sym (at_back c j hj) ∙ ap (lane_at c) e)) ∙ sym t)

-- ---- a write

later_left : (p : Option ℕ) → later_of p none ≡ p
later_left none = refl
later_left (some v) = refl

-- four lanes of which one has something
only_one : (x : Option ℕ) (n : ℕ) → n < 4
    → later_of (later_of (later_of (pick (eqb 3 n) x none) (pick (eqb 2 n) x none)) (pick (eqb 1 n) x none)) (pick (eqb 0 n) x none) ≡ x
only_one x =
    by_lane
    (λ (n : ℕ).
    later_of (later_of (later_of (pick (eqb 3 n) x none) (pick (eqb 2 n) x none)) (pick (eqb 1 n) x none)) (pick (eqb 0 n) x none) ≡ x)
    refl (later_left x) (simp later_left) (simp later_left)

eqb_since : (o n k : ℕ) → o ≤ k → eqb (o + n) k ≡ eqb n (k - o)
eqb_since o n k h =
    by_test (eqb n (k - o))
    (λ t. let e = eqb-true n (k - o) t in eq-eqb (o + n) k (omega arith) ∙ sym t)
    (λ t. let d = eqb-false n (k - o) t in ne_eqb (o + n) k (λ e. d (omega arith)) ∙ sym t)

module _ (c : ℕ) (a : Access) (k : ℕ) where
  -- what lane j puts there
  one : ℕ → Option ℕ
  one j = pick (bit j a.enables && eqb (a.offset + lane_at c j) k) (some (lane_byte j a.word)) none

  poke_lane : (j : ℕ) (l : List Put) → last_poke k (put_lane c (at_byte a.offset) a.enables a.word j l) ≡ later_of (last_poke k l) (one j)
  unfolding put_lane one reach lane_of swap_of lane_at
  poke_lane j l = by_test (bit j a.enables) (λ t. simp t) (λ t. simp t (sym (later_left (last_poke k l))))

  poke_four : last_poke k (puts_of c (at_byte a.offset) a.enables a.word) ≡ later_of (later_of (later_of (one 3) (one 2)) (one 1)) (one 0)
  unfolding puts_of
  poke_four =
      poke_lane 0 _
      ∙ ap (λ (p : Option ℕ). later_of p (one 0))
      (poke_lane 1 _ ∙ ap (λ (p : Option ℕ). later_of p (one 1)) (poke_lane 2 _ ∙ ap (λ (p : Option ℕ). later_of p (one 2)) (poke_lane 3 [])))

  -- a byte that is none of the four
  one_none : (j : ℕ) → (a.offset + lane_at c j ≡ k → ⊥) → one j ≡ none
  unfolding one
  one_none j d = simp (ne_eqb (a.offset + lane_at c j) k d, and-false)

  poke_none : ((n : ℕ) → n < 4 → a.offset + n ≡ k → ⊥) → last_poke k (puts_of c (at_byte a.offset) a.enables a.word) ≡ none
  poke_none d =
      poke_four
      ∙ simp (
        one_none 3 (d _ (at_lt c 3 (omega arith))),
        one_none 2 (d _ (at_lt c 2 (omega arith))),
        one_none 1 (d _ (at_lt c 1 (omega arith))),
        one_none 0 (d _ (at_lt c 0 (omega arith))),
      )

  -- one of the four
  module _ (h : a.offset ≤ k) (u : k < a.offset + 4) where
    its : Option ℕ
    its = pick (bit (lane_at c (k - a.offset)) a.enables) (some (lane_byte (lane_at c (k - a.offset)) a.word)) none

    one_its : (j : ℕ) → j < 4 → one j ≡ pick (eqb j (lane_at c (k - a.offset))) its none
    unfolding one its
    one_its j hj =
        let e : eqb (a.offset + lane_at c j) k ≡ eqb j (lane_at c (k - a.offset)) =
        eqb_since a.offset (lane_at c j) k h ∙ at_agree c j (k - a.offset) hj (omega arith) in
        by_test (eqb j (lane_at c (k - a.offset)))
        (λ t. let d : j ≡ lane_at c (k - a.offset) = eqb-true j _ t in
        simp (e, t, and-true) (ap (λ (n : ℕ). pick (bit n a.enables) (some (lane_byte n a.word)) none) d))
        (λ t. simp (e, t, and-false))

    poke_its : last_poke k (puts_of c (at_byte a.offset) a.enables a.word) ≡ its
    poke_its =
        poke_four
        ∙ simp (one_its 3 (omega arith), one_its 2 (omega arith), one_its 1 (omega arith), one_its 0 (omega arith))
        (only_one its (lane_at c (k - a.offset)) (at_lt c (k - a.offset) (omega arith)))

  -- what the write stores in byte k
  pub poke_told : last_poke k (puts_of c (at_byte a.offset) a.enables a.word) ≡ lane_put c a k
  unfolding lane_put its
  poke_told =
      by_test (leb a.offset k)
      (λ t. by_test (ltb k (a.offset + 4))
      (λ u. simp (t, u) (poke_its (leb-true _ k t) (ltb-true k _ u)))
      (λ u. simp (t, u) (poke_none (λ n hn e. let b = ltb-false k _ u in omega arith))))
      (λ t. simp t (poke_none (λ n hn e. let b = leb-false _ k t in omega arith)))

-- in byte n of its four
put_here : (c : ℕ) (a : Access) (n j : ℕ) → n < 4 → lane_at c n ≡ j → lane_put c a (a.offset + n) ≡ pick (bit j a.enables) (some (lane_byte j a.word)) none
unfolding lane_put
put_here c a n j h e =
    let s : a.offset + n - a.offset ≡ n = omega arith in
    simp (le-leb a.offset (a.offset + n) (omega arith), lt-ltb (a.offset + n) (a.offset + 4) (omega arith), s, e)

-- .. and, of a write with this offset and this swap code, in the byte that lane j exchanges with
pub lane_put_lem : (c d : ℕ) (a : Access) (o j : ℕ) → j < 4 → a.offset ≡ o → c % 4 ≡ d % 4
    → lane_put c a (o + lane_at d j) ≡ pick (bit j a.enables) (some (lane_byte j a.word)) none
lane_put_lem c d a o j h p q =
    let e : lane_at c j ≡ lane_at d j = at_code c j ∙ ap (λ (n : ℕ). lane_at n j) q ∙ sym (at_code d j) in
    ap₂ (λ (k n : ℕ). lane_put c a (k + n)) (sym p) (sym e) ∙ put_here c a (lane_at c j) j (at_lt c j h) (at_back c j h)

-- ---- a read

-- what it gives in lane j
pub lane_told : (c : ℕ) (m : List ℕ) (o j : ℕ) → read_lane c m (at_byte o) j ≡ get_or m (o + lane_at c j) 0
unfolding read_lane reach lane_of swap_of lane_at
lane_told c m o j = refl
