-- What a digit counts, which is the library's `to_digit`, and a number's digits one by one.
-- By cases on the tests; 16 to the power of at most seven is below 2 ^ 28 by computing. Assumes nothing.
use Prim.Native.Nat.{ℕ, suc, ◌+◌, ◌*◌, ◌^◌, ◌<◌, ◌≤◌}
use mathlib.Core.Bool.{true, false, and-false}
use mathlib.Core.List.{List, [], ◌∷◌}
use mathlib.Core.Path.{◌≡◌, refl, sym, ap, subst, ◌∙◌}
use native.Mathlib.Nat.{mul-le-mul}
use native.Mathlib.Omega.{arith}
use borrow.Author.Tests.{lt-ltb, le-ltb, le-leb, lt-leb, leb-true}
use lib.Dec.{leb}
use lib.ListN.{length, get_or, drop}
use lib.Seq.{drop-cons, drop-length}
use Rattle.std.specs.Char.{digit_value}
use Rattle.std.specs.Prelude.{Some, None}
use Rattle.std.proofs.lemmas.Bool.Decides.{nat_tests}
use Rattle.bits.specs.Choose.{every_in}
use Rattle.bits.proofs.Bools.{every_at}
use Rattle.text.specs.Line.{digit_of, is_digit, is_number, spelled, number_of}

-- ---- a digit

module _ (c base : ℕ) where
  -- what the library counts is what a digit counts, in a base up to 16
  pub digit_is : base ≤ 16 → digit_value c < base → digit_of c ≡ digit_value c
  unfolding digit_of
  digit_is b h = grind (arith, nat_tests)

  pub digit_none : base ≤ 16 → base ≤ digit_value c → base ≤ digit_of c
  unfolding digit_of
  digit_none b h = grind (arith, nat_tests)

-- ---- a number

pub power_small : (i : ℕ) → i < 8 → 16 ^ i ≤ 0x10000000
power_small i h = leb-true (16 ^ i) 0x10000000 (every_at (λ (k : ℕ). leb (16 ^ k) 0x10000000) 8 i refl h)

pub times_less : (v base : ℕ) → base ≤ 16 → v * base ≤ v * 16
times_less v base b = mul-le-mul {n₂ = v} {m₂ = 16} (omega arith) b

pub power_next : (i v d base : ℕ) → base ≤ 16 → v < 16 ^ i → d < base → v * base + d < 16 ^ (i + 1)
power_next i v d base b h g =
    let j : i + 1 ≡ suc i = omega arith in
    let m = times_less v base b in
    subst (λ (k : ℕ). v * base + d < 16 ^ k) (sym j) (omega arith)

-- digits have been read up to place i: they spell v
pub record Read (base : ℕ) (l : List ℕ) (v i : ℕ) : Type 0 where
  pub within : i ≤ length l
  pub small : v < 16 ^ i
  pub spells : spelled base 0 l ≡ spelled base v (drop i l)
  pub digits : every_in (is_digit base) l ≡ every_in (is_digit base) (drop i l)

-- ---- the field

module _ (base : ℕ) (l : List ℕ) where
  pub number_empty : length l ≡ 0 → None ≡ number_of base l
  unfolding number_of is_number
  number_empty e = simp (lt-leb 1 (length l) (omega arith))

  pub number_long : 8 < length l → None ≡ number_of base l
  unfolding number_of is_number
  number_long h = simp (le-leb 1 (length l) (omega arith), lt-leb (length l) 8 h)

  pub number_bad : every_in (is_digit base) l ≡ false → None ≡ number_of base l
  unfolding number_of is_number
  number_bad e = simp (e, and-false (leb (length l) 8), and-false (leb 1 (length l)))

  pub number_good : (v : ℕ) → (length l ≡ 0 → ⊥) → length l ≤ 8 → (every_in (is_digit base) l ≡ true) × (spelled base 0 l ≡ v)
      → Some v ≡ number_of base l
  unfolding number_of is_number
  number_good v n h e = simp (le-leb 1 (length l) (omega arith), le-leb (length l) 8 h, e.0, e.1)

-- ---- its digits, one by one

module _ (base : ℕ) (b : base ≤ 16) (l : List ℕ) (v i : ℕ) (h : i < length l) (r : Read base l v i) where
  first_passes : digit_of (get_or l i 0) < base → every_in (is_digit base) (get_or l i 0 ∷ drop (suc i) l) ≡ every_in (is_digit base) (drop (suc i) l)
  first_passes g = simp (lt-ltb (digit_of (get_or l i 0)) base g)

  first_fails : base ≤ digit_of (get_or l i 0) → every_in (is_digit base) (get_or l i 0 ∷ drop (suc i) l) ≡ false
  first_fails g = simp (le-ltb (digit_of (get_or l i 0)) base g)

  pub read_on : (d : ℕ) → d ≡ digit_of (get_or l i 0) → d < base → Read base l (v * base + d) (i + 1)
  unfolding spelled
  read_on d e g =
      let j : i + 1 ≡ suc i = omega arith in
      record {
        within = omega arith;
        small = power_next i v d base b r.small g;
        spells = r.spells ∙ ap (spelled base v) (drop-cons l i 0 h) ∙ ap (λ (k : ℕ). spelled base (v * base + k) (drop (suc i) l)) (sym e) ∙ ap (λ (k : ℕ). spelled base (v * base + d) (drop k l)) (sym j);
        digits = r.digits ∙ ap (every_in (is_digit base)) (drop-cons l i 0 h) ∙ first_passes (subst (λ (k : ℕ). k < base) e g) ∙ ap (λ (k : ℕ). every_in (is_digit base) (drop k l)) (sym j);
      }

  pub read_bad : base ≤ digit_of (get_or l i 0) → every_in (is_digit base) l ≡ false
  read_bad g = r.digits ∙ ap (every_in (is_digit base)) (drop-cons l i 0 h) ∙ first_fails g

  pub read_digit : (x d : ℕ) → x ≡ get_or l i 0 → digit_value x < base → d ≡ digit_value x → Read base l (v * base + d) (i + 1)
  read_digit x d p g e =
      let q = digit_is x base b g in
      let o = ap digit_of p in
      read_on d (omega arith) (omega arith)

  pub read_stop : (x : ℕ) → x ≡ get_or l i 0 → (digit_value x < base → ⊥) → None ≡ number_of base l
  read_stop x p n =
      let q = digit_none x base b (omega arith) in
      let o = ap digit_of p in
      number_bad base l (read_bad (omega arith))

pub read_all : (base : ℕ) (l : List ℕ) (v i : ℕ) → length l ≤ i → Read base l v i → (every_in (is_digit base) l ≡ true) × (spelled base 0 l ≡ v)
unfolding spelled
read_all base l v i h r =
    let j : i ≡ length l = let w = r.within in omega arith in
    let e : drop i l ≡ [] = ap (λ (k : ℕ). drop k l) j ∙ drop-length l in
    (r.digits ∙ ap (every_in (is_digit base)) e, r.spells ∙ ap (spelled base v) e)
