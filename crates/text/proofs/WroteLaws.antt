-- Texts that stand in a buffer one behind the other, and how long a number's text is.
-- By induction on the first text, and on the number of places. Assumes nothing.
use Prim.Native.Nat.{ℕ, zero, suc, ◌+◌, ◌-◌, ◌/◌, ◌%◌, ◌≤◌}
use mathlib.Core.Bool.{true, false}
use mathlib.Core.List.{List, [], ◌∷◌, ◌++◌, append_assoc}
use mathlib.Core.Path.{◌≡◌, refl, sym, ap, subst, ◌∙◌}
use native.Mathlib.Omega.{arith}
use lib.ListN.{length, set, length-append}
use lib.Seq.{sets, length-sets, append_snoc}
use Rattle.bits.specs.Choose.{pick}
use Rattle.bits.proofs.Cases.{pick_by}
use Rattle.text.specs.Numeral.{glyph_of, is_short, numeral_of, decimal_of, word_text}
use Rattle.text.specs.Answer.{Wrote, answer_text}

-- ---- one behind the other

pub sets_append : (xs ys l : List ℕ) (i j : ℕ) → j ≡ i + length xs → sets (sets l i xs) j ys ≡ sets l i (xs ++ ys)
sets_append [] ys l i j e = ap (λ (k : ℕ). sets l k ys) (let h : j ≡ i = omega arith in h)
sets_append (x ∷ xs) ys l i j e = sets_append xs ys (set l i x) (suc i) j (omega arith)

pub nothing : (at : ℕ) (l : List ℕ) → Wrote [] at l at l
nothing at l = record { ends = omega arith; holds = refl }

module _ {xs ys : List ℕ} {at : ℕ} {l : List ℕ} {e : ℕ} {l' : List ℕ} {f : ℕ} {l'' : List ℕ} where
  pub behind : Wrote xs at l e l' → Wrote ys e l' f l'' → Wrote (xs ++ ys) at l f l''
  behind p q =
      record {
        ends = q.ends ∙ ap (λ (k : ℕ). k + length ys) p.ends ∙ (let n = length-append xs ys in omega arith);
        holds = q.holds ∙ ap (λ (k : ℕ). sets l' k ys) p.ends ∙ ap (λ (k : List ℕ). sets k (at + length xs) ys) p.holds ∙ sets_append xs ys l at _ refl;
      }

-- a text leaves the buffer as long as it was
pub wrote_length : {xs : List ℕ} {at : ℕ} {l : List ℕ} {e : ℕ} {l' : List ℕ} → Wrote xs at l e l' → length l' ≡ length l
wrote_length {xs} {at} {l} p = ap length p.holds ∙ length-sets l at xs

-- the same text under another name
pub renamed : {xs ys : List ℕ} {at : ℕ} {l : List ℕ} {e : ℕ} {l' : List ℕ} → xs ≡ ys → Wrote xs at l e l' → Wrote ys at l e l'
renamed {at = at} {l = l} {e = e} {l' = l'} q p = subst (λ (k : List ℕ). Wrote k at l e l') q p

-- ---- a number's text

module _ (base least : ℕ) where
  pub numeral_none : (places n : ℕ) → places ≡ 0 → [] ≡ numeral_of base least places n
  unfolding numeral_of
  numeral_none places n e = ap (λ (k : ℕ). numeral_of base least k n) (sym e)

  pub numeral_short : (places n : ℕ) → (places ≡ 0 → ⊥) → is_short base least n ≡ true → glyph_of (n % base) ∷ [] ≡ numeral_of base least places n
  unfolding numeral_of
  numeral_short zero n z e = absurd (z refl)
  numeral_short (suc places) n z e = simp e

  pub numeral_more : (places n : ℕ) → (places ≡ 0 → ⊥) → is_short base least n ≡ false
      → numeral_of base (least - 1) (places - 1) (n / base) ++ (glyph_of (n % base) ∷ []) ≡ numeral_of base least places n
  unfolding numeral_of
  numeral_more zero n z e = absurd (z refl)
  numeral_more (suc places) n z e =
      let k : suc places - 1 ≡ places = omega arith in
      ap (λ (j : ℕ). numeral_of base (least - 1) j (n / base) ++ (glyph_of (n % base) ∷ [])) k ∙ (simp e)

pub numeral_length : (base least places n : ℕ) → length (numeral_of base least places n) ≤ places
unfolding numeral_of
numeral_length base least zero n = omega arith
numeral_length base least (suc places) n =
    let a = length-append (pick (is_short base least n) [] (numeral_of base (least - 1) places (n / base))) (glyph_of (n % base) ∷ []) in
    let b = pick_by (λ (f : List ℕ). length f ≤ places) (is_short base least n) [] (numeral_of base (least - 1) places (n / base)) (omega arith) (numeral_length base (least - 1) places (n / base)) in
    omega arith

-- with the byte that ends it
pub ended_length : (base least places n b : ℕ) → length (numeral_of base least places n ++ (b ∷ [])) ≤ places + 1
ended_length base least places n b =
    let a = length-append (numeral_of base least places n) (b ∷ []) in let c = numeral_length base least places n in omega arith

-- ---- an answer's line

append_four : (a b c d : List ℕ) (x y z : ℕ)
    → (((a ++ (x ∷ [])) ++ (b ++ (y ∷ []))) ++ (c ++ (z ∷ []))) ++ d ≡ a ++ (x ∷ (b ++ (y ∷ (c ++ (z ∷ d)))))
append_four a b c d x y z =
    append_assoc ((a ++ (x ∷ [])) ++ (b ++ (y ∷ []))) (c ++ (z ∷ [])) d
    ∙ append_assoc (a ++ (x ∷ [])) (b ++ (y ∷ [])) ((c ++ (z ∷ [])) ++ d)
    ∙ append_snoc a x ((b ++ (y ∷ [])) ++ ((c ++ (z ∷ [])) ++ d))
    ∙ ap (λ (k : List ℕ). a ++ (x ∷ k)) (append_snoc b y ((c ++ (z ∷ [])) ++ d))
    ∙ ap (λ (k : List ℕ). a ++ (x ∷ (b ++ (y ∷ k)))) (append_snoc c z d)

pub answer_joined : (s w k n : ℕ)
    → (((decimal_of s ++ (32 ∷ [])) ++ (word_text w ++ (32 ∷ []))) ++ (word_text k ++ (32 ∷ []))) ++ (decimal_of n ++ (10 ∷ [])) ≡ answer_text s w k n
unfolding answer_text
answer_joined s w k n = append_four (decimal_of s) (word_text w) (word_text k) (decimal_of n ++ (10 ∷ [])) 32 32 32

pub answer_short : (s w k n : ℕ) → length (answer_text s w k n) ≤ 40
answer_short s w k n =
    let a = decimal_of s ++ (32 ∷ []) in
    let b = word_text w ++ (32 ∷ []) in
    let c = word_text k ++ (32 ∷ []) in
    let d = decimal_of n ++ (10 ∷ []) in
    let e = ap length (answer_joined s w k n) in
    let f = length-append ((a ++ b) ++ c) d in
    let g = length-append (a ++ b) c in
    let h = length-append a b in
    let a' = ended_length 10 1 10 s 32 in
    let b' = ended_length 16 8 8 w 32 in
    let c' = ended_length 16 8 8 k 32 in
    let d' = ended_length 10 1 10 n 10 in
    omega arith
