-- The bytes before a separator and behind it, by the place that the library finds, also byte by byte, and the fields of a line one after the other.
-- By induction on the line and by cases on its first byte, and by the library's law of the first place. Assumes nothing.
use Prim.Native.Nat.{ℕ, suc, ◌+◌, ◌-◌, ◌<◌, ◌≤◌}
use mathlib.Core.Bool.{true, false}
use mathlib.Core.List.{List, [], ◌∷◌}
use mathlib.Core.Path.{◌≡◌, refl, sym, ap, subst, ap₂, ◌∙◌}
use native.Mathlib.Nat.{not-suc-le-zero}
use native.Mathlib.Omega.{arith}
use borrow.Author.Tests.{eq-eqb, ne_eqb, eqb-true, eqb-false, ltb-true, ltb-false, lt-ltb, le-ltb}
use lib.Dec.{eqb}
use lib.ListN.{length, get_or, take, drop, length-drop}
use lib.Seq.{take_all}
use Rattle.std.proofs.Common.{Bor, MatchOption}
use Rattle.std.specs.List.{position_or_len}
use Rattle.std.specs.Prelude.{◌==◌, nat_lt, position, cond, unwrap_or, Option, Some, None}
use Rattle.std.proofs.lemmas.List.Sums.{position_or_len_is}
use Rattle.std.proofs.lemmas.Option.{cond_some, none-some}
use Rattle.bits.proofs.Cases.{by_test}
use Rattle.text.specs.Gather.{up_to}
use Rattle.text.specs.Line.{fields_of, longer}

-- ---- up to a byte

pub up_to_hit : (b c : ℕ) (l : List ℕ) → eqb c b ≡ true → up_to b (c ∷ l) ≡ []
unfolding up_to
up_to_hit b c l e = simp e

pub up_to_miss : (b c : ℕ) (l : List ℕ) → eqb c b ≡ false → up_to b (c ∷ l) ≡ c ∷ up_to b l
unfolding up_to
up_to_miss b c l e = simp e

pub up_to_none : (b : ℕ) → up_to b [] ≡ []
unfolding up_to
up_to_none b = refl

pub up_to_le : (b : ℕ) (l : List ℕ) → length (up_to b l) ≤ length l
up_to_le b [] = subst (λ (k : List ℕ). length k ≤ 0) (sym (up_to_none b)) (omega arith)
up_to_le b (c ∷ l) =
    by_test (eqb c b)
    (λ e. subst (λ (k : List ℕ). length k ≤ suc (length l)) (sym (up_to_hit b c l e)) (omega arith))
    (λ e. subst (λ (k : List ℕ). length k ≤ suc (length l)) (sym (up_to_miss b c l e)) (let h = up_to_le b l in omega arith))

-- they are the line's first ones
pub up_to_take : (b : ℕ) (l : List ℕ) → take (length (up_to b l)) l ≡ up_to b l
up_to_take b [] = simp (up_to_none b)
up_to_take b (c ∷ l) =
    by_test (eqb c b)
    (λ e. subst (λ (k : List ℕ). take (length k) (c ∷ l) ≡ k) (sym (up_to_hit b c l e)) refl)
    (λ e. subst (λ (k : List ℕ). take (length k) (c ∷ l) ≡ k) (sym (up_to_miss b c l e)) (ap {B = List ℕ} (λ k. c ∷ k) (up_to_take b l)))

-- all of them, where the byte is none of them
pub up_to_all : (b : ℕ) (l : List ℕ) → length l ≤ length (up_to b l) → up_to b l ≡ l
up_to_all b l h = sym (up_to_take b l) ∙ take_all (length (up_to b l)) l h

-- where the library finds the byte
place_is : (b : ℕ) (l : List ℕ) → position_or_len (λ c. c == b) l ≡ length (up_to b l)
place_is b [] = ap length (sym (up_to_none b))
place_is b (c ∷ l) =
    by_test (eqb c b)
    (λ e. simp (e, up_to_hit b c l e))
    (λ e. simp (e, up_to_miss b c l e) (let h = place_is b l in omega arith))

placed : (b : ℕ) (l : List ℕ) (n : ℕ) → position_or_len (λ c. c == b) l ≡ n → position (λ c. c == b) l ≡ cond (nat_lt n (length l)) (Some n) None
placed b l n e = ap (λ (k : ℕ). cond (nat_lt k (length l)) (Some k) None) e

pub place_at : (b : ℕ) (l : List ℕ) → position (λ c. c == b) l ≡ cond (nat_lt (length (up_to b l)) (length l)) (Some (length (up_to b l))) None
place_at b l = placed b l (length (up_to b l)) (place_is b l)

pub place_or_end : (b : ℕ) (l : List ℕ) → unwrap_or (position (λ c. c == b) l) (length l) ≡ length (up_to b l)
place_or_end b l =
    by_test (nat_lt (length (up_to b l)) (length l))
    (λ t. ap (λ (r : Option ℕ). unwrap_or r (length l)) (place_at b l) ∙ simp t)
    (λ t. ap (λ (r : Option ℕ). unwrap_or r (length l)) (place_at b l) ∙ simp t (let h = up_to_le b l in let n = ltb-false (length (up_to b l)) (length l) t in omega arith))

pub place_found : (b : ℕ) (l : List ℕ) (n : ℕ) → Some n ≡ position (λ c. c == b) l → (n ≡ length (up_to b l)) × (length (up_to b l) < length l)
place_found b l n e =
    let s = cond_some (nat_lt (length (up_to b l)) (length l)) (length (up_to b l)) n (sym (place_at b l) ∙ sym e) in
    (sym s.1, ltb-true (length (up_to b l)) (length l) s.0)

pub place_none : (b : ℕ) (l : List ℕ) → None ≡ position (λ c. c == b) l → up_to b l ≡ l
place_none b l e =
    by_test (nat_lt (length (up_to b l)) (length l))
    (λ t. absurd (none-some (length (up_to b l)) (e ∙ place_at b l ∙ simp t)))
    (λ t. up_to_all b l (ltb-false (length (up_to b l)) (length l) t))

-- found byte by byte: none of those passed is it
abbrev pub Passed : ℕ → List ℕ → ℕ → Type 0
Passed b l i = (k : ℕ) → k < i → get_or l k 0 ≡ b → ⊥

pub passed_more : (b : ℕ) (l : List ℕ) (i : ℕ) → Passed b l i → (get_or l i 0 ≡ b → ⊥) → Passed b l (i + 1)
passed_more b l i n e k h g =
    by_test (eqb k i)
    (λ t. e (ap (λ (j : ℕ). get_or l j 0) (sym (eqb-true k i t)) ∙ g))
    (λ t. let x = eqb-false k i t in n k (omega arith) g)

pub passed_hit : (b : ℕ) (l : List ℕ) (i : ℕ) → Passed b l i → i < length l → get_or l i 0 ≡ b → Some i ≡ position (λ c. c == b) l
passed_hit b l i n h e =
    sym (placed b l i (position_or_len_is (λ (c : ℕ). c == b) l i 0 (omega arith) (λ k g. ne_eqb (get_or l k 0) b (n k g)) (λ x. eq-eqb (get_or l i 0) b e))
    ∙ simp (lt-ltb i (length l) h))

pub passed_all : (b : ℕ) (l : List ℕ) (i : ℕ) → Passed b l i → length l ≤ i → i ≤ length l → None ≡ position (λ c. c == b) l
passed_all b l i n h g =
    sym (placed b l i (position_or_len_is (λ (c : ℕ). c == b) l i 0 g (λ k x. ne_eqb (get_or l k 0) b (n k x)) (λ x. absurd (omega arith)))
    ∙ simp (le-ltb i (length l) h))

-- the line parted there
pub parted_by : (b : ℕ) (l : List ℕ) (n : ℕ) → n ≡ length (up_to b l) → n < length l
    → (take n l ≡ up_to b l) × (take (length l - (n + 1)) (drop (n + 1) l) ≡ drop (suc (length (up_to b l))) l) × (length (up_to b l) < length l)
parted_by b l n e x =
    let j : n + 1 ≡ suc (length (up_to b l)) = omega arith in
    let h = length-drop (n + 1) l in
    let m : length (up_to b l) < length l = omega arith in
    (ap (λ (k : ℕ). take k l) e ∙ up_to_take b l, take_all (length l - (n + 1)) (drop (n + 1) l) (omega arith) ∙ ap (λ (k : ℕ). drop k l) j, m)

pub parted_at : (b : ℕ) (l : List ℕ) (n : ℕ) → Some n ≡ position (λ c. c == b) l
    → (take n l ≡ up_to b l) × (take (length l - (n + 1)) (drop (n + 1) l) ≡ drop (suc (length (up_to b l))) l) × (length (up_to b l) < length l)
parted_at b l n e = let p = place_found b l n e in let q = p.0 in let r = p.1 in parted_by b l n q (omega arith)

-- ---- fields

pub fields_none : fields_of [] ≡ [] ∷ []
unfolding fields_of
fields_none = refl

pub fields_hit : (c : ℕ) (l : List ℕ) → eqb c 32 ≡ true → fields_of (c ∷ l) ≡ [] ∷ fields_of l
unfolding fields_of
fields_hit c l e = simp e

pub fields_miss : (c : ℕ) (l : List ℕ) → eqb c 32 ≡ false → fields_of (c ∷ l) ≡ longer c (fields_of l)
unfolding fields_of
fields_miss c l e = simp e

-- a line without a space is one field
pub fields_last : (l : List ℕ) → length (up_to 32 l) ≡ length l → fields_of l ≡ l ∷ []
fields_last [] e = fields_none
fields_last (c ∷ l) e =
    by_test (eqb c 32)
    (λ t. let z = ap length (up_to_hit 32 c l t) in absurd (let y : 0 ≡ suc (length l) = sym z ∙ e in omega arith))
    (λ t.
    let z = ap length (up_to_miss 32 c l t) in
    let y : length (up_to 32 l) ≡ length l = omega arith in
    fields_miss c l t ∙ ap (longer c) (fields_last l y))

-- any other has its first field, and behind the space the others
pub fields_more : (l : List ℕ) → length (up_to 32 l) < length l
    → fields_of l ≡ up_to 32 l ∷ fields_of (drop (suc (length (up_to 32 l))) l)
fields_more [] h = absurd (not-suc-le-zero h)
fields_more (c ∷ l) h =
    by_test (eqb c 32)
    (λ t. subst (λ (k : List ℕ). fields_of (c ∷ l) ≡ k ∷ fields_of (drop (suc (length k)) (c ∷ l))) (sym (up_to_hit 32 c l t)) (fields_hit c l t))
    (λ t.
    let z = ap length (up_to_miss 32 c l t) in
    let y : length (up_to 32 l) < length l = omega arith in
    subst (λ (k : List ℕ). fields_of (c ∷ l) ≡ k ∷ fields_of (drop (suc (length k)) (c ∷ l))) (sym (up_to_miss 32 c l t))
    (fields_miss c l t ∙ ap (longer c) (fields_more l y)))

-- a line's first field, and the others behind its space
pub fields_parted : (l : List ℕ) (r : Option (Bor (List ℕ) × Bor (List ℕ)))
    → MatchOption r (up_to 32 l ≡ l) (λ p. (p.0.now ≡ up_to 32 l) × (p.1.now ≡ drop (suc (length (up_to 32 l))) l) × (length (up_to 32 l) < length l))
    → MatchOption r (fields_of l ≡ l ∷ []) (λ p. fields_of l ≡ p.0.now ∷ fields_of p.1.now)
fields_parted l None e = fields_last l (ap length e)
fields_parted l (Some p) e = fields_more l e.2 ∙ ap₂ (λ (f g : List ℕ). f ∷ fields_of g) (sym e.0) (sym e.1)
