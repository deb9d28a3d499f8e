-- A write keeps every register of the bank without fault, and a third flag of the subsystem numbers clear.
-- The register that is written by the law of a write, the others because they stay. Assumes nothing.
use Prim.Native.Nat.{ℕ, ◌^◌, ◌<◌}
use mathlib.Core.Bool.{true, false}
use mathlib.Core.List.{List}
use mathlib.Core.Option
use mathlib.Core.Option.{Option, none, some}
use mathlib.Core.Path.{◌≡◌, sym, ◌∙◌}
use native.Mathlib.Omega.{arith}
use borrow.Author.Tests.{eqb-true, eqb-false, eq-eqb, ne_eqb, leb-true, le-leb}
use lib.Dec.{eqb, leb}
use lib.ListN.{get_or, set, length}
use lib.Seq.{get_or-set_same, get_or-set_other}
use Rattle.bits.specs.Word.{joined, merged, lanes_of}
use Rattle.bits.proofs.Cases.{by_test, pick_by}
use Rattle.bits.proofs.Bools.{every_at, every_all}
use Rattle.chip.specs.Bank.{bank_count, bank_row, subsystem}
use Rattle.chip.specs.Subsystem.{half_bits, once_moved, once_after, stored_bits, fixed_by, exempt}
use Rattle.chip.specs.Register.{may_change, moved_bits, faults}
use Rattle.chip.specs.Sound.{once_ok, row_ok, bank_sound}
use Rattle.chip.proofs.Faults.{faults_moved}
use Rattle.chip.proofs.Tables.{bank_rule}
use Rattle.promises.proofs.Moved.{moved_lt, moved_within, once_lt, once_within, once_clear, once_moved_lt}

-- the subsystem numbers that are fixed after a write to row i
abbrev pub once_then : ℕ → ℕ → ℕ → ℕ
once_then o i e = Option.get_or (fixed_by o i e) o

pub stored_lt : (o i e w : ℕ) → stored_bits o i e w < 2 ^ 32
unfolding stored_bits
stored_lt o i e w =
    pick_by (λ (k : ℕ). k < 2 ^ 32) (eqb i subsystem) (once_moved o e) (moved_bits (bank_row i) (lanes_of e) w) (once_moved_lt o e) (moved_lt (bank_row i) e w)

-- what refusal 1 compares of a row does not change with a write to another
exempt_other : (o i j e : ℕ) → (j ≡ i → ⊥) → exempt (once_then o i e) j ≡ exempt o j
unfolding exempt fixed_by
exempt_other o i j e d =
    by_test (eqb j subsystem)
    (λ p. let z : j ≡ subsystem = eqb-true j subsystem p in
    let n : eqb i subsystem ≡ false = ne_eqb i subsystem (λ y. d (z ∙ sym y)) in
    simp (p, n))
    (λ p. simp p)

-- the row that is written
row_same : (o j e word d v k : ℕ) → o < 4 → j < bank_count → faults v k (exempt o j) (bank_row j).reset (bank_row j).known ≡ 0
    → faults (merged v d (stored_bits o j e word)) (joined k (stored_bits o j e word)) (exempt (once_then o j e) j) (bank_row j).reset (bank_row j).known ≡ 0
unfolding exempt fixed_by stored_bits
row_same o j e word d v k ho hj t =
    by_test (eqb j subsystem)
    (λ p. simp p
    (faults_moved v k (half_bits o) (half_bits (once_after o e)) (bank_row j).reset (bank_row j).known d (once_moved o e)
    (once_moved_lt o e) (once_within o e ho) (λ b hb c. once_clear o e b ho hb c) (simp p at t)))
    (λ p. simp p
    (faults_moved v k (may_change (bank_row j)) (may_change (bank_row j)) (bank_row j).reset (bank_row j).known d
    (moved_bits (bank_row j) (lanes_of e) word) (moved_lt (bank_row j) e word)
    (moved_within (bank_row j) (lanes_of e) word (bank_rule j hj).bits) (λ b hb c. c) (simp p at t)))

module _ (vs ks : List ℕ) (o i e word d : ℕ) (ho : o < 4) (hv : length vs ≡ bank_count) (hk : length ks ≡ bank_count) where
  row_kept : (j : ℕ) → j < bank_count → row_ok o vs ks j ≡ true
      → row_ok (once_then o i e) (set vs i (merged (get_or vs i 0) d (stored_bits o i e word))) (set ks i (joined (get_or ks i 0) (stored_bits o i e word))) j ≡ true
  unfolding row_ok
  row_kept j hj t =
      by_test (eqb j i)
      (λ q. let z : i ≡ j = sym (eqb-true j i q) in
      rw (z, get_or-set_same vs j _ 0 (omega arith), get_or-set_same ks j _ 0 (omega arith))
      (eq-eqb _ 0 (row_same o j e word d (get_or vs j 0) (get_or ks j 0) ho hj (eqb-true _ 0 t))))
      (λ q. let z : j ≡ i → ⊥ = eqb-false j i q in
      rw (get_or-set_other vs i j _ 0 z, get_or-set_other ks i j _ 0 z, exempt_other o i j e z) t)

  pub bank_kept : bank_sound o vs ks ≡ true
      → bank_sound (once_then o i e) (set vs i (merged (get_or vs i 0) d (stored_bits o i e word))) (set ks i (joined (get_or ks i 0) (stored_bits o i e word))) ≡ true
  unfolding bank_sound
  bank_kept t = every_all _ bank_count (λ j hj. row_kept j hj (every_at (row_ok o vs ks) bank_count j t hj))

pub once_kept : (o i e : ℕ) → once_ok o ≡ true → once_ok (once_then o i e) ≡ true
unfolding once_ok fixed_by
once_kept o i e t =
    pick_by (λ (k : Option ℕ). leb (Option.get_or k o) 3 ≡ true) (eqb i subsystem) (some (once_after o e)) none
    (le-leb (once_after o e) 3 (omega (arith, once_lt o e (omega (arith, leb-true o 3 t))))) t
