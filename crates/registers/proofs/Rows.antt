-- The bank by its columns.
-- A column is computed from the rows, and is the row's number at each. Assumes nothing.
use Prim.Native.Nat.{ℕ, ◌/◌, ◌%◌, ◌≤◌}
use mathlib.Core.Bool.{Bool, true, false}
use mathlib.Core.List.{List, [], ◌∷◌, map}
use mathlib.Core.Path.{◌≡◌, refl, sym, ap, ◌∙◌}
use native.Mathlib.Omega.{arith}
use borrow.Author.Tests.{eqb-true, eqb-false, ltb-true, ltb-false}
use lib.Dec.{eqb, ltb}
use lib.ListN.{get_or, length, set, replicate, get_or-eq_default, get_or-map}
use lib.Seq.{get_or-set_other}
use Rattle.std.proofs.lemmas.Bool.{agree_below, agree_below_at}
use Rattle.bits.specs.Choose.{pick}
use Rattle.bits.specs.Bit.{bit}
use Rattle.bits.specs.Word.{joined}
use Rattle.bits.proofs.Cases.{by_test}
use Rattle.bits.proofs.Gathers.{every_same}
use Rattle.bits.proofs.Lists.{zeros_at}
use Rattle.bits.proofs.Single.{bit_of_zero}
use Rattle.chip.specs.Row.{Row, absent}
use Rattle.chip.specs.Region.{region_rows}
use Rattle.chip.specs.Header.{header_rows}
use Rattle.chip.specs.Indirect.{indirect_rows}
use Rattle.chip.specs.Bank.{bank_rows, bank_count, bank_row, bank_resets, bank_knowns, subsystem}
use Rattle.chip.specs.Register.{may_change}
use Rattle.chip.specs.Subsystem.{half_bits, exempt}
use Rattle.chip.specs.Sound.{row_ok, bank_sound}
use Rattle.chip.proofs.Tables.{bank_length, resets_at, knowns_at}
use Rattle.registers.specs.Columns.{column_ok, columns_sound, in_set}

-- ---- columns

abbrev pub column : (Row → ℕ) → List ℕ
column f = map f bank_rows

-- .. which has nothing past the rows, as the absent row has
pub column_at : (f : Row → ℕ) (i : ℕ) → get_or (column f) i (f absent) ≡ f (bank_row i)
unfolding bank_row
column_at f i = get_or-map f bank_rows i absent

abbrev pub writable : List ℕ
writable = column (λ (r : Row). r.writable)

-- the bits that a write may change
abbrev pub may : List ℕ
may = column (λ (r : Row). may_change r)

pub writable_at : (i : ℕ) → get_or writable i 0 ≡ (bank_row i).writable
writable_at = column_at (λ (r : Row). r.writable)

may_at : (i : ℕ) → get_or may i 0 ≡ may_change (bank_row i)
unfolding may_change joined
may_at = column_at (λ (r : Row). may_change r)

-- ---- refusal 1

same_row : (once : ℕ) (vs ks : List ℕ) (i : ℕ) → column_ok vs ks may bank_resets bank_knowns subsystem (half_bits once) i ≡ row_ok once vs ks i
unfolding column_ok row_ok exempt
same_row once vs ks i = rw (may_at i, resets_at i, knowns_at i)

pub bank_sound_lem : {h : ℕ} {r : Bool} (once : ℕ) (vs ks : List ℕ) → h ≡ half_bits once
    → r ≡ columns_sound vs ks may bank_resets bank_knowns subsystem h → r ≡ bank_sound once vs ks
unfolding columns_sound bank_sound
bank_sound_lem once vs ks p e = e ∙ rw p (every_same _ _ bank_count (λ i h. same_row once vs ks i))

-- ---- what is told of few rows

-- past the bank's end there is no register
row_past : (i : ℕ) → bank_count ≤ i → bank_row i ≡ absent
unfolding bank_row
row_past i h = get_or-eq_default bank_rows absent (omega (arith, bank_length))

empty : (l : List ℕ) → length l ≡ 3 → (i : ℕ) → 96 ≤ i → in_set l i ≡ false
unfolding in_set
empty l n i h = ap (bit (i % 32)) (get_or-eq_default l 0 (let z : 3 ≤ i / 32 = omega arith in omega (arith, n))) ∙ bit_of_zero (i % 32)

-- a set of rows in three words: computed for the 96 bits that it has
set_at : (l : List ℕ) (f : Row → Bool) → length l ≡ 3 → f absent ≡ false → agree_below (in_set l) (λ (i : ℕ). f (bank_row i)) 96 ≡ true
    → (i : ℕ) → in_set l i ≡ f (bank_row i)
set_at l f n g e i =
    by_test (ltb i 96)
    (λ t. agree_below_at (in_set l) (λ (k : ℕ). f (bank_row k)) 96 i e (ltb-true i 96 t))
    (λ t. let h = ltb-false i 96 t in empty l n i h ∙ sym (ap f (row_past i (omega arith)) ∙ g))

pub reads_at : (i : ℕ) → in_set (0xFFFFFFFF ∷ 0xFFFFFFF ∷ 0x7E20 ∷ []) i ≡ (bank_row i).reads
unfolding in_set bit bank_row bank_rows region_rows header_rows indirect_rows
reads_at i = set_at (0xFFFFFFFF ∷ 0xFFFFFFF ∷ 0x7E20 ∷ []) (λ (r : Row). r.reads) refl refl refl i

pub writes_at : (i : ℕ) → in_set (0xFFFF3FFF ∷ 0xFFFFFFFF ∷ 0x7FFF ∷ []) i ≡ (bank_row i).writes
unfolding in_set bit bank_row bank_rows region_rows header_rows indirect_rows
writes_at i = set_at (0xFFFF3FFF ∷ 0xFFFFFFFF ∷ 0x7FFF ∷ []) (λ (r : Row). r.writes) refl refl refl i

-- one row has bits that are cleared by one
clears_column : column (λ (r : Row). r.clears) ≡ set (replicate bank_count 0) 39 0x30000000
unfolding bank_rows region_rows header_rows indirect_rows
clears_column = refl

pub clears_at : (i : ℕ) → (bank_row i).clears ≡ pick (eqb i 39) 0x30000000 0
clears_at i =
    sym (column_at (λ (r : Row). r.clears) i) ∙ ap (λ (l : List ℕ). get_or l i 0) clears_column
    ∙ by_test (eqb i 39)
    (λ e. simp e (ap (λ (k : ℕ). get_or (set (replicate bank_count 0) 39 0x30000000) k 0) (eqb-true i 39 e)))
    (λ e. simp e (get_or-set_other (replicate bank_count 0) 39 i 0x30000000 0 (eqb-false i 39 e) ∙ zeros_at bank_count i))
