-- The table of packed entries is the map of the indices: each number opens to the parts of its entry and to its row.
-- The packing is undone by arithmetic on parts below 256; the table is one computed list. Assumes nothing.
use Prim.Native.Nat.{ℕ, ◌+◌, ◌*◌, ◌/◌, ◌%◌, ◌<◌, ◌≤◌}
use mathlib.Core.List.{List, map}
use mathlib.Core.Path.{◌≡◌, ap, ◌∙◌}
use native.Mathlib.Omega.{arith}
use borrow.Author.Tests.{ltb-true}
use lib.Dec.{eqb}
use lib.ListN.{get_or}
use Rattle.std.specs.List.{range_with_len}
use Rattle.std.proofs.lemmas.List.FromFn.{get_or-map-range_with_len}
use Rattle.bits.specs.Choose.{pick}
use Rattle.bits.proofs.Cases.{pick_when}
use Rattle.chip.specs.Bank.{bank_count, index_count, Entry, indirect_at, indirect_entry}
use Rattle.chip.specs.Rules.{EntryRule}
use Rattle.chip.proofs.Tables.{indirect_rule}
use Rattle.registers.specs.Packed.{index_row, packed, packed_at}
use Rattle.registers.proofs.Flags.{flag_le, flag_is}

-- ---- one number

record Parts (w r k x y p : ℕ) : Type 0 where
  low : p % 256 ≡ w
  next : p / 256 % 256 ≡ r
  third : p / 65536 % 256 ≡ k
  first : p / 0x1000000 % 2 ≡ x
  second : p / 0x2000000 % 2 ≡ y

parts : (w r k x y : ℕ) → w < 256 → r < 256 → k < 256 → x ≤ 1 → y ≤ 1
    → Parts w r k x y (w + r * 0x100 + k * 0x10000 + x * 0x1000000 + y * 0x2000000)
parts w r k x y hw hr hk hx hy =
    record { low = omega arith; next = omega arith; third = omega arith; first = omega arith; second = omega arith }

-- what the number of an entry and a row opens to
pub record Unpacks (e : Entry) (row p : ℕ) : Type 0 where
  pub writable : p % 256 ≡ e.writable
  pub reset : p / 256 % 256 ≡ e.reset
  pub row_in : p / 65536 % 256 ≡ row
  pub exists : eqb (p / 0x1000000 % 2) 1 ≡ e.exists
  pub reads : eqb (p / 0x2000000 % 2) 1 ≡ e.reads

unpacks_entry : (e : Entry) (row : ℕ) → EntryRule e → row < 256 → Unpacks e row (packed e row)
unfolding packed
unpacks_entry e row q h =
    let p = parts e.writable e.reset row (pick e.exists 1 0) (pick e.reads 1 0) q.bits q.value h
    (flag_le e.exists 1) (flag_le e.reads 1) in
    record {
      writable = p.low;
      reset = p.next;
      row_in = p.third;
      exists = ap (λ (n : ℕ). eqb n 1) p.first ∙ flag_is e.exists;
      reads = ap (λ (n : ℕ). eqb n 1) p.second ∙ flag_is e.reads;
    }

row_byte_lem : (i : ℕ) → index_row i < 256
unfolding index_row indirect_entry
row_byte_lem i =
    pick_when (λ (n : ℕ). n < 256) (indirect_entry i).exists (indirect_at i) 0
    (λ e. let h = ltb-true (indirect_at i) bank_count e in omega arith) (λ e. omega arith)

-- ---- the table

-- what the table has at an index opens to the map's entry there
pub unpacks : (i p : ℕ) → i < index_count → p ≡ packed_at i → Unpacks (indirect_entry i) (index_row i) p
unfolding packed_at
unpacks i p h e = rw e (unpacks_entry (indirect_entry i) (index_row i) (indirect_rule i h) (row_byte_lem i))

pub exists_in : (i p : ℕ) → i < index_count → p ≡ packed_at i → eqb (p / 0x1000000 % 2) 1 ≡ (indirect_entry i).exists
exists_in i p h e = (unpacks i p h e).exists

pub reads_in : (i p : ℕ) → i < index_count → p ≡ packed_at i → eqb (p / 0x2000000 % 2) 1 ≡ (indirect_entry i).reads
reads_in i p h e = (unpacks i p h e).reads

unfoldable pub packed_map : List ℕ
packed_map = map packed_at (range_with_len 0 index_count)

pub packed_at_lem : (i : ℕ) → i < index_count → get_or packed_map i 0 ≡ packed_at i
unfolding packed_map
packed_at_lem i h = get_or-map-range_with_len packed_at 0 index_count i i 0 h (omega arith)
