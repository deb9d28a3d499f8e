-- Promise 2, of the tables: how they make up the bank and the map of the indices, that the rows that the rules name stand at their offsets, and that what 01 says of
-- registers by name is in them. By one computed test over the bank. Assumes nothing.
use Prim.Native.Nat.{ℕ, zero, suc, ◌/◌, ◌%◌, ◌≤◌, ◌<◌}
use mathlib.Core.Bool.{Bool, true, false, not, ◌&&◌, ◌||◌, or-true}
use mathlib.Core.List.{List, [], ◌∷◌}
use mathlib.Core.Logic.{◌⊎◌, inl, inr}
use mathlib.Core.Path.{◌≡◌, refl, sym, ap, ◌∙◌, subst}
use native.Mathlib.Nat.{le_of_suc-le-suc}
use native.Mathlib.Omega.{arith}
use borrow.Author.Tests.{eqb-true, ltb-true, lt-ltb, le-ltb, le-leb, not-true}
use lib.Dec.{eqb, leb, ltb}
use lib.ListN.{get_or, length}
use Rattle.bits.specs.Bit.{bit}
use Rattle.bits.specs.Word.{inside, lane_byte}
use Rattle.bits.proofs.Cases.{by_test}
use Rattle.bits.proofs.Words.{bit_inside}
use Rattle.bits.proofs.Lanes.{bit_lane, lane_lt}
use Rattle.bits.specs.Choose.{pick, every_to}
use Rattle.std.specs.Cmp.{first_so, second_so}
use Rattle.bits.proofs.Bools.{every_at}
use Rattle.chip.specs.Row.{Row}
use Rattle.chip.specs.Bank.{bank_count, region_count, header_first, indirect_first, bank_row, indirect_at, Entry, indirect_entry, indirect_map}
use Rattle.chip.proofs.Tables.{none_there, map_at, map_length, indirect_rule}
use Rattle.chip.proofs.Computed.{computed}
use Rattle.promises.specs.Places.{RowAt}
use Rattle.promises.specs.Named.{RowsAt, InVain, Named, Lines, Bank, Mapped, Unmapped, Map}
use Rattle.promises.proofs.Places.{indirect_there, indirect_found}

pub bank_means : Bank
unfolding computed
bank_means = record { rows = λ i. refl; region = refl; after_region = refl; header = refl; indirect = refl }

pub lines_mean : Lines
lines_mean = record { both = λ o w r k. refl; only_read = λ o r k. refl; byte = λ i w r. refl; only_written = λ i w r. refl; unknown = λ i. refl }

pub rows_mean : RowsAt
unfolding computed
rows_mean =
    record {
      aperture_one = record { least = omega arith; below = omega arith; offset = refl };
      aperture_two = record { least = omega arith; below = omega arith; offset = refl };
      screen_base = record { least = omega arith; below = omega arith; offset = refl };
      screen_stride = record { least = omega arith; below = omega arith; offset = refl };
      pixel_mask = record { least = omega arith; below = omega arith; offset = refl };
      command = record { least = omega arith; below = omega arith; offset = refl };
      subsystem = record { least = omega arith; below = omega arith; offset = refl };
      color_mode = record { least = omega arith; below = omega arith; offset = refl };
      misc_control = record { least = omega arith; below = omega arith; offset = refl };
    }

-- ---- by name

vain : Row → Bool
vain r = r.writes && (eqb r.writable 0 && eqb r.clears 0)

clock : ℕ → Bool
clock o = (leb 0x20 o && leb o 0x28) || (leb 0x30 o && leb o 0x32)

region_test : ℕ → Bool
region_test i =
    pick (eqb (bank_row i).offset 0xE8 || eqb (bank_row i).offset 0x1000) (vain (bank_row i)) true
    && pick (eqb (bank_row i).offset 0x1140 || eqb (bank_row i).offset 0x1180) ((bank_row i).reads && not (bank_row i).writes) true

header_test : ℕ → Bool
header_test i = (bank_row i).reads && (bank_row i).writes

indirect_test : ℕ → Bool
indirect_test i =
    pick (eqb (bank_row i).offset 0x29 || eqb (bank_row i).offset 0x33) (vain (bank_row i) && ((bank_row i).reads && eqb (bank_row i).known 0)) true
    && pick (clock (bank_row i).offset) (not (bank_row i).reads && (bank_row i).writes) true

row_test_lem : ℕ → Bool
row_test_lem i = pick (ltb i region_count) (region_test i) (pick (ltb i indirect_first) (header_test i) (indirect_test i))

rows_pass : every_to row_test_lem bank_count ≡ true
unfolding row_test_lem region_test header_test indirect_test vain clock computed
rows_pass = refl

in_vain : (i : ℕ) → vain (bank_row i) ≡ true → InVain i
unfolding vain
in_vain i e =
    let u = second_so (bank_row i).writes _ e in
    record {
      writes = first_so (bank_row i).writes _ e;
      writable = eqb-true _ 0 (first_so (eqb (bank_row i).writable 0) _ u);
      clears = eqb-true _ 0 (second_so (eqb (bank_row i).writable 0) _ u);
    }

of_region : (i o : ℕ) → RowAt 0 region_count i o → region_test i ≡ true
unfolding row_test_lem
of_region i o r = simp (lt-ltb i region_count r.below) at (every_at row_test_lem bank_count i rows_pass (let z = r.below in omega arith))

of_header : (i o : ℕ) → RowAt header_first indirect_first i o → header_test i ≡ true
unfolding row_test_lem
of_header i o r =
    simp (le-ltb i region_count (let z = r.least in omega arith), lt-ltb i indirect_first r.below) at (every_at row_test_lem bank_count i rows_pass (let z = r.below in omega arith))

of_indirect : (i o : ℕ) → RowAt indirect_first bank_count i o → indirect_test i ≡ true
unfolding row_test_lem
of_indirect i o r =
    simp (le-ltb i region_count (let z = r.least in omega arith), le-ltb i indirect_first r.least) at (every_at row_test_lem bank_count i rows_pass r.below)

abbrev status_row : ℕ → Bool
status_row i = vain (bank_row i) && ((bank_row i).reads && eqb (bank_row i).known 0)

of_status : (i o : ℕ) → (eqb o 0x29 || eqb o 0x33) ≡ true → RowAt indirect_first bank_count i o → status_row i ≡ true
unfolding indirect_test
of_status i o e r =
    let t = first_so (pick (eqb (bank_row i).offset 0x29 || eqb (bank_row i).offset 0x33) (status_row i) true) _ (of_indirect i o r) in
    simp (subst (λ (k : ℕ). (eqb k 0x29 || eqb k 0x33) ≡ true) (sym r.offset) e) at t

is_unknown : (i : ℕ) → status_row i ≡ true → ((bank_row i).reads ≡ true) × ((bank_row i).known ≡ 0)
is_unknown i e =
    let u = second_so (vain (bank_row i)) _ e in
    (first_so (bank_row i).reads _ u, eqb-true _ 0 (second_so (bank_row i).reads _ u))

clock_of : (i o : ℕ) → clock o ≡ true → RowAt indirect_first bank_count i o → ((bank_row i).reads ≡ false) × ((bank_row i).writes ≡ true)
unfolding indirect_test
clock_of i o e r =
    let t = second_so (pick (eqb (bank_row i).offset 0x29 || eqb (bank_row i).offset 0x33) (status_row i) true) _ (of_indirect i o r) in
    let u = simp (subst (λ (k : ℕ). clock k ≡ true) (sym r.offset) e) at t in
    (not-true (bank_row i).reads (first_so (not (bank_row i).reads) _ u), second_so (not (bank_row i).reads) _ u)

region_vain : (i o : ℕ) → (eqb o 0xE8 || eqb o 0x1000) ≡ true → RowAt 0 region_count i o → InVain i
unfolding region_test
region_vain i o e r =
    let t = first_so (pick (eqb (bank_row i).offset 0xE8 || eqb (bank_row i).offset 0x1000) (vain (bank_row i)) true) _ (of_region i o r) in
    in_vain i (simp (subst (λ (k : ℕ). (eqb k 0xE8 || eqb k 0x1000) ≡ true) (sym r.offset) e) at t)

region_only : (i o : ℕ) → (eqb o 0x1140 || eqb o 0x1180) ≡ true → RowAt 0 region_count i o → ((bank_row i).reads ≡ true) × ((bank_row i).writes ≡ false)
unfolding region_test
region_only i o e r =
    let t = second_so (pick (eqb (bank_row i).offset 0xE8 || eqb (bank_row i).offset 0x1000) (vain (bank_row i)) true) _ (of_region i o r) in
    let u = simp (subst (λ (k : ℕ). (eqb k 0x1140 || eqb k 0x1180) ≡ true) (sym r.offset) e) at t in
    (first_so (bank_row i).reads _ u, not-true (bank_row i).writes (second_so (bank_row i).reads _ u))

pub tables_mean : Named
unfolding header_test clock
tables_mean =
    record {
      header = λ i o r. let e = of_header i o r in (first_so (bank_row i).reads _ e, second_so (bank_row i).reads _ e);
      complete = λ i r. region_vain i 0xE8 refl r;
      reboot = λ i r. region_vain i 0x1000 refl r;
      status = λ i r. in_vain i (first_so (vain (bank_row i)) _ (either i r));
      unknown = λ i r. is_unknown i (either i r);
      read_only_lem = either_only;
      clocks = λ i o r c. clock_of i o (in_clock o c) r;
    }
  where
    either : (i : ℕ) → RowAt indirect_first bank_count i 0x29 ⊎ RowAt indirect_first bank_count i 0x33 → status_row i ≡ true
    either i (inl r) = of_status i 0x29 refl r
    either i (inr r) = of_status i 0x33 refl r

    either_only : (i : ℕ) → RowAt 0 region_count i 0x1140 ⊎ RowAt 0 region_count i 0x1180 → ((bank_row i).reads ≡ true) × ((bank_row i).writes ≡ false)
    either_only i (inl r) = region_only i 0x1140 refl r
    either_only i (inr r) = region_only i 0x1180 refl r

    in_clock : (o : ℕ) → ((0x20 ≤ o) × (o ≤ 0x28)) ⊎ ((0x30 ≤ o) × (o ≤ 0x32)) → clock o ≡ true
    in_clock o (inl c) = simp (le-leb 0x20 o c.0, le-leb o 0x28 c.1)
    in_clock o (inr c) = simp (le-leb 0x30 o c.0, le-leb o 0x32 c.1) (or-true (leb 0x20 o && leb o 0x28))

-- ---- the map of the indices

mapped : (i r : ℕ) → RowAt indirect_first bank_count r i → Mapped (indirect_entry i) r
unfolding indirect_entry
mapped i r d =
    let e = indirect_found r i d in
    record {
      exists = lt-ltb (indirect_at i) bank_count (let z = d.below in omega (arith, e));
      writable = ap (λ (k : ℕ). (bank_row k).writable) e;
      reads = ap (λ (k : ℕ). (bank_row k).reads) e;
      reset = ap (λ (k : ℕ). (bank_row k).reset) e;
    }

unmapped : (i : ℕ) → i < 256 → ((r : ℕ) → RowAt indirect_first bank_count r i → ⊥) → Unmapped (indirect_entry i)
unfolding indirect_entry
unmapped i h n =
    let f : (indirect_entry i).exists ≡ false =
    by_test (indirect_entry i).exists (λ q. absurd (n (indirect_at i) (indirect_there i (ltb-true (indirect_at i) bank_count q)))) (λ q. q) in
    let z = (indirect_rule i h).absent f in
    record { exists = f; reads = z.0; writable = z.1; reset = z.2 }

-- within its length a list does not need what stands past its end
get_d_within : (l : List Entry) (i : ℕ) (d e : Entry) → i < length l → get_or l i d ≡ get_or l i e
get_d_within [] i d e h = absurd (omega arith)
get_d_within (x ∷ l) zero d e h = refl
get_d_within (x ∷ l) (suc i) d e h = get_d_within l i d e (le_of_suc-le-suc h)

map_entry : (i : ℕ) → i < 256 → get_or indirect_map i (indirect_entry i) ≡ indirect_entry i
map_entry i h = get_d_within indirect_map i (indirect_entry i) none_there (omega (arith, map_length)) ∙ map_at i h

pub map_means : Map
map_means =
    record {
      long = map_length;
      present = λ i r h d. subst (λ (e : Entry). Mapped e r) (sym (map_entry i h)) (mapped i r d);
      nothing = λ i h n. subst Unmapped (sym (map_entry i h)) (unmapped i h n);
    }

-- ---- the words of bits: what a mask leaves, and the byte of a lane

pub inside_means : (b v m : ℕ) → bit b (inside v m) ≡ (bit b v && bit b m)
inside_means = bit_inside

pub lane_means : (b w : ℕ) → (bit b w ≡ bit (b % 8) (lane_byte (b / 8) w)) × (lane_byte (b / 8) w < 256)
lane_means b w = (bit_lane b w, lane_lt (b / 8) w)
