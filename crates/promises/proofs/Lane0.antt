-- Without lane 0 a RAMDAC access that is not refused alters nothing, and answers word 0 and known 0.
-- The RAMDAC's registers have eight bits that a write may change or that are known, all of lane 0; the address and palette data ask for lane 0. Assumes nothing.
use Prim.Native.Nat.{ℕ, ◌/◌, ◌≤◌, ◌<◌}
use mathlib.Core.Bool.{Bool, true, false, not, ◌&&◌, and-false, or-false}
use mathlib.Core.Option.{Option, none, some}
use mathlib.Core.Path.{◌≡◌, refl, ◌∙◌}
use native.Mathlib.Omega.{arith}
use borrow.Author.Tests.{eqb-true, le-leb, ltb-true, ltb-false, lt-ltb, le-ltb, not-true}
use lib.Dec.{eqb, leb, ltb}
use lib.ListN.{get_or}
use Rattle.bits.specs.Choose.{pick, every_to}
use Rattle.bits.specs.Bit.{bit}
use Rattle.bits.specs.Word.{lanes_of}
use Rattle.bits.proofs.Cases.{by_test}
use Rattle.std.specs.Cmp.{first_so, second_so}
use Rattle.bits.proofs.Bools.{every_at}
use Rattle.bits.proofs.Single.{bit_of_zero, no_bits}
use Rattle.bits.proofs.Words.{bit_inside, bit_joined, inside_le, inside_lt_left, lane_bit, lanes_lt}
use Rattle.bits.proofs.Lanes.{bit_high}
use Rattle.chip.specs.declared.State.{State}
use Rattle.chip.specs.declared.Access.{Access}
use Rattle.chip.specs.declared.Colour.{Colour}
use Rattle.chip.specs.declared.Place.{Place}
use Rattle.chip.specs.declared.Place.TheVariants.{Register, Address, PaletteData, Window, Blank, Nowhere}
use Rattle.chip.specs.Bank.{bank_count, region_count, indirect_first, bank_row, subsystem}
use Rattle.chip.specs.Register.{moved_bits}
use Rattle.chip.specs.Subsystem.{stored_bits, fixed_by}
use Rattle.chip.specs.Place.{place_at, place_of}
use Rattle.chip.specs.Palette.{entry_of}
use Rattle.chip.specs.Port.{seen_part, known_in, word_in, wide, port_at}
use Rattle.chip.specs.Access.{is_write}
use Rattle.chip.specs.Refusal.{port_of}
use Rattle.chip.specs.Trace.{World, step}
use Rattle.chip.proofs.Computed.{computed}
use Rattle.promises.specs.Good.{Good, status_at}
use Rattle.promises.specs.Reach.{reach_at}
use Rattle.promises.specs.Places.{Leads, indexed, region, one, two, header, blank}
use Rattle.promises.specs.History.{Seeing, is_aim, is_data}
use Rattle.promises.specs.Refusals.{free_bit, IsState, Words}
use Rattle.promises.specs.View.{Idle}
use Rattle.promises.proofs.Clauses.{clauses}
use Rattle.promises.proofs.Shown.{enables_lt, sees, answer_word, answer_known}
use Rattle.promises.proofs.Answers.{write_answers}
use Rattle.promises.proofs.Idle.{StoresNone, idle_by}
use Rattle.promises.proofs.Sites.{names, region_plain}
use Rattle.promises.proofs.Places.{leads_register, leads_window, leads_blank}

-- ---- the RAMDAC's registers: of region 0 those from 4000h on, and the indirect ones

dac_row : ℕ → Bool
dac_row i = pick (ltb i region_count) (leb 0x4000 (bank_row i).offset) (leb indirect_first i)

eight_bits_lem : ℕ → Bool
eight_bits_lem i = pick (dac_row i) (ltb (bank_row i).writable 256 && (eqb (bank_row i).clears 0 && (ltb (bank_row i).known 256 && not (eqb i subsystem)))) true

all_eight : every_to eight_bits_lem bank_count ≡ true
unfolding eight_bits_lem dac_row computed
all_eight = refl

record OfByte (i : ℕ) : Type 0 where
  there : i < bank_count
  writable : (bank_row i).writable < 256
  clears : (bank_row i).clears ≡ 0
  known : (bank_row i).known < 256
  plain : eqb i subsystem ≡ false

of_byte : (i : ℕ) → i < bank_count → dac_row i ≡ true → OfByte i
unfolding eight_bits_lem
of_byte i h d =
    let t = simp d at (every_at eight_bits_lem bank_count i all_eight h) in
    let u = second_so (ltb (bank_row i).writable 256) _ t in
    let v = second_so (eqb (bank_row i).clears 0) _ u in
    record {
      there = h;
      writable = ltb-true _ 256 (first_so (ltb (bank_row i).writable 256) _ t);
      clears = eqb-true _ 0 (first_so (eqb (bank_row i).clears 0) _ u);
      known = ltb-true _ 256 (first_so (ltb (bank_row i).known 256) _ v);
      plain = not-true (eqb i subsystem) (second_so (ltb (bank_row i).known 256) _ v);
    }

module _ (s : State) (a : Access) (t : a.target ≡ 0) (f : 0x4000 ≤ a.offset) where
  ramdac_row : (i : ℕ) → place_of s a ≡ Register i → OfByte i
  unfolding dac_row
  ramdac_row i e = go (leads_register s a i e)
    where
      go : Leads s a (Register i) → OfByte i
      go (indexed u o k j r) =
          of_byte i r.below (simp (le-ltb i region_count (let z = r.least in omega arith), le-leb indirect_first i r.least))
      go (region u j r) =
          of_byte i (let z = r.below in omega arith)
          (simp (lt-ltb i region_count r.below, le-leb 0x4000 (bank_row i).offset (let z = r.offset in omega arith)))
      go (header u o j r) = absurd (omega (arith, t, u))

  window_not : (i : ℕ) → Leads s a (Window i) → ⊥
  window_not i (one u) = omega (arith, t, u)
  window_not i (two u) = omega (arith, t, u)

  blank_not : Leads s a Blank → ⊥
  blank_not (blank u o n) = omega (arith, t, u)

  ramdac_plain : (reach_at (place_of s a)).window ≡ none
  unfolding place_at
  ramdac_plain = simp t (region_plain s.dac a.offset)

-- ---- what a write without lane 0 stores of such a register: no bit

outside_lane : (e b v : ℕ) → bit 0 e ≡ false → e < 16 → b < 32 → v < 256 → (bit b (lanes_of e) && bit b v) ≡ false
outside_lane e b v l he hb hv =
    by_test (ltb b 8)
    (λ q.
    let z = ltb-true b 8 q in
    let k : b / 8 ≡ 0 = omega arith in
    simp (lane_bit b e hb he, k, l))
    (λ q. simp (bit_high 8 b v (ltb-false b 8 q) hv) (and-false (bit b (lanes_of e))))

module _ (i : ℕ) (r : OfByte i) (e word : ℕ) (l : bit 0 e ≡ false) (he : e < 16) where
  none_moved : (once : ℕ) → stored_bits once i e word ≡ 0
  unfolding stored_bits moved_bits
  none_moved once =
      simp r.plain
      (no_bits 32 _ (inside_lt_left _ _ (lanes_lt e)) (λ b hb.
      simp (bit_inside, bit_joined, r.clears, bit_of_zero b, or-false)
      (outside_lane e b (bank_row i).writable l he hb r.writable)))

module _ (x : World) (a : Access) (h : Words x.state) (t : a.target ≡ 0) (f : 0x4000 ≤ a.offset) (d : status_at x a ≡ 0) (l : bit 0 a.enables ≡ false) where
  aim_off : is_aim x a ≡ false
  unfolding is_aim
  aim_off = simp (l, and-false)

  data_off : is_data x a ≡ false
  unfolding is_data
  data_off = simp (l, and-false)

  row_of : (i : ℕ) → (reach_at (place_of x.state a)).row ≡ some i → OfByte i
  row_of i e = ramdac_row x.state a t f i ((names (place_of x.state a)).row i e)

  none_fixed : (i once e : ℕ) → OfByte i → fixed_by once i e ≡ none
  unfolding fixed_by
  none_fixed i once e r = simp r.plain

  stores_none : StoresNone x a
  stores_none =
      record {
        bits = λ i e w. none_moved i (row_of i e) a.enables a.word l (enables_lt x.state _ _ a d) x.state.once;
        flags = λ i e w. none_fixed i x.state.once a.enables (row_of i e);
        aim = aim_off;
        paint = data_off;
        bytes = λ w. ramdac_plain x.state a t f;
      }

  -- ---- what it answers

  module _ (g : Good x) where
    sound : IsState x.state
    sound = (clauses x.state h).0 g.state

    -- nothing above lane 0 is seen as known
    register_high : (i b : ℕ) → OfByte i → 8 ≤ b → b < 32 → bit b (get_or x.state.knowns i 0) ≡ false
    unfolding free_bit
    register_high i b r lo hi =
        (sound.registers i b r.there hi).fixed_known (simp (r.plain, bit_high 8 b (bank_row i).writable lo r.writable, r.clears, bit_of_zero b))
        ∙ bit_high 8 b (bank_row i).known lo r.known

    high_at : (p : Place) → place_of x.state a ≡ p → (b : ℕ) → 8 ≤ b → b < 32 → bit b ((port_at x.state a p).seen x.memory).known ≡ false
    unfolding port_at
    high_at (Register i) e b lo hi = register_high i b (ramdac_row x.state a t f i e) lo hi
    high_at Address e b lo hi = (sound.address b hi).fixed_known (bit_high 8 b 0xFF lo (omega arith))
    high_at PaletteData e b lo hi = part (entry_of x.state.palette x.state.dac.address)
      where
        part : (o : Option Colour) → bit b (seen_part (wide x.state) x.state.dac.component o).known ≡ false
        part none = bit_of_zero b
        part (some c) = bit_high 8 b 0xFF lo (omega arith)
    high_at (Window i) e b lo hi = absurd (window_not x.state a t f i (leads_window x.state a i e))
    high_at Blank e b lo hi = absurd (blank_not x.state a t f (leads_blank x.state a e))
    high_at Nowhere e b lo hi = bit_of_zero b

    nothing_known : (step x a).answer.known ≡ 0
    unfolding known_in port_of
    nothing_known =
        by_test (is_write a)
        (λ w. (write_answers x a w).1)
        (λ w.
        answer_known x a (record { read = w; done = d })
        ∙ no_bits 32 _ (let z = inside_le (sees x a).known (lanes_of a.enables) in let y = lanes_lt a.enables in omega arith) (λ b hb.
        bit_inside b (sees x a).known (lanes_of a.enables) ∙ at_bit b hb))
      where
        at_bit : (b : ℕ) → b < 32 → (bit b (sees x a).known && bit b (lanes_of a.enables)) ≡ false
        at_bit b hb =
            by_test (ltb b 8)
            (λ q.
            let z = ltb-true b 8 q in
            let k : b / 8 ≡ 0 = omega arith in
            simp (lane_bit b a.enables hb (enables_lt x.state _ _ a d), k, l) (and-false (bit b (sees x a).known)))
            (λ q. simp (high_at (place_of x.state a) refl b (ltb-false b 8 q) hb))

    nothing_shown : (step x a).answer.word ≡ 0
    unfolding word_in
    nothing_shown =
        by_test (is_write a)
        (λ w. (write_answers x a w).0)
        (λ w.
        let q : Seeing x a = record { read = w; done = d } in
        let z = inside_le (sees x a).value (known_in (sees x a) a.enables) in
        let y = answer_known x a q in
        let v = answer_word x a q in
        omega (arith, nothing_known))

    pub idle : Idle x a
    idle = idle_by x a h stores_none nothing_shown nothing_known
