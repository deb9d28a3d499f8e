-- Refusal 1 in 01's words: a state is one exactly where each of its clauses holds.
-- Clause by clause; a register's fault word is zero exactly where each of its bits is sound. Assumes nothing.
use Prim.Native.Nat.{ℕ, ◌+◌, ◌-◌, ◌/◌, ◌%◌, ◌^◌, ◌<◌, ◌≤◌}
use mathlib.Core.Bool.{Bool, true, false, not, ◌&&◌, or-true}
use mathlib.Core.Logic.{◌↔◌, inl, inr}
use mathlib.Core.Path.{◌≡◌, refl, sym, ap, ap₂, ◌∙◌, subst}
use native.Mathlib.Omega.{arith}
use borrow.Author.Tests.{eqb-true, eqb-false, eq-eqb, leb-true, le-leb}
use lib.Dec.{eqb, leb}
use lib.ListN.{get_or}
use Rattle.bits.specs.Bit.{bit, differs}
use Rattle.bits.specs.Word.{lane_byte}
use Rattle.bits.proofs.Cases.{by_test, pick_by}
use Rattle.std.specs.Cmp.{first_so, second_so}
use Rattle.bits.proofs.Bools.{or_second, every_at, every_all}
use Rattle.bits.proofs.Single.{bit_of_zero, by_bits}
use Rattle.bits.proofs.Words.{clear, clear_not, bit_joined}
use Rattle.bits.proofs.Lanes.{bit_lane, lane_lt, bit_high}
use Rattle.chip.specs.declared.State.{State}
use Rattle.chip.specs.Bank.{bank_count, bank_row, subsystem}
use Rattle.chip.specs.Subsystem.{half_bits, exempt}
use Rattle.chip.specs.Register.{may_change, faults}
use Rattle.chip.specs.Palette.{entry_count, is_stored, word_ok, entry_ok, palette_ok}
use Rattle.chip.specs.Sound.{panel_ok, memory_ok, component_ok, address_ok, once_ok, row_ok, bank_sound, is_state}
use Rattle.chip.proofs.Faults.{fault_parts, fault_none, faults_at, faults_none}
use Rattle.chip.proofs.Tables.{bank_rule}
use Rattle.promises.specs.Refusals.{Panel, Memory, SoundBit, free_bit, Flagged, SoundEntry, IsState, Words}
use Rattle.promises.proofs.Sane.{sane, is_state_lem}
use Rattle.promises.proofs.Moved.{half_bit, half_lt}

-- the parts of a bit's fault, each way
fixed : (x r w : Bool) → (differs x r && not w) ≡ false → w ≡ false → x ≡ r
fixed true true w e h = refl
fixed true false true e h = h
fixed true false false e h = e
fixed false true true e h = cc
fixed false true false e h = cc
fixed false false w e h = refl

fixed_back : (x r w : Bool) → (w ≡ false → x ≡ r) → (differs x r && not w) ≡ false
fixed_back true true w f = refl
fixed_back true false true f = refl
fixed_back true false false f = f refl
fixed_back false true true f = refl
fixed_back false true false f = sym (f refl)
fixed_back false false w f = refl

implies : (t c : Bool) → (t && not c) ≡ false → t ≡ true → c ≡ true
implies true true e h = refl
implies true false e h = cc
implies false true e h = refl
implies false false e h = h

implies_back : (t c : Bool) → (t ≡ true → c ≡ true) → (t && not c) ≡ false
implies_back true true f = refl
implies_back true false f = sym (f refl)
implies_back false c f = refl

contra : (t c : Bool) → (t && not c) ≡ false → c ≡ false → t ≡ false
contra true true e h = h
contra true false e h = e
contra false c e h = refl

contra_back : (t c : Bool) → (c ≡ false → t ≡ false) → (t && not c) ≡ false
contra_back true true f = refl
contra_back true false f = f refl
contra_back false c f = refl

-- ---- a register's fault word

abbrev Sound : (v k w r t b : ℕ) → Type 0
Sound v k w r t b = SoundBit (bit b v) (bit b k) (bit b w) (bit b r) (bit b t)

module _ (v k w r t : ℕ) (hk : k < 2 ^ 32) (hw : w < 2 ^ 32) where
  sound_of : faults v k w r t ≡ 0 → (b : ℕ) → b < 32 → Sound v k w r t b
  sound_of e b hb =
      let p = fault_parts (bit b v) (bit b k) (clear b k) (clear b w) (bit b r) (bit b t) (faults_at b v k w r t e) in
      record {
        fixed_value = fixed (bit b v) (bit b r) (bit b w) (rw (clear_not b w hb hw) at p.value);
        fixed_known = fixed (bit b k) (bit b t) (bit b w) (rw (clear_not b w hb hw) at p.known);
        stated = implies (bit b t) (bit b k) (rw (clear_not b k hb hk) at p.stated);
        zero = contra (bit b v) (bit b k) (rw (clear_not b k hb hk) at p.zero);
      }

  of_sound : ((b : ℕ) → b < 32 → Sound v k w r t b) → faults v k w r t ≡ 0
  of_sound f =
      faults_none v k w r t (λ b hb.
      fault_none (bit b v) (bit b k) (clear b k) (clear b w) (bit b r) (bit b t)
      (record {
        value = rw (clear_not b w hb hw) (fixed_back (bit b v) (bit b r) (bit b w) (f b hb).fixed_value);
        known = rw (clear_not b w hb hw) (fixed_back (bit b k) (bit b t) (bit b w) (f b hb).fixed_known);
        stated = rw (clear_not b k hb hk) (implies_back (bit b t) (bit b k) (f b hb).stated);
        zero = rw (clear_not b k hb hk) (contra_back (bit b v) (bit b k) (f b hb).zero);
      }))

-- ---- what a write may change

exempt_bit : (once i b : ℕ) → once < 4 → b < 32 → bit b (exempt once i) ≡ free_bit once i b
unfolding exempt free_bit may_change
exempt_bit once i b ho hb = by_test (eqb i subsystem) (λ t. simp t (half_bit once b ho hb)) (λ t. simp (t, bit_joined))

exempt_lt : (once i : ℕ) → once < 4 → i < bank_count → exempt once i < 2 ^ 32
unfolding exempt
exempt_lt once i ho hi = pick_by (λ (k : ℕ). k < 2 ^ 32) (eqb i subsystem) (half_bits once) (may_change (bank_row i)) (half_lt once ho) (bank_rule i hi).bits

-- ---- a palette entry

-- bit 24 and those above it are the bits of the top byte
top_bit : (b w : ℕ) → 24 ≤ b → b < 32 → bit b w ≡ bit (b - 24) (lane_byte 3 w)
top_bit b w l h =
    bit_lane b w ∙ ap₂ (λ (j r : ℕ). bit r (lane_byte j w)) (let e : b / 8 ≡ 3 = omega arith in e) (let e : b % 8 ≡ b - 24 = omega arith in e)

one_bit : (k : ℕ) → 0 < k → bit k 1 ≡ false
one_bit k h = bit_high 1 k 1 h (omega arith)

one_low : bit 0 1 ≡ true
unfolding bit
one_low = refl

flagged_of : (w : ℕ) → is_stored w ≡ true → Flagged w
unfolding is_stored lane_byte
flagged_of w t =
    let z : w / 0x1000000 ≡ 1 = eqb-true (w / 0x1000000) 1 t in
    let e : lane_byte 3 w ≡ 1 = omega (arith, z) in
    record {
      flag = top_bit 24 w (omega arith) (omega arith) ∙ ap (bit 0) e ∙ one_low;
      alone = λ b l h. top_bit b w (omega arith) h ∙ ap (bit (b - 24)) e ∙ one_bit (b - 24) (omega arith);
    }

of_flagged : (w : ℕ) → w < 2 ^ 32 → Flagged w → is_stored w ≡ true
unfolding is_stored lane_byte
of_flagged w hw f =
    let e : lane_byte 3 w ≡ w / 0x1000000 = omega (arith, hw) in
    eq-eqb (w / 0x1000000) 1
    (sym e ∙ by_bits 8 (lane_byte 3 w) 1 (lane_lt 3 w) (omega arith) (λ k h.
    let z : k + 24 - 24 ≡ k = omega arith in
    ap (λ (n : ℕ). bit n (lane_byte 3 w)) (sym z)
    ∙ sym (top_bit (k + 24) w (omega arith) (omega arith))
    ∙ by_test (eqb k 0)
    (λ q. let y : k ≡ 0 = eqb-true k 0 q in rw y (f.flag ∙ sym one_low))
    (λ q. let y : k ≡ 0 → ⊥ = eqb-false k 0 q in f.alone (k + 24) (omega arith) (omega arith) ∙ sym (one_bit k (omega arith)))))

word_sound : (w : ℕ) → word_ok w ≡ true → SoundEntry w
unfolding word_ok
word_sound w t = by_test (is_stored w) (λ z. inr (flagged_of w z)) (λ z. inl (eqb-true w 0 (or_second (is_stored w) (eqb w 0) z t)))

sound_word : (w : ℕ) → w < 2 ^ 32 → SoundEntry w → word_ok w ≡ true
unfolding word_ok
sound_word w h (inl z) = simp (eq-eqb w 0 z) (or-true (is_stored w))
sound_word w h (inr f) = simp (of_flagged w h f)

-- ---- the limits

pub panel_of : (w h : ℕ) → panel_ok w h ≡ true → Panel w h
unfolding panel_ok
panel_of w h e =
    let p = first_so (leb 1 w && leb w 1024) _ e in
    let q = second_so (leb 1 w && leb w 1024) _ e in
    record {
      wide = (leb-true 1 w (first_so (leb 1 w) _ p), leb-true w 1024 (second_so (leb 1 w) _ p));
      high = (leb-true 1 h (first_so (leb 1 h) _ q), leb-true h 1024 (second_so (leb 1 h) _ q));
    }

pub of_panel : (w h : ℕ) → Panel w h → panel_ok w h ≡ true
unfolding panel_ok
of_panel w h f = simp (le-leb 1 w f.wide.0, le-leb w 1024 f.wide.1, le-leb 1 h f.high.0, le-leb h 1024 f.high.1)

pub memory_of : (n : ℕ) → memory_ok n ≡ true → Memory n
unfolding memory_ok
memory_of n e =
    let m = second_so (eqb (n % 8) 0) _ e in
    record {
      eights = eqb-true (n % 8) 0 (first_so (eqb (n % 8) 0) _ e);
      bytes = (leb-true 8 n (first_so (leb 8 n) _ m), leb-true n 8388608 (second_so (leb 8 n) _ m));
    }

pub of_memory : (n : ℕ) → Memory n → memory_ok n ≡ true
unfolding memory_ok
of_memory n f = simp (eq-eqb (n % 8) 0 f.eights, le-leb 8 n f.bytes.0, le-leb n 8388608 f.bytes.1)

-- ---- the whole

module _ (s : State) (h : Words s) where
  is_sound : is_state s ≡ true → IsState s
  unfolding component_ok address_ok once_ok bank_sound row_ok palette_ok entry_ok
  is_sound e =
      let f = sane s e in
      let ho : s.once ≤ 3 = leb-true s.once 3 f.once in
      record {
        panel = panel_of s.width s.height f.panel;
        fitted = memory_of s.fitted f.memory;
        component = leb-true _ 2 f.component;
        registers = λ i b hi hb.
            rw (← exempt_bit s.once i b (omega arith) hb)
            (sound_of (get_or s.values i 0) (get_or s.knowns i 0) (exempt s.once i) (bank_row i).reset (bank_row i).known (h.knowns i) (exempt_lt s.once i (omega arith) hi)
            (eqb-true _ 0 (every_at (row_ok s.once s.values s.knowns) bank_count i f.bank hi)) b hb);
        address = λ b hb.
            subst (λ (z : Bool). SoundBit (bit b s.dac.address) (bit b s.dac.known) (bit b 0xFF) z z) (bit_of_zero b)
            (sound_of s.dac.address s.dac.known 0xFF 0 0 h.address (omega arith) (eqb-true _ 0 f.address) b hb);
        flags = ho;
        palette = λ i hi. word_sound _ (every_at (entry_ok s.palette) entry_count i f.palette hi);
      }

  sound_is : IsState s → is_state s ≡ true
  unfolding component_ok address_ok once_ok bank_sound row_ok palette_ok entry_ok
  sound_is f =
      let ho = f.flags in
      is_state_lem s (record {
        panel = of_panel s.width s.height f.panel;
        memory = of_memory s.fitted f.fitted;
        component = le-leb _ 2 f.component;
        address =
            eq-eqb _ 0
            (of_sound s.dac.address s.dac.known 0xFF 0 0 h.address (omega arith) (λ b hb.
            subst (λ (z : Bool). SoundBit (bit b s.dac.address) (bit b s.dac.known) (bit b 0xFF) z z) (sym (bit_of_zero b)) (f.address b hb)));
        once = le-leb _ 3 ho;
        bank =
            every_all _ bank_count (λ i hi.
            eq-eqb _ 0
            (of_sound (get_or s.values i 0) (get_or s.knowns i 0) (exempt s.once i) (bank_row i).reset (bank_row i).known (h.knowns i) (exempt_lt s.once i (omega arith) hi)
            (λ b hb. rw (exempt_bit s.once i b (omega arith) hb) (f.registers i b hi hb))));
        palette = every_all _ entry_count (λ i hi. sound_word _ (h.palette i) (f.palette i hi));
      })

  pub clauses : (is_state s ≡ true) ↔ IsState s
  clauses = (is_sound, sound_is)
