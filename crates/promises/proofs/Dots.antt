-- A dot's word says what 01's rules say, both ways.
-- Each test of the definitions is a clause of the rules, bit by bit; then by the first rule that applies. Assumes nothing.
use Prim.Native.Nat.{ℕ, ◌+◌, ◌*◌, ◌/◌, ◌%◌, ◌^◌, ◌-◌, ◌≤◌, ◌<◌}
use mathlib.Core.Bool.{Bool, true, false, not, ◌&&◌, beq}
use mathlib.Core.List.{List}
use mathlib.Core.Logic.{◌↔◌}
use mathlib.Core.Option.{Option, none, some}
use mathlib.Core.Path.{◌≡◌, refl, sym, ap, ap₂, ◌∙◌, subst}
use native.Mathlib.Nat.{mod-lt, mul_assoc}
use native.Mathlib.Omega.{arith}
use borrow.Author.Tests.{eqb-true, eq-eqb, ltb-true, lt-ltb, leb-true, le-leb, not-true, not-false}
use lib.Dec.{eqb, leb, ltb}
use lib.ListN.{get_or, length}
use Rattle.bits.specs.Choose.{pick, every_to}
use Rattle.bits.specs.Bit.{bit}
use Rattle.bits.specs.Word.{inside}
use Rattle.bits.proofs.Cases.{by_test}
use Rattle.std.specs.Cmp.{first_so, second_so}
use Rattle.bits.proofs.Bools.{every_at, clash}
use Rattle.std.proofs.lemmas.Nat.Bits.{bit_at_ones}
use Rattle.bits.proofs.Single.{by_bits}
use Rattle.bits.proofs.Words.{beq_true}
use Rattle.bits.proofs.Lanes.{bit_low, by_lane}
use Rattle.chip.specs.declared.State.{State}
use Rattle.chip.specs.declared.Colour.{Colour}
use Rattle.chip.specs.Bank.{bank_row, screen_base, screen_stride, pixel_mask, color_mode}
use Rattle.chip.specs.Palette.{Shades, colour_in, is_stored, entry_of}
use Rattle.chip.specs.View.{base_of, stride_of, mask_of, not_indexed, unplaced, fixed_of, view_of}
use Rattle.chip.specs.Picture.{row_start, dot_byte, ruled, beyond, colour_word, dot_entry, under_byte, under_at, laid_at, word_at, view_word, word_of}
use Rattle.chip.proofs.Computed.{computed}
use Rattle.chip.proofs.Entries.{coloured_back, shades_in}
use Rattle.promises.specs.Dots.{Indexed, Known, Placed, dot_at, entry_at, Ruled}
use Rattle.promises.proofs.Options.{some_is, absurd_put, picked}

-- ---- rule 1: five bits are 10h exactly where the first four are zero and the fifth is one

mode_test : ℕ → Bool
mode_test n = beq (eqb n 0x10) (not (bit 0 n) && (not (bit 1 n) && (not (bit 2 n) && (not (bit 3 n) && bit 4 n))))

mode_all : every_to mode_test 32 ≡ true
unfolding mode_test bit
mode_all = refl

mode_bits : (v : ℕ) → eqb (v % 32) 0x10 ≡ (not (bit 0 v) && (not (bit 1 v) && (not (bit 2 v) && (not (bit 3 v) && bit 4 v))))
unfolding mode_test
mode_bits v =
    beq_true _ _ (every_at mode_test 32 (v % 32) mode_all (omega arith))
    ∙ simp (bit_low 5 0 v (omega arith), bit_low 5 1 v (omega arith), bit_low 5 2 v (omega arith), bit_low 5 3 v (omega arith), bit_low 5 4 v (omega arith))

module _ (s : State) where
  abbrev mode : ℕ
  mode = get_or s.values color_mode 0

  indexed_of : not_indexed s.values ≡ false → Indexed s
  unfolding not_indexed
  indexed_of e =
      let t = sym (mode_bits mode) ∙ not-false (eqb (mode % 32) 0x10) e in
      let u = second_so (not (bit 0 mode)) _ t in
      let v = second_so (not (bit 1 mode)) _ u in
      let w = second_so (not (bit 2 mode)) _ v in
      record {
        format =
            by_lane (λ (b : ℕ). bit b mode ≡ false) (not-true (bit 0 mode) (first_so (not (bit 0 mode)) _ t)) (not-true (bit 1 mode) (first_so (not (bit 1 mode)) _ u))
            (not-true (bit 2 mode) (first_so (not (bit 2 mode)) _ v)) (not-true (bit 3 mode) (first_so (not (bit 3 mode)) _ w));
        gui = second_so (not (bit 3 mode)) _ w;
      }

  of_indexed : Indexed s → not_indexed s.values ≡ false
  unfolding not_indexed
  of_indexed f =
      simp (mode_bits mode, f.format 0 (omega arith), f.format 1 (omega arith), f.format 2 (omega arith), f.format 3 (omega arith), f.gui)

-- ---- rule 2: the low bits are all ones

-- w has ones in the j low bits, and nowhere else
mask_test : ℕ → ℕ → ℕ → Bool
mask_test w j b = beq (bit b w) (ltb b j)

ones : (j b : ℕ) → b < j → bit b (2 ^ j - 1) ≡ true
unfolding bit
ones j b h = ap (λ (n : ℕ). eqb n 1) (bit_at_ones j b h)

module _ (j : ℕ) (hj : j ≤ 32) (z : 0 < 2 ^ j) (s : State) (i : ℕ) (masked : every_to (mask_test (bank_row i).writable j) 32 ≡ true) where
  masks : (b : ℕ) → b < 32 → bit b (bank_row i).writable ≡ ltb b j
  unfolding mask_test
  masks b h = beq_true _ _ (every_at (mask_test (bank_row i).writable j) 32 b masked h)

  known_of : get_or s.knowns i 0 % 2 ^ j ≡ 2 ^ j - 1 → Known s i
  known_of e b h t =
      let l = ltb-true b j (sym (masks b h) ∙ t) in
      sym (bit_low j b (get_or s.knowns i 0) l) ∙ ap (bit b) e ∙ ones j b l

  of_known : Known s i → get_or s.knowns i 0 % 2 ^ j ≡ 2 ^ j - 1
  of_known f =
      by_bits j _ _ (mod-lt _ z) (omega arith)
      (λ b h. bit_low j b (get_or s.knowns i 0) h ∙ f b (omega arith) (masks b (omega arith) ∙ lt-ltb b j h) ∙ sym (ones j b h))

base_mask : every_to (mask_test (bank_row screen_base).writable 20) 32 ≡ true
unfolding mask_test computed
base_mask = refl

stride_mask : every_to (mask_test (bank_row screen_stride).writable 20) 32 ≡ true
unfolding mask_test computed
stride_mask = refl

pixel_mask_lem : every_to (mask_test (bank_row pixel_mask).writable 8) 32 ≡ true
unfolding mask_test computed
pixel_mask_lem = refl

placed_of : (s : State) → unplaced s.knowns ≡ false → Placed s
unfolding unplaced
placed_of s e =
    let t = not-false (eqb (get_or s.knowns screen_base 0 % 0x100000) 0xFFFFF && (eqb (get_or s.knowns screen_stride 0 % 0x100000) 0xFFFFF && eqb (get_or s.knowns pixel_mask 0 % 256) 0xFF)) e in
    let u = second_so (eqb (get_or s.knowns screen_base 0 % 0x100000) 0xFFFFF) _ t in
    record {
      base = known_of 20 (omega arith) (omega arith) s screen_base base_mask (eqb-true _ 0xFFFFF (first_so _ _ t));
      stride = known_of 20 (omega arith) (omega arith) s screen_stride stride_mask (eqb-true _ 0xFFFFF (first_so _ _ u));
      mask = known_of 8 (omega arith) (omega arith) s pixel_mask pixel_mask_lem (eqb-true _ 0xFF (second_so (eqb (get_or s.knowns screen_stride 0 % 0x100000) 0xFFFFF) _ u));
    }

of_placed : (s : State) → Placed s → unplaced s.knowns ≡ false
unfolding unplaced
of_placed s f =
    simp (
      eq-eqb _ 0xFFFFF (of_known 20 (omega arith) (omega arith) s screen_base base_mask f.base),
      eq-eqb _ 0xFFFFF (of_known 20 (omega arith) (omega arith) s screen_stride stride_mask f.stride),
      eq-eqb _ 0xFF (of_known 8 (omega arith) (omega arith) s pixel_mask pixel_mask_lem f.mask),
    )

-- ---- the first rule that applies

abbrev first_rule : Bool → Bool → Bool → Option Colour → ℕ
first_rule a b c o = pick a 0x03000000 (pick b 0x05000000 (pick c 0x02000000 (colour_word o)))

-- a colour's word is no other rule's, and one colour's alone
record Apart (r g b : ℕ) (w : ℕ) : Type 0 where
  above : 0x00FFFFFF < w
  below : w < 0x02000000

apart : (c : Colour) → Shades c → Apart c.red c.green c.blue (0x01000000 + c.red * 0x10000 + c.green * 0x100 + c.blue)
apart c f = record { above = omega arith; below = omega (arith, f.red, f.green, f.blue) }

same_colour : (c d : Colour) → Shades c → Shades d
    → 0x01000000 + c.red * 0x10000 + c.green * 0x100 + c.blue ≡ 0x01000000 + d.red * 0x10000 + d.green * 0x100 + d.blue → c ≡ d
same_colour c d f g e = sym (coloured_back c f) ∙ ap colour_in e ∙ coloured_back d g

-- a colour that a word holds is of bytes
pub entry_shades : (p : List ℕ) (e : ℕ) (c : Colour) → entry_of p e ≡ some c → Shades c
unfolding entry_of
entry_shades p e c k =
    let z = picked (is_stored (get_or p e 0)) (some (colour_in (get_or p e 0))) c k in
    subst Shades (some_is z.1) (shades_in (get_or p e 0))

-- the rules, from what each test means
module _ (s : State) (m : List ℕ) (i : ℕ) where
  by_rules : (a b c : Bool) (o : Option Colour)
      → ((a ≡ false) ↔ Indexed s) → ((b ≡ false) ↔ Placed s) → ((c ≡ true) ↔ (length m ≤ dot_at s i)) → entry_at s m i ≡ o
      → ((k : Colour) → o ≡ some k → Shades k) → Ruled s m i (first_rule a b c o)
  by_rules true b c o p q r e y =
      record {
        one = ((λ z f. clash true refl (p.1 f)), (λ f. refl));
        two = ((λ z. absurd (omega (arith, z))), (λ f. clash true refl (p.1 f.0)));
        three = ((λ z. absurd (omega (arith, z))), (λ f. clash true refl (p.1 f.0)));
        four = ((λ z. absurd (omega (arith, z))), (λ f. clash true refl (p.1 f.0)));
        five = λ k h. ((λ z. absurd (omega (arith, z, (apart k h).below))), (λ f. clash true refl (p.1 f.0)));
      }
  by_rules false true c o p q r e y =
      record {
        one = ((λ z. absurd (omega (arith, z))), (λ f. absurd (f (p.0 refl))));
        two = ((λ z. (p.0 refl, λ f. clash true refl (q.1 f))), (λ f. refl));
        three = ((λ z. absurd (omega (arith, z))), (λ f. clash true refl (q.1 f.1)));
        four = ((λ z. absurd (omega (arith, z))), (λ f. clash true refl (q.1 f.1)));
        five = λ k h. ((λ z. absurd (omega (arith, z, (apart k h).below))), (λ f. clash true refl (q.1 f.1)));
      }
  by_rules false false true o p q r e y =
      let far = r.0 refl in
      record {
        one = ((λ z. absurd (omega (arith, z))), (λ f. absurd (f (p.0 refl))));
        two = ((λ z. absurd (omega (arith, z))), (λ f. absurd (f.1 (q.0 refl))));
        three = ((λ z. (p.0 refl, q.0 refl, far)), (λ f. refl));
        four = ((λ z. absurd (omega (arith, z))), (λ f. absurd (omega (arith, far, f.2))));
        five = λ k h. ((λ z. absurd (omega (arith, z, (apart k h).below))), (λ f. absurd (omega (arith, far, f.2))));
      }
  by_rules false false false none p q r e y =
      let near : length m ≤ dot_at s i → ⊥ = λ f. clash false (r.1 f) refl in
      record {
        one = ((λ z. absurd (omega (arith, z))), (λ f. absurd (f (p.0 refl))));
        two = ((λ z. absurd (omega (arith, z))), (λ f. absurd (f.1 (q.0 refl))));
        three = ((λ z. absurd (omega (arith, z))), (λ f. absurd (near f.2)));
        four = ((λ z. (p.0 refl, q.0 refl, omega (arith, near), e)), (λ f. refl));
        five = λ k h. ((λ z. absurd (omega (arith, z, (apart k h).below))), (λ f. absurd_put (entry_at s m i) k e f.3));
      }
  by_rules false false false (some d) p q r e y =
      let near : length m ≤ dot_at s i → ⊥ = λ f. clash false (r.1 f) refl in
      let g = y d refl in
      record {
        one = ((λ z. absurd (omega (arith, z, (apart d g).below))), (λ f. absurd (f (p.0 refl))));
        two = ((λ z. absurd (omega (arith, z, (apart d g).below))), (λ f. absurd (f.1 (q.0 refl))));
        three = ((λ z. absurd (omega (arith, z, (apart d g).below))), (λ f. absurd (near f.2)));
        four = ((λ z. absurd (omega (arith, z, (apart d g).below))), (λ f. absurd_put (entry_at s m i) d f.3 e));
        five = λ k h. (
          (λ z. (p.0 refl, q.0 refl, omega (arith, near), e ∙ ap some (same_colour d k g h z))),
          (λ f. ap colour_word (sym e ∙ f.3)),
        );
      }

  -- the definitions' byte of the dot
  byte_is : (dot_byte (view_of s) (i % s.width) (i / s.width)).0 ≡ dot_at s i
  unfolding view_of dot_byte row_start base_of stride_of dot_at
  byte_is =
      let e : 8 * (get_or s.values screen_stride 0 % 0x100000) * (i / s.width) ≡ 8 * ((get_or s.values screen_stride 0 % 0x100000) * (i / s.width)) = mul_assoc 8 _ _ in
      omega (arith, e)

  entry_is : dot_entry (view_of s) m (dot_byte (view_of s) (i % s.width) (i / s.width)) ≡ entry_at s m i
  unfolding dot_entry view_of mask_of entry_at
  entry_is = ap (λ (k : ℕ). entry_of s.palette (inside (get_or m k 0) (get_or s.values pixel_mask 0 % 256))) byte_is

  fixed_is : (w : ℕ) → ruled (fixed_of s.values s.knowns) w ≡ pick (not_indexed s.values) 0x03000000 (pick (unplaced s.knowns) 0x05000000 w)
  unfolding fixed_of
  fixed_is w = by_test (not_indexed s.values) (λ a. simp a) (λ a. by_test (unplaced s.knowns) (λ b. simp (a, b)) (λ b. simp (a, b)))

  word_is : word_of s m i ≡ first_rule (not_indexed s.values) (unplaced s.knowns) (leb (length m) (dot_at s i)) (entry_at s m i)
  unfolding word_of view_word word_at laid_at under_at under_byte beyond view_of
  word_is =
      ap (ruled (fixed_of s.values s.knowns)) (ap₂ (λ (k : ℕ) (o : Option Colour). pick (leb (length m) k) 0x02000000 (colour_word o)) byte_is entry_is) ∙ fixed_is _

  pub rules : Ruled s m i (word_of s m i)
  unfolding entry_at
  rules =
      subst (Ruled s m i) (sym word_is)
      (by_rules (not_indexed s.values) (unplaced s.knowns) (leb (length m) (dot_at s i)) (entry_at s m i)
      (indexed_of s, of_indexed s) (placed_of s, of_placed s) (leb-true (length m) (dot_at s i), le-leb (length m) (dot_at s i)) refl
      (λ k e. entry_shades s.palette (inside (get_or m (dot_at s i) 0) (get_or s.values pixel_mask 0 % 256)) k e))
