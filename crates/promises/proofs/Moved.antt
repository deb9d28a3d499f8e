-- What a register write stores lies in what a write may change, and what it stores of the subsystem numbers is fixed afterwards.
-- Bit by bit; the halves of the subsystem numbers by one computed test. Assumes nothing.
use Prim.Native.Nat.{ℕ, ◌+◌, ◌/◌, ◌^◌, ◌<◌}
use mathlib.Core.Bool.{Bool, true, false, not, ◌&&◌, ◌||◌, beq}
use mathlib.Core.Path.{◌≡◌, refl, sym, ap, ◌∙◌}
use native.Mathlib.Omega.{arith}
use lib.Bits.{or_lt}
use Rattle.bits.specs.Choose.{pick, every_to}
use Rattle.bits.specs.Bit.{bit}
use Rattle.bits.specs.Word.{outside, joined, lanes_of}
use Rattle.bits.proofs.Cases.{pick_by}
use Rattle.bits.proofs.Bools.{every_at}
use Rattle.bits.proofs.Single.{no_bits}
use Rattle.bits.proofs.Words.{clear, clear_not, bit_inside, bit_joined, bit_outside, inside_lt_left, outside_lt, joined_lt, lanes_lt, beq_true}
use Rattle.chip.specs.Row.{Row}
use Rattle.chip.specs.Subsystem.{halves_of, half_bits, once_moved, once_after}
use Rattle.chip.specs.Register.{may_change, moved_bits}

-- ---- what a register write moves is what a write may change

moved_bit : (l w c x : Bool) → ((l && (w || (c && x))) && not (w || c)) ≡ false
moved_bit true true c x = refl
moved_bit true false true true = refl
moved_bit true false true false = refl
moved_bit true false false x = refl
moved_bit false w c x = refl

pub moved_lt : (r : Row) (e word : ℕ) → moved_bits r (lanes_of e) word < 2 ^ 32
unfolding moved_bits
moved_lt r e word = inside_lt_left _ _ (lanes_lt e)

pub moved_within : (r : Row) (lanes word : ℕ) → may_change r < 2 ^ 32 → outside (moved_bits r lanes word) (may_change r) ≡ 0
unfolding moved_bits may_change
moved_within r lanes word h =
    no_bits 32 _ (outside_lt _ _) (λ b hb.
    simp (bit_outside, bit_inside, bit_joined, clear_not b (joined r.writable r.clears) hb h)
    (moved_bit (bit b lanes) (bit b r.writable) (bit b r.clears) (bit b word)))

-- ---- the subsystem numbers

-- a half's bits, by one computed test
half_agrees : ℕ → ℕ → Bool
half_agrees n b = beq (bit b (half_bits n)) (bit (b / 16) n)

half_all : every_to (λ n. every_to (half_agrees n) 32) 4 ≡ true
unfolding half_agrees bit half_bits joined
half_all = refl

pub half_bit : (n b : ℕ) → n < 4 → b < 32 → bit b (half_bits n) ≡ bit (b / 16) n
unfolding half_agrees
half_bit n b hn hb = beq_true _ _ (every_at (half_agrees n) 32 b (every_at (λ n. every_to (half_agrees n) 32) 4 n half_all hn) hb)

pub half_lt : (n : ℕ) → n < 4 → half_bits n < 2 ^ 32
unfolding half_bits
half_lt n h =
    joined_lt _ _
    (pick_by (λ (k : ℕ). k < 2 ^ 32) (bit 0 n) 0xFFFF 0 (omega arith) (omega arith))
    (pick_by (λ (k : ℕ). k < 2 ^ 32) (bit 1 n) 0xFFFF0000 0 (omega arith) (omega arith))

pub halves_lt : (e : ℕ) → halves_of e < 4
unfolding halves_of
halves_lt e =
    pick_by (λ (k : ℕ). k + pick (bit 2 e && bit 3 e) 2 0 < 4) (bit 0 e && bit 1 e) 1 0
    (pick_by (λ (k : ℕ). 1 + k < 4) (bit 2 e && bit 3 e) 2 0 (omega arith) (omega arith))
    (pick_by (λ (k : ℕ). 0 + k < 4) (bit 2 e && bit 3 e) 2 0 (omega arith) (omega arith))

pub once_lt : (o e : ℕ) → o < 4 → once_after o e < 4
unfolding once_after joined
once_lt o e h = or_lt 2 o (halves_of e) h (halves_lt e)

-- what a write stores of the subsystem numbers is fixed after it, and what was fixed stays so
once_bit : (h o : Bool) → ((h && not o) && not (o || h)) ≡ false
once_bit true true = refl
once_bit true false = refl
once_bit false o = refl

pub once_within : (o e : ℕ) → o < 4 → outside (once_moved o e) (half_bits (once_after o e)) ≡ 0
unfolding once_moved once_after
once_within o e h =
    no_bits 32 _ (outside_lt _ _) (λ b hb.
    simp (
      bit_outside,
      clear_not b (half_bits (joined o (halves_of e))) hb (half_lt _ (once_lt o e h)),
      clear_not b (half_bits o) hb (half_lt o h),
      half_bit (joined o (halves_of e)) b (once_lt o e h) hb,
      half_bit o b h hb,
      half_bit (halves_of e) b (halves_lt e) hb,
      bit_joined,
    )
    (once_bit (bit (b / 16) (halves_of e)) (bit (b / 16) o)))

pub once_clear : (o e b : ℕ) → o < 4 → b < 32 → clear b (half_bits o) ≡ false → clear b (half_bits (once_after o e)) ≡ false
unfolding once_after
once_clear o e b h hb t =
    clear_not b (half_bits (joined o (halves_of e))) hb (half_lt _ (once_lt o e h))
    ∙ ap not (half_bit (joined o (halves_of e)) b (once_lt o e h) hb ∙ bit_joined (b / 16) o (halves_of e))
    ∙ stays (bit (b / 16) o) (bit (b / 16) (halves_of e)) (ap not (sym (half_bit o b h hb)) ∙ sym (clear_not b (half_bits o) hb (half_lt o h)) ∙ t)
  where
    stays : (x y : Bool) → not x ≡ false → not (x || y) ≡ false
    stays true y e = refl
    stays false y e = cc

pub once_moved_lt : (o e : ℕ) → once_moved o e < 2 ^ 32
unfolding once_moved
once_moved_lt o e = outside_lt _ _
