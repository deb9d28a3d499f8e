-- What an access makes of a register's bit: an accepted write that moves it brings the word's bit, or zero where a one clears; any other leaves it.
-- What a write stores, bit by bit, is what Frame says that it moves; the halves of the subsystem numbers by one computed test. Assumes nothing.
use Prim.Native.Nat.{ℕ, ◌+◌, ◌*◌, ◌/◌, ◌^◌, ◌<◌}
use mathlib.Core.Bool.{Bool, true, false, not, ◌&&◌, ◌||◌, beq, or-false}
use mathlib.Core.Option.{Option, none, some, get_or}
use mathlib.Core.Path.{◌≡◌, refl, sym, ap, ap₂, ◌∙◌}
use native.Mathlib.Omega.{arith}
use borrow.Author.Tests.{eqb-true}
use lib.Bits.{or_add_and, and_le_l}
use lib.Dec.{eqb}
use Rattle.bits.specs.Choose.{pick, every_to}
use Rattle.bits.specs.Bit.{bit}
use Rattle.bits.specs.Word.{joined}
use Rattle.bits.proofs.Cases.{by_test}
use Rattle.std.specs.Cmp.{first_so}
use Rattle.bits.proofs.Bools.{every_at}
use Rattle.bits.proofs.Words.{clear_not, bit_inside, bit_joined, bit_outside, lane_bit, beq_true}
use Rattle.chip.specs.declared.State.{State}
use Rattle.chip.specs.declared.Access.{Access}
use Rattle.chip.specs.Row.{Row}
use Rattle.chip.specs.Bank.{bank_row, subsystem}
use Rattle.chip.specs.Subsystem.{halves_of, half_bits, once_moved, once_after, fixed_by, stored_bits}
use Rattle.chip.specs.Register.{may_change, moved_bits, brought_word}
use Rattle.chip.specs.Patch.{applied}
use Rattle.chip.specs.Place.{place_of}
use Rattle.chip.specs.Port.{row_patch}
use Rattle.chip.specs.Access.{is_write}
use Rattle.chip.specs.Trace.{World, after}
use Rattle.chip.proofs.Tables.{bank_rule}
use Rattle.promises.specs.Good.{Good, status_at}
use Rattle.promises.specs.Reach.{reach_at}
use Rattle.promises.specs.History.{accepted, Spot, Real, holds}
use Rattle.promises.specs.Frame.{bit_moves, is_row, writes_row, moves, fixes, brought_bit, SameBit}
use Rattle.promises.specs.Origin.{bit_put}
use Rattle.promises.proofs.Patches.{patch_at, puts_bit}
use Rattle.promises.proofs.Sane.{sane}
use Rattle.promises.proofs.Moved.{half_bit, half_lt, halves_lt}
use Rattle.promises.proofs.Does.{store_from, once_from, writes, does}
use Rattle.promises.proofs.Keeps.{once_lt_four}
use Rattle.promises.proofs.Worlds.{after_state}
use Rattle.promises.proofs.Contents.{spot_step, same_step}
use Rattle.promises.proofs.Shown.{enables_lt}

-- ---- the bits that a write stores

-- the halves that a write enables, by one computed test
halves_agree : ℕ → ℕ → Bool
halves_agree e n = beq (bit n (halves_of e)) (bit (2 * n) e && bit (2 * n + 1) e)

halves_all : every_to (λ e. every_to (halves_agree e) 2) 16 ≡ true
unfolding halves_agree bit halves_of
halves_all = refl

pub half_enabled : (e n : ℕ) → e < 16 → n < 2 → bit n (halves_of e) ≡ (bit (2 * n) e && bit (2 * n + 1) e)
unfolding halves_agree
half_enabled e n he hn = beq_true _ _ (every_at (halves_agree e) 2 n (every_at (λ e. every_to (halves_agree e) 2) 16 e halves_all he) hn)

turn : (x o : Bool) → (x && not o) ≡ (not o && x)
turn true true = refl
turn true false = refl
turn false true = refl
turn false false = refl

once_bit_is : (o e b : ℕ) → o < 4 → e < 16 → b < 32
    → bit b (once_moved o e) ≡ (not (bit (b / 16) o) && (bit (2 * (b / 16)) e && bit (2 * (b / 16) + 1) e))
unfolding once_moved
once_bit_is o e b ho he hb =
    bit_outside b (half_bits (halves_of e)) (half_bits o)
    ∙ ap₂ (λ (x y : Bool). x && y)
    (half_bit (halves_of e) b (halves_lt e) hb ∙ half_enabled e (b / 16) he (omega arith))
    (clear_not b (half_bits o) hb (half_lt o ho) ∙ ap not (half_bit o b ho hb))
    ∙ turn (bit (2 * (b / 16)) e && bit (2 * (b / 16) + 1) e) (bit (b / 16) o)

stored_bit : (s : State) (a : Access) (r b : ℕ) → s.once < 4 → a.enables < 16 → b < 32
    → bit b (stored_bits s.once r a.enables a.word) ≡ bit_moves s a r b
unfolding bit_moves stored_bits moved_bits
stored_bit s a r b ho he hb =
    by_test (eqb r subsystem)
    (λ t. simp t (once_bit_is s.once a.enables b ho he hb))
    (λ t. simp (t, bit_inside, bit_joined, lane_bit b a.enables hb he))

-- ---- what they take

-- the bits that a one clears are some of those that a write may change
clears_below : (r : Row) → may_change r < 2 ^ 32 → r.clears < 2 ^ 32
unfolding may_change joined
clears_below r h = omega (arith, or_add_and r.writable r.clears, and_le_l r.writable r.clears)

brought_is : (a : Access) (q : Spot) → Real q → bit q.b (brought_word (bank_row q.row) a.word) ≡ brought_bit q a
unfolding brought_word brought_bit
brought_is a q h =
    bit_outside q.b a.word (bank_row q.row).clears
    ∙ ap (λ (t : Bool). bit q.b a.word && t)
    (clear_not q.b (bank_row q.row).clears h.bit (clears_below (bank_row q.row) (bank_rule q.row h.row).bits))

row_told : (s : State) (a : Access) (i : Option ℕ) (q : Spot) → Real q → s.once < 4 → a.enables < 16
    → puts_bit q (store_from s a i) ≡ pick (is_row i q.row && bit_moves s a q.row q.b) (some (some (brought_bit q a))) none
unfolding puts_bit row_patch
row_told s a none q h ho he = refl
row_told s a (some i) q h ho he =
    by_test (eqb i q.row)
    (λ t. let d : i ≡ q.row = eqb-true i q.row t in
    rw (t, d, stored_bit s a q.row q.b ho he h.bit, brought_is a q h))
    (λ t. simp t)

no_store : (q : Spot) → puts_bit q none ≡ none
unfolding puts_bit
no_store q = refl

-- an accepted access has status 0
pub done : (x : World) (a : Access) → accepted x a ≡ true → status_at x a ≡ 0
unfolding accepted
done x a e = eqb-true (status_at x a) 0 e

-- what an access puts into a bit
pub bit_told : (x : World) (a : Access) (q : Spot) → Good x → Real q → puts_bit q (patch_at x a).store ≡ bit_put q x a
unfolding moves writes_row
bit_told x a q g h =
    ap (puts_bit q) (does x a).store
    ∙ by_test (writes x a)
    (λ t. simp t
    (row_told x.state a (reach_at (place_of x.state a)).row q h (once_lt_four x.state (sane x.state g.state))
    (enables_lt x.state _ _ a (done x a (first_so (accepted x a) (is_write a) t)))))
    (λ t. simp t (no_store q))

-- ---- a bit after an access

pub bit_step : (q : Spot) → Real q → (x : World) (a : Access) → Good x → holds (after x a).state q ≡ get_or (bit_put q x a) (holds x.state q)
bit_step q h x a g =
    spot_step q h x a g ∙ ap (λ (o : Option (Option Bool)). get_or o (holds x.state q)) (bit_told x a q g h)

pub same_bit : (x : World) (a : Access) (q : Spot) → Good x → Real q → moves x a q ≡ false → SameBit x.state (after x a).state q
same_bit x a q g h e = same_step q h x a g (bit_told x a q g h ∙ ap (λ (t : Bool). pick t (some (some (brought_bit q a))) none) e)

-- ---- the flags of the subsystem numbers

row_fixes : (s : State) (a : Access) (i : Option ℕ) (n : ℕ) → a.enables < 16 → n < 2
    → bit n (get_or (once_from s a i) s.once) ≡ (bit n s.once || (is_row i subsystem && (bit (2 * n) a.enables && bit (2 * n + 1) a.enables)))
unfolding row_patch fixed_by once_after
row_fixes s a none n he hn = sym (or-false (bit n s.once))
row_fixes s a (some i) n he hn =
    by_test (eqb i subsystem)
    (λ t. simp t (bit_joined n s.once (halves_of a.enables) ∙ ap (λ (u : Bool). bit n s.once || u) (half_enabled a.enables n he hn)))
    (λ t. simp t (sym (or-false (bit n s.once))))

pub flag_step : (x : World) (a : Access) (n : ℕ) → n < 2 → bit n (after x a).state.once ≡ (bit n x.state.once || fixes x a n)
unfolding applied fixes writes_row
flag_step x a n hn =
    ap (λ (s : State). bit n s.once) (after_state x a)
    ∙ ap (λ (o : Option ℕ). bit n (get_or o x.state.once)) (does x a).once
    ∙ by_test (writes x a)
    (λ t. simp t
    (row_fixes x.state a (reach_at (place_of x.state a)).row n (enables_lt x.state _ _ a (done x a (first_so (accepted x a) (is_write a) t))) hn))
    (λ t. simp t (sym (or-false (bit n x.state.once))))
