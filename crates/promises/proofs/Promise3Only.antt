-- Promise 3. What an access alters, and that it alters nothing else; a word is zero where it is not known, and shows nothing in lanes that are not enabled; a write answers 0 and 0.
-- From the laws of Only and Answers. Assumes nothing.
use Prim.Native.Nat.{ℕ, ◌+◌, ◌*◌, ◌/◌, ◌^◌, ◌≤◌, ◌<◌}
use mathlib.Core.Bool.{Bool, true, false, not, ◌&&◌, ◌||◌, and-false, and-true, or-false}
use mathlib.Core.Option
use mathlib.Core.Option.{Option, none, some}
use mathlib.Core.List.{List, [], ◌∷◌}
use mathlib.Core.Logic.{◌↔◌}
use mathlib.Core.Path.{◌≡◌, refl, sym, ap, ◌∙◌}
use native.Mathlib.Omega.{arith}
use borrow.Author.Tests.{ne_eqb}
use lib.ListN.{get_or, length}
use Rattle.bits.specs.Choose.{pick, every_to}
use Rattle.bits.specs.Bit.{bit}
use Rattle.bits.specs.Word.{lane_byte}
use Rattle.bits.proofs.Bools.{every_at}
use Rattle.chip.specs.declared.Access.{Access}
use Rattle.chip.specs.Bank.{bank_row, subsystem}
use Rattle.chip.specs.Palette.{entry_count, entry_of}
use Rattle.chip.specs.Access.{is_write}
use Rattle.chip.proofs.Computed.{computed}
use Rattle.chip.specs.declared.Place.TheVariants.{Register, Blank}
use Rattle.chip.specs.Trace.{World, step, after, run}
use Rattle.promises.specs.Good.{Sizes, Good, status_at}
use Rattle.promises.specs.History.{Spot, spot, Real, holds, is_data, is_aim}
use Rattle.promises.specs.Frame.{bit_moves, writes_row, moves, Moves, brought_bit, fixes, fixed_in, SameBit, Unstaged, Aimed, Advanced, Stages, completes, made_colour, byte_put}
use Rattle.promises.specs.Width.{stored_byte}
use Rattle.promises.specs.Places.{Leads}
use Rattle.promises.specs.Loads.{disturbs, Disturbs}
use Rattle.promises.specs.Refusals.{Words}
use Rattle.promises.specs.View.{LeavesRest, Idle}
use Rattle.promises.proofs.Worlds.{sizes_kept, good_kept}
use Rattle.promises.proofs.Moves.{bit_step, same_bit, flag_step}
use Rattle.promises.proofs.MemoryBytes.{byte_step, same_byte}
use Rattle.promises.proofs.Only.{entry_after, aim_after, data_after, stages_after, drops_after, calm_after}
use Rattle.promises.proofs.Places.{leads_place}
use Rattle.promises.proofs.Meant.{moves_meant, disturbs_meant}
use Rattle.promises.proofs.Idle.{blank_idle, vain_idle}
use Rattle.promises.proofs.Lane0.{idle}
use Rattle.promises.proofs.Answers.{answers_fit, unknown_zero, lane_off, write_answers, read_leaves}

-- the subsystem numbers are a row of 32 bits, none of which a one clears
number : (b : ℕ) → b < 32 → Real (spot subsystem b)
number b h = record { row = omega arith; bit = h }

uncleared : ℕ → Bool
uncleared b = not (bit b (bank_row subsystem).clears)

uncleared_all : every_to uncleared 32 ≡ true
unfolding uncleared computed
uncleared_all = refl

never_cleared : (b : ℕ) → b < 32 → not (bit b (bank_row subsystem).clears) ≡ true
unfolding uncleared
never_cleared b h = every_at uncleared 32 b uncleared_all h

-- what moves a bit, and what disturbs a load, in 01's words: an accepted write that leads to the register and reaches the bit; an accepted read or write with lane 0 that
-- leads to palette data, or a write that sets an address. Nothing else does: no refused access, no look, none without lane 0, no read of the address, no other register
pub moves_mean : (x : World) (a : Access) (q : Spot) → (moves x a q ≡ true) ↔ Moves x a q
moves_mean = moves_meant

pub disturbs_means : (x : World) (a : Access) → (disturbs x a ≡ true) ↔ Disturbs x a
disturbs_means = disturbs_meant

module _ (x : World) (a : Access) (g : Good x) where
  -- a register's bit that it moves is known, with the word's bit, or zero where a one clears ..
  pub bits_move : (q : Spot) → Real q → moves x a q ≡ true → holds (after x a).state q ≡ some (brought_bit q a)
  bits_move q r e =
      bit_step q r x a g ∙ ap (λ (t : Bool). Option.get_or (pick t (some (some (brought_bit q a))) none) (holds x.state q)) e

  -- .. and every other is as before, in value and in being known
  pub bits_stay : (q : Spot) → Real q → moves x a q ≡ false → SameBit x.state (after x a).state q
  bits_stay q = same_bit x a q g

  -- the flags of the subsystem numbers: an accepted write of 2Ch with both lanes of a number sets its flag, and nothing else alters one
  pub flags_move : (n : ℕ) → n < 2 → bit n (after x a).state.once ≡ (bit n x.state.once || fixes x a n)
  flags_move = flag_step x a

  -- a number that is fixed stays, whatever is written
  pub number_stays : (b : ℕ) → b < 32 → bit (b / 16) x.state.once ≡ true → SameBit x.state (after x a).state (spot subsystem b)
  unfolding moves bit_moves
  number_stays b hb f = bits_stay (spot subsystem b) (number b hb) (simp (f, and-false))

  -- one that is not takes the word's bits with both of its lanes, and stays with one
  pub number_fixed : (b : ℕ) → b < 32 → bit (b / 16) x.state.once ≡ false → fixes x a (b / 16) ≡ true
      → holds (after x a).state (spot subsystem b) ≡ some (bit b a.word)
  unfolding moves bit_moves fixes brought_bit
  number_fixed b hb f e = bits_move (spot subsystem b) (number b hb) (simp f e) ∙ ap some (simp (never_cleared b hb, and-true))

  pub number_waits : (b : ℕ) → b < 32 → fixes x a (b / 16) ≡ false → SameBit x.state (after x a).state (spot subsystem b)
  unfolding moves bit_moves fixes
  number_waits b hb e = bits_stay (spot subsystem b) (number b hb) (under (bit (b / 16) x.state.once) (writes_row x a subsystem) (bit (2 * (b / 16)) a.enables && bit (2 * (b / 16) + 1) a.enables) e)
    where
      under : (o w l : Bool) → (w && l) ≡ false → (w && (not o && l)) ≡ false
      under true true l e = refl
      under true false l e = refl
      under false w l e = e

  -- a palette entry that it completes takes the colour made, and every other is as before
  pub entries_move : (e : ℕ) → e < entry_count
      → entry_of (after x a).state.palette e ≡ pick (completes x a e) (some (made_colour x.state a)) (entry_of x.state.palette e)
  entries_move e = entry_after x a e g

  -- a memory byte that it stores has its lane's byte, and every other is as before
  pub bytes_move : (k v : ℕ) → k < length x.memory → byte_put k x a ≡ some v → get_or (after x a).memory k 0 ≡ v
  bytes_move k v h e = byte_step k x a h ∙ ap (λ (o : Option ℕ). Option.get_or o (get_or x.memory k 0)) e

  pub bytes_stay : (k : ℕ) → byte_put k x a ≡ none → get_or (after x a).memory k 0 ≡ get_or x.memory k 0
  bytes_stay k = same_byte x a k

  -- setting the address sets address and component, and drops what is staged; each palette data access with lane 0 advances by one, read or written
  pub address_sets : is_aim x a ≡ true → Aimed (after x a).state.dac (lane_byte 0 a.word)
  address_sets = aim_after x a

  pub data_advances : is_data x a ≡ true → Advanced x.state.dac (after x a).state.dac
  data_advances = data_after x a g

  -- what is staged after a palette data write, and that nothing is after a read
  pub data_stages : is_data x a ≡ true → is_write a ≡ true → Stages x.state.dac (after x a).state.dac (stored_byte x.state (lane_byte 0 a.word))
  data_stages = stages_after x a

  pub data_read_drops : is_data x a ≡ true → is_write a ≡ false → Unstaged (after x a).state.dac
  data_read_drops = drops_after x a

  -- no other access alters the address, the component or what is staged
  pub pointer_stays : disturbs x a ≡ false → (after x a).state.dac ≡ x.state.dac
  pointer_stays = calm_after x a

-- so a number is fixed after a list of accesses exactly where it was before, or an access of the list fixes it
pub flags_along : (x : World) (l : List Access) (n : ℕ) → n < 2 → Good x → bit n (run x l).state.once ≡ (bit n x.state.once || fixed_in x l n)
flags_along x [] n h g = sym (or-false (bit n x.state.once))
flags_along x (a ∷ l) n h g =
    flags_along (after x a) l n h (good_kept x a g)
    ∙ ap (λ (t : Bool). t || fixed_in (after x a) l n) (flags_move x a g n h)
    ∙ or_assoc (bit n x.state.once) (fixes x a n) (fixed_in (after x a) l n)
  where
    or_assoc : (p q r : Bool) → ((p || q) || r) ≡ (p || (q || r))
    or_assoc true q r = refl
    or_assoc false q r = refl

-- an accepted write alters nothing at an offset of the header without a register, and in a register that no write may change (the subsystem numbers apart)
pub blank_ignores : (x : World) (a : Access) → Words x.state → is_write a ≡ true → Leads x.state a Blank → Idle x a
blank_ignores x a k w d = blank_idle x a k w (leads_place x.state a Blank d)

pub written_in_vain : (x : World) (a : Access) → Words x.state → is_write a ≡ true → (i : ℕ) → Leads x.state a (Register i) → (i ≡ subsystem → ⊥)
    → (bank_row i).writable ≡ 0 → (bank_row i).clears ≡ 0 → Idle x a
written_in_vain x a k w i d s v c = vain_idle x a k w i (leads_place x.state a (Register i) d) (ne_eqb i subsystem s) v c

-- without lane 0 a RAMDAC access (region 0 from 4000h on) that is not refused alters nothing, and answers word 0 and known 0
pub without_lane_0 : (x : World) (a : Access) → Good x → Words x.state → a.target ≡ 0 → 0x4000 ≤ a.offset → status_at x a ≡ 0 → bit 0 a.enables ≡ false → Idle x a
without_lane_0 x a g k t f d l = idle x a k t f d l g

-- no access changes the panel or the memory's length
pub sizes_stay : (x : World) (a : Access) → Sizes x.state (after x a).state
sizes_stay = sizes_kept

-- what is no write alters nothing but the palette's address, component and stage, and a look not even these (Promise9Looks)
pub reads_leave : (x : World) (a : Access) → is_write a ≡ false → LeavesRest x (after x a)
reads_leave = read_leaves

-- a bit of the word is zero where it is not known
pub zero_where_unknown : (x : World) (a : Access) (b : ℕ) → bit b (step x a).answer.known ≡ false → bit b (step x a).answer.word ≡ false
zero_where_unknown = unknown_zero

-- a lane that is not enabled is unknown, and so zero
pub nothing_in_other_lanes : (x : World) (a : Access) (b : ℕ) → b < 32 → bit (b / 8) a.enables ≡ false → bit b (step x a).answer.known ≡ false
nothing_in_other_lanes = lane_off

-- a write answers word 0 and known mask 0
pub writes_answer_zero : (x : World) (a : Access) → is_write a ≡ true → ((step x a).answer.word ≡ 0) × ((step x a).answer.known ≡ 0)
writes_answer_zero = write_answers

-- and both are words
pub answers_are_words : (x : World) (a : Access) → ((step x a).answer.word < 2 ^ 32) × ((step x a).answer.known < 2 ^ 32)
answers_are_words = answers_fit
