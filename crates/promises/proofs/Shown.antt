-- What an answer shows, bit by bit: the bit of what the access sees, in an enabled lane, and nothing elsewhere.
-- From the definition of the answer and the laws of lanes; then by the place that the read leads to. Assumes nothing.
use Prim.Native.Nat.{ℕ, ◌+◌, ◌/◌, ◌%◌, ◌<◌}
use mathlib.Core.Bool.{Bool, true, false, ◌&&◌}
use mathlib.Core.Option.{Option, none, some}
use mathlib.Core.Path.{◌≡◌, refl, ap, ap₂, ◌∙◌}
use native.Mathlib.Omega.{arith}
use borrow.Author.Tests.{eq-eqb}
use lib.ListN.{get_or}
use Rattle.bits.specs.Choose.{pick, every_to}
use Rattle.bits.specs.Bit.{bit}
use Rattle.bits.specs.Word.{full}
use Rattle.bits.proofs.Bools.{every_at}
use Rattle.bits.proofs.Single.{bit_of_zero}
use Rattle.bits.proofs.Words.{bit_inside, lane_bit}
use Rattle.bits.proofs.Lanes.{bit_lane}
use Rattle.chip.specs.declared.State.{State}
use Rattle.chip.specs.declared.Access.{Access}
use Rattle.chip.specs.declared.Colour.{Colour}
use Rattle.chip.specs.declared.Seen.{Seen}
use Rattle.chip.specs.declared.Place.{Place}
use Rattle.chip.specs.declared.Place.TheVariants.{Register, Address, PaletteData, Window, Blank}
use Rattle.chip.specs.Palette.{entry_of}
use Rattle.chip.specs.Aperture.{word_from}
use Rattle.chip.specs.Units.{at_byte}
use Rattle.chip.specs.Place.{place_of}
use Rattle.chip.specs.Port.{seen_part, known_in, word_in, wide, port_at}
use Rattle.chip.specs.Refusal.{port_of, status_of}
use Rattle.chip.specs.Step.{settled, seen_by, done_by, given_by, step_of}
use Rattle.chip.specs.Trace.{World, step}
use Rattle.chip.proofs.Refusals.{unrefused}
use Rattle.chip.proofs.Lent.{lane_read}
use Rattle.promises.specs.Good.{Good, status_at}
use Rattle.promises.specs.Frame.{lane_at}
use Rattle.promises.specs.History.{Seeing, seen_bit, shows, part_bit, spot, holds}
use Rattle.promises.proofs.Widths.{shown_told}
use Rattle.promises.proofs.Pokes.{lane_told}

-- its enables name four lanes
pub enables_lt : (s : State) (ml pl : ℕ) (a : Access) → status_of s ml pl a ≡ 0 → a.enables < 16
enables_lt s ml pl a e = omega (arith, (unrefused s ml pl a e).enables)

-- an accepted access finds something at its place
pub found : (s : State) (ml pl : ℕ) (a : Access) → status_of s ml pl a ≡ 0 → (port_of s a).present ≡ true
found s ml pl a e = (unrefused s ml pl a e).present

-- what it sees
abbrev pub sees : World → Access → Seen
sees x a = (port_of x.state a).seen x.memory

pub answer_word : (x : World) (a : Access) → Seeing x a → (step x a).answer.word ≡ word_in (sees x a) a.enables
unfolding step_of given_by done_by settled seen_by
answer_word x a q = simp (eq-eqb (status_at x a) 0 q.done, q.read)

pub answer_known : (x : World) (a : Access) → Seeing x a → (step x a).answer.known ≡ known_in (sees x a) a.enables
unfolding step_of given_by done_by settled seen_by
answer_known x a q = simp (eq-eqb (status_at x a) 0 q.done, q.read)

seen_lane : (k v e : Bool) → seen_bit (k && e) (v && (k && e)) ≡ pick e (seen_bit k v) none
unfolding seen_bit
seen_lane true true true = refl
seen_lane true true false = refl
seen_lane true false true = refl
seen_lane true false false = refl
seen_lane false v true = refl
seen_lane false v false = refl

in_lanes : (s : Seen) (e b : ℕ) → e < 16 → b < 32
    → seen_bit (bit b (known_in s e)) (bit b (word_in s e)) ≡ pick (bit (b / 8) e) (seen_bit (bit b s.known) (bit b s.value)) none
unfolding known_in word_in
in_lanes s e b he hb =
    simp (bit_inside, lane_bit b e hb he) (seen_lane (bit b s.known) (bit b s.value) (bit (b / 8) e))

pub read_shows : (x : World) (a : Access) (b : ℕ) → Seeing x a → b < 32
    → shows (step x a).answer b ≡ pick (bit (b / 8) a.enables) (seen_bit (bit b (sees x a).known) (bit b (sees x a).value)) none
unfolding shows
read_shows x a b q hb =
    ap₂ (λ (k w : ℕ). seen_bit (bit b k) (bit b w)) (answer_known x a q) (answer_word x a q)
    ∙ in_lanes (sees x a) a.enables b (enables_lt x.state _ _ a q.done) hb

-- ---- by the place

-- every bit of a word is known
full_bits : ℕ → Bool
full_bits b = bit b full

full_all : every_to full_bits 32 ≡ true
unfolding full_bits bit
full_all = refl

pub full_bit : (b : ℕ) → b < 32 → bit b full ≡ true
unfolding full_bits
full_bit b h = every_at full_bits 32 b full_all h

none_part : (b : ℕ) → seen_bit (bit b 0) (bit b 0) ≡ none
unfolding seen_bit
none_part b = simp (bit_of_zero b)

module _ (x : World) (a : Access) (b : ℕ) (q : Seeing x a) (hb : b < 32) where
  -- what a read or a look shows at bit b, given what it sees there
  at_place : (p : Place) (o : Option Bool) → place_of x.state a ≡ p
      → seen_bit (bit b ((port_at x.state a p).seen x.memory).known) (bit b ((port_at x.state a p).seen x.memory).value) ≡ o
      → shows (step x a).answer b ≡ pick (bit (b / 8) a.enables) o none
  unfolding port_of
  at_place p o e r =
      read_shows x a b q hb
      ∙ ap (λ (y : Option Bool). pick (bit (b / 8) a.enables) y none)
      (ap
      (λ (z : Place).
      seen_bit (bit b ((port_at x.state a z).seen x.memory).known) (bit b ((port_at x.state a z).seen x.memory).value)) e
      ∙ r)

  pub shows_register : (r : ℕ) → place_of x.state a ≡ Register r
      → shows (step x a).answer b ≡ pick (bit (b / 8) a.enables) (holds x.state (spot r b)) none
  unfolding port_at holds
  shows_register r e = at_place (Register r) _ e refl

  -- an offset of the header without a register: zero, known
  pub shows_blank : place_of x.state a ≡ Blank → shows (step x a).answer b ≡ pick (bit (b / 8) a.enables) (some false) none
  unfolding port_at seen_bit
  shows_blank e = at_place Blank (some false) e (simp (full_bit b hb, bit_of_zero b))

  pub shows_address : place_of x.state a ≡ Address
      → shows (step x a).answer b
      ≡ pick (bit (b / 8) a.enables) (seen_bit (bit b x.state.dac.known) (bit b x.state.dac.address)) none
  unfolding port_at
  shows_address e = at_place Address _ e refl

  pub shows_palette : place_of x.state a ≡ PaletteData
      → shows (step x a).answer b
      ≡ pick (bit (b / 8) a.enables)
      (part_bit x.state x.state.dac.component b (entry_of x.state.palette x.state.dac.address)) none
  unfolding port_at part_bit
  shows_palette e = at_place PaletteData _ e (part (entry_of x.state.palette x.state.dac.address))
    where
      part : (o : Option Colour)
          → seen_bit (bit b (seen_part (wide x.state) x.state.dac.component o).known) (bit b (seen_part (wide x.state) x.state.dac.component o).value)
          ≡ part_bit x.state x.state.dac.component b o
      part none = none_part b
      part (some c) = ap (λ (v : ℕ). seen_bit (bit b 0xFF) (bit b v)) (shown_told x.state x.state.dac.component c)

  -- memory: the bit of the byte that exchanges with the bit's lane
  pub shows_memory : Good x → (i : ℕ) → place_of x.state a ≡ Window i
      → shows (step x a).answer b
      ≡ pick (bit (b / 8) a.enables) (some (bit (b % 8) (get_or x.memory (a.offset + lane_at (get_or x.state.values i 0) (b / 8)) 0))) none
  unfolding port_at seen_bit
  shows_memory g i e =
      at_place (Window i) _ e
      (simp (full_bit b hb)
      (ap some
      (bit_lane b (word_from (get_or x.state.values i 0) x.memory (at_byte a.offset))
      ∙ ap (bit (b % 8)) (lane_read (get_or x.state.values i 0) x.memory (at_byte a.offset) (b / 8) g.bytes (omega arith)
      ∙ lane_told (get_or x.state.values i 0) x.memory a.offset (b / 8)))))
