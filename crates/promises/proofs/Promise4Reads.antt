-- Promise 4, on any world at all: what an accepted read or look shows, bit by bit, at each place that it may lead to; it does not depend on the picture.
-- From the laws of Shown; a picture is looked at for its length alone. Assumes nothing.
use Prim.Native.Nat.{ℕ, ◌+◌, ◌*◌, ◌/◌, ◌%◌, ◌<◌}
use mathlib.Core.Bool.{Bool, true, false}
use mathlib.Core.List.{List}
use mathlib.Core.Logic.{◌↔◌}
use mathlib.Core.Option.{Option, none, some}
use mathlib.Core.Path.{◌≡◌, refl, sym, ap, ◌∙◌}
use native.Mathlib.Omega.{arith}
use borrow.Author.Tests.{eqb-true, eq-eqb, ne_eqb}
use lib.Dec.{eqb}
use lib.ListN.{get_or, length}
use Rattle.bits.specs.Choose.{pick}
use Rattle.bits.specs.Bit.{bit}
use Rattle.bits.proofs.Cases.{by_test}
use Rattle.bits.proofs.Bools.{or_second, every_at}
use Rattle.chip.specs.declared.State.{State}
use Rattle.chip.specs.declared.Access.{Access}
use Rattle.chip.specs.declared.Colour.{Colour}
use Rattle.chip.specs.declared.Place.TheVariants.{Register, Address, PaletteData, Window, Blank}
use Rattle.chip.specs.Palette.{entry_count, Shades, coloured_word, colour_in, is_stored, entry_of, word_ok, entry_ok, palette_ok}
use Rattle.chip.specs.Sound.{is_state}
use Rattle.chip.specs.Step.{settled, refused, done_by, given_by, step_of}
use Rattle.chip.specs.Refusal.{status_of}
use Rattle.chip.specs.Trace.{World, step}
use Rattle.promises.specs.Good.{Good}
use Rattle.promises.specs.Places.{Leads}
use Rattle.promises.specs.History.{Seeing, seen_bit, shows, part_bit, spot, holds}
use Rattle.promises.specs.Frame.{lane_at}
use Rattle.chip.proofs.Entries.{coloured_stored, coloured_back, stored_back}
use Rattle.promises.proofs.Options.{some_is, absurd_put}
use Rattle.promises.proofs.Sane.{sane}
use Rattle.promises.proofs.Places.{leads_place}
use Rattle.promises.proofs.Shown.{shows_register, shows_blank, shows_address, shows_palette, shows_memory}

module _ (x : World) (a : Access) (b : ℕ) (q : Seeing x a) (hb : b < 32) where
  -- a register, of region 0, of the header, or the indirect one that indexed data leads to: what it holds
  pub register_read : (r : ℕ) → Leads x.state a (Register r) → shows (step x a).answer b ≡ pick (bit (b / 8) a.enables) (holds x.state (spot r b)) none
  register_read r d = shows_register x a b q hb r (leads_place x.state a (Register r) d)

  -- an offset of the header without a register: zero, known, by PCI
  pub blank_read : Leads x.state a Blank → shows (step x a).answer b ≡ pick (bit (b / 8) a.enables) (some false) none
  blank_read d = shows_blank x a b q hb (leads_place x.state a Blank d)

  -- the address: the bits of it that are known
  pub address_read : Leads x.state a Address
      → shows (step x a).answer b ≡ pick (bit (b / 8) a.enables) (seen_bit (bit b x.state.dac.known) (bit b x.state.dac.address)) none
  address_read d = shows_address x a b q hb (leads_place x.state a Address d)

  -- palette data: a component of the entry that the address names, as the present width shows it
  pub palette_read : Leads x.state a PaletteData
      → shows (step x a).answer b
      ≡ pick (bit (b / 8) a.enables) (part_bit x.state x.state.dac.component b (entry_of x.state.palette x.state.dac.address)) none
  palette_read d = shows_palette x a b q hb (leads_place x.state a PaletteData d)

  -- memory: the bit of the byte that exchanges with its lane
  pub memory_read : Good x → (i : ℕ) → Leads x.state a (Window i)
      → shows (step x a).answer b
      ≡ pick (bit (b / 8) a.enables) (some (bit (b % 8) (get_or x.memory (a.offset + lane_at (get_or x.state.values i 0) (b / 8)) 0))) none
  memory_read g i d = shows_memory x a b q hb g i (leads_place x.state a (Window i) d)

-- ---- an entry as a state holds it (02, C-15): nothing where its top byte is not 1, so of a state where its word is 0 ..

pub entry_unstored : (p : List ℕ) (e : ℕ) → (entry_of p e ≡ none) ↔ (get_or p e 0 / 0x1000000 ≡ 1 → ⊥)
unfolding entry_of is_stored
entry_unstored p e = (
  (λ n z. absurd_put (entry_of p e) (colour_in (get_or p e 0)) n (ap held (eq-eqb (get_or p e 0 / 0x1000000) 1 z))),
  (λ n. ap held (ne_eqb (get_or p e 0 / 0x1000000) 1 n)),
)
  where
    held : Bool → Option Colour
    held t = pick t (some (colour_in (get_or p e 0))) none

pub entry_zero : (s : State) (e : ℕ) → is_state s ≡ true → e < entry_count → (entry_of s.palette e ≡ none) ↔ (get_or s.palette e 0 ≡ 0)
unfolding palette_ok entry_ok word_ok is_stored
entry_zero s e k h = (
  (λ n. eqb-true _ 0 (or_second (is_stored (get_or s.palette e 0)) (eqb (get_or s.palette e 0) 0) (ne_eqb (get_or s.palette e 0 / 0x1000000) 1 ((entry_unstored s.palette e).0 n)) tested)),
  (λ z. (entry_unstored s.palette e).1 (λ y. omega (arith, y, z))),
)
  where
    tested : entry_ok s.palette e ≡ true
    tested = every_at (entry_ok s.palette) entry_count e (sane s k).palette h

-- .. and a colour exactly where it is 01RRGGBBh, the word that rule 5 gives the entry's dots
pub entry_stored : (p : List ℕ) (e : ℕ) (c : Colour) → Shades c → (entry_of p e ≡ some c) ↔ (get_or p e 0 ≡ 0x01000000 + c.red * 0x10000 + c.green * 0x100 + c.blue)
unfolding entry_of
entry_stored p e c h = (
  (λ k. by_test (is_stored (get_or p e 0))
      (λ t. sym (stored_back (get_or p e 0) t) ∙ ap coloured_word (some_is (simp t at k)))
      (λ t. absurd_put none c refl (simp t at k))),
  (λ z. rw z (simp (coloured_stored c h) (ap some (coloured_back c h)))),
)

-- ---- the picture

-- status, word, known mask, state and memory are the same with any other picture of the same length
alike : (n : ℕ) (s : State) (m p q : List ℕ) (a : Access)
    → ((given_by n s m q a).answer.status ≡ (given_by n s m p a).answer.status) × ((given_by n s m q a).answer.word ≡ (given_by n s m p a).answer.word)
    × ((given_by n s m q a).answer.known ≡ (given_by n s m p a).answer.known) × ((given_by n s m q a).answer.state ≡ (given_by n s m p a).answer.state)
    × ((given_by n s m q a).memory ≡ (given_by n s m p a).memory)
unfolding given_by done_by settled refused
alike n s m p q a = by_test (eqb n 0) (λ t. simp t (refl, refl, refl, refl, refl)) (λ t. simp t (refl, refl, refl, refl, refl))

pub picture_unasked : (s : State) (m p q : List ℕ) (a : Access) → length q ≡ length p
    → ((step_of s m q a).answer.status ≡ (step_of s m p a).answer.status) × ((step_of s m q a).answer.word ≡ (step_of s m p a).answer.word)
    × ((step_of s m q a).answer.known ≡ (step_of s m p a).answer.known) × ((step_of s m q a).answer.state ≡ (step_of s m p a).answer.state)
    × ((step_of s m q a).memory ≡ (step_of s m p a).memory)
unfolding step_of
picture_unasked s m p q a e = rw e (alike (status_of s (length m) (length p) a) s m p q a)
