-- What a read answers for a component of a loaded entry, as a word: the byte that was written, as the two widths have it, known in its eight bits.
-- The entry is the load's (entry_exactly), its component what the load's write stored, and a word of which eight bits are shown is that byte. Assumes nothing.
use Prim.Native.Nat.{ℕ, ◌/◌, ◌<◌}
use mathlib.Core.Bool.{false}
use mathlib.Core.List.{List}
use mathlib.Core.Option.{Option, none, some}
use mathlib.Core.Path.{◌≡◌, sym, ap, ◌∙◌}
use native.Mathlib.Omega.{arith}
use borrow.Author.Tests.{ltb-true, ltb-false}
use lib.Dec.{eqb}
use Rattle.bits.specs.Choose.{pick}
use Rattle.bits.specs.Bit.{bit}
use Rattle.bits.specs.Word.{lane_byte}
use Rattle.bits.proofs.Cases.{by_test, pick_by, pick_same}
use Rattle.bits.proofs.Lanes.{bit_high}
use Rattle.chip.specs.declared.State.{State}
use Rattle.chip.specs.declared.Access.{Access}
use Rattle.chip.specs.declared.Colour.{Colour}
use Rattle.chip.specs.Palette.{entry_of}
use Rattle.chip.specs.Trace.{World, opened, step, run}
use Rattle.promises.specs.Good.{Openable}
use Rattle.promises.specs.Width.{eight_bits, stored_byte, read_byte, component_of}
use Rattle.promises.specs.History.{seen_bit, shows, part_bit}
use Rattle.promises.specs.Loads.{Load, part_by, part_at, ReadsPart, written, written_in}
use Rattle.promises.proofs.Widths.{stored_lt}
use Rattle.promises.proofs.Known.{in_byte}
use Rattle.promises.proofs.ShownWord.{shown_word_lem}
use Rattle.promises.proofs.Promise2States.{always_good}
use Rattle.promises.proofs.Promise4Origins.{entry_exactly}
use Rattle.promises.proofs.Promise4Reads.{palette_read}

-- component i of a loaded entry is the byte that its write brought, stored by the width of that moment
part_stored : {x : World} {l : List Access} {a : Access} {e : ℕ} {c : Colour} (f : Load x l a e c) (i : ℕ)
    → component_of i c ≡ stored_byte (part_at f i).state (lane_byte 0 (part_by f i).word)
unfolding component_of
part_stored f i =
    by_test (eqb i 0)
    (λ t. simp t f.first.value)
    (λ t. by_test (eqb i 1) (λ u. simp (t, u) f.second.value) (λ u. simp (t, u) f.third.value))

read_lt : (s : State) (v : ℕ) → v < 256 → read_byte s v < 256
unfolding read_byte
read_lt s v h = pick_by (λ (k : ℕ). k < 256) (eight_bits s) v (v / 4) h (omega arith)

-- after an opening and any list of accesses
pub read_back : (w h : ℕ) (m p : List ℕ) → Openable w h m p → (l : List Access) (a : Access) (f : ReadsPart (opened w h m p) l a)
    → ((step (run (opened w h m p) l) a).answer.word ≡ read_byte (run (opened w h m p) l).state (stored_byte (written_in f) (written f)))
    × ((step (run (opened w h m p) l) a).answer.known ≡ 0xFF)
unfolding part_bit seen_bit
read_back w h m p o l a f = shown_word_lem x a v 0xFF (omega (arith, small)) (omega arith) above bits
  where
    x : World
    x = run (opened w h m p) l

    v : ℕ
    v = read_byte x.state (stored_byte (written_in f) (written f))

    small : v < 256
    small = read_lt x.state _ (stored_lt (written_in f) _)

    above : (b : ℕ) → b < 32 → bit b 0xFF ≡ false → bit b v ≡ false
    above b hb t = bit_high 8 b v (ltb-false b 8 (sym (in_byte b hb) ∙ t)) small

    entry : entry_of x.state.palette x.state.dac.address ≡ some f.colour
    entry = (entry_exactly w h m p o l x.state.dac.address (always_good w h m p o l).formed.address f.colour).1 f.loaded

    bits : (b : ℕ) → b < 32 → shows (step x a).answer b ≡ pick (bit b 0xFF) (some (bit b v)) none
    bits b hb =
        palette_read x a b f.read hb f.place
        ∙ ap (λ (y : Option Colour). pick (bit (b / 8) a.enables) (part_bit x.state x.state.dac.component b y) none) entry
        ∙ ap (λ (n : ℕ). pick (bit (b / 8) a.enables) (pick (bit b 0xFF) (some (bit b (read_byte x.state n))) none) none)
        (part_stored f.loaded.load x.state.dac.component)
        ∙ by_test (bit b 0xFF)
        (λ t. let k : b / 8 ≡ 0 = omega (arith, ltb-true b 8 (sym (in_byte b hb) ∙ t)) in simp (k, f.lane, t))
        (λ t. simp t (pick_same (bit (b / 8) a.enables) none))
