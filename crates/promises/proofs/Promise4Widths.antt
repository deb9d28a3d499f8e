-- Promise 4, the two widths of a palette component (01, RAMDAC, with 02, C-13): what is stored of a byte, and what a read or a look gives back of it.
-- By the two widths and arithmetic, bit by bit over the 64 values of six bits at once; what a read answers, from ReadBack. Assumes nothing.
use Prim.Native.Nat.{ℕ, ◌+◌, ◌-◌, ◌*◌, ◌/◌, ◌%◌, ◌<◌}
use mathlib.Core.Bool.{Bool, true, false, beq}
use mathlib.Core.List.{List}
use mathlib.Core.Path.{◌≡◌, refl, ◌∙◌}
use native.Mathlib.Omega.{arith}
use borrow.Author.Tests.{ltb-true}
use lib.Dec.{ltb}
use Rattle.bits.specs.Choose.{every_to}
use Rattle.bits.specs.Bit.{bit}
use Rattle.bits.proofs.Cases.{pick_when}
use Rattle.bits.proofs.Bools.{every_at}
use Rattle.bits.proofs.Words.{beq_true}
use Rattle.bits.proofs.Lanes.{bit_low}
use Rattle.chip.specs.declared.State.{State}
use Rattle.chip.specs.declared.Access.{Access}
use Rattle.chip.specs.Trace.{World, opened, step, run}
use Rattle.promises.specs.Good.{Openable}
use Rattle.promises.specs.Width.{eight_bits, stored_byte, read_byte, six_bit_from}
use Rattle.promises.specs.Loads.{ReadsPart, written, written_in}
use Rattle.promises.proofs.ReadBack.{read_back}

-- ---- a byte

repeats : ℕ → ℕ → Bool
repeats w b = beq (bit b (4 * w + w / 16)) (bit (six_bit_from b) w)

repeats_all : every_to (λ w. every_to (repeats w) 8) 64 ≡ true
unfolding repeats bit
repeats_all = refl

-- with six bits, of w = v mod 64 alone: 0 as 0, 16 as 65, 63 as 255, and strictly rising between them
module _ (s : State) (six : eight_bits s ≡ false) where
  pub six_bits_count : (v : ℕ) → stored_byte s v ≡ stored_byte s (v % 64)
  unfolding stored_byte
  six_bits_count v = simp six (omega arith)

  pub six_bits_values : (stored_byte s 0 ≡ 0) × (stored_byte s 16 ≡ 65) × (stored_byte s 63 ≡ 255)
  unfolding stored_byte
  six_bits_values = simp six (refl, refl, refl)

  pub six_bits_rise : (v w : ℕ) → v < w → w < 64 → stored_byte s v < stored_byte s w
  unfolding stored_byte
  six_bits_rise v w h k = simp six (omega arith)

  -- bit by bit: the six lowest bits of v, and below them the upper two of these once more
  pub six_bits_repeat : (v b : ℕ) → b < 8 → bit b (stored_byte s v) ≡ bit (six_bit_from b) v
  unfolding stored_byte repeats
  six_bits_repeat v b h =
      simp six
      (beq_true _ _ (every_at (repeats (v % 64)) 8 b (every_at (λ w. every_to (repeats w) 8) 64 (v % 64) repeats_all (omega arith)) h)
      ∙ bit_low 6 (six_bit_from b) v (pick_when (λ (k : ℕ). k < 6) (ltb b 2) (b + 4) (b - 2) (λ t. omega (arith, ltb-true b 2 t)) (λ t. omega arith)))

-- stored by one width and read by one: six bits give back v mod 64 of what six stored, and the byte divided by 4 of what eight stored; eight give what is stored, which with
-- eight is the byte itself
module _ (s t : State) (v : ℕ) where
  pub six_after_six : eight_bits s ≡ false → eight_bits t ≡ false → read_byte t (stored_byte s v) ≡ v % 64
  unfolding stored_byte read_byte
  six_after_six e f = simp (e, f) (omega arith)

  pub six_after_eight : eight_bits s ≡ true → eight_bits t ≡ false → read_byte t (stored_byte s v) ≡ v / 4
  unfolding stored_byte read_byte
  six_after_eight e f = simp (e, f)

  pub eight_after : eight_bits t ≡ true → read_byte t (stored_byte s v) ≡ stored_byte s v
  unfolding read_byte
  eight_after f = simp f

  pub eight_stores : eight_bits s ≡ true → stored_byte s v ≡ v
  unfolding stored_byte
  eight_stores e = simp e

-- ---- a read or a look

-- after an opening and any list of accesses, an accepted read or look of palette data, with lane 0, of an entry that the list loaded
module _ (w h : ℕ) (m p : List ℕ) (o : Openable w h m p) (l : List Access) (a : Access) (f : ReadsPart (opened w h m p) l a) where
  abbrev x : World
  x = run (opened w h m p) l

  -- the byte that was written as that component is stored by the width of that moment, and read by the width of this one; exactly its eight bits are known
  pub component_read : ((step x a).answer.word ≡ read_byte x.state (stored_byte (written_in f) (written f))) × ((step x a).answer.known ≡ 0xFF)
  component_read = read_back w h m p o l a f

  -- so with six bits at both it answers v mod 64, and with eight at the write and six at the read v divided by 4
  pub six_bits_back : eight_bits (written_in f) ≡ false → eight_bits x.state ≡ false → ((step x a).answer.word ≡ written f % 64) × ((step x a).answer.known ≡ 0xFF)
  six_bits_back e g = (component_read.0 ∙ six_after_six (written_in f) x.state (written f) e g, component_read.1)

  pub eight_bits_cut : eight_bits (written_in f) ≡ true → eight_bits x.state ≡ false → ((step x a).answer.word ≡ written f / 4) × ((step x a).answer.known ≡ 0xFF)
  eight_bits_cut e g = (component_read.0 ∙ six_after_eight (written_in f) x.state (written f) e g, component_read.1)
