-- What a place is to an access: whether it is there, has the direction and is served, what a read or a look sees, and what a read and a write store (01, Region 0,
-- RAMDAC, Configuration header, Apertures).
use Rattle.std.specs.Prelude.{ℕ, Bool, true, false, List, [], slice_index}
use Rattle.std.proofs.Math.Option.{Option, none, some}
use Rattle.bits.specs.Choose.{pick}
use Rattle.bits.specs.Bit.{bit}
use Rattle.bits.specs.Word.{full, inside, lanes_of, lane_byte}
use Rattle.chip.specs.declared.State.{State}
use Rattle.chip.specs.declared.Access.{Access}
use Rattle.chip.specs.declared.Colour.{Colour}
use Rattle.chip.specs.declared.Seen.{Seen}
use Rattle.chip.specs.declared.Place.{Place}
use Rattle.chip.specs.declared.Place.TheVariants.{Register, Address, PaletteData, Window, Blank, Nowhere}
use Rattle.chip.specs.Units.{at_byte}
use Rattle.chip.specs.Bank.{bank_row, misc_control}
use Rattle.chip.specs.Register.{brought_word}
use Rattle.chip.specs.Subsystem.{stored_bits, fixed_by}
use Rattle.chip.specs.Palette.{entry_of, kept_as, shown_as, part_of}
use Rattle.chip.specs.Dac.{aimed_at, after_fetch, after_paint, completed_by}
use Rattle.chip.specs.Aperture.{served, span, reaches_memory, word_from, puts_of}
use Rattle.chip.specs.Patch.{Patch, nothing_stored}

-- ---- what a read or a look sees, before its lanes are picked

abbrev pub seen : ℕ → ℕ → Seen
seen v k = record { value = v; known = k }

-- in the enabled lanes: a bit is zero wherever it is not known
unfoldable pub known_in : Seen → ℕ → ℕ
known_in x e = inside x.known (lanes_of e)

unfoldable pub word_in : Seen → ℕ → ℕ
word_in x e = inside x.value (known_in x e)

-- PaletteWidth, bit 1 of RDMiscControl: 8 bits where it is set, else 6
unfoldable pub wide : State → Bool
wide s = bit 1 (slice_index s.values misc_control)

-- a component of an entry, as the width shows it; eight unknown bits for an entry never stored
abbrev pub seen_part : Bool → ℕ → Option Colour → Seen
seen_part w c none = seen 0 0
seen_part w c (some x) = seen (shown_as w (part_of c x)) 0xFF

-- ---- what an access stores

-- a write of a register: the bits that take the word's, and the subsystem numbers that are fixed
unfoldable pub row_patch : State → ℕ → Access → Patch
row_patch s i a =
    record {
      store = some (record { row = i; bits = stored_bits s.once i a.enables a.word; word = brought_word (bank_row i) a.word });
      once = fixed_by s.once i a.enables;
      dac = none;
      paint = none;
      puts = [];
    }

-- a write of the address, and a read or a write of palette data: nothing without lane 0. A read moves on, and so does a write, which may complete an entry; a look does not
unfoldable pub aim_patch : Access → Patch
aim_patch a =
    record
    { store = none; once = none; dac = pick (bit 0 a.enables) (some (aimed_at (lane_byte 0 a.word))) none; paint = none; puts = [] }

unfoldable pub fetch_patch : State → Access → Patch
fetch_patch s a =
    record { store = none; once = none; dac = pick (bit 0 a.enables) (some (after_fetch s.dac)) none; paint = none; puts = [] }

-- the byte of a palette data write, as the width has it stored
unfoldable pub kept_from : State → Access → ℕ
kept_from s a = kept_as (wide s) (lane_byte 0 a.word)

unfoldable pub paint_patch : State → Access → Patch
paint_patch s a =
    record {
      store = none;
      once = none;
      dac = pick (bit 0 a.enables) (some (after_paint s.dac (kept_from s a))) none;
      paint = pick (bit 0 a.enables) (completed_by s.dac (kept_from s a)) none;
      puts = [];
    }

-- a write through the aperture whose control register holds c
unfoldable pub poke_patch : ℕ → Access → Patch
poke_patch c a = record { store = none; once = none; dac = none; paint = none; puts = puts_of c (at_byte a.offset) a.enables a.word }

-- ---- the port

pub record Port : Type 0 where
  -- refusals 5, 6 and 7: there is something here; it is read; it is written; the mode is served
  pub present : Bool
  pub reads : Bool
  pub writes : Bool
  pub served : Bool
  -- what a read or a look sees, from memory
  pub seen : List ℕ → Seen
  -- what a read stores, and what a write does
  pub fetched : Patch
  pub stored : Patch

-- with no direction refused, and every mode served
abbrev pub plain_port : Bool → (List ℕ → Seen) → Patch → Patch → Port
plain_port here f r w = record { present = here; reads = true; writes = true; served = true; seen = f; fetched = r; stored = w }

unfoldable pub port_at : State → Access → Place → Port
port_at s a (Register i) =
    record {
      present = true;
      reads = (bank_row i).reads;
      writes = (bank_row i).writes;
      served = true;
      seen = λ m. seen (slice_index s.values i) (slice_index s.knowns i);
      fetched = nothing_stored;
      stored = row_patch s i a;
    }
port_at s a Address = plain_port true (λ m. seen s.dac.address s.dac.known) nothing_stored (aim_patch a)
port_at s a PaletteData =
    plain_port true (λ m. seen_part (wide s) s.dac.component (entry_of s.palette s.dac.address)) (fetch_patch s a) (paint_patch s a)
port_at s a (Window i) =
    record {
      present = reaches_memory s.fitted (span (slice_index s.values i) (at_byte a.offset));
      reads = true;
      writes = true;
      served = served (slice_index s.values i);
      seen = λ m. seen (word_from (slice_index s.values i) m (at_byte a.offset)) full;
      fetched = nothing_stored;
      stored = poke_patch (slice_index s.values i) a;
    }
port_at s a Blank = plain_port true (λ m. seen 0 full) nothing_stored nothing_stored
port_at s a Nowhere = plain_port false (λ m. seen 0 0) nothing_stored nothing_stored
