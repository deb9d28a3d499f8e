-- What an access stores, and the state and the memory after it. A field that is empty stores nothing.
use Rattle.std.specs.Prelude.{ℕ, List, [], slice_index, slice_set}
use Rattle.std.proofs.Math.Option
use Rattle.std.proofs.Math.Option.{Option, none, some}
use Rattle.bits.specs.Word.{joined, merged}
use Rattle.chip.specs.declared.State.{State}
use Rattle.chip.specs.declared.Dac.{Dac}
use Rattle.chip.specs.Palette.{store_entry}
use Rattle.chip.specs.Dac.{Paint}
use Rattle.chip.specs.Aperture.{Put, put_all}

-- these bits of a row take the word's, and become known
pub record Store : Type 0 where
  pub row : ℕ
  pub bits : ℕ
  pub word : ℕ

pub record Patch : Type 0 where
  pub store : Option Store
  -- the subsystem numbers that are fixed after it
  pub once : Option ℕ
  -- the RAMDAC's address, component and stage after it
  pub dac : Option Dac
  -- the palette entry that takes a colour
  pub paint : Option Paint
  -- the bytes of memory that are stored
  pub puts : List Put

abbrev pub nothing_stored : Patch
nothing_stored = record { store = none; once = none; dac = none; paint = none; puts = [] }

-- the bank's two columns and the palette after it
abbrev pub valued : Option Store → List ℕ → List ℕ
valued none l = l
valued (some x) l = slice_set l x.row (merged (slice_index l x.row) x.word x.bits)

abbrev pub learned : Option Store → List ℕ → List ℕ
learned none l = l
learned (some x) l = slice_set l x.row (joined (slice_index l x.row) x.bits)

abbrev pub painted : Option Paint → List ℕ → List ℕ
painted none p = p
painted (some x) p = store_entry p x.entry x.colour

unfoldable pub applied : Patch → State → State
applied p s =
    record {
      width = s.width;
      height = s.height;
      fitted = s.fitted;
      once = Option.get_or p.once s.once;
      values = valued p.store s.values;
      knowns = learned p.store s.knowns;
      dac = Option.get_or p.dac s.dac;
      palette = painted p.paint s.palette;
    }

unfoldable pub memory_with : Patch → List ℕ → List ℕ
memory_with p m = put_all m p.puts
