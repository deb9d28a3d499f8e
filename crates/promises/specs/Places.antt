-- Where an access leads, in 01's words: from its target, its offset, the tables and the RAMDAC's address (01, An access and its answer, RAMDAC, Configuration
-- header, Apertures; docs/DECISIONS.md, 1).
use Rattle.std.specs.Prelude.{ℕ, ◌≤◌, ◌<◌, ◌⊎◌, ◌≡◌}
use Rattle.chip.specs.declared.State.{State}
use Rattle.chip.specs.declared.Access.{Access}
use Rattle.chip.specs.declared.Place.{Place}
use Rattle.chip.specs.declared.Place.TheVariants.{Register, Address, PaletteData, Window, Blank}
use Rattle.chip.specs.Bank.{bank_count, region_count, header_first, indirect_first, bank_row, aperture_one, aperture_two}

-- row i, of those from one number to another, is at an offset (of the indirect registers: at an index)
pub record RowAt (from to i o : ℕ) : Type 0 where
  pub least : from ≤ i
  pub below : i < to
  pub offset : (bank_row i).offset ≡ o

pub data Leads (s : State) (a : Access) : Place → Type 0 where
  -- RDPaletteWriteAddress and RDPaletteReadAddress
  address : a.target ≡ 0 → (a.offset ≡ 0x4000) ⊎ (a.offset ≡ 0x4018) → Leads s a Address
  -- RDPaletteData and RDIndexedData, while no bit of the address is unknown; the register is the one that the map has at the address
  palette : a.target ≡ 0 → a.offset ≡ 0x4008 → s.dac.known ≡ 0xFF → Leads s a PaletteData
  indexed : a.target ≡ 0 → a.offset ≡ 0x4050 → s.dac.known ≡ 0xFF → (i : ℕ) → RowAt indirect_first bank_count i s.dac.address → Leads s a (Register i)
  -- a register of region 0
  region : a.target ≡ 0 → (i : ℕ) → RowAt 0 region_count i a.offset → Leads s a (Register i)
  -- memory
  one : a.target ≡ 1 → Leads s a (Window aperture_one)
  two : a.target ≡ 2 → Leads s a (Window aperture_two)
  -- the header, from 0 to FCh: a register, or an offset without one
  header : a.target ≡ 3 → a.offset ≤ 0xFC → (i : ℕ) → RowAt header_first indirect_first i a.offset → Leads s a (Register i)
  blank : a.target ≡ 3 → a.offset ≤ 0xFC → ((i : ℕ) → RowAt header_first indirect_first i a.offset → ⊥) → Leads s a Blank
