-- What 01 says of registers by name: where those that the rules use stand, and which are written in vain, write only, read only, unknown, or never refused as 6;
-- and how the tables make up the bank and the map of the indices.
use Rattle.std.specs.Prelude.{ℕ, ◌+◌, ◌≤◌, ◌<◌, true, false, ◌++◌, ◌⊎◌, ◌≡◌, get_or, length}
use Rattle.chip.specs.Row.{absent, read_write, read_only, indexed, write_only, status}
use Rattle.chip.specs.Region.{region_rows}
use Rattle.chip.specs.Header.{header_rows}
use Rattle.chip.specs.Indirect.{indirect_rows}
use Rattle.chip.specs.Bank.{Entry, indirect_entry, indirect_map, bank_count, region_count, header_first, indirect_first, bank_row, aperture_one, aperture_two, screen_base, screen_stride, pixel_mask, subsystem, color_mode, misc_control}
use Rattle.promises.specs.Places.{RowAt}
use Rattle.promises.specs.View.{command}

-- the rows that the rules name are the registers at these offsets and indices
pub record RowsAt : Type 0 where
  pub aperture_one : RowAt 0 region_count aperture_one 0x50
  pub aperture_two : RowAt 0 region_count aperture_two 0x58
  pub screen_base : RowAt 0 region_count screen_base 0x3000
  pub screen_stride : RowAt 0 region_count screen_stride 0x3008
  pub pixel_mask : RowAt 0 region_count pixel_mask 0x4010
  pub command : RowAt header_first indirect_first command 0x04
  pub subsystem : RowAt header_first indirect_first subsystem 0x2C
  pub color_mode : RowAt indirect_first bank_count color_mode 0x18
  pub misc_control : RowAt indirect_first bank_count misc_control 0x1E

-- a write is accepted and alters nothing
pub record InVain (i : ℕ) : Type 0 where
  pub writes : (bank_row i).writes ≡ true
  pub writable : (bank_row i).writable ≡ 0
  pub clears : (bank_row i).clears ≡ 0

pub record Named : Type 0 where
  -- no header access is refused as 6
  pub header : (i o : ℕ) → RowAt header_first indirect_first i o → ((bank_row i).reads ≡ true) × ((bank_row i).writes ≡ true)
  -- ByDMAComplete, Reboot and the two status registers
  pub complete : (i : ℕ) → RowAt 0 region_count i 0xE8 → InVain i
  pub reboot : (i : ℕ) → RowAt 0 region_count i 0x1000 → InVain i
  pub status : (i : ℕ) → RowAt indirect_first bank_count i 0x29 ⊎ RowAt indirect_first bank_count i 0x33 → InVain i
  -- these two are read as wholly unknown
  pub unknown : (i : ℕ) → RowAt indirect_first bank_count i 0x29 ⊎ RowAt indirect_first bank_count i 0x33 → ((bank_row i).reads ≡ true) × ((bank_row i).known ≡ 0)
  -- FramebufferWriteMask and Count are read only
  pub read_only_lem : (i : ℕ) → RowAt 0 region_count i 0x1140 ⊎ RowAt 0 region_count i 0x1180 → ((bank_row i).reads ≡ true) × ((bank_row i).writes ≡ false)
  -- the PixelClock and MemoryClock parameters are write only
  pub clocks : (i o : ℕ) → RowAt indirect_first bank_count i o → ((0x20 ≤ o) × (o ≤ 0x28)) ⊎ ((0x30 ≤ o) × (o ≤ 0x32)) → ((bank_row i).reads ≡ false) × ((bank_row i).writes ≡ true)

-- ---- the tables themselves

-- how a line of a table is read
pub record Lines : Type 0 where
  pub both : (o w r k : ℕ) → read_write o w r k ≡ record { offset = o; reads = true; writes = true; writable = w; clears = 0; reset = r; known = k }
  pub only_read : (o r k : ℕ) → read_only o r k ≡ record { offset = o; reads = true; writes = false; writable = 0; clears = 0; reset = r; known = k }
  pub byte : (i w r : ℕ) → indexed i w r ≡ record { offset = i; reads = true; writes = true; writable = w; clears = 0; reset = r; known = 0xFF }
  pub only_written : (i w r : ℕ) → write_only i w r ≡ record { offset = i; reads = false; writes = true; writable = w; clears = 0; reset = r; known = 0xFF }
  pub unknown : (i : ℕ) → status i ≡ record { offset = i; reads = true; writes = true; writable = 0; clears = 0; reset = 0; known = 0 }

-- the bank is the three tables, one after the other, and its parts are as long as they are
pub record Bank : Type 0 where
  pub rows : (i : ℕ) → bank_row i ≡ get_or (region_rows ++ (header_rows ++ indirect_rows)) i absent
  pub region : length region_rows ≡ region_count
  pub after_region : header_first ≡ region_count
  pub header : header_first + length header_rows ≡ indirect_first
  pub indirect : indirect_first + length indirect_rows ≡ bank_count

-- the map's entry of an index is that of the register there, and all zero where there is none
pub record Mapped (e : Entry) (r : ℕ) : Type 0 where
  pub exists : e.exists ≡ true
  pub writable : e.writable ≡ (bank_row r).writable
  pub reads : e.reads ≡ (bank_row r).reads
  pub reset : e.reset ≡ (bank_row r).reset

pub record Unmapped (e : Entry) : Type 0 where
  pub exists : e.exists ≡ false
  pub writable : e.writable ≡ 0
  pub reads : e.reads ≡ false
  pub reset : e.reset ≡ 0

-- one for every index from 0 to 255
pub record Map : Type 0 where
  pub long : length indirect_map ≡ 256
  pub present : (i r : ℕ) → i < 256 → RowAt indirect_first bank_count r i → Mapped (get_or indirect_map i (indirect_entry i)) r
  pub nothing : (i : ℕ) → i < 256 → ((r : ℕ) → RowAt indirect_first bank_count r i → ⊥) → Unmapped (get_or indirect_map i (indirect_entry i))
