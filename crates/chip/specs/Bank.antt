-- The bank: one row for every register, region 0's first, then the header's, then the RAMDAC's indirect ones; and the map of the 256 indices (01, Region 0,
-- RAMDAC, Configuration header).
use Rattle.std.specs.Prelude.{ℕ, zero, suc, ◌+◌, Bool, List, [], ◌∷◌, ◌++◌, map, nat_lt, slice_index_or}
use Rattle.chip.specs.Row.{Row, absent, row_of}
use Rattle.chip.specs.Region.{region_rows}
use Rattle.chip.specs.Header.{header_rows}
use Rattle.chip.specs.Indirect.{indirect_rows}

unfoldable pub bank_rows : List Row
bank_rows = region_rows ++ (header_rows ++ indirect_rows)

-- how many there are of each, and where each part begins
abbrev pub region_count : ℕ
region_count = 38

abbrev pub header_count : ℕ
header_count = 17

abbrev pub header_first : ℕ
header_first = 38

abbrev pub indirect_first : ℕ
indirect_first = 55

abbrev pub bank_count : ℕ
bank_count = 79

-- the row of a number
unfoldable pub bank_row : ℕ → Row
bank_row i = slice_index_or bank_rows i absent

-- the columns that a reset takes
unfoldable pub bank_resets : List ℕ
bank_resets = map (λ (r : Row). r.reset) bank_rows

unfoldable pub bank_knowns : List ℕ
bank_knowns = map (λ (r : Row). r.known) bank_rows

-- ---- finding a row: past its part where there is none

unfoldable pub region_at : ℕ → ℕ
region_at o = row_of region_rows o

unfoldable pub header_at : ℕ → ℕ
header_at o = header_first + row_of header_rows o

unfoldable pub indirect_at : ℕ → ℕ
indirect_at i = indirect_first + row_of indirect_rows i

-- the rows that other rules name (proofs/States has the fact that each is at its offset or index)
abbrev pub aperture_one : ℕ
aperture_one = 0

abbrev pub aperture_two : ℕ
aperture_two = 1

abbrev pub screen_base : ℕ
screen_base = 16

abbrev pub screen_stride : ℕ
screen_stride = 17

abbrev pub pixel_mask : ℕ
pixel_mask = 33

abbrev pub subsystem : ℕ
subsystem = 46

abbrev pub color_mode : ℕ
color_mode = 56

abbrev pub misc_control : ℕ
misc_control = 59

-- ---- the map of the indices (01: "A map with one entry for every index from 0 to 255 says what exists there, which bits may be written, whether it is read,
-- and its reset value")

pub record Entry : Type 0 where
  pub exists : Bool
  pub writable : ℕ
  pub reads : Bool
  pub reset : ℕ

-- the entry of an index: that of its row, and all zero where nothing exists
unfoldable pub indirect_entry : ℕ → Entry
indirect_entry i =
    record {
      exists = nat_lt (indirect_at i) bank_count;
      writable = (bank_row (indirect_at i)).writable;
      reads = (bank_row (indirect_at i)).reads;
      reset = (bank_row (indirect_at i)).reset;
    }

-- the entries from index i on, n of them
abbrev pub entries_from : ℕ → ℕ → List Entry
entries_from i zero = []
entries_from i (suc n) = indirect_entry i ∷ entries_from (suc i) n

abbrev pub index_count : ℕ
index_count = 256

-- the map as one table: an entry for every index from 0 to 255
unfoldable pub indirect_map : List Entry
indirect_map = entries_from 0 index_count
