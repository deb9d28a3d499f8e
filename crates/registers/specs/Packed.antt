-- An entry of the map of the indices as one number, as the code's table has it: writable in bits 0-7, reset in 8-15, the bank's row in 16-23, exists in
-- bit 24, reads in bit 25.
use Rattle.std.specs.Prelude.{ℕ, ◌+◌, ◌*◌}
use Rattle.bits.specs.Choose.{pick}
use Rattle.chip.specs.Bank.{Entry, indirect_at, indirect_entry}

-- the row that an index names, and 0 where nothing exists
unfoldable pub index_row : ℕ → ℕ
index_row i = pick (indirect_entry i).exists (indirect_at i) 0

unfoldable pub packed : Entry → ℕ → ℕ
packed e row =
    e.writable + e.reset * 0x100 + row * 0x10000 + pick e.exists 1 0 * 0x1000000 + pick e.reads 1 0 * 0x2000000

unfoldable pub packed_at : ℕ → ℕ
packed_at i = packed (indirect_entry i) (index_row i)
