-- PaletteWidth, bit 1 of RDMiscControl (000, 3.6.17), and what it does to a byte at each palette data access (01, RAMDAC, as 02, C-13 amends it).
use Rattle.std.specs.Prelude.{ℕ, ◌+◌, ◌-◌, ◌*◌, ◌/◌, ◌%◌, Bool, eqb, ltb, get_or}
use Rattle.bits.specs.Choose.{pick}
use Rattle.bits.specs.Bit.{bit}
use Rattle.chip.specs.declared.State.{State}
use Rattle.chip.specs.declared.Colour.{Colour}
use Rattle.chip.specs.Bank.{misc_control}

-- eight bits where it is set, six where it is not
unfoldable pub eight_bits : State → Bool
eight_bits s = bit 1 (get_or s.values misc_control 0)

-- a written byte is stored as it is, with six bits as 4w + w div 16, where w is v mod 64 (02, C-13)
unfoldable pub stored_byte : State → ℕ → ℕ
stored_byte s v = pick (eight_bits s) v (4 * (v % 64) + (v % 64) / 16)

-- the same bit by bit: where bit b of a byte that is stored with six bits comes from. The six lowest bits move up by two, and the upper two of them stand once more below
abbrev pub six_bit_from : ℕ → ℕ
six_bit_from b = pick (ltb b 2) (b + 4) (b - 2)

-- a stored byte is read as it is, with six bits divided by 4, rounded down
unfoldable pub read_byte : State → ℕ → ℕ
read_byte s v = pick (eight_bits s) v (v / 4)

-- component 0 is red, 1 green, 2 blue
unfoldable pub component_of : ℕ → Colour → ℕ
component_of c x = pick (eqb c 0) x.red (pick (eqb c 1) x.green x.blue)
