-- `registers::bank::bank_sound` is the test of every row of the bank.
-- The columns tested are those of the rows, computed, with the fixed subsystem numbers exempt at their row. Assumes nothing.
use Rattle.bits.specs.Word.{joined}
use Rattle.chip.specs.Region.{region_rows}
use Rattle.chip.specs.Header.{header_rows}
use Rattle.chip.specs.Indirect.{indirect_rows}
use Rattle.chip.specs.Bank.{bank_rows, bank_resets, bank_knowns}
use Rattle.chip.specs.Register.{may_change}
use Rattle.registers.proofs.Rows.{bank_sound_lem}
use Rattle.registers.proofs.bank.bank_sound.Goals as goal

pub returns : goal.returns
unfolding bank_resets bank_knowns bank_rows region_rows header_rows indirect_rows may_change joined
returns c = bank_sound_lem c.args.once c.args.values.now c.args.knowns.now c.half_bits.ensures c.columns_sound.ensures
