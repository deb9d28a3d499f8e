-- `registers::table::columns_sound` is the test of every row.
-- The word gathered so far has no fault exactly where no register passed has one; the measure is what is left of the columns. Assumes nothing.
use Rattle.bits.proofs.Gathers.{gather_more, gathered_all}
use Rattle.bits.specs.Word.{joined}
use Rattle.chip.specs.Bank.{bank_count}
use Rattle.registers.proofs.FaultLaws.{faults_by}
use Rattle.registers.specs.Columns.{column_ok, columns_sound}
use Rattle.registers.proofs.table.columns_sound.Goals as goal

pub loop-i-preserved : goal.loop-i-preserved
unfolding column_ok joined
loop-i-preserved c = gather_more _ bank_count _ _ _ c.loop-i.invariant c.loop-i-test.true (faults_by _ _ _ _ _ _ _ c.faults_of-bad.ensures c.own_or-w.ensures)

pub returns : goal.returns
unfolding columns_sound
returns c = gathered_all _ _ _ _ c.loop-i.invariant c.loop-i-test.false
