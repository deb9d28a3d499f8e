use Rattle.picture.specs.Layout.{laid_dots}
use Rattle.picture.proofs.RowLaws.{Rows}
use Rattle.picture.proofs.rows.draw_rows.Given as goal

abbrev pub invariant-loop-y : goal.invariant-loop-y
invariant-loop-y l = Rows (laid_dots l.old l.old.width l.t.old.now l.t.memory.now) (laid_dots l.new l.old.width l.t.new.now l.t.memory.now) l.old.width l.initial.picture l.n l.y l.picture
