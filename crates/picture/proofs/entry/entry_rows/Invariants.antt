use mathlib.Core.Path.{◌≡◌}
use Prim.Native.Nat.{◌+◌, ◌*◌}
use Rattle.picture.specs.Entry.{laid_marks}
use Rattle.picture.proofs.RowLaws.{Rows}
use Rattle.picture.proofs.entry.entry_rows.Given as goal

abbrev pub invariant-loop-y : goal.invariant-loop-y
invariant-loop-y l = Rows (laid_marks l.l l.mark.mask l.mark.entry l.memory l.mark.old) (laid_marks l.l l.mark.mask l.mark.entry l.memory l.mark.new) l.l.width l.initial.picture l.n l.y l.picture × (l.u.0 ≡ l.l.base.0 + l.l.stride.0 * l.y)
