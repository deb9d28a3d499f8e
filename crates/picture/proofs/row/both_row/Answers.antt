-- `picture::row::both_row` redraws the dots of a row.
-- Inside memory in both layouts by the tables, past its end by `rest_row` (EntryLaws). Assumes nothing.
use Rattle.std.proofs.Common.{rules, ◌+◌, ◌<◌, length}
use native.Mathlib.Omega.{arith}
use Rattle.picture.proofs.EntryLaws.{look_byte, both_end}
use Rattle.picture.proofs.row.both_row.Goals as goal

pub returns : goal.returns
returns c = both_end c.args.row _ _ _ _ _ _ _ _ _ (omega (arith, c.inside-one.ensures.narrow, c.inside-dots.ensures.narrow)) (omega (arith, c.inside-one.ensures.narrow, c.inside-dots.ensures.narrow, c.requires.narrow, c.requires.old)) (omega (arith, c.inside-one.ensures.narrow, c.inside-dots.ensures.narrow, c.requires.narrow, c.requires.new)) (c.draw-n.ensures.drawn _ _ (record { told = λ x r h p. let k : c.args.row.old.at.0 + x < length c.args.t.memory.now = omega (arith, c.inside-one.ensures.fitted, c.inside-dots.ensures.narrow) in let m : c.args.row.new.at.0 + x < length c.args.t.memory.now = omega (arith, c.inside-dots.ensures.fitted) in search (rules, look_byte) })) (rw c.rest_of.ensures at c.rest_row.ensures)
