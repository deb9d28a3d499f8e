-- `picture::entry::entry_row` redraws the dots of its row of which the masked byte is the entry: each by its word (EntryLaws). Assumes nothing.
use Rattle.std.proofs.Common.{rules, ◌+◌, ◌<◌, length}
use native.Mathlib.Omega.{arith}
use Rattle.picture.proofs.EntryLaws.{entry_told, entry_end}
use Rattle.picture.proofs.entry.entry_row.Goals as goal

pub returns : goal.returns
returns c = entry_end _ _ _ _ _ _ _ _ _ _ _ _ c.inside-dots.ensures (c.draw.ensures.drawn _ _ (record { told = λ x r h p. let k : c.args.row.0 + x < length c.args.memory.now = omega (arith, c.inside-dots.ensures.fitted, c.inside-dots.ensures.narrow) in search (rules, entry_told) }))
