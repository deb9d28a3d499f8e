-- `picture::row::past_row` gives every dot of its row one word: none changes where it is the same. Assumes nothing.
use Rattle.std.proofs.Common.{rules}
use Rattle.picture.proofs.EntryLaws.{past_alike}
use Rattle.picture.proofs.row.past_row.Goals as goal

pub returns-then-a-b : goal.returns-then-a-b
returns-then-a-b c = past_alike c.args.row _ c.if-a-b.true

pub returns : goal.returns
returns c = c.draw.ensures.drawn _ _ (record { told = λ x r h p. search rules })
