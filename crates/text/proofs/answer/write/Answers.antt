-- `text::answer::write` puts an answer's line at the start of the buffer.
-- Its four numbers one behind the other (WroteLaws). Assumes nothing.
use Rattle.text.proofs.WroteLaws.{behind, renamed, answer_joined}
use Rattle.text.proofs.answer.write.Goals as goal

pub returns : goal.returns
returns c = renamed (answer_joined _ _ _ _) (behind (behind (behind c.decimal.ensures c.word.ensures) c.word-2.ensures) c.decimal-2.ensures)
