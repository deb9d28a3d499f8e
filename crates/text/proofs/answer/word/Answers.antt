-- `text::answer::word` puts a word's eight digits, and a space.
-- The number's text, and the byte behind it (WroteLaws). Assumes nothing.
use Rattle.text.proofs.WroteLaws.{behind}
use Rattle.text.proofs.answer.word.Goals as goal

pub returns : goal.returns
returns c = behind c.numeral.ensures c.put.ensures
