-- `text::answer::decimal` puts a number without leading zeros, and the byte that ends it.
-- The number's text, and the byte behind it (WroteLaws). Assumes nothing.
use Rattle.text.proofs.WroteLaws.{behind}
use Rattle.text.proofs.answer.decimal.Goals as goal

pub returns : goal.returns
returns c = behind c.numeral.ensures c.put.ensures
