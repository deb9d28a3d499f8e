-- `text::line::field` is a line's first field and the rest.
-- What stands before the first space, and behind it (FieldLaws). Assumes nothing.
use Rattle.text.proofs.FieldLaws.{fields_parted}
use Rattle.text.proofs.line.field.Goals as goal

pub returns : goal.returns
returns c = fields_parted _ _ c.parted.ensures
