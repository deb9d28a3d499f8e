-- `text::find::parted` is what stands before a byte and behind it.
-- By how many bytes stand before it (FieldLaws). Assumes nothing.
use Rattle.text.proofs.FieldLaws.{parted_by}
use Rattle.text.proofs.find.parted.Goals as goal

pub returns-then-at-s : goal.returns-then-at-s
returns-then-at-s c = parted_by c.args.b c.args.s.now c.find-at.result c.find-at.ensures c.if-at-s.true
