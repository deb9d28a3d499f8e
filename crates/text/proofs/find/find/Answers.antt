-- `text::find::find` counts the bytes before the first one sought.
-- Where the library finds it (FieldLaws). Assumes nothing.
use mathlib.Core.Path.{ap, ◌∙◌}
use lib.ListN.{length}
use Rattle.std.specs.Prelude.{ℕ, Option, unwrap_or}
use Rattle.text.proofs.FieldLaws.{place_or_end}
use Rattle.text.proofs.find.find.Goals as goal

pub returns : goal.returns
returns c = c.unwrap_or.ensures ∙ ap (λ (r : Option ℕ). unwrap_or r (length c.args.s.now)) c.place.ensures ∙ place_or_end c.args.b c.args.s.now
