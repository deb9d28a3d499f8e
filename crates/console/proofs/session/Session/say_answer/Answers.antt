-- `console::session::Session::say_answer` is safe: an answer's line has at most 40 bytes.
-- The length of the line (WroteLaws). Assumes nothing.
use Rattle.std.proofs.Common.{sym, arith}
use lib.Seq.{length-take-le}
use Rattle.text.proofs.WroteLaws.{wrote_length, answer_short}
use Rattle.console.proofs.session.Session.say_answer.Goals as goal

pub slice_bounds-say-end : goal.slice_bounds-say-end
slice_bounds-say-end c = sym (length-take-le _ _ (grind (arith, wrote_length, answer_short)))
