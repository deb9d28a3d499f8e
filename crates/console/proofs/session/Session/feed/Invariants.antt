use Rattle.std.proofs.Common.{◌-◌, length}
use Rattle.console.proofs.session.Session.feed.Given as goal

abbrev pub decreases-loop-next : goal.decreases-loop-next
decreases-loop-next l = length l.chunk - l.from
