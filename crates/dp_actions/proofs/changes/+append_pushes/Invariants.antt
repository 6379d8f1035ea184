use Rattle.std.proofs.Common.{length}
use Rattle.dp_actions.proofs.changes.+append_pushes.Given as goal

abbrev pub decreases-append_pushes : goal.decreases-append_pushes
decreases-append_pushes l = length l.tags.now
