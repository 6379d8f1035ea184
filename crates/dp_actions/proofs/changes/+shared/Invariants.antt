use Rattle.std.proofs.Common.{length}
use Rattle.dp_actions.proofs.changes.+shared.Given as goal

abbrev pub decreases-shared : goal.decreases-shared
decreases-shared l = length l.before.now
