use Rattle.table_laws.proofs.WinnerLaws.{winner-best, winner-none}
use Rattle.table_laws.proofs.lookups.winner_is_best.Goals as goal

pub returns-clause-best : goal.returns-clause-best
returns-clause-best c = winner-best

pub returns-clause-none : goal.returns-clause-none
returns-clause-none c = winner-none
