use Rattle.board_laws.proofs.Stated.{bounded_after, bounded_next}
use Rattle.board_laws.proofs.counts.counts_are_bounded.Goals as goal

pub returns-clause-now : goal.returns-clause-now
returns-clause-now c = bounded_after

pub returns-clause-next : goal.returns-clause-next
returns-clause-next c = bounded_next
