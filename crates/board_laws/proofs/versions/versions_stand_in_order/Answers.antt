use Rattle.board_laws.proofs.Stated.{versions_after, recent_after}
use Rattle.board_laws.proofs.versions.versions_stand_in_order.Goals as goal

pub returns-clause-board : goal.returns-clause-board
returns-clause-board c = versions_after

pub returns-clause-entries : goal.returns-clause-entries
returns-clause-entries c = recent_after
