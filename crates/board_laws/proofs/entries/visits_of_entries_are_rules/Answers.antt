use Rattle.board_laws.proofs.Stated.{entries_visit, entries_of_run}
use Rattle.board_laws.proofs.entries.visits_of_entries_are_rules.Goals as goal

pub returns-clause-visits : goal.returns-clause-visits
returns-clause-visits c = entries_visit

pub returns-clause-versions : goal.returns-clause-versions
returns-clause-versions c = entries_of_run
