use Rattle.board_laws.proofs.Added.{visits_added}
use Rattle.board_laws.proofs.counts.translations_visit_added_rules.Goals as goal

pub returns : goal.returns
returns c = visits_added
