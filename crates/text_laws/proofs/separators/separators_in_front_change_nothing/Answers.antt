use Rattle.text_laws.proofs.SeparatorLaws.{match-skipped, actions-skipped}
use Rattle.text_laws.proofs.separators.separators_in_front_change_nothing.Goals as goal

pub returns-clause-matching : goal.returns-clause-matching
returns-clause-matching c word at line is = match-skipped word at line is

pub returns-clause-actions : goal.returns-clause-actions
returns-clause-actions c at line is = actions-skipped at line is
