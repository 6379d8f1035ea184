use Rattle.text_laws.proofs.SeparatorLaws.{match-ended, actions-ended, edit-ended}
use Rattle.text_laws.proofs.separators.separators_at_the_end_change_nothing.Goals as goal

pub returns-clause-matching : goal.returns-clause-matching
returns-clause-matching c word at line s m is h = match-ended word at line s m is h

pub returns-clause-actions : goal.returns-clause-actions
returns-clause-actions c at line s list is h = actions-ended at line s list is h

pub returns-clause-edit : goal.returns-clause-edit
returns-clause-edit c line s e is h = edit-ended line s e is h
