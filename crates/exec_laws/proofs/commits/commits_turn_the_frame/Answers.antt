use Rattle.exec_laws.proofs.Turned.{key-turned, key-becomes}
use Rattle.exec_laws.proofs.commits.commits_turn_the_frame.Goals as goal

pub returns-clause-field_by_field : goal.returns-clause-field_by_field
returns-clause-field_by_field c = key-turned

pub returns-clause-as_a_whole : goal.returns-clause-as_a_whole
returns-clause-as_a_whole c = key-becomes
