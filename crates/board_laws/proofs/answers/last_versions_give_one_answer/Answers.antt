use Rattle.board_laws.proofs.Alike.{actions_are, frames_are, port_files_are, counts_are, rules_files_are}
use Rattle.board_laws.proofs.answers.last_versions_give_one_answer.Goals as goal

pub returns-clause-actions : goal.returns-clause-actions
returns-clause-actions c = actions_are

pub returns-clause-frames : goal.returns-clause-frames
returns-clause-frames c = frames_are

pub returns-clause-port_files : goal.returns-clause-port_files
returns-clause-port_files c = port_files_are

pub returns-clause-counts : goal.returns-clause-counts
returns-clause-counts c = counts_are

pub returns-clause-rules : goal.returns-clause-rules
returns-clause-rules c = rules_files_are
