use Rattle.board_laws.proofs.Alike.{all_by_last, actions_are, frames_are, port_files_are, counts_are, rules_files_are}
use Rattle.board_laws.proofs.answers.edits_apart_give_one_answer.Goals as goal

pub returns-clause-actions : goal.returns-clause-actions
returns-clause-actions c run a b apart whole_a whole_b port place =
    actions_are run a b whole_a whole_b (all_by_last run a apart whole_a) (all_by_last run b apart whole_b) port place

pub returns-clause-frames : goal.returns-clause-frames
returns-clause-frames c run a b apart whole_a whole_b port =
    frames_are run a b whole_a whole_b (all_by_last run a apart whole_a) (all_by_last run b apart whole_b) port

pub returns-clause-port_files : goal.returns-clause-port_files
returns-clause-port_files c run a b apart whole_a whole_b out port =
    port_files_are run a b whole_a whole_b (all_by_last run a apart whole_a) (all_by_last run b apart whole_b) out port

pub returns-clause-counts : goal.returns-clause-counts
returns-clause-counts c run a b apart whole_a whole_b rule =
    counts_are run a b whole_a whole_b (all_by_last run a apart whole_a) (all_by_last run b apart whole_b) rule

pub returns-clause-rules : goal.returns-clause-rules
returns-clause-rules c run a b apart whole_a whole_b out =
    rules_files_are run a b whole_a whole_b (all_by_last run a apart whole_a) (all_by_last run b apart whole_b) out
