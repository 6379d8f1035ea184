use Rattle.board_laws.proofs.Alike.{all_by_last}
use Rattle.output_laws.proofs.summaries.SentAlike.{send_alike}
use Rattle.output_laws.proofs.summaries.sums.summaries_send_alike.Goals as goal

pub returns-clause-last_versions : goal.returns-clause-last_versions
returns-clause-last_versions c = send_alike

pub returns-clause-edits_apart : goal.returns-clause-edits_apart
returns-clause-edits_apart c run a b apart whole_a whole_b =
    send_alike run a b whole_a whole_b (all_by_last run a apart whole_a) (all_by_last run b apart whole_b)
