use Rattle.board_laws.proofs.Alike.{all_by_last}
use Rattle.output_laws.proofs.summaries.SentPlainly.{send_plainly}
use Rattle.output_laws.proofs.summaries.sums.summaries_send_plainly.Goals as goal

pub returns-clause-last_versions : goal.returns-clause-last_versions
returns-clause-last_versions c = send_plainly

pub returns-clause-edits_apart : goal.returns-clause-edits_apart
returns-clause-edits_apart c run journals apart whole = send_plainly run journals whole (all_by_last run journals apart whole)
