use Rattle.action_text.proofs.Commits.{commit_within}
use Rattle.action_text.proofs.dp_laws.commit_is_within_fields.Goals as goal

pub returns : goal.returns
returns c base current is_base is_current = record { within = commit_within base current is_base is_current }
