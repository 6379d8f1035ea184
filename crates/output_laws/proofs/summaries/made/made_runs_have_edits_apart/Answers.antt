use Rattle.output_laws.proofs.summaries.MadeRuns.{apart_by_file, made_apart, accepted_apart}
use Rattle.output_laws.proofs.summaries.made.made_runs_have_edits_apart.Goals as goal

pub returns-clause-file : goal.returns-clause-file
returns-clause-file c files flow_limit sources text there given is = apart_by_file files flow_limit sources given is text there

pub returns-clause-number : goal.returns-clause-number
returns-clause-number c = made_apart

pub returns-clause-words : goal.returns-clause-words
returns-clause-words c = accepted_apart
