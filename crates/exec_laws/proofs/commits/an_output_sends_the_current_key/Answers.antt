use Rattle.exec_laws.proofs.Turned.{commit-sent, sent-key}
use Rattle.exec_laws.proofs.commits.an_output_sends_the_current_key.Goals as goal

pub returns-clause-frame : goal.returns-clause-frame
returns-clause-frame c = commit-sent

pub returns-clause-key : goal.returns-clause-key
returns-clause-key c = sent-key
