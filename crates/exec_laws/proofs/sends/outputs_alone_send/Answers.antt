use Rattle.exec_laws.proofs.SentLists.{sent-silent, sent-before, sent-outputs}
use Rattle.exec_laws.proofs.sends.outputs_alone_send.Goals as goal

pub returns-clause-nothing : goal.returns-clause-nothing
returns-clause-nothing c = sent-silent

pub returns-clause-before : goal.returns-clause-before
returns-clause-before c = sent-before

pub returns-clause-outputs : goal.returns-clause-outputs
returns-clause-outputs c = sent-outputs
