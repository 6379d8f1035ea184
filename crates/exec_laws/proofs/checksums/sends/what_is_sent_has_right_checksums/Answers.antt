use Rattle.exec_laws.proofs.checksums.Actions.{sent-header, sent-transport}
use Rattle.exec_laws.proofs.checksums.sends.what_is_sent_has_right_checksums.Goals as goal

pub returns-clause-header : goal.returns-clause-header
returns-clause-header c = sent-header

pub returns-clause-transport : goal.returns-clause-transport
returns-clause-transport c = sent-transport
