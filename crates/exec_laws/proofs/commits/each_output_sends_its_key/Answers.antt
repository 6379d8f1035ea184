use Rattle.exec_laws.proofs.Outputs.{outputs-ports, outputs-keys}
use Rattle.exec_laws.proofs.commits.each_output_sends_its_key.Goals as goal

pub returns-clause-ports : goal.returns-clause-ports
returns-clause-ports c = outputs-ports

pub returns-clause-keys : goal.returns-clause-keys
returns-clause-keys c = outputs-keys
