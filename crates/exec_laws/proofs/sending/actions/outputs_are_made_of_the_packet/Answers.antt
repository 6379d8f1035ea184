use Rattle.exec_laws.proofs.sending.MadeOutputs.{outputs-keys, outputs-proper, outputs-stay, outputs-ways}
use Rattle.exec_laws.proofs.sending.actions.outputs_are_made_of_the_packet.Goals as goal

pub returns-clause-keys : goal.returns-clause-keys
returns-clause-keys c = outputs-keys

pub returns-clause-tags : goal.returns-clause-tags
returns-clause-tags c = outputs-proper

pub returns-clause-others : goal.returns-clause-others
returns-clause-others c = outputs-stay

pub returns-clause-ports : goal.returns-clause-ports
returns-clause-ports c = outputs-ways
