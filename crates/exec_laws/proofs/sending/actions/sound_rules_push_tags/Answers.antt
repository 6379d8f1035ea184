use Rattle.exec_laws.proofs.sending.MadeOutputs.{rules-push}
use Rattle.exec_laws.proofs.sending.actions.sound_rules_push_tags.Goals as goal

pub returns : goal.returns
returns c = rules-push
