use Rattle.exec_laws.proofs.sending.Emitted.{translation-emits}
use Rattle.exec_laws.proofs.sending.actions.each_output_follows_a_commit.Goals as goal

pub returns : goal.returns
returns c = translation-emits
