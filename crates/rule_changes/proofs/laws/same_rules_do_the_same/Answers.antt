use Rattle.rule_changes.proofs.LockstepLaws.{lockstep}
use Rattle.rule_changes.proofs.laws.same_rules_do_the_same.Goals as goal

pub returns : goal.returns
returns c o n kept key ports alike leave = lockstep o n ports kept key alike leave
