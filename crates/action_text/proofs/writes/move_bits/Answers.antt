use Rattle.std.proofs.Common.{rules}
use Rattle.spec_flow_text.specs.Actions.{move}
use Rattle.action_text.proofs.writes.move_bits.Goals as goal

pub returns-in_err-from-clause-value : goal.returns-in_err-from-clause-value
unfolding move
returns-in_err-from-clause-value c = search rules

pub returns-in_err-source-clause-value : goal.returns-in_err-source-clause-value
unfolding move
returns-in_err-source-clause-value c = search rules

pub returns-in_err-target-clause-value : goal.returns-in_err-target-clause-value
unfolding move
returns-in_err-target-clause-value c = search rules

pub returns-in_err-source-2-clause-value : goal.returns-in_err-source-2-clause-value
unfolding move
returns-in_err-source-2-clause-value c = search rules

pub returns-in_err-target-2-clause-value : goal.returns-in_err-target-2-clause-value
unfolding move
returns-in_err-target-2-clause-value c = search rules

pub returns-then-source-target-clause-value : goal.returns-then-source-target-clause-value
unfolding move
returns-then-source-target-clause-value c = search rules

pub returns-else-source-target-clause-value : goal.returns-else-source-target-clause-value
unfolding move
returns-else-source-target-clause-value c = search rules
