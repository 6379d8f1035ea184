use Rattle.trace_gen.proofs.Pieces.{register-none, register-more}
use Rattle.trace_gen.proofs.edits.push_registers.Goals as goal

pub values-init : goal.values-init
values-init c = register-none _

pub values-preserved : goal.values-preserved
values-preserved c = register-more _ _ _ _ c.values.invariant c.in_ok-push_register.ensures
