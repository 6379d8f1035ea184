use Rattle.trace_gen.proofs.States.{state-none, state-next}
use Rattle.trace_gen.proofs.draws.Draws.pass.Goals as goal

pub draws-init : goal.draws-init
draws-init c = state-none _

pub draws-preserved : goal.draws-preserved
draws-preserved c = state-next _ _ _ _ c.draws.invariant c.after-self.ensures
