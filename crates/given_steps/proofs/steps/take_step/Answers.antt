use Rattle.given_steps.proofs.Boards.{if_ok_then, on_ok_then}
use Rattle.given_steps.proofs.steps.take_step.Goals as goal

pub returns-clause-met : goal.returns-clause-met
returns-clause-met g c = if_ok_then c.taken.result (λ m takes. takes.met_is) c.taken.ensures

pub returns-clause-taken : goal.returns-clause-taken
returns-clause-taken g c = on_ok_then c.taken.result (λ m takes. takes.taken) c.taken.ensures

pub returns-clause-port : goal.returns-clause-port
returns-clause-port g c = on_ok_then c.taken.result (λ m takes. takes.port) c.taken.ensures
