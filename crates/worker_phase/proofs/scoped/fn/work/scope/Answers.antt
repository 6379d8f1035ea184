use denote.Param.Send.{param_send}
use Rattle.worker_phase.proofs.scoped.fn.work.scope.Goals as goal

pub begin_all-requires-send-C : goal.begin_all-requires-send-C
begin_all-requires-send-C g c κs within = param_send 1 _ (param_send 0 _ c.requires.1.1.1.1.1.1.0)

pub begin_all-requires-send-T : goal.begin_all-requires-send-T
begin_all-requires-send-T g c κs within = param_send 2 _ (param_send 1 _ c.requires.1.1.1.1.1.1.1)

pub begin_all-requires-send-P : goal.begin_all-requires-send-P
begin_all-requires-send-P g c κs within = param_send 3 _ (param_send 2 _ c.requires.1.1.1.1.1.1.2)
