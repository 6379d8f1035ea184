-- The tables of the switch may go to threads and be shared.
use denote.Exit as exit
use denote.Param.Send.{param_send, param_sync, arg_send, arg_sync}
use mir.Syntax.{named}
use Rattle.run_tables.proofs.Crossing.{tables_send, tables_sync}
use Rattle.switch_app.proofs.decider.decider.decide_by_workers.Goals as goal

pub decide_by_workers-requires-send-T : goal.decide_by_workers-requires-send-T
decide_by_workers-requires-send-T g c κs within = param_send 1 _ (arg_send _ exit.no _ (tables_send (record { mir = named 2; lft = _ }) _ g.C.Case c.type_bounds.send-C))

pub decide_by_workers-requires-sync-T : goal.decide_by_workers-requires-sync-T
decide_by_workers-requires-sync-T g c κs within = param_sync 1 _ (arg_sync _ exit.no _ (tables_sync (record { mir = named 2; lft = _ }) _ g.C.Case c.type_bounds.sync-C))
