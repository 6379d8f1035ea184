use denote.Exit as exit
use denote.Param.Send.{param_send, param_sync, arg_send, arg_sync}
use mir.Syntax.{named}
use Rattle.run_tables.proofs.Crossing.{tables_send, tables_sync}
use Rattle.run_tables.proofs.threads.tables_cross_threads.Goals as goal

pub crosses_threads-requires-send-T : goal.crosses_threads-requires-send-T
crosses_threads-requires-send-T g c κs within = param_send 0 _ (arg_send _ exit.no _ (tables_send (record { mir = named 1; lft = _ }) _ _ c.type_bounds.send-C))

pub crosses_threads-requires-sync-T : goal.crosses_threads-requires-sync-T
crosses_threads-requires-sync-T g c κs within = param_sync 0 _ (arg_sync _ exit.no _ (tables_sync (record { mir = named 1; lft = _ }) _ _ c.type_bounds.sync-C))
