use denote.Exit as exit
use denote.Param.Send.{param_send, param_sync, arg_send, arg_sync}
use Rattle.table_versions.proofs.Crossing.{rules_send, rules_sync}
use Rattle.table_versions.proofs.rules.threads.run_rules_cross_threads.Goals as goal

pub crosses_threads-requires-send-T : goal.crosses_threads-requires-send-T
crosses_threads-requires-send-T g c κs within = param_send 0 _ (arg_send _ exit.no _ (rules_send _ _ c.type_bounds.send-C))

pub crosses_threads-requires-sync-T : goal.crosses_threads-requires-sync-T
crosses_threads-requires-sync-T g c κs within = param_sync 0 _ (arg_sync _ exit.no _ (rules_sync _ _ c.type_bounds.sync-C))
