use denote.Exit as exit
use denote.Param.Send.{param_send, arg_send}
use Rattle.table_publish.proofs.Crossing.{seer_send}
use Rattle.table_publish.proofs.threads.seer_goes_to_threads.Goals as goal

pub goes_to_threads-requires-send-T : goal.goes_to_threads-requires-send-T
goes_to_threads-requires-send-T g c κs within = param_send 0 _ (arg_send _ exit.no _ (seer_send _ _ g.row.T-Store g.C.Case g.T.RunTables g.T.Store.Clone c.type_bounds.send-C c.type_bounds.sync-C c.type_bounds.send-T c.type_bounds.sync-T))
