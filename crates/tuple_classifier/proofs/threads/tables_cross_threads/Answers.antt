use denote.Exit as exit
use denote.Param.Send.{param_send, param_sync, arg_send, arg_sync}
use denote.Ref.{NamedLft}
use mir.Syntax.{named}
use Rattle.tuple_classifier.proofs.Crossing.{tables_send, tables_sync}
use Rattle.tuple_classifier.proofs.threads.tables_cross_threads.Goals as goal

pub crosses_threads-requires-send-T : goal.crosses_threads-requires-send-T
crosses_threads-requires-send-T c κs =
    let store : NamedLft = record { mir = named 1; lft = κs.1.0 } in
    param_send 0 _ (arg_send _ exit.no _ (tables_send store))

pub crosses_threads-requires-sync-T : goal.crosses_threads-requires-sync-T
crosses_threads-requires-sync-T c κs =
    let store : NamedLft = record { mir = named 1; lft = κs.1.0 } in
    param_sync 0 _ (arg_sync _ exit.no _ (tables_sync store))
