-- That the tables of a run may go to another thread and be shared.
use denote.RattleType.{RattleType}
use denote.Ref.{NamedLft}
use denote.Param.Send.{IsSend, IsSync, sendable}
use Rattle.std.proofs.Crossing.{crosses}
use Rattle.run_case.specs.declared.case.Case.{Ghosts}
use Rattle.tuple_classifier.proofs.Crossing.{tables_send as rules_send, tables_sync as rules_sync}
use Rattle.run_tables.specs.contracts.tables.ClassifierTables as tables

pub tables_send : (ℓ : NamedLft) (C : RattleType) (g : Ghosts C.Denot) → IsSend C → IsSend (tables.the_row ℓ C g)
tables_send ℓ C g c = search (sendable, crosses, rules_send) depth 40

pub tables_sync : (ℓ : NamedLft) (C : RattleType) (g : Ghosts C.Denot) → IsSync C → IsSync (tables.the_row ℓ C g)
tables_sync ℓ C g c = search (sendable, crosses, rules_sync) depth 40
