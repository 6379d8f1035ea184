-- That the rules of a run may go to another thread and be shared.
use denote.RattleType.{RattleType}
use denote.Param.Send.{IsSend, IsSync, sendable}
use Rattle.std.proofs.Crossing.{crosses}
use Rattle.run_case.specs.declared.case.Case.{Ghosts}
use Rattle.rule_tables.proofs.Crossing.{versions_send, versions_sync}
use Rattle.table_versions.specs.contracts.rules.run_rules.RunRules as rules

pub rules_send : (C : RattleType) (g : Ghosts C.Denot) → IsSend C → IsSend (rules.the_row C g)
rules_send C g c = search (sendable, crosses, versions_send) depth 40

pub rules_sync : (C : RattleType) (g : Ghosts C.Denot) → IsSync C → IsSync (rules.the_row C g)
rules_sync C g c = search (sendable, crosses, versions_sync) depth 40
