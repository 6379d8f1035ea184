use Rattle.std.proofs.Common.{◌≡◌, map, take}
use Rattle.netflow_v5.specs.declared.flow.Flow.{Flow}
use Rattle.netflow_v5.proofs.flow_table.records_of.Given as goal

abbrev pub invariant-flows : goal.invariant-flows
invariant-flows l = l.records.items ≡ map (λ (f : Flow). f.told) (take l.flow-index l.flows)
