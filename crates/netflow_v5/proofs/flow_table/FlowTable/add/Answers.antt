use Rattle.std.proofs.Common.{List, subst}
use Rattle.netflow_v5.specs.declared.flow.Flow.{Flow}
use Rattle.netflow_v5.specs.Joined.{Joins}
use Rattle.netflow_v5.proofs.OpenFlows.{table_joined}
use Rattle.netflow_v5.proofs.flow_table.FlowTable.add.Goals as goal

pub invariant_of-self : goal.invariant_of-self
invariant_of-self c =
    let there = subst (λ (fs : List Flow). Joins fs c.args.packet c.in-Some.at) c.deref.ensures.value c.in-Some.ensures in
    rw (c.join.ensures) (table_joined c.self.inside.flows.items c.self.inside.newest c.args.packet c.in-Some.at c.index_mut.result.now c.self.invariant there.within c.index_mut.ensures.value c.requires)
