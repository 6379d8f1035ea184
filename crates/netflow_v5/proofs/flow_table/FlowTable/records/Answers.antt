use Rattle.netflow_v5.proofs.OpenFlows.{told_views}
use Rattle.netflow_v5.proofs.flow_table.FlowTable.records.Goals as goal

pub returns : goal.returns
returns c = rw (← c.self.view_is, ← told_views, ← c.deref.ensures.value) c.records_of.ensures
