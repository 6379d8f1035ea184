use Rattle.std.proofs.Common.{ℕ, List, ap}
use Rattle.std.proofs.lemmas.List.Elements.{All-nil}
use Rattle.std.specs.Map.{lookup}
use Rattle.netflow_v5.specs.declared.class.FlowClass.{FlowClass}
use Rattle.netflow_v5.specs.Newest.{newest, is_same_class}
use Rattle.netflow_v5.proofs.flow_table.FlowTable.new.Goals as goal

pub invariant_of-result : goal.invariant_of-result
unfolding newest
invariant_of-result c = rw (c.new.ensures.items) (record {
  newest = λ class. ap (λ (es : List (FlowClass × ℕ)). lookup (is_same_class class) es) c.new-2.ensures.empty;
  few = All-nil _;
})
