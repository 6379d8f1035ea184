use Rattle.std.proofs.Common.{rules}
use Rattle.std.specs.Prelude.{nat_le}
use Rattle.std.proofs.lemmas.List.Sorted.{IsPartitionPoint-from_clause, IsPartitionedBy-leb}
use Rattle.rule_tables.specs.declared.ending.Ending.{Ending}
use Rattle.rule_tables.proofs.Between.{between, later_rise}
use Rattle.rule_tables.proofs.ending.ended_between.Goals as goal

pub returns : goal.returns
returns c =
    let low = IsPartitionPoint-from_clause (λ (e : Ending). nat_le e.edit c.args.before) _ _ c.partition_point-first.ensures.partitioned (IsPartitionedBy-leb (λ (e : Ending). e.edit) c.args.ends.now c.args.before c.requires) (λ a r q k. search rules) in
    let high = IsPartitionPoint-from_clause (λ (e : Ending). nat_le e.edit c.args.after) _ _ c.partition_point-count.ensures.partitioned
    (IsPartitionedBy-leb (λ (e : Ending). e.edit) _ c.args.after (later_rise (λ (e : Ending). e.edit) c.args.ends.now _ c.partition_point-first.result c.split_at.ensures.back c.requires))
    (λ a r q k. search rules) in
    between (λ (e : Ending). e.edit) c.args.before c.args.after c.args.ends.now _ _ _ _ low high c.split_at.ensures.back c.split_at-2.ensures.front
