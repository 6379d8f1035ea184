use Rattle.std.proofs.Common.{rules}
use Rattle.std.specs.Prelude.{nat_le}
use Rattle.std.proofs.lemmas.List.Sorted.{IsPartitionPoint-from_clause, IsPartitionedBy-leb}
use Rattle.rule_tables.specs.declared.stored.StoredRule.{StoredRule}
use Rattle.rule_tables.proofs.Between.{between, later_rise, numbers_rise}
use Rattle.rule_tables.proofs.search.added_between.Goals as goal

pub returns : goal.returns
returns c =
    let low = IsPartitionPoint-from_clause (λ (s : StoredRule). nat_le s.rule.number c.args.before) _ _ c.partition_point-first.ensures.partitioned (IsPartitionedBy-leb (λ (s : StoredRule). s.rule.number) c.args.rules.now c.args.before (numbers_rise c.args.rules.now c.requires)) (λ a r q k. search rules) in
    let high = IsPartitionPoint-from_clause (λ (s : StoredRule). nat_le s.rule.number c.args.after) _ _ c.partition_point-count.ensures.partitioned
    (IsPartitionedBy-leb (λ (s : StoredRule). s.rule.number) _ c.args.after (later_rise (λ (s : StoredRule). s.rule.number) c.args.rules.now _ c.partition_point-first.result c.split_at.ensures.back (numbers_rise c.args.rules.now c.requires)))
    (λ a r q k. search rules) in
    between (λ (s : StoredRule). s.rule.number) c.args.before c.args.after c.args.rules.now _ _ _ _ low high c.split_at.ensures.back c.split_at-2.ensures.front
