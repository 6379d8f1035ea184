use Rattle.std.proofs.Common.{rules, sym}
use Rattle.std.specs.Prelude.{nat_le}
use Rattle.std.proofs.lemmas.List.Sorted.{IsPartitionPoint-from_clause}
use Rattle.megaflow_table.proofs.LiveLaws.{partitioned, first_above, none_above}
use Rattle.megaflow_table.proofs.live.first_above.Goals as goal

pub returns-then-place-live : goal.returns-then-place-live
returns-then-place-live c =
    let halves = IsPartitionPoint-from_clause (λ n. nat_le n c.args.number) _ _ c.partition_point-place.ensures.partitioned (partitioned c.args.number c.args.live.now c.requires) (λ a r q k. search rules) in
    sym (first_above c.args.number c.args.live.now c.partition_point-place.result halves.0 halves.1 c.if-place-live.true)

pub returns-else-place-live : goal.returns-else-place-live
returns-else-place-live c =
    let halves = IsPartitionPoint-from_clause (λ n. nat_le n c.args.number) _ _ c.partition_point-place.ensures.partitioned (partitioned c.args.number c.args.live.now c.requires) (λ a r q k. search rules) in
    sym (none_above c.args.number c.args.live.now c.partition_point-place.result halves.0 c.if-place-live.false)
