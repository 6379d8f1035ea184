use Rattle.std.proofs.Common.{rules, sym, ap, ◌∙◌}
use Rattle.std.specs.Option.{option_map}
use Rattle.std.proofs.lemmas.List.Sorted.{IsPartitionPoint-from_clause}
use Rattle.rule_tables.proofs.Numbered.{is_less, partitioned, at_place, other_at_place, past_all}
use Rattle.rule_tables.proofs.search.search_number.Goals as goal

pub returns-in_err-stored : goal.returns-in_err-stored
returns-in_err-stored c =
    let halves = IsPartitionPoint-from_clause (is_less c.args.number) _ _ c.partition_point-place.ensures.partitioned (partitioned c.args.number c.args.rules.now c.requires) (λ a r q k. search rules) in
    ap (option_map (λ s. s.now)) c.from_residual.ensures ∙ sym (past_all c.args.number c.partition_point-place.result c.args.rules.now c.requires halves (sym c.in_err-stored.ensures))

pub returns-then-stored-number : goal.returns-then-stored-number
returns-then-stored-number c =
    let halves = IsPartitionPoint-from_clause (is_less c.args.number) _ _ c.partition_point-place.ensures.partitioned (partitioned c.args.number c.args.rules.now c.requires) (λ a r q k. search rules) in
    sym (at_place c.args.number c.partition_point-place.result c.args.rules.now c.requires halves c.in_ok-stored.stored.now (sym c.in_ok-stored.ensures) c.if-stored-number.true)

pub returns-else-stored-number : goal.returns-else-stored-number
returns-else-stored-number c =
    let halves = IsPartitionPoint-from_clause (is_less c.args.number) _ _ c.partition_point-place.ensures.partitioned (partitioned c.args.number c.args.rules.now c.requires) (λ a r q k. search rules) in
    sym (other_at_place c.args.number c.partition_point-place.result c.args.rules.now c.requires halves c.in_ok-stored.stored.now (sym c.in_ok-stored.ensures) c.if-stored-number.false)
