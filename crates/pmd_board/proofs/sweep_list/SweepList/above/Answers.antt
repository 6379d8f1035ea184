use Rattle.std.proofs.Common.{rules, arith, ◌≡◌, ◌<◌, length, Some, None, ap, sym, subst, ◌∙◌}
use Rattle.std.specs.Prelude.{nat_le, nat_lt}
use Rattle.std.specs.List.{find}
use Rattle.std.proofs.lemmas.List.{get_or_default}
use Rattle.std.proofs.lemmas.List.Sorted.{IsPartitionPoint-from_clause}
use Rattle.megaflow_table.proofs.LiveLaws.{partitioned, first_above, none_above}
use Rattle.pmd_board.proofs.sweep_list.SweepList.above.Goals as goal

pub returns-then-place-len : goal.returns-then-place-len
returns-then-place-len c =
    let xs = c.self.inside.0.items in
    let number = c.args.number in
    let halves = IsPartitionPoint-from_clause (λ n. nat_le n number) _ _ c.partition_point-place.ensures.partitioned (partitioned number xs c.self.invariant) (λ a r q k. search rules) in
    let within : c.partition_point-place.result < length xs = omega (arith, c.if-place-len.true, c.len.ensures, c.self.inside.0.ok.0) in
    subst (λ ns. Some c.index.result.now ≡ find (λ n. nat_lt number n) ns) c.self.view_is
    (ap Some (c.index.ensures ∙ get_or_default xs c.partition_point-place.result c.index.result.now 0 within)
    ∙ sym (first_above number xs c.partition_point-place.result halves.0 halves.1 within))

pub returns-else-place-len : goal.returns-else-place-len
returns-else-place-len c =
    let xs = c.self.inside.0.items in
    let number = c.args.number in
    let halves = IsPartitionPoint-from_clause (λ n. nat_le n number) _ _ c.partition_point-place.ensures.partitioned (partitioned number xs c.self.invariant) (λ a r q k. search rules) in
    subst (λ ns. None ≡ find (λ n. nat_lt number n) ns) c.self.view_is
    (sym (none_above number xs c.partition_point-place.result halves.0 (omega (arith, c.if-place-len.false, c.len.ensures, c.self.inside.0.ok.0))))
