use Rattle.std.proofs.Common.{rules, arith, ◌≡◌, ◌-◌, ◌≤◌, ◌==◌, false, length, get_or, subst, ◌∙◌}
use Rattle.std.specs.Prelude.{nat_le}
use Rattle.std.specs.List.{list_any}
use Rattle.std.proofs.lemmas.List.{get_or_default}
use Rattle.std.proofs.lemmas.List.Sorted.{IsPartitionPoint-from_clause}
use Rattle.megaflow_table.proofs.LiveLaws.{partitioned}
use Rattle.pmd_board.proofs.Listed.{absent}
use Rattle.pmd_board.proofs.sweep_list.SweepList.place_of.Goals as goal
use Rattle.pmd_board.proofs.sweep_list.SweepList.place_of.Goals.{else-past-gt0-via-then-past-gt0+else-index-number, else-past-gt0-via-else-past-gt0}

pub returns-else-past-gt0-clause-none : goal.returns-else-past-gt0-clause-none
returns-else-past-gt0-clause-none c =
    let xs = c.self.inside.0.items in
    let number = c.args.number in
    let past = c.partition_point-past.result in
    let halves = IsPartitionPoint-from_clause (λ n. nat_le n number) _ _ c.partition_point-past.ensures.partitioned (partitioned number xs c.self.invariant) (λ a r q k. search rules) in
    let bound : past ≤ length xs = omega (arith, c.partition_point-past.ensures.bound, c.self.inside.0.ok.0) in
    let other : 1 ≤ past → get_or xs (past - 1) 0 ≡ number → ⊥ = elim c.else-past-gt0.branch [
      | else-past-gt0-via-then-past-gt0+else-index-number w ↦ λ first e. w.if-index-number.false (w.index.ensures ∙ get_or_default xs (past - 1) w.index.result.now 0 (omega (arith, first, bound)) ∙ e)
      | else-past-gt0-via-else-past-gt0 w ↦ λ first e. absurd (omega (arith, first, w.if-past-gt0.false))
    ] in
    subst (λ ns. list_any (λ n. n == number) ns ≡ false) c.self.view_is (absent number past xs c.self.invariant halves.0 halves.1 bound other)
