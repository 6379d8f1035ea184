use Rattle.std.proofs.Common.{rules, ◌≡◌, replicate, List, ap, ◌∙◌}
use Rattle.spec_run.specs.declared.rule_counts.RuleCounts.{RuleCounts}
use Rattle.port_caches.specs.Sums.{total_of}
use Rattle.flow_dump.specs.Sums.{sums_view}
use Rattle.flow_dump.proofs.sums.Adding.{total_of-replicate}
use Rattle.flow_dump.proofs.sums.counting.count_rules.Goals as goal

pub add_boards-requires-clause-none : goal.add_boards-requires-clause-none
add_boards-requires-clause-none g c rule =
    let none : RuleCounts = record { packets = 0; bytes = 0 } in
    let new : c.in_ok-counts.counts.items ≡ replicate c.edit_count.result none = search rules in
    let counts : c.deref_mut.result.now ≡ replicate c.edit_count.result none = c.deref_mut.ensures.value ∙ new in
    ap (λ (cs : List RuleCounts). total_of (sums_view cs) rule) counts ∙ total_of-replicate c.edit_count.result rule
