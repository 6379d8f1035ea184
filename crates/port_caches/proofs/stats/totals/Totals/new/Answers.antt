use Rattle.std.proofs.Common.{rules, ◌≡◌, replicate, ap, ◌∙◌, List}
use Rattle.port_caches.specs.declared.stats.counts.Counts.{Counts}
use Rattle.port_caches.specs.Sums.{total_of, totals_view}
use Rattle.port_caches.proofs.stats.Credits.{total_of-replicate}
use Rattle.port_caches.proofs.stats.totals.Totals.new.Goals as goal

pub returns-clause-nothing : goal.returns-clause-nothing
returns-clause-nothing c rule =
    let counts : c.in_ok-counts.counts.items ≡ replicate c.args.rules (record { packets = 0; bytes = 0 }) = search rules in
    ap (λ (cs : List Counts). total_of (totals_view cs) rule) counts ∙ total_of-replicate c.args.rules rule
