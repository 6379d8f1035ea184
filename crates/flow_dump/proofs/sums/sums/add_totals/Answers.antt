use Rattle.std.proofs.Common.{◌+◌, ◌-◌, ℕ, ap, ap₂, ◌∙◌, arith}
use Rattle.std.specs.Prelude.{slice_index_or}
use Rattle.std.proofs.lemmas.List.{length-map}
use Rattle.spec_board.specs.State.{Total}
use Rattle.port_caches.specs.Sums.{IsRule}
use Rattle.flow_dump.specs.Sums.{sum_view, sums_view, with_total}
use Rattle.flow_dump.proofs.sums.Adding.{one_added}
use Rattle.flow_dump.proofs.sums.sums.add_totals.Goals as goal

pub rules-preserved : goal.rules-preserved
rules-preserved c =
    let now = c.rules.counts in
    let is_rule : IsRule (sums_view now) (c.rules.before + 1) = record {
      first = omega arith;
      last = omega (arith, length-map now sum_view, c.rules.auto.counts, c.requires.rules, c.rules-test.true, c.rules-before-end.ensures);
    } in
    let old : Total = sum_view (slice_index_or now (c.rules.before + 1 - 1) (record { packets = 0; bytes = 0 })) in
    let more : ℕ → ℕ → Total = λ p b. record { packets = old.packets + p; bytes = old.bytes + b } in
    one_added c.args.totals.now c.rules.before c.args.counts.now now c.rules.invariant is_rule _
    (ap₂ more c.from.ensures c.from-in-rules.ensures ∙ ap (λ t. with_total t old) c.of-total.ensures)
