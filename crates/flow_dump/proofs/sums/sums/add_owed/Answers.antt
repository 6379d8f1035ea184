use Rattle.std.proofs.Common.{◌∙◌}
use Rattle.port_caches.specs.Sums.{total_of}
use Rattle.flow_dump.specs.Sums.{sums_view}
use Rattle.flow_dump.proofs.sums.Flows.{not_missing, visits_rules, credited_next, credited_fits}
use Rattle.flow_dump.proofs.sums.sums.add_owed.Goals as goal

pub add_visits-requires-clause-rules : goal.add_visits-requires-clause-rules
add_visits-requires-clause-rules c =
    visits_rules c.args.flows.now.entries c.numbers-number-items.result.now c.flows.number-index c.len.ensures.rising c.numbers-number-items.ensures c.flows-test.true
    c.in-Some.entry.now c.as_slice.result.now c.in-Some.ensures c.as_slice.ensures c.args.counts.now c.flows.counts c.flows.auto.counts c.requires.rules

pub add_visits-requires-clause-fits : goal.add_visits-requires-clause-fits
add_visits-requires-clause-fits c rule =
    credited_fits c.args.flows.now.entries c.numbers-number-items.result.now c.flows.number-index c.len.ensures.rising c.numbers-number-items.ensures c.flows-test.true
    c.in-Some.entry.now c.as_slice.result.now c.in-Some.ensures c.as_slice.ensures rule (total_of (sums_view c.args.counts.now) rule)
    (total_of (sums_view c.flows.counts)) (c.flows.invariant rule) (c.requires.fits rule)

pub unreachable-requires : goal.unreachable-requires
unreachable-requires c =
    not_missing c.args.flows.now.entries c.numbers-number-items.result.now c.flows.number-index c.len.ensures.rising c.numbers-number-items.ensures c.flows-test.true c.in-None.ensures

pub flows-preserved : goal.flows-preserved
flows-preserved c rule =
    c.add_visits.ensures rule
    ∙ credited_next c.args.flows.now.entries c.numbers-number-items.result.now c.flows.number-index c.len.ensures.rising c.numbers-number-items.ensures c.flows-test.true
    c.in-Some.entry.now c.as_slice.result.now c.in-Some.ensures c.as_slice.ensures rule (total_of (sums_view c.args.counts.now) rule)
    (total_of (sums_view c.flows.counts)) (c.flows.invariant rule)
