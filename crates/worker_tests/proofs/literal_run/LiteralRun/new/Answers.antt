use Rattle.std.proofs.Common.{◌≡◌, zero, suc, [], ◌∷◌, refl, arith}
use Rattle.std.specs.List.{IsDistinct}
use Rattle.spec_pcap.specs.Pcap.{Capture}
use Rattle.run_case.specs.Places.{IsCounted, AreCounted}
use Rattle.worker_tests.proofs.literal_run.LiteralRun.new.Goals as goal

one_counted : (trace : Capture) → IsCounted trace → AreCounted (trace ∷ [])
one_counted trace is zero d within = is
one_counted trace is (suc k) d within = absurd (omega arith)

pub new-ports-requires-clause-distinct : goal.new-ports-requires-clause-distinct
unfolding IsDistinct
new-ports-requires-clause-distinct c = rw (c.in_ok-push-2.ensures.items, c.new-list.ensures.items) (tt, tt)

pub invariant_of-result : goal.invariant_of-result
invariant_of-result c =
    let ports : c.new-ports.result ≡ 1 ∷ [] = rw (c.new-ports.ensures, c.in_ok-push-2.ensures.items, c.new-list.ensures.items) refl in
    let traces = rw c.new-traces.ensures.items at c.in_ok-push.ensures.items in
    let script = c.in_ok-script.ensures in
    let rules = (rw c.in-Some.is at script.rules).0 in (
      rw ports refl,
      rw (traces, ports) refl,
      rw traces (one_counted _ c.in_ok-trace_of.ensures),
      script.sound,
      script.edit_count,
      script.sync_count,
      script.in_order,
      script.bundles,
      rules,
    )
