use Rattle.std.proofs.Common.{◌≡◌, ℕ, zero, suc, List, [], ◌∷◌, length, refl, ap, subst, arith}
use Rattle.std.specs.List.{IsDistinct}
use Rattle.spec_pcap.specs.Pcap.{Capture}
use Rattle.spec_tables.specs.Bundles.{AreBundles}
use Rattle.spec_tables.specs.Edits.{Edit}
use Rattle.rule_tables.specs.History.{history_of}
use Rattle.spec_case.specs.Blocks.{AreInOrder}
use Rattle.run_case.specs.Places.{IsCounted, AreCounted}
use Rattle.board_tests.proofs.rows.first_wrong_of.Goals as goal

one_counted : (trace : Capture) → IsCounted trace → AreCounted (trace ∷ [])
one_counted trace is zero d within = is
one_counted trace is (suc k) d within = absurd (omega arith)

pub new-ports-requires-clause-distinct : goal.new-ports-requires-clause-distinct
unfolding IsDistinct
new-ports-requires-clause-distinct c = rw (c.in_ok-push.ensures.items, c.new-list.ensures.items) (tt, tt)

pub in_run-requires-clause-rules : goal.in_run-requires-clause-rules
in_run-requires-clause-rules c _ =
    subst (λ (list : List Edit). c.in_ok-rules.rules ≡ history_of list c.in_ok-rules.bundles.items) c.deref.ensures.value c.in_ok-rules.ensures.rules

pub in_run-requires-clause-whole : goal.in_run-requires-clause-whole
in_run-requires-clause-whole c _ =
    subst (λ (list : List Edit). AreBundles c.in_ok-rules.bundles.items (length list)) c.deref.ensures.value c.in_ok-rules.ensures.whole

pub in_run-requires-clause-port : goal.in_run-requires-clause-port
in_run-requires-clause-port c _ =
    let ports : c.new-ports.result ≡ 1 ∷ [] = rw (c.new-ports.ensures, c.in_ok-push.ensures.items, c.new-list.ensures.items) refl in
    rw ports refl

pub in_run-requires-clause-one_each : goal.in_run-requires-clause-one_each
in_run-requires-clause-one_each c _ =
    let ports : c.new-ports.result ≡ 1 ∷ [] = rw (c.new-ports.ensures, c.in_ok-push.ensures.items, c.new-list.ensures.items) refl in
    let traces = rw c.new-traces.ensures.items at c.in_ok-push-2.ensures.items in
    rw (traces, ports) refl

pub in_run-requires-clause-in_order : goal.in_run-requires-clause-in_order
in_run-requires-clause-in_order c _ =
    let bundles : c.len.result ≡ length c.in_ok-rules.bundles.items = omega (arith, c.len.ensures, c.in_ok-rules.bundles.ok.0) in
    subst (λ (n : ℕ). AreInOrder c.in_ok-syncs.syncs.items n) bundles c.in_ok-syncs.ensures.order

pub in_run-requires-clause-few_edits : goal.in_run-requires-clause-few_edits
in_run-requires-clause-few_edits c _ = rw c.in_ok-edits.ensures.each c.requires

pub in_run-requires-clause-few_bundles : goal.in_run-requires-clause-few_bundles
in_run-requires-clause-few_bundles c _ =
    omega (arith, ap length c.deref.ensures.value, c.in_ok-edits.ensures.each, c.in_ok-rules.ensures.count, c.requires)

pub in_run-requires-clause-counted : goal.in_run-requires-clause-counted
in_run-requires-clause-counted c _ =
    let traces = rw c.new-traces.ensures.items at c.in_ok-push-2.ensures.items in
    rw traces (one_counted _ c.in_ok-trace_of.ensures)
