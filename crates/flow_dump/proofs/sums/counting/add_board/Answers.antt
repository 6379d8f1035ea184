use Rattle.std.proofs.Common.{◌≡◌, ◌+◌, ◌<◌, ◌≤◌, ◌^◌, ℕ, length, refl, sym, ap, subst, ◌∙◌, arith}
use Rattle.std.specs.Prelude.{All}
use Rattle.std.proofs.lemmas.List.{length-map}
use Rattle.spec_pcap.specs.Pcap.{Frame, snap_length}
use Rattle.spec_case.specs.Run.{Run, frames_of}
use Rattle.spec_board.specs.State.{Total}
use Rattle.board_laws.specs.Counts.{HasBoundedCounts}
use Rattle.pmd_board.specs.BoardView.{BoardView, journal_view, state_of}
use Rattle.port_caches.specs.Sums.{total_of}
use Rattle.flow_dump.specs.Sums.{Fits, sum_view, sums_view, with_owed}
use Rattle.flow_dump.specs.Counted.{IsBoundedAt}
use Rattle.flow_dump.proofs.sums.Boards.{bounded_at, counted_all, owed_fits, totals_fit, visits_are_rules}
use Rattle.flow_dump.proofs.sums.counting.add_board.Goals as goal

-- what a board of this port counts is bounded
bounded : (run : Run) (b : BoardView) (port count : ℕ) → port ≡ b.port → count ≡ length (frames_of run port) → count + 1 < 2 ^ 32
    → All (λ (f : Frame). length f.bytes ≤ snap_length) (frames_of run port)
    → (All (λ (f : Frame). length f.bytes ≤ snap_length) (frames_of run b.port) → (rule : ℕ) → HasBoundedCounts run b.port snap_length (state_of run b) rule)
    → (rule : ℕ) → IsBoundedAt run (journal_view b) rule
bounded run b port count same counted few short law rule =
    let here = subst (λ p. All (λ (f : Frame). length f.bytes ≤ snap_length) (frames_of run p)) same short in
    let frames : count ≡ length (frames_of run b.port) = counted ∙ ap (λ p. length (frames_of run p)) same in
    bounded_at run b (omega (arith, frames, few)) rule (law here rule)

pub add_totals-requires-clause-fits : goal.add_totals-requires-clause-fits
add_totals-requires-clause-fits g c rule =
    let run = g.C.Case.run in
    let b = c.args.board.now in
    let most = bounded run b c.port.result c.frames.result c.port.ensures.same c.frames.ensures.count c.frames.ensures.bound c.frames.ensures.short
    (λ short. c.counts_are_bounded.ensures.now run b.port b.flow_limit snap_length b.journal c.journal.ensures.in_order c.journal.ensures.keys short c.journal.ensures.legal) rule in
    let are = c.entries-flows.ensures.entries in
    totals_fit are.0 c.entries-flows.result.now.entries (state_of run b) are.1 run b refl rule most (total_of (sums_view c.args.counts.now) rule) (c.requires.room rule)
    (total_of c.totals-totals.result.now rule) (c.totals-totals.ensures.totals rule)

pub add_owed-requires-clause-rules : goal.add_owed-requires-clause-rules
add_owed-requires-clause-rules g c =
    let run = g.C.Case.run in
    let b = c.args.board.now in
    let are = c.entries-flows.ensures.entries in
    let long = length-map c.add_totals.new.counts sum_view ∙ c.add_totals.auto.counts ∙ c.requires.rules in
    visits_are_rules are.0 c.entries-flows.result.now.entries (state_of run b) are.1 (sums_view c.add_totals.new.counts) run.bundles _ long c.edit_count.ensures.bundled
    (c.visits_of_entries_are_rules.ensures.visits run b.port b.flow_limit b.journal c.journal.ensures.keys c.journal.ensures.legal)
    (c.visits_of_entries_are_rules.ensures.versions run b.port b.flow_limit b.journal c.journal.ensures.in_order c.journal.ensures.legal)

pub add_owed-requires-clause-fits : goal.add_owed-requires-clause-fits
add_owed-requires-clause-fits g c rule =
    let run = g.C.Case.run in
    let b = c.args.board.now in
    let most = bounded run b c.port.result c.frames.result c.port.ensures.same c.frames.ensures.count c.frames.ensures.bound c.frames.ensures.short
    (λ short. c.counts_are_bounded.ensures.now run b.port b.flow_limit snap_length b.journal c.journal.ensures.in_order c.journal.ensures.keys short c.journal.ensures.legal) rule in
    let are = c.entries-flows.ensures.entries in
    subst (λ (t : Total). Fits (with_owed rule c.entries-flows.result.now.entries t)) (sym (c.add_totals.ensures rule))
    (owed_fits are.0 c.entries-flows.result.now.entries (state_of run b) are.1 run b refl rule most (total_of (sums_view c.args.counts.now) rule) (c.requires.room rule)
    (total_of c.totals-totals.result.now rule) (c.totals-totals.ensures.totals rule))

pub returns-clause-counted : goal.returns-clause-counted
returns-clause-counted g c rule =
    let run = g.C.Case.run in
    let b = c.args.board.now in
    let most = bounded run b c.port.result c.frames.result c.port.ensures.same c.frames.ensures.count c.frames.ensures.bound c.frames.ensures.short
    (λ short. c.counts_are_bounded.ensures.now run b.port b.flow_limit snap_length b.journal c.journal.ensures.in_order c.journal.ensures.keys short c.journal.ensures.legal) rule in
    let are = c.entries-flows.ensures.entries in
    counted_all are.0 c.entries-flows.result.now.entries (state_of run b) are.1 run b refl rule most (total_of (sums_view c.args.counts.now) rule) (c.requires.room rule)
    (total_of c.totals-totals.result.now rule) (c.totals-totals.ensures.totals rule) _
    (c.add_owed.ensures rule ∙ ap (with_owed rule c.entries-flows.result.now.entries) (c.add_totals.ensures rule))

pub returns-clause-bounded : goal.returns-clause-bounded
returns-clause-bounded g c rule =
    let run = g.C.Case.run in
    let b = c.args.board.now in
    bounded run b c.port.result c.frames.result c.port.ensures.same c.frames.ensures.count c.frames.ensures.bound c.frames.ensures.short
    (λ short. c.counts_are_bounded.ensures.now run b.port b.flow_limit snap_length b.journal c.journal.ensures.in_order c.journal.ensures.keys short c.journal.ensures.legal) rule
