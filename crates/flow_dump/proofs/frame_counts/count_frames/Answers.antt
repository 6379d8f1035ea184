use Rattle.std.proofs.Common.{ℕ, ◌+◌, length, refl, sym, ◌∙◌, arith}
use Rattle.spec_case.specs.Run.{Run}
use Rattle.spec_board.specs.Texts.{Journal}
use Rattle.spec_run.specs.Summary.{pieces_of}
use Rattle.pmd_board.specs.BoardView.{journal_view}
use Rattle.flow_dump.proofs.JournalSums.{places-more, dropped-yes, dropped-no}
use Rattle.flow_dump.proofs.frame_counts.count_frames.Goals as goal
use Rattle.flow_dump.proofs.frame_counts.count_frames.Goals.{then-times-eq0, else-times-eq0}

pub places-preserved : goal.places-preserved
places-preserved g c =
    let run : Run = g.C.Case.run in
    let j : Journal = journal_view c.args.board.now in
    let n : ℕ = c.places.before in
    let before = c.places.invariant in
    let pieces = c.times_sent-times.ensures.pieces in
    let few = c.times_sent-times.ensures.few in
    let more = places-more (λ place. length (pieces_of run j place)) n (n + 1) refl in
    elim c.if-times-eq0.branch [
      | then-times-eq0 w ↦
          let dropped = dropped-yes (λ place. length (pieces_of run j place)) n (sym pieces ∙ w.if-times-eq0.true) in
          rw w.counts-is record {
            sent = omega (arith, more, pieces, before.sent);
            dropped = omega (arith, dropped, before.dropped);
            few_sent = omega (arith, few, before.few_sent);
            few_dropped = omega (arith, before.few_dropped);
          }
      | else-times-eq0 w ↦
          let dropped = dropped-no (λ place. length (pieces_of run j place)) n (λ none. w.if-times-eq0.false (pieces ∙ none)) in
          rw w.counts-is record {
            sent = omega (arith, more, pieces, before.sent);
            dropped = omega (arith, dropped, before.dropped);
            few_sent = omega (arith, few, before.few_sent);
            few_dropped = omega (arith, before.few_dropped);
          }
    ]
