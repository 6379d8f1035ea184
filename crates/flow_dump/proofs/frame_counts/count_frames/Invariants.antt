use Rattle.std.proofs.Common.{◌≡◌, ◌*◌, ◌≤◌, length}
use Rattle.std.specs.Prelude.{◌==◌, count_by}
use Rattle.std.specs.List.{sum_by, range_with_len}
use Rattle.spec_xlate.specs.Translation.{action_limit}
use Rattle.spec_run.specs.Summary.{pieces_of}
use Rattle.pmd_board.specs.BoardView.{journal_view}
use Rattle.flow_dump.proofs.frame_counts.count_frames.Given as goal

abbrev pub invariant-places : goal.invariant-places
invariant-places g l = record {
  sent : l.counts.sent ≡ sum_by (λ place. length (pieces_of g.C.Case.run (journal_view l.board) place)) (range_with_len 1 l.before);
  dropped : l.counts.dropped ≡ count_by (λ place. length (pieces_of g.C.Case.run (journal_view l.board) place) == 0) (range_with_len 1 l.before);
  few_sent : l.counts.sent ≤ l.before * action_limit;
  few_dropped : l.counts.dropped ≤ l.before;
}
