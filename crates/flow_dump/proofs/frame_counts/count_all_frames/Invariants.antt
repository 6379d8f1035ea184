use Rattle.std.proofs.Common.{◌≡◌, ◌*◌, ◌^◌, ◌≤◌, take}
use Rattle.spec_run.specs.Summary.{sent_count, dropped_count}
use Rattle.pmd_board.specs.BoardView.{journals_view}
use Rattle.flow_dump.proofs.frame_counts.count_all_frames.Given as goal

abbrev pub invariant-boards : goal.invariant-boards
invariant-boards g l = record {
  sent : l.counts.sent ≡ sent_count g.C.Case.run (journals_view (take l.board-index l.of_ports));
  dropped : l.counts.dropped ≡ dropped_count g.C.Case.run (journals_view (take l.board-index l.of_ports));
  few_sent : l.counts.sent ≤ l.board-index * 2 ^ 64;
  few_dropped : l.counts.dropped ≤ l.board-index * 2 ^ 64;
}
