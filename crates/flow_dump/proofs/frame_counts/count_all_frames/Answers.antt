use Rattle.std.proofs.Common.{All, arith}
use Rattle.spec_case.specs.Run.{Run}
use Rattle.spec_run.specs.Journals.{IsWhole}
use Rattle.spec_run.specs.Summary.{sent_by, dropped_by}
use Rattle.pmd_board.specs.BoardView.{journal_view, journals_view}
use Rattle.flow_dump.proofs.JournalSums.{sum-more, of_each}
use Rattle.flow_dump.proofs.frame_counts.count_all_frames.Goals as goal

pub count_frames-of_port-requires : goal.count_frames-of_port-requires
count_frames-of_port-requires g c =
    let run : Run = g.C.Case.run in
    let boards = c.boards-of_ports.result.now in
    let each : All (IsWhole run) (journals_view boards) = rw c.boards-of_ports.ensures.journals c.boards-of_ports.ensures.whole.each in
    of_each journal_view boards c.boards.board-index c.board-item.result c.boards-test.true c.board-item.is (IsWhole run) each

pub boards-preserved : goal.boards-preserved
boards-preserved g c =
    let run : Run = g.C.Case.run in
    let boards = c.boards-of_ports.result.now in
    let before = c.boards.invariant in
    let of_port = c.count_frames-of_port.ensures in
    let sent = sum-more journal_view boards c.boards.board-index c.board-item.result c.boards-test.true c.board-item.is (sent_by run) in
    let dropped = sum-more journal_view boards c.boards.board-index c.board-item.result c.boards-test.true c.board-item.is (dropped_by run) in record {
      sent = omega (arith, sent, of_port.sent, before.sent);
      dropped = omega (arith, dropped, of_port.dropped, before.dropped);
      few_sent = omega (arith, of_port.few.0, before.few_sent);
      few_dropped = omega (arith, of_port.few.1, before.few_dropped);
    }
