use Rattle.std.proofs.Common.{◌≡◌, length, ap, sym, ◌∙◌, arith}
use Rattle.std.proofs.lemmas.List.{take_all, length-map}
use Rattle.spec_case.specs.Run.{Run}
use Rattle.spec_board.specs.Texts.{Journal}
use Rattle.spec_run.specs.Rules.{end_of}
use Rattle.spec_run.specs.Summary.{megaflow_count}
use Rattle.port_caches.specs.Views.{entry_view}
use Rattle.pmd_board.specs.BoardView.{journal_view, journals_view}
use Rattle.flow_dump.proofs.JournalSums.{sum-more}
use Rattle.flow_dump.proofs.summary.megaflow_count.Goals as goal

pub boards-preserved : goal.boards-preserved
boards-preserved g c =
    let run : Run = g.C.Case.run in
    let boards = c.boards-of_ports.result.now in
    let board = c.board-item.result in
    let entries = c.entries.ensures.entries in
    let count : c.len.result ≡ length (end_of run (journal_view board)).entries =
    c.len.ensures.length ∙ sym (ap length entries.1 ∙ length-map c.entries.result.now.entries (entry_view entries.0)) in
    let more = sum-more journal_view boards c.boards.board-index board c.boards-test.true c.board-item.is (λ (j : Journal). length (end_of run j).entries) in record {
      megaflows = omega (arith, more, count, c.boards.invariant.megaflows);
      few = omega arith;
    }

pub returns : goal.returns
returns g c =
    let run : Run = g.C.Case.run in
    let all = take_all c.boards.board-index c.boards-of_ports.result.now (omega arith) in
    c.boards.invariant.megaflows ∙ ap (λ boards. megaflow_count run (journals_view boards)) all ∙ ap (megaflow_count run) c.boards-of_ports.ensures.journals
