use Rattle.std.proofs.Common.{◌≡◌, ap, sym, ◌∙◌, take, arith}
use Rattle.std.proofs.lemmas.List.{take_all}
use Rattle.pmd_board.specs.BoardView.{journal_view, journals_view}
use Rattle.flow_dump.specs.StepCounts.{counts_of, counts_of_all, plus}
use Rattle.flow_dump.proofs.Counted.{few_more}
use Rattle.flow_dump.proofs.JournalSums.{counts-more}
use Rattle.flow_dump.proofs.step_counts.count_all_steps.Goals as goal

pub boards-preserved : goal.boards-preserved
boards-preserved g c =
    let boards = c.boards-of_ports.result.now in
    let at = c.boards.board-index in
    let board = c.board-item.result in
    let before = counts_of_all (journals_view (take at boards)) in
    let of_board : c.count_steps.result ≡ counts_of board.journal = c.count_steps.ensures.counts ∙ ap counts_of c.journal.ensures.same in
    record {
      counted =
          c.plus-counts.ensures ∙ ap (λ counts. plus counts c.count_steps.result) c.boards.invariant.counted
          ∙ ap (plus before) of_board ∙ sym (counts-more journal_view boards at board c.boards-test.true c.board-item.is);
      few = rw c.plus-counts.ensures (few_more c.boards.counts c.count_steps.result at c.boards.invariant.few c.count_steps.ensures.few);
    }

pub returns : goal.returns
returns g c =
    let all = take_all c.boards.board-index c.boards-of_ports.result.now (omega arith) in
    c.boards.invariant.counted ∙ ap (λ boards. counts_of_all (journals_view boards)) all ∙ ap counts_of_all c.boards-of_ports.ensures.journals
