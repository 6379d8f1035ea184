use Rattle.std.proofs.Common.{◌≡◌, map, sym, ap, ◌∙◌}
use Rattle.spec_case.specs.Run.{Run}
use Rattle.spec_run.specs.Journals.{steps_of}
use Rattle.pmd_board.specs.BoardView.{BoardView, journals_view}
use Rattle.run_boards.proofs.BoardLists.{ports_of}
use Rattle.run_boards.proofs.Whole.{steps_of-board}
use Rattle.run_boards.proofs.finished.Finished.board_of.Goals as goal

pub returns-clause-journal : goal.returns-clause-journal
returns-clause-journal g c =
    let run : Run = g.C.Case.run in
    let boards = c.as_slice-boards.result.now in
    let list = c.as_slice-boards.ensures.list in
    let ports : map (λ (b : BoardView). b.port) boards ≡ c.ports.result.now = ap (map (λ (b : BoardView). b.port)) list ∙ ports_of run run.flow_limit c.self.inside.boards c.as_slice-boards.ensures.are ∙ sym c.ports.ensures in
    ap (λ js. steps_of js c.args.port) (sym c.self.view_is ∙ ap journals_view (sym list))
    ∙ steps_of-board c.args.port boards c.ports.result.now c.in-Some.place c.index-boards-place.result ports (sym c.in-Some.ensures.place) c.index-boards-place.is
