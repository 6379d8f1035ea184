use Rattle.std.proofs.Common.{◌≡◌, map, All}
use Rattle.pmd_board.specs.BoardView.{BoardView}
use Rattle.given_steps.proofs.WholeRuns.{board_in}
use Rattle.given_steps.proofs.schedule.boards_in.Given as goal

abbrev pub invariant-boards : goal.invariant-boards
invariant-boards g l = record {
  same : l.boards.items ≡ map board_in l.yielded;
  limits : All (λ (b : BoardView). b.flow_limit ≡ g.C.Case.run.flow_limit) l.boards.items;
}
