use Rattle.std.proofs.Common.{◌≡◌, ◌∷◌, length}
use Rattle.board_laws.proofs.NumberLaws.{Rising}
use Rattle.pmd_board.specs.BoardView.{state_of}
use Rattle.run_boards.specs.Progress.{OnlyPuts, IsSameBoard}
use Rattle.run_boards.specs.Scheduled.{under_way, with_listed_put}
use Rattle.step_runner.proofs.sweeping.put_listed.Given as goal

abbrev pub invariant-entries : goal.invariant-entries
invariant-entries g l = record {
  only_puts : OnlyPuts (state_of g.C.Case.run l.initial.board) (state_of g.C.Case.run l.board);
  same : IsSameBoard l.initial.board l.board;
  above : Rising (l.after ∷ (state_of g.C.Case.run l.board).listed);
  left : with_listed_put g.C.Case.run l.tables (under_way g.C.Case.run l.board) ≡ with_listed_put g.C.Case.run l.tables (under_way g.C.Case.run l.initial.board);
}

abbrev pub decreases-entries : goal.decreases-entries
decreases-entries g l = length (state_of g.C.Case.run l.board).listed
