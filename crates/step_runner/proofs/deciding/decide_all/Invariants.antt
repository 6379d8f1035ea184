use Rattle.std.proofs.Common.{◌≡◌, ◌+◌, ◌-◌, ◌<◌, ◌≤◌}
use Rattle.std.specs.List.{fold, range_with_len}
use Rattle.spec_board.specs.Schedules as schedules
use Rattle.pmd_board.specs.BoardView.{state_of}
use Rattle.run_boards.specs.Progress.{IsSwept, IsSameBoard, OnlyPlans}
use Rattle.run_boards.specs.Scheduled.{under_way}
use Rattle.step_runner.proofs.deciding.decide_all.Given as goal

abbrev pub invariant-places : goal.invariant-places
invariant-places g l = record {
  swept : IsSwept g.C.Case.run (state_of g.C.Case.run l.board) l.block;
  turn : (state_of g.C.Case.run l.board).next ≡ l.place;
  upto : l.next < l.place → l.place ≤ l.end + 1;
  same : IsSameBoard l.initial.board l.board;
  only_plans : OnlyPlans g.C.Case.run l.initial.board.port (state_of g.C.Case.run l.initial.board) (state_of g.C.Case.run l.board);
  scheduled : under_way g.C.Case.run l.board ≡ fold (schedules.decide_next g.C.Case.run l.tables) (under_way g.C.Case.run l.initial.board) (range_with_len l.next (l.place - l.next));
}
