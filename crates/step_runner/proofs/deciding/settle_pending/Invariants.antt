use Rattle.std.proofs.Common.{◌≡◌, ℕ, ◌-◌, ◌<◌, ◌≤◌, false, filter}
use Rattle.std.specs.List.{fold, range_with_len}
use Rattle.spec_board.specs.State.{place_at, is_pending}
use Rattle.spec_board.specs.Schedules as schedules
use Rattle.pmd_board.specs.BoardView.{state_of}
use Rattle.run_boards.specs.Progress.{IsSameBoard, OnlyPlans}
use Rattle.run_boards.specs.Scheduled.{under_way}
use Rattle.step_runner.proofs.deciding.settle_pending.Given as goal

abbrev pub invariant-places : goal.invariant-places
invariant-places g l = record {
  same : IsSameBoard l.initial.board l.board;
  block : (state_of g.C.Case.run l.board).block ≡ (state_of g.C.Case.run l.initial.board).block;
  next : (state_of g.C.Case.run l.board).next ≡ (state_of g.C.Case.run l.initial.board).next;
  is_sweeping : (state_of g.C.Case.run l.board).is_sweeping ≡ (state_of g.C.Case.run l.initial.board).is_sweeping;
  none_before : (k : ℕ) → k < l.place → is_pending (place_at k (state_of g.C.Case.run l.board)) ≡ false;
  others : (k : ℕ) → l.place ≤ k → place_at k (state_of g.C.Case.run l.board) ≡ place_at k (state_of g.C.Case.run l.initial.board);
  only_plans : OnlyPlans g.C.Case.run l.initial.board.port (state_of g.C.Case.run l.initial.board) (state_of g.C.Case.run l.board);
  scheduled : under_way g.C.Case.run l.board
      ≡ fold (λ b k. schedules.settle_at g.C.Case.run l.tables k b) (under_way g.C.Case.run l.initial.board)
      (filter (λ k. is_pending (place_at k (state_of g.C.Case.run l.initial.board))) (range_with_len 1 (l.place - 1)));
}
