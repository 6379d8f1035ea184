use Rattle.std.proofs.Common.{◌≡◌, ◌≤◌, All}
use Rattle.std.specs.Fn.{iterate}
use Rattle.spec_case.specs.Blocks.{hi}
use Rattle.spec_board.specs.Schedules as schedules
use Rattle.run_boards.specs.Scheduled.{schedule_of, block_to_finish, HasDone, AreOnlyPlanned}
use Rattle.step_runner.proofs.finishing.finish_blocks.Given as goal

abbrev pub invariant-rounds : goal.invariant-rounds
invariant-rounds g l = record {
  version : l.tables ≤ hi g.C.Case.run (block_to_finish g.C.Case.run l.left);
  done : All (HasDone g.C.Case.run l.round) l.left;
  only_plans : AreOnlyPlanned g.C.Case.run l.initial.left l.left;
  scheduled : schedule_of g.C.Case.run l.tables l.left ≡ iterate (schedules.finish_block g.C.Case.run) l.round (schedule_of g.C.Case.run l.initial.tables l.initial.left);
}
