use Rattle.std.proofs.Common.{◌≡◌, ◌≤◌, take}
use Rattle.spec_case.specs.Blocks.{hi}
use Rattle.spec_board.specs.GivenSteps.{with_given_steps}
use Rattle.run_boards.specs.Scheduled.{schedule_of}
use Rattle.given_steps.specs.ByNumber.{all_by_number}
use Rattle.given_steps.specs.Running.{AreOfPorts, block_of_all, schedule_in}
use Rattle.given_steps.proofs.running.run_steps.Given as goal

abbrev pub invariant-steps : goal.invariant-steps
invariant-steps g l = record {
  ports : AreOfPorts g.C.Case.run l.list.items;
  version : l.tables ≤ hi g.C.Case.run (block_of_all g.C.Case.run l.list.items);
  few : l.unmet ≤ l.step-index;
  taken : all_by_number (schedule_in g.C.Case.run l.tables l.unmet l.list.items)
      ≡ all_by_number (with_given_steps g.C.Case.run (take l.step-index l.steps) (schedule_of g.C.Case.run l.fn.tables l.fn.boards));
}
