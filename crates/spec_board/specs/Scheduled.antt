-- The schedule of a whole run: the journals that its given steps make, and then the end of every run.
use Rattle.spec_case.specs.Run.{Run}
use Rattle.spec_board.specs.Schedules.{Schedule, finish, new_schedule}
use Rattle.spec_board.specs.GivenSteps.{with_given_steps}

abbrev pub scheduled : Run → Schedule
scheduled run = finish run (with_given_steps run run.steps (new_schedule run))
