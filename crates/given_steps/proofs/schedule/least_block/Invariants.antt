use Rattle.std.proofs.Common.{◌≡◌, map, take}
use Rattle.spec_case.specs.Blocks.{last_block}
use Rattle.spec_board.specs.Schedules as schedules
use Rattle.given_steps.specs.ScheduledViews.{scheduled}
use Rattle.given_steps.proofs.schedule.least_block.Given as goal

abbrev pub invariant-boards : goal.invariant-boards
invariant-boards g l = l.least ≡ schedules.least_block (last_block g.C.Case.run) (map (scheduled g.C.Case.run) (take l.board-index l.boards))
