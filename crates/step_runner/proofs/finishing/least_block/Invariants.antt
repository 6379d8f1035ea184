use Rattle.std.proofs.Common.{◌≡◌, map, take}
use Rattle.spec_case.specs.Blocks.{last_block}
use Rattle.spec_board.specs.Schedules as schedules
use Rattle.run_boards.specs.Scheduled.{under_way}
use Rattle.step_runner.proofs.finishing.least_block.Given as goal

abbrev pub invariant-boards : goal.invariant-boards
invariant-boards g l = l.least ≡ schedules.least_block (last_block g.C.Case.run) (map (under_way g.C.Case.run) (take l.board-index l.boards))
