use Rattle.std.proofs.Common.{◌<◌}
use Rattle.spec_case.specs.Blocks.{last_block}
use Rattle.run_boards.specs.Finished.{AreFinished}
use Rattle.worker_run.proofs.deciding.decide_blocks.Given as goal

abbrev pub invariant-blocks-2 : goal.invariant-blocks-2
invariant-blocks-2 g l = last_block g.C.Case.run < l.block → AreFinished g.C.Case.run l.left.boards
