use Rattle.std.proofs.Common.{arith, ◌≡◌, ap, ◌∙◌}
use Rattle.spec_case.specs.Run.{Run}
use Rattle.spec_case.specs.Blocks.{hi}
use Rattle.run_boards.specs.Scheduled.{block_to_finish}
use Rattle.step_runner.proofs.finishing.finish_block.Goals as goal

pub returns-clause-scheduled : goal.returns-clause-scheduled
returns-clause-scheduled g c =
    let run : Run = g.C.Case.run in
    let block = c.least_block-block.result in
    let least : block ≡ block_to_finish run c.args.boards = c.least_block-block.ensures.least ∙ ap (block_to_finish run) c.as_slice.ensures.list in
    let at = ap (hi run) least in
    let there = c.in_ok-follow.ensures.there in
    let number = c.hi.ensures.number in
    let before = c.requires in
    c.in_ok-left.ensures.scheduled c.args.tables.now (omega (arith, at, there, number, before))
