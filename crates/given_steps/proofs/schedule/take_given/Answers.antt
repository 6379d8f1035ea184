use Rattle.std.proofs.Common.{◌≤◌, List, map, arith}
use Rattle.spec_case.specs.Run.{Run}
use Rattle.spec_case.specs.Blocks.{last_block}
use Rattle.spec_board.specs.Schedules.{Board}
use Rattle.run_boards.proofs.Places.{hi-le}
use Rattle.given_steps.specs.ScheduledViews.{ScheduledView, scheduled}
use Rattle.given_steps.specs.Running.{block_of_all, stepped_at}
use Rattle.given_steps.proofs.ByNumber.{least_alike}
use Rattle.given_steps.proofs.Stepped.{stepped_least}
use Rattle.given_steps.proofs.schedule.take_given.Goals as goal

-- no step takes the least block back
pub returns-in_ok-take_port_step-in-Some-clause-version :
    goal.returns-in_ok-take_port_step-in-Some-clause-version
returns-in_ok-take_port_step-in-Some-clause-version g c =
    let run : Run = g.C.Case.run in
    let old : List ScheduledView = c.args.boards.now.items in
    let new : List ScheduledView = c.take_port_step.new.boards.items in
    let version = c.requires.version in
    let before : List Board = map (scheduled run) old in
    let port = c.in-Some.port in
    let is = least_alike (last_block run) (map (scheduled run) new) (map (stepped_at run c.args.tables.now c.args.step.now port) before) c.in_ok-take_port_step-in-Some.ensures.taken in
    let least = stepped_least run c.args.tables.now c.args.step.now port (last_block run) before in
    let later : block_of_all run old ≤ block_of_all run new = omega (arith, is, least) in
    omega (arith, version, hi-le run (block_of_all run old) (block_of_all run new) c.last_block.ensures.in_order later)
