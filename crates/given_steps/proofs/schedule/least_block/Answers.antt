use Rattle.std.proofs.Common.{List, [], ◌∷◌, ◌++◌, map, min, take, sym, arith, ap, ◌∙◌}
use Rattle.std.proofs.lemmas.List.{map_push, take_more}
use Rattle.spec_case.specs.Run.{Run}
use Rattle.spec_case.specs.Blocks.{last_block}
use Rattle.spec_board.specs.Schedules as schedules
use Rattle.run_boards.proofs.Scheduled.{least_most, least_none, least_more}
use Rattle.given_steps.specs.ScheduledViews.{ScheduledView, scheduled}
use Rattle.given_steps.proofs.schedule.least_block.Goals as goal

pub boards-init : goal.boards-init
boards-init g c = c.last_block-least.ensures.block ∙ least_none (last_block g.C.Case.run)

pub boards-preserved : goal.boards-preserved
boards-preserved g c =
    let run : Run = g.C.Case.run in
    let boards : List ScheduledView = c.args.boards.now in
    let i = c.boards.board-index in
    let b : ScheduledView = c.board-item.result in
    let front = map (scheduled run) (take i boards) in
    let more = ap (map (scheduled run)) (take_more boards i b c.boards-test.true ∙ ap (λ x. take i boards ++ x ∷ []) (sym c.board-item.is)) ∙ map_push (scheduled run) (take i boards) b in
    c.min-least.ensures
    ∙ ap (λ n. min n c.block.result) c.boards.invariant
    ∙ ap (min (schedules.least_block (last_block run) front)) c.block.ensures.same
    ∙ sym (ap (schedules.least_block (last_block run)) more ∙ least_more (last_block run) front (scheduled run b))

pub returns-clause-there : goal.returns-clause-there
returns-clause-there g c =
    let run : Run = g.C.Case.run in
    let is = c.boards.invariant in
    omega (arith, is, least_most (last_block run) (map (scheduled run) (take c.boards.board-index c.args.boards.now)))
