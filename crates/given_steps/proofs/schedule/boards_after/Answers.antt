use Rattle.std.proofs.Common.{◌≡◌, ◌<◌, List, map, length, All, sym, ap, ◌∙◌, subst, arith}
use Rattle.spec_case.specs.Run.{Run}
use Rattle.pmd_board.specs.BoardView.{BoardView}
use Rattle.run_boards.specs.Boards.{AreBoards}
use Rattle.run_boards.specs.Scheduled.{under_way}
use Rattle.given_steps.specs.ScheduledViews.{ScheduledView}
use Rattle.given_steps.proofs.WholeRuns.{are_boards, left_of}
use Rattle.given_steps.proofs.schedule.boards_after.Goals as goal

-- there is a board, which has the limit of the run
pub unreachable-requires : goal.unreachable-requires
unreachable-requires g c =
    let run : Run = g.C.Case.run in
    let list : List ScheduledView = c.args.list.items in
    let boards : List BoardView = c.in_ok-boards.boards.items in
    let HasLimit : BoardView → Type 0 = λ (b : BoardView). b.flow_limit ≡ run.flow_limit in
    let same = c.in_ok-boards.ensures.same in
    let limits : All HasLimit boards = c.in_ok-boards.ensures.limits in
    let are : AreBoards run run.flow_limit boards = subst (AreBoards run run.flow_limit) (sym same) (are_boards run run.flow_limit list c.requires (subst (All HasLimit) same limits)) in
    let some : 0 < length boards = (let n = are.one_each in let m = c.len.ensures.some in let l = c.len.ensures.len ∙ ap length c.ports.ensures in omega (arith, n, m, l)) in
    let limit = c.flow_limit-flow_limit.ensures ∙ ap (λ (b : BoardView). b.flow_limit) c.index.ensures ∙ limits 0 c.index.result.now some in
    c.in-None.ensures (subst (λ n. AreBoards run n boards) (sym limit) are)

pub returns : goal.returns
returns g c =
    let run : Run = g.C.Case.run in
    ap (map (under_way run)) (c.in-Some.ensures ∙ c.in_ok-boards.ensures.same) ∙ left_of run c.args.list.items
