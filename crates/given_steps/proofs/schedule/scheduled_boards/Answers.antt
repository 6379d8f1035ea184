use Rattle.std.proofs.Common.{◌≡◌, List, map, map-id, sym, ap, ◌∙◌, subst, rules}
use Rattle.std.proofs.lemmas.Iterator.Consumers.{YieldsList-end}
use Rattle.std.proofs.lemmas.Iterator.Adapters.{YieldsList-from_vec}
use Rattle.spec_case.specs.Run.{Run}
use Rattle.pmd_board.specs.BoardView.{BoardView}
use Rattle.given_steps.specs.ScheduledViews.{scheduled}
use Rattle.given_steps.specs.Running.{AreOfPorts}
use Rattle.given_steps.proofs.WholeRuns.{new_view, new_ports, new_same}
use Rattle.given_steps.proofs.schedule.scheduled_boards.Goals as goal

pub returns-clause-ports : goal.returns-clause-ports
returns-clause-ports g c =
    let run : Run = g.C.Case.run in
    let all : List BoardView = c.into_vec-boards.result.items in
    let end = YieldsList-end (YieldsList-from_vec {s = c.into_iter-board-iterator.result} all (search rules) (search rules))
    c.boards.yielded c.boards.board-iterator c.boards.yielded_by c.next.result c.next.new.self c.in-None.is c.next.ensures.steps in
    let are : c.boards.list.items ≡ map new_view c.args.boards = c.boards.invariant ∙ ap (map new_view) (sym (map-id c.boards.yielded) ∙ end.0 ∙ c.into_vec-boards.ensures.list) in
    subst (AreOfPorts run) (sym are) (new_ports run run.flow_limit c.args.boards c.into_vec-boards.ensures.are)

pub returns-clause-same : goal.returns-clause-same
returns-clause-same g c =
    let run : Run = g.C.Case.run in
    let all : List BoardView = c.into_vec-boards.result.items in
    let end = YieldsList-end (YieldsList-from_vec {s = c.into_iter-board-iterator.result} all (search rules) (search rules))
    c.boards.yielded c.boards.board-iterator c.boards.yielded_by c.next.result c.next.new.self c.in-None.is c.next.ensures.steps in
    let are : c.boards.list.items ≡ map new_view c.args.boards = c.boards.invariant ∙ ap (map new_view) (sym (map-id c.boards.yielded) ∙ end.0 ∙ c.into_vec-boards.ensures.list) in
    ap (map (scheduled run)) are ∙ new_same run c.args.boards
