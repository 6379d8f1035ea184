use Rattle.std.proofs.Common.{arith, ◌≡◌, ◌<◌, List, slice_index_or, length, length-set, All, sym, ap, ◌∙◌, subst}
use Rattle.std.proofs.lemmas.List.{get_or-set_other, get_or_default}
use Rattle.spec_case.specs.Run.{Run}
use Rattle.pmd_board.specs.BoardView.{BoardView}
use Rattle.run_boards.specs.Scheduled.{TookTurn, TookTurns}
use Rattle.run_boards.proofs.Scheduled.{written, one_more}
use Rattle.step_runner.proofs.finishing.finish_boards.Goals as goal

-- the board whose turn is next is one of those that were given
pub take_turn-requires-clause-limit : goal.take_turn-requires-clause-limit
take_turn-requires-clause-limit g c _ _ =
    let run : Run = g.C.Case.run in
    let items : List BoardView = c.boards.board-items in
    let i = c.boards.board-index in
    let old : List BoardView = c.deref_mut-board-items.result.now in
    let value = c.deref_mut-board-items.ensures.value in
    let count = c.boards.invariant.count in
    let within : i < length old = (let t = c.boards-test.true in omega (arith, t, count)) in
    let b : BoardView = c.board-item.result in
    ap (λ (x : BoardView). x.flow_limit) (c.boards.invariant.others i b (omega arith)) ∙ (subst (All (λ (x : BoardView). x.flow_limit ≡ run.flow_limit)) (sym value) c.requires.limits) i b within

pub boards-preserved : goal.boards-preserved
boards-preserved g c =
    let run : Run = g.C.Case.run in
    let items : List BoardView = c.boards.board-items in
    let i = c.boards.board-index in
    let after : BoardView = c.take_turn.new.board in
    let old : List BoardView = c.deref_mut-board-items.result.now in
    let within = (let t = c.boards-test.true in let n = c.boards.invariant.count in let m : i < length items = omega (arith, t, n) in m) in
    let before : BoardView = slice_index_or items i c.board-item.result in record {
      count = length-set items i after ∙ c.boards.invariant.count;
      others = λ k d from. get_or-set_other items i k after d (λ e. omega (arith, e, from)) ∙ c.boards.invariant.others k d (omega (arith, from));
      done = one_more (TookTurn run c.args.block c.args.tables.now) old items i before after within (get_or_default items i c.board-item.result before within) c.boards.invariant.others c.boards.invariant.done c.in_ok-take_turn.ensures;
    }

pub returns : goal.returns
returns g c =
    let run : Run = g.C.Case.run in
    let old : List BoardView = c.args.boards.now.items in
    let value = c.deref_mut-board-items.ensures.value in
    let count = c.boards.invariant.count in
    let end = c.boards-test.false in
    let left = written c.args.boards.now.len c.boards.board-items old (count ∙ ap length value) (sym (ap length value) ∙ c.deref_mut-board-items.ensures.len) in
    let took : TookTurns run c.args.block c.args.tables.now c.deref_mut-board-items.result.now c.boards.board-items = record {
      count = count;
      each = λ k d within. c.boards.invariant.done k d (omega (arith, within, end));
    } in
    subst (TookTurns run c.args.block c.args.tables.now old) (sym left) (subst (λ (x : List BoardView). TookTurns run c.args.block c.args.tables.now x c.boards.board-items) value took)
