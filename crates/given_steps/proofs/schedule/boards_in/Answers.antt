use Rattle.std.proofs.Common.{◌≡◌, List, [], ◌∷◌, ◌++◌, map, All, sym, ap, ◌∙◌, subst}
use Rattle.std.proofs.lemmas.List.{map_push}
use Rattle.std.proofs.lemmas.List.Elements.{All-append, All-cons, All-nil}
use Rattle.spec_case.specs.Run.{Run}
use Rattle.pmd_board.specs.BoardView.{BoardView}
use Rattle.given_steps.specs.ScheduledViews.{ScheduledView}
use Rattle.given_steps.proofs.WholeRuns.{board_in}
use Rattle.given_steps.proofs.schedule.boards_in.Goals as goal

pub boards-preserved : goal.boards-preserved
boards-preserved g c =
    let run : Run = g.C.Case.run in
    let boards : List BoardView = c.boards.boards.items in
    let yielded : List ScheduledView = c.boards.yielded in
    let board : BoardView = c.into_board.result in
    let grown : c.push.new.self.items ≡ boards ++ board ∷ [] = c.in_ok-push.ensures.items in
    let HasLimit : BoardView → Type 0 = λ (b : BoardView). b.flow_limit ≡ run.flow_limit in record {
      same = grown ∙ ap (λ xs. xs ++ board ∷ []) c.boards.invariant.same
          ∙ ap (λ b. map board_in yielded ++ b ∷ []) c.into_board.ensures.same
          ∙ sym (map_push board_in yielded c.in-Some.board);
      limits = subst (All HasLimit) (sym grown) (All-append HasLimit boards (board ∷ []) c.boards.invariant.limits (All-cons HasLimit board [] c.into_board.ensures.limit (All-nil HasLimit)));
    }
