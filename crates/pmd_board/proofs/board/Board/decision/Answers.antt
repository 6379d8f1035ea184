use Rattle.std.proofs.Common.{◌≡◌, subst}
use Rattle.spec_case.specs.Run.{Run}
use Rattle.spec_board.specs.State as states
use Rattle.board_steps.specs.StepViews.{steps_view}
use Rattle.pmd_board.specs.BoardView.{BoardView, IsDecision, state_of}
use Rattle.pmd_board.proofs.Pushed.{decision_in}
use Rattle.pmd_board.proofs.board.Board.decision.Goals as goal

pub returns-in-Some-clause-told : goal.returns-in-Some-clause-told
returns-in-Some-clause-told g c =
    let b = c.self.inside in
    let run : Run = g.C.Case.run in
    let k = c.self.invariant in
    let version = c.in-Some.version in
    let actions = c.in-Some.actions.now in
    let Told : BoardView → Type 0 = λ x.
    states.place_at c.args.place (state_of run x) ≡ states.Decided version actions → IsDecision run x c.args.place version actions in
    subst Told c.self.view_is (decision_in run b.port b.caches.limit (steps_view b.journal.items) k.in_order k.has_keys k.legal c.args.place version actions)
    c.in-Some.ensures.some
