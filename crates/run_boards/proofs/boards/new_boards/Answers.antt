use Rattle.std.proofs.Common.{◌≡◌, ℕ, ◌<◌, List, [], ◌∷◌, ◌++◌, map, take, get_or, length, All, sym, ap, ◌∙◌, subst}
use Rattle.std.proofs.lemmas.List.{map_push, take_more}
use Rattle.std.proofs.lemmas.List.Elements.{All-append, All-cons, All-nil}
use Rattle.spec_case.specs.Run.{Run}
use Rattle.spec_board.specs.Schedules as schedules
use Rattle.pmd_board.specs.BoardView.{BoardView}
use Rattle.run_boards.specs.Scheduled.{under_way, IsNew}
use Rattle.run_boards.proofs.boards.new_boards.Goals as goal

pub ports-preserved : goal.ports-preserved
ports-preserved g c =
    let run : Run = g.C.Case.run in
    let i = c.ports.port-index in
    let boards : List BoardView = c.ports.boards.items in
    let board : BoardView = c.in_ok-board.board in
    let grown : c.push.new.self.items ≡ boards ++ board ∷ [] = c.in_ok-push.ensures.items in
    let list : c.as_slice-port-items.result.now ≡ run.ports = c.as_slice-port-items.ensures.list ∙ c.ports-3.ensures in
    let within : i < length run.ports = subst (λ (xs : List ℕ). i < length xs) list c.ports-test.true in
    let port = get_or run.ports i 0 in
    let is_new : board ≡ record { port = port; flow_limit = c.args.flow_limit; journal = [] } = c.in_ok-board.ensures ∙ ap (λ (xs : List ℕ). record { port = get_or xs i 0; flow_limit = c.args.flow_limit; journal = [] }) list in
    let Port : BoardView → ℕ = λ (b : BoardView). b.port in
    let new : IsNew c.args.flow_limit board = record { has_limit = ap (λ (b : BoardView). b.flow_limit) is_new; no_steps = ap (λ (b : BoardView). b.journal) is_new } in record {
      new = subst (All (IsNew c.args.flow_limit)) (sym grown) (All-append (IsNew c.args.flow_limit) boards (board ∷ []) c.ports.invariant.new (All-cons (IsNew c.args.flow_limit) board [] new (All-nil (IsNew c.args.flow_limit))));
      ports = ap (map Port) grown ∙ map_push Port boards board ∙ ap (λ ps. ps ++ board.port ∷ []) c.ports.invariant.ports ∙ sym (take_more run.ports i 0 within ∙ ap (λ p. take i run.ports ++ p ∷ []) (sym (ap Port is_new)));
      scheduled = ap (map (under_way run)) grown ∙ map_push (under_way run) boards board
          ∙ ap (λ xs. xs ++ under_way run board ∷ []) c.ports.invariant.scheduled
          ∙ ap (λ b. map (schedules.new_board run) (take i run.ports) ++ under_way run b ∷ []) is_new
          ∙ sym (ap (map (schedules.new_board run)) (take_more run.ports i 0 within) ∙ map_push (schedules.new_board run) (take i run.ports) port);
    }
