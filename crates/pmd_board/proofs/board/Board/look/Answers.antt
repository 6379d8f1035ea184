use Rattle.std.proofs.Common.{◌≡◌, sym, ◌∙◌, subst}
use Rattle.ovs_fields.specs.Packed.{numbers}
use Rattle.spec_case.specs.Run.{Run}
use Rattle.spec_board.specs.declared.looked.Looked.TheVariants.{Miss}
use Rattle.spec_board.specs.Results.{looked}
use Rattle.pmd_board.specs.BoardView.{BoardView, state_of}
use Rattle.pmd_board.specs.Fields.{view_of}
use Rattle.pmd_board.proofs.board.Board.look.Goals as goal

pub hit-requires-clause-found : goal.hit-requires-clause-found
hit-requires-clause-found g c =
    let run : Run = g.C.Case.run in
    let b = c.self.inside in
    let found : c.look-found.result.found ≡ c.in-Exact.found = cc c.in-Exact.found-is in
    subst (λ (x : BoardView). looked (numbers c.args.at.now.key) (state_of run x) ≡ c.in-Exact.found) c.self.view_is
    (sym (c.look-found.ensures.found (state_of run (view_of b)) c.self.invariant.caches.caches) ∙ found)

pub miss-requires-clause-missed : goal.miss-requires-clause-missed
miss-requires-clause-missed g c =
    let run : Run = g.C.Case.run in
    let b = c.self.inside in
    subst (λ (x : BoardView). looked (numbers c.args.at.now.key) (state_of run x) ≡ Miss) c.self.view_is
    (sym (c.look-found.ensures.found (state_of run (view_of b)) c.self.invariant.caches.caches) ∙ c.in-Miss.is)
