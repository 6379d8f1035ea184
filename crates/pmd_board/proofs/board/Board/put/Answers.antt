use Rattle.std.proofs.Common.{sym, ◌∙◌}
use Rattle.spec_case.specs.Run.{Run}
use Rattle.board_laws.proofs.Refusals.{may_put}
use Rattle.pmd_board.specs.BoardView.{state_of}
use Rattle.pmd_board.proofs.board.Board.put.Goals as goal

pub revalidate-revalidated-requires-clause-key : goal.revalidate-revalidated-requires-clause-key
revalidate-revalidated-requires-clause-key g c =
    let run : Run = g.C.Case.run in
    c.requires (may_put run (state_of run c.args.self.now) c.args.number c.version.result (sym c.put_refusal.ensures ∙ c.in_default.is)).listed
