use Rattle.std.proofs.Common.{◌≡◌, None, arith, sym, ap, subst}
use Rattle.std.proofs.lemmas.Result.{on_ok_weaker}
use Rattle.spec_case.specs.Run.{Run}
use Rattle.spec_board.specs.Refusals.{settle_fault}
use Rattle.board_laws.proofs.PlaceLaws.{pending_from, pending_upto}
use Rattle.pmd_board.specs.BoardView.{BoardView, HasSettled, state_of}
use Rattle.step_runner.proofs.Frames.{settled_as_planned, pending_allowed}
use Rattle.run_boards.proofs.Scheduled.{settled_step}
use Rattle.step_runner.proofs.deciding.settle.Goals as goal

pub keyed-at-requires-clause-place : goal.keyed-at-requires-clause-place
keyed-at-requires-clause-place g c =
    let run : Run = g.C.Case.run in
    let b : BoardView = c.args.board.now in
    let first = pending_from (state_of run b).places c.args.place c.requires.pending in
    let last = pending_upto (state_of run b).places c.args.place c.requires.pending in
    let all = c.journal.ensures.lawful.places.all_places in
    (first, rw c.port.ensures.same (omega (arith, last, all)))

pub upcall-requires-clause-may : goal.upcall-requires-clause-may
upcall-requires-clause-may g c _ _ =
    let run : Run = g.C.Case.run in
    let b : BoardView = c.args.board.now in
    subst (λ i. settle_fault run (state_of run b) i c.args.tables.now ≡ None) (sym c.keyed-at.ensures.place)
    (pending_allowed run b c.args.place c.args.tables.now c.journal.ensures.lawful c.requires.pending c.requires.version)

pub returns : goal.returns
returns g c =
    let run : Run = g.C.Case.run in
    let b : BoardView = c.args.board.now in
    let new : BoardView = c.upcall.new.board in
    let v = c.args.tables.now in
    let place = c.args.place in
    let is = c.keyed-at.ensures.place in record {
      port = on_ok_weaker c.upcall.result
          (λ settles. record { port = ap (λ (x : BoardView). x.port) settles.appends.appended; limit = ap (λ (x : BoardView). x.flow_limit) settles.appends.appended })
          c.upcall.ensures;
      settled = on_ok_weaker c.upcall.result
          (λ settles. settled_as_planned run b new place v c.journal.ensures.lawful c.requires.pending c.requires.version (subst (λ i. HasSettled run b i v new) is settles))
          c.upcall.ensures;
      scheduled = on_ok_weaker c.upcall.result
          (λ settles. settled_step run b new place v (subst (λ i. HasSettled run b i v new) is settles) c.requires.limit)
          c.upcall.ensures;
    }
