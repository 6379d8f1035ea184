use Rattle.std.proofs.Common.{Err, ap, ◌∙◌}
use Rattle.std.proofs.lemmas.Result.{err_from_is_err_and}
use Rattle.edge_io.proofs.InTurn.{first_cut, second}
use Rattle.spec_case.specs.Run.{is_nanos}
use Rattle.spec_case.specs.Arrivals.{arrivals, in_order}
use Rattle.spec_run.specs.Mirrored.{copied}
use Rattle.egress_capture.proofs.mirror.Copies.{records}
use Rattle.egress_capture.proofs.mirror.mirror_file.write_copies.Goals as goal

pub returns-in_err-writer : goal.returns-in_err-writer
returns-in_err-writer g c =
    let p = err_from_is_err_and c.from_residual.result c.from_residual.ensures.1 in
    let begun = rw c.nanos.ensures at c.in_err-writer.ensures.writes in
    first_cut g.S.Shelf _ _ c.from_residual.result _ _ _ (p.1 ∙ ap Err p.2) begun

pub returns : goal.returns
returns g c =
    let run = g.C.Case.run in
    let begun = rw c.nanos.ensures at c.in_ok-writer.ensures.writes in
    let copies = rw (c.in_ok-writer.ensures.nanos ∙ c.nanos.ensures) at c.copy_arrivals.ensures in
    let all = records (is_nanos run) (copied run c.args.finished.now c.args.mirror.now) (in_order (arrivals run)) in
    rw all (second g.S.Shelf _ _ c.copy_arrivals.result _ _ _ _ begun copies)
