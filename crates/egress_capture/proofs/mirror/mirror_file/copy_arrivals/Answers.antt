use Rattle.std.proofs.Common.{Err, refl, ap, ◌∙◌, arith}
use Rattle.std.proofs.lemmas.List.{take_all}
use Rattle.std.proofs.lemmas.Result.{err_from_is_err_and}
use Rattle.edge_io.proofs.InTurn.{none_yet, one_cut, one_more}
use Rattle.spec_run.specs.Mirrored.{copied}
use Rattle.egress_capture.specs.Sending.{record_if}
use Rattle.egress_capture.proofs.mirror.mirror_file.copy_arrivals.Goals as goal

pub arrivals-init : goal.arrivals-init
arrivals-init g c = record { nanos = refl; wrote = none_yet g.S.Shelf _ c.requires.in_use }

pub returns-in_err-copy_arrival : goal.returns-in_err-copy_arrival
returns-in_err-copy_arrival g c =
    let p = err_from_is_err_and c.from_residual.result c.from_residual.ensures.1 in
    let w = rw c.arrivals.invariant.nanos at c.in_err-copy_arrival.ensures.writes in
    rw (← c.arrivals-came.ensures.list) (one_cut g.S.Shelf (λ a. record_if c.args.writer.now (copied g.C.Case.run c.args.finished.now c.args.mirror.now a)) _ _ _ c.arrivals-came.result.now c.arrivals.at _ c.arrivals-test.true c.arrivals.invariant.wrote _ _ (p.1 ∙ ap Err p.2) w)

pub arrivals-preserved : goal.arrivals-preserved
arrivals-preserved g c = record {
  nanos = c.copy_arrival.ensures.nanos ∙ c.arrivals.invariant.nanos;
  wrote =
      let w = rw c.arrivals.invariant.nanos at c.in_ok-copy_arrival.ensures.writes in
      one_more g.S.Shelf (λ a. record_if c.args.writer.now (copied g.C.Case.run c.args.finished.now c.args.mirror.now a)) _ _ _ c.arrivals-came.result.now c.arrivals.at _ c.arrivals-test.true c.arrivals.invariant.wrote _ w;
}

pub returns : goal.returns
returns g c =
    let all = take_all c.arrivals.at c.arrivals-came.result.now (omega arith) in
    rw (← c.arrivals-came.ensures.list) (rw all at c.arrivals.invariant.wrote)
