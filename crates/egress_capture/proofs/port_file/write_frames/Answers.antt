use Rattle.std.proofs.Common.{◌≡◌, ◌+◌, ◌-◌, ◌≤◌, false, length, Err, ap, ◌∙◌, arith}
use Rattle.std.proofs.lemmas.List.{append-nil, take_all}
use Rattle.std.proofs.lemmas.Result.{err_from_is_err_and}
use Rattle.spec_pcap.specs.Pcap.{record_of, header}
use Rattle.spec_case.specs.Run.{is_nanos}
use Rattle.spec_run.specs.Outputs.{sent_to}
use Rattle.edge_io.proofs.InTurn.{has_written, first_cut, cut_within, more}
use Rattle.egress_capture.specs.declared.port_filter.PortFilter.{PortFilter}
use Rattle.egress_capture.specs.Filters.{AreFilters}
use Rattle.egress_capture.specs.Batches.{no_arrival}
use Rattle.egress_capture.proofs.Prefixes.{around_pieces, pieces_more}
use Rattle.egress_capture.proofs.Batches.{around_batch, batch_more}
use Rattle.egress_capture.proofs.Passed.{same_file}
use Rattle.egress_capture.proofs.port_file.write_frames.Goals as goal

abbrev no_filter : PortFilter
no_filter = record { bits = 0; port = 0; single = false }

pub returns-in_err-writer : goal.returns-in_err-writer
returns-in_err-writer g c =
    let p = err_from_is_err_and c.from_residual.result c.from_residual.ensures.1 in
    let begun = rw c.nanos-nanos.ensures at c.in_err-writer.ensures.writes in
    first_cut g.S.Shelf _ _ c.from_residual.result _ _ _ (p.1 ∙ ap Err p.2) begun

pub arrivals-init : goal.arrivals-init
arrivals-init g c =
    let run = g.C.Case.run in
    let came = c.arrivals-came.result.now in
    let next = c.next_with_bit-at in
    let are : AreFilters run c.args.finished.now came c.args.filters.now = rw c.arrivals-came.ensures.list c.requires.filters in
    let within : next.result ≤ length came = omega (arith, next.ensures.within, are.count) in
    record {
      within = within;
      nanos = c.in_ok-writer.ensures.nanos ∙ c.nanos-nanos.ensures;
      wrote =
          let begun = rw c.nanos-nanos.ensures at c.in_ok-writer.ensures.writes in
          let same =
          same_file run c.args.finished.now c.args.filters.now c.args.port (record_of (is_nanos run)) came no_arrival no_filter are (header (is_nanos run)) 0
          next.result next.ensures.from within next.ensures.passed in
          rw (same, append-nil (header (is_nanos run))) (has_written g.S.Shelf _ _ _ _ begun);
    }

pub returns-in_err-send_decided : goal.returns-in_err-send_decided
returns-in_err-send_decided g c =
    let run = g.C.Case.run in
    let p = err_from_is_err_and c.from_residual-in_err-send_decided.result c.from_residual-in_err-send_decided.ensures.1 in
    let w = rw c.arrivals.invariant.nanos at c.in_err-send_decided.ensures.writes in
    let all = around_pieces (sent_to run c.args.finished.now c.args.port) (record_of (is_nanos run)) (header (is_nanos run)) c.arrivals-came.result.now c.arrivals.at _ c.arrivals-test.true in
    rw (← c.arrivals-came.ensures.list) (cut_within g.S.Shelf _ _ _ _ _ _ _ all c.arrivals.invariant.wrote _ _ (p.1 ∙ ap Err p.2) w)

pub arrivals-preserved : goal.arrivals-preserved
arrivals-preserved g c =
    let run = g.C.Case.run in
    let came = c.arrivals-came.result.now in
    let at = c.arrivals.at in
    let next = c.next_with_bit-at-in-arrivals in
    let are : AreFilters run c.args.finished.now came c.args.filters.now = rw c.arrivals-came.ensures.list c.requires.filters in
    let within : next.result ≤ length came = omega (arith, next.ensures.within, are.count) in
    record {
      within = within;
      nanos = c.send_decided.ensures.nanos ∙ c.arrivals.invariant.nanos;
      wrote =
          let w = rw c.arrivals.invariant.nanos at c.in_ok-send_decided.ensures.writes in
          let all = pieces_more (sent_to run c.args.finished.now c.args.port) (record_of (is_nanos run)) (header (is_nanos run)) came at _ c.arrivals-test.true in
          let same =
          same_file run c.args.finished.now c.args.filters.now c.args.port (record_of (is_nanos run)) came no_arrival no_filter are (header (is_nanos run))
          (at + 1) next.result next.ensures.from within next.ensures.passed in
          rw same (more g.S.Shelf _ _ _ _ _ _ all c.arrivals.invariant.wrote _ w);
    }

pub send_batch-requires-clause-within : goal.send_batch-requires-clause-within
send_batch-requires-clause-within g c = rw (← c.arrivals-came.ensures.list) c.batch_at-batch.ensures.within

pub send_batch-requires-clause-batch : goal.send_batch-requires-clause-batch
send_batch-requires-clause-batch g c = rw (← c.arrivals-came.ensures.list) c.batch_at-batch.ensures.batch

pub returns-in_err-send_batch : goal.returns-in_err-send_batch
returns-in_err-send_batch g c =
    let run = g.C.Case.run in
    let p = err_from_is_err_and c.from_residual-in_err-send_batch.result c.from_residual-in_err-send_batch.ensures.1 in
    let w = rw (← c.arrivals-came.ensures.list, c.nanos-nanos.ensures) at c.in_err-send_batch.ensures.writes in
    let all = around_batch (sent_to run c.args.finished.now c.args.port) (record_of (is_nanos run)) (header (is_nanos run)) c.arrivals-came.result.now c.arrivals.at (c.batch_at-batch.result.end - c.arrivals.at) in
    rw (← c.arrivals-came.ensures.list) (cut_within g.S.Shelf _ _ _ _ _ _ _ all c.arrivals.invariant.wrote _ _ (p.1 ∙ ap Err p.2) w)

pub arrivals-preserved-then-batch-gt0 : goal.arrivals-preserved-then-batch-gt0
arrivals-preserved-then-batch-gt0 g c =
    let run = g.C.Case.run in
    let came = c.arrivals-came.result.now in
    let at = c.arrivals.at in
    let batch = c.batch_at-batch in
    let size = batch.result.end - at in
    let back : at + size ≡ batch.result.end = omega (arith, batch.ensures.few) in
    record {
      within = batch.ensures.within;
      nanos = c.send_batch.ensures.nanos ∙ c.arrivals.invariant.nanos;
      wrote =
          let w = rw (← c.arrivals-came.ensures.list, c.nanos-nanos.ensures) at c.in_ok-send_batch.ensures.writes in
          let all = batch_more (sent_to run c.args.finished.now c.args.port) (record_of (is_nanos run)) (header (is_nanos run)) came at size in
          rw back at (more g.S.Shelf _ _ _ _ _ _ all c.arrivals.invariant.wrote _ w);
    }

pub returns : goal.returns
returns g c =
    let all = take_all c.arrivals.at c.arrivals-came.result.now (omega arith) in
    rw (← c.arrivals-came.ensures.list) (rw all at c.arrivals.invariant.wrote)
