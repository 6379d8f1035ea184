use Rattle.std.proofs.Common.{Err, refl, ap, ◌∙◌}
use Rattle.std.proofs.lemmas.Result.{err_from_is_err_and}
use Rattle.edge_io.proofs.InTurn.{none_yet, cut_within, more}
use Rattle.spec_pcap.specs.Pcap.{record_of}
use Rattle.egress_capture.specs.Sending.{frame_of}
use Rattle.egress_capture.proofs.Prefixes.{around_copy, copy_more}
use Rattle.egress_capture.proofs.sending.send_copies.Goals as goal

pub copies-init : goal.copies-init
copies-init g c = record { nanos = refl; wrote = none_yet g.S.Shelf _ c.requires.in_use }

pub returns-in_err-frame-clause-writes : goal.returns-in_err-frame-clause-writes
returns-in_err-frame-clause-writes g c =
    let p = err_from_is_err_and c.from_residual.result c.from_residual.ensures.1 in
    let w = rw c.copies.invariant.nanos at c.in_err-frame.ensures.writes in
    cut_within g.S.Shelf _ _ _ _ _ _ _ (around_copy (record_of c.args.writer.now) (frame_of c.args.time c.args.bytes.now) c.copies.copy _ c.copies-test.true)
    c.copies.invariant.wrote _ _ (p.1 ∙ ap Err p.2) w

pub copies-preserved : goal.copies-preserved
copies-preserved g c = record {
  nanos = c.frame.ensures.nanos ∙ c.copies.invariant.nanos;
  wrote =
      let w = rw c.copies.invariant.nanos at c.in_ok-frame.ensures.writes in
      more g.S.Shelf _ _ _ _ _ _ (copy_more (record_of c.args.writer.now) (frame_of c.args.time c.args.bytes.now) c.copies.copy) c.copies.invariant.wrote _ w;
}
