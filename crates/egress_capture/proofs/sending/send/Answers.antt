use Rattle.std.proofs.Common.{Err, ap, sym, ◌∙◌}
use Rattle.std.proofs.lemmas.Result.{err_from_is_err_and}
use Rattle.spec_pcap.specs.Pcap.{record_of}
use Rattle.edge_io.proofs.InTurn.{first_cut, second, out_of_memory}
use Rattle.egress_capture.proofs.Written.{cut_written, cut_alone}
use Rattle.egress_capture.proofs.sending.send.Goals as goal

pub returns-in_err-send_copies-clause-writes : goal.returns-in_err-send_copies-clause-writes
returns-in_err-send_copies-clause-writes g c =
    let p = err_from_is_err_and c.from_residual.result c.from_residual.ensures.1 in
    let w = rw (c.copies.ensures, c.split_at.ensures.front, c.outputs_first.ensures) at c.in_err-send_copies.ensures.writes in
    rw (cut_written (record_of c.args.writer.now) c.args.port c.args.time c.args.actions.now c.args.bytes.now)
    (first_cut g.S.Shelf _ _ c.from_residual.result _ _ _ (p.1 ∙ ap Err p.2) w)

pub returns-then-copies-eq0-clause-writes : goal.returns-then-copies-eq0-clause-writes
returns-then-copies-eq0-clause-writes g c =
    let first = rw (c.copies.ensures, c.split_at.ensures.front, c.outputs_first.ensures) at c.in_ok-send_copies.ensures.writes in
    let counted = rw (c.split_at.ensures.back, c.outputs_first.ensures) at c.copies-2.ensures in
    let none = sym counted ∙ c.if-copies-eq0.true in
    rw (cut_alone (record_of c.args.writer.now) c.args.port c.args.time c.args.actions.now c.args.bytes.now none) first

pub returns-in_err-load-clause-writes : goal.returns-in_err-load-clause-writes
returns-in_err-load-clause-writes g c =
    let p = err_from_is_err_and c.from_residual-in_err-load.result c.from_residual-in_err-load.ensures.1 in
    let first = rw (c.copies.ensures, c.split_at.ensures.front, c.outputs_first.ensures) at c.in_ok-send_copies.ensures.writes in
    rw (cut_written (record_of c.args.writer.now) c.args.port c.args.time c.args.actions.now c.args.bytes.now)
    (second g.S.Shelf _ _ c.from_residual-in_err-load.result _ _ _ _ first (out_of_memory g.S.Shelf _ _ _ (p.1 ∙ ap Err p.2) first.in_use))

pub returns-clause-writes : goal.returns-clause-writes
returns-clause-writes g c =
    let first = rw (c.copies.ensures, c.split_at.ensures.front, c.outputs_first.ensures) at c.in_ok-send_copies.ensures.writes in
    let others = rw (c.send_copies.ensures.nanos, c.in_ok-load.ensures.ok, c.split_at.ensures.back, c.outputs_first.ensures) at c.send_rewritten.ensures.writes in
    rw (cut_written (record_of c.args.writer.now) c.args.port c.args.time c.args.actions.now c.args.bytes.now)
    (second g.S.Shelf _ _ c.send_rewritten.result _ _ _ _ first others)
