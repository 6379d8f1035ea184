use Rattle.std.proofs.Common.{Err, ap, ◌∙◌}
use Rattle.std.proofs.lemmas.Result.{err_from_is_err_and}
use Rattle.edge_io.proofs.InTurn.{first_cut, second}
use Rattle.pcap_files.proofs.writer.writer.PcapWriter.frame.Goals as goal

pub returns-in_err-write_all-clause-writes : goal.returns-in_err-write_all-clause-writes
returns-in_err-write_all-clause-writes g c =
    let p = err_from_is_err_and c.from_residual.result c.from_residual.ensures.1 in
    let cut = first_cut g.S.Shelf _ _ c.from_residual.result _ c.args.bytes.now _ (p.1 ∙ ap Err p.2) c.in_err-write_all.ensures in
    rw (← c.self.view_is, ← c.record_header.ensures) cut

pub returns-clause-writes : goal.returns-clause-writes
returns-clause-writes g c =
    rw (← c.self.view_is, ← c.record_header.ensures) (second g.S.Shelf _ _ c.write_all-2.result _ _ _ _ c.in_ok-write_all.ensures c.write_all-2.ensures)
