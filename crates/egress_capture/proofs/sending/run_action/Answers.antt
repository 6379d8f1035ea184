use Rattle.std.proofs.Common.{sym, ◌∙◌}
use Rattle.edge_io.proofs.InTurn.{none_yet}
use Rattle.spec_pcap.specs.Pcap.{record_of}
use Rattle.egress_capture.proofs.Sends.{out_sending, out_passing}
use Rattle.egress_capture.proofs.Prefixes.{of_one}
use Rattle.egress_capture.proofs.sending.run_action.Goals as goal

pub returns-then-is_output_to-clause-writes : goal.returns-then-is_output_to-clause-writes
returns-then-is_output_to-clause-writes g c =
    rw (out_sending c.args.port c.args.time c.args.action.now c.args.frame.now (sym c.is_output_to.ensures ∙ c.if-is_output_to.true), of_one (record_of c.args.writer.now), ← c.as_slice.ensures) c.frame.ensures.writes

pub returns-then-is_output-clause-writes : goal.returns-then-is_output-clause-writes
returns-then-is_output-clause-writes g c =
    rw (out_passing c.args.port c.args.time c.args.action.now c.args.frame.now (sym c.is_output_to.ensures ∙ c.if-is_output_to.false)) (none_yet g.S.Shelf _ c.requires.in_use)

pub returns-in_ok-apply-clause-writes : goal.returns-in_ok-apply-clause-writes
returns-in_ok-apply-clause-writes g c =
    rw (out_passing c.args.port c.args.time c.args.action.now c.args.frame.now (sym c.is_output_to.ensures ∙ c.if-is_output_to.false)) (none_yet g.S.Shelf _ c.requires.in_use)
