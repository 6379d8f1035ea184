use Rattle.std.proofs.Common.{◌≡◌, replicate}
use Rattle.std.specs.List.{flat_map}
use Rattle.edge_io.specs.Written.{HasWritten}
use Rattle.spec_pcap.specs.Pcap.{record_of}
use Rattle.egress_capture.specs.Sending.{frame_of}
use Rattle.egress_capture.proofs.sending.send_copies.Given as goal

abbrev pub invariant-copies : goal.invariant-copies
invariant-copies g l = record {
  nanos : l.writer ≡ l.fn.writer;
  wrote : HasWritten g.S.Shelf l.fn.shelf l.shelf (flat_map (record_of l.fn.writer) (replicate l.copy (frame_of l.time l.bytes)));
}
