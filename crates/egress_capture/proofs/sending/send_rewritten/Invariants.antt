use Rattle.std.proofs.Common.{◌≡◌, ◌+◌, ◌*◌, ◌≤◌, length, take}
use Rattle.std.specs.List.{flat_map}
use Rattle.edge_io.specs.Written.{HasWritten}
use Rattle.spec_pcap.specs.Pcap.{record_of}
use Rattle.spec_frames.specs.Ethernet.{tag_size}
use Rattle.egress_capture.specs.Sending.{frames_to, rewritten}
use Rattle.egress_capture.proofs.sending.send_rewritten.Given as goal

abbrev pub invariant-actions : goal.invariant-actions
invariant-actions g l = record {
  nanos : l.writer ≡ l.fn.writer;
  frame : l.frame ≡ rewritten (take l.action-index l.actions) l.fn.frame;
  grown : length l.frame ≤ length l.fn.frame + l.action-index * tag_size;
  wrote : HasWritten g.S.Shelf l.fn.shelf l.shelf (flat_map (record_of l.fn.writer) (frames_to l.port l.time (take l.action-index l.actions) l.fn.frame));
}
