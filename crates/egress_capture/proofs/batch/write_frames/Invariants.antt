use Rattle.std.proofs.Common.{◌≡◌, ◌≤◌, ◌-◌, take, drop}
use Rattle.std.specs.List.{flat_map}
use Rattle.edge_io.specs.Written.{HasWritten}
use Rattle.spec_pcap.specs.Pcap.{record_of}
use Rattle.spec_case.specs.Run.{frames_of}
use Rattle.egress_capture.proofs.batch.write_frames.Given as goal

abbrev pub invariant-places : goal.invariant-places
invariant-places g l = record {
  few : l.done ≤ l.count;
  unit : l.writer ≡ l.nanos;
  wrote : HasWritten g.S.Shelf l.fn.shelf l.shelf
      (flat_map (record_of l.nanos) (take l.done (drop (l.first.place - 1) (frames_of g.C.Case.run l.first.port))));
}

abbrev pub decreases-places : goal.decreases-places
decreases-places g l = l.count - l.done
