use Rattle.std.proofs.Common.{◌≡◌, ◌≤◌, ◌-◌, length, take}
use Rattle.std.specs.List.{flat_map}
use Rattle.edge_io.specs.Written.{HasWritten}
use Rattle.spec_pcap.specs.Pcap.{file_of}
use Rattle.spec_case.specs.Run.{is_nanos}
use Rattle.spec_run.specs.Outputs.{sent_to}
use Rattle.egress_capture.proofs.port_file.write_frames.Given as goal

abbrev pub invariant-arrivals : goal.invariant-arrivals
invariant-arrivals g l = record {
  within : l.at ≤ length l.came;
  nanos : l.writer ≡ is_nanos g.C.Case.run;
  wrote : HasWritten g.S.Shelf l.fn.shelf l.shelf
      (file_of (is_nanos g.C.Case.run) (flat_map (sent_to g.C.Case.run l.finished l.port) (take l.at l.came)));
}

abbrev pub decreases-arrivals : goal.decreases-arrivals
decreases-arrivals g l = length l.came - l.at
