use Rattle.std.proofs.Common.{◌≡◌, take}
use Rattle.std.specs.List.{flat_map}
use Rattle.edge_io.specs.Written.{HasWritten}
use Rattle.spec_run.specs.Mirrored.{copied}
use Rattle.egress_capture.specs.Sending.{record_if}
use Rattle.egress_capture.proofs.mirror.mirror_file.copy_arrivals.Given as goal

abbrev pub invariant-arrivals : goal.invariant-arrivals
invariant-arrivals g l = record {
  nanos : l.writer ≡ l.fn.writer;
  wrote : HasWritten g.S.Shelf l.fn.shelf l.shelf
      (flat_map (λ a. record_if l.fn.writer (copied g.C.Case.run l.finished l.mirror a)) (take l.at l.came));
}
