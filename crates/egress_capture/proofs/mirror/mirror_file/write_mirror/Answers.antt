use Rattle.spec_case.specs.Arrivals.{arrivals, in_order}
use Rattle.spec_run.specs.Mirrored.{copied}
use Rattle.egress_capture.proofs.mirror.Copies.{few}
use Rattle.egress_capture.proofs.mirror.mirror_file.write_mirror.Goals as goal

pub write_file-requires-clause-fills : goal.write_file-requires-clause-fills
write_file-requires-clause-fills g c = (_, λ before r after created call. call)

pub returns-clause-file : goal.returns-clause-file
returns-clause-file g c = c.write_file.ensures.file _ (λ before r after created call. call)

pub returns-clause-once : goal.returns-clause-once
returns-clause-once g c =
    let run = g.C.Case.run in
    few (copied run c.args.finished.now c.args.mirror.now) (in_order (arrivals run))
