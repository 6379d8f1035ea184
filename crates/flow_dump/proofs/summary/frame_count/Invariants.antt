use Rattle.std.proofs.Common.{◌≡◌, ◌*◌, ◌^◌, ◌≤◌, length, take}
use Rattle.std.specs.List.{sum_by}
use Rattle.spec_case.specs.Run.{frames_of}
use Rattle.flow_dump.proofs.summary.frame_count.Given as goal

abbrev pub invariant-ports : goal.invariant-ports
invariant-ports g l = record {
  frames : l.frames ≡ sum_by (λ port. length (frames_of g.C.Case.run port)) (take l.place g.C.Case.run.ports);
  few : l.frames ≤ l.place * 2 ^ 32;
}
