use Rattle.std.proofs.Common.{◌≡◌, ℕ, List, length, Some, ap, arith}
use Rattle.std.specs.Prelude.{slice_get}
use Rattle.std.proofs.lemmas.List.Sums.{sum_by_more}
use Rattle.std.proofs.lemmas.Option.{get_or_from_slice_get, slice_get_within}
use Rattle.spec_case.specs.Run.{Run, frames_of}
use Rattle.flow_dump.proofs.summary.frame_count.Goals as goal

pub ports-preserved : goal.ports-preserved
ports-preserved g c =
    let run : Run = g.C.Case.run in
    let ports : List ℕ = run.ports in
    let place : ℕ = c.ports.place in
    let port : ℕ = c.at.result in
    let there : slice_get ports place ≡ Some port = rw c.ports-ports.ensures at c.at.ensures.port in
    let more = sum_by_more (λ p. length (frames_of run p)) ports place port (slice_get_within ports place port there) in
    let same = ap (λ p. length (frames_of run p)) (get_or_from_slice_get ports place port port there) in record {
      frames = omega (arith, more, same, c.frames.ensures.count, c.ports.invariant.frames);
      few = omega (arith, c.frames.ensures.bound, c.ports.invariant.few);
    }
