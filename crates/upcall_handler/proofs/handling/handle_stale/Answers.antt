use Rattle.std.proofs.Common.{◌≡◌, ◌+◌, ◌≤◌, ◌∙◌, arith}
use Rattle.upcall_handler.specs.Upshots.{HasCause, count_of}
use Rattle.upcall_handler.proofs.Counts.{causes_counted, count_counted}
use Rattle.upcall_handler.proofs.handling.handle_stale.Goals as goal

pub stale-preserved : goal.stale-preserved
stale-preserved g c =
    let newer : c.stale.seer.version ≤ c.handle_frame-back.result.0.version = c.handle_frame-back.ensures.newer in
    let before : c.args.seer.version ≤ c.stale.seer.version = c.stale.invariant.newer in
    let cause : HasCause g.C.Case.run c.handle_frame-back.result.0.version c.in-Ok.upshot = rw c.in-Ok.is at c.handle_frame-back.ensures.cause in
    let one_more : count_of c.count.new.self ≡ count_of c.stale.handled + 1 = rw c.count.ensures (count_counted c.stale.handled c.in-Ok.upshot) in
    let so_far : count_of c.stale.handled ≡ count_of c.args.handled + c.stale.at-index = c.stale.invariant.count in
    record {
      publication = c.handle_frame-back.ensures.publication ∙ c.stale.invariant.publication;
      newer = omega (arith, newer, before);
      count = omega (arith, one_more, so_far);
      causes = rw c.count.ensures (causes_counted g.C.Case.run c.args.seer.version c.stale.seer.version c.handle_frame-back.result.0.version c.stale.handled c.in-Ok.upshot (omega (arith, newer, before)) newer c.stale.invariant.causes cause);
    }
