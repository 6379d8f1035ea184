use Rattle.std.proofs.Common.{◌≡◌, ℕ, zero, suc, ◌+◌, ◌-◌, subst, sym, arith}
use Rattle.egress_capture.specs.Batches.{IsNext, IsBatch}
use Rattle.egress_capture.proofs.Batches.{begun, one_more, passed_over}
use Rattle.egress_capture.proofs.batch.batch_at.Goals as goal

pub frames-init : goal.frames-init
frames-init c =
    let came = c.args.came.now in
    let filters = c.args.filters.now in
    let at = c.args.at in
    let nothing : zero ≡ at - at = omega arith in
    record {
      few = omega arith;
      within = omega (arith, c.requires.at);
      batch = subst (λ (n : ℕ). IsBatch came filters c.args.port at n 0) nothing (begun came filters c.args.port at);
    }

pub frames-preserved : goal.frames-preserved
frames-preserved c =
    let came = c.args.came.now in
    let filters = c.args.filters.now in
    let port = c.args.port in
    let at = c.args.at in
    let count = c.frames.count in
    let end = c.frames.end in
    let next = c.next_with_bit-end in
    let size = end - at in
    let there : at + size ≡ end = omega (arith, c.frames.invariant.few) in
    let this = subst (λ (k : ℕ). IsNext came filters port at k count) (sym there) (c.is_next.ensures c.if-is_next.true) in
    let all : next.result - at ≡ suc size + (next.result - (end + 1)) = omega (arith, there, next.ensures.from) in
    record {
      few = omega (arith, c.frames.invariant.few, next.ensures.from);
      within = omega (arith, next.ensures.within, c.requires.filters);
      batch = passed_over came filters port at (suc size) (next.result - (end + 1)) (next.result - at) (count + 1) all
          (λ k f from lt. next.ensures.passed k f (omega (arith, there, from)) (omega (arith, lt, there, next.ensures.from)))
          (one_more came filters port at size count this c.frames.invariant.batch);
    }
