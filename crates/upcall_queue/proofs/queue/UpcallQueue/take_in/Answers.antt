use Rattle.std.proofs.Common.{ap, arith}
use Rattle.crossbeam_queue.specs.Passes.{view}
use Rattle.upcall_queue.specs.declared.known.Known.{Known}
use Rattle.upcall_queue.proofs.Keeps.{merges, learns}
use Rattle.upcall_queue.proofs.Steps.{live_parts}
use Rattle.upcall_queue.proofs.queue.UpcallQueue.take_in.Goals as goal

pub absorb-requires-clause-rule : goal.absorb-requires-clause-rule
absorb-requires-clause-rule g c = merges _ _ _ _ (live_parts (view c.into.inside.pass) c.into.invariant.0) (live_parts (view c.other.inside.pass) c.other.invariant.0)

pub learn_as-requires-clause-rule : goal.learn_as-requires-clause-rule
learn_as-requires-clause-rule g c =
    let v : Known = view c.into.inside.pass in
    let w : Known = view c.other.inside.pass in
    let parts = ap (λ (h : Known). h.parts) c.absorb.ensures.rule in
    let live = live_parts v c.into.invariant.0 in
    learns _ _ (omega arith)
