use Rattle.std.proofs.Common.{ap}
use Rattle.crossbeam_queue.specs.Passes.{view}
use Rattle.upcall_queue.specs.Views.{QueueView}
use Rattle.upcall_queue.proofs.Keeps.{learns}
use Rattle.upcall_queue.proofs.Steps.{live_parts, room_left}
use Rattle.upcall_queue.proofs.queue.UpcallQueue.room.Goals as goal

pub len_as-queued-requires-clause-rule : goal.len_as-queued-requires-clause-rule
len_as-queued-requires-clause-rule g c = learns _ _ (live_parts (view c.pass.inside.pass) c.pass.invariant.0)

pub returns-clause-queued : goal.returns-clause-queued
returns-clause-queued g c =
    room_left _ _ _ _ _ _ _ _ c.capacity.ensures (ap (λ (q : QueueView). q.capacity) c.self.view_is) c.pass.view_is c.pass.invariant.0 c.len_as-queued.ensures.rule
