use Rattle.std.proofs.Common.{◌≡◌, ◌+◌, ◌<◌, ◌≤◌}
use Rattle.spec_base.specs.Counts.{Rose}
use Rattle.rx_worker.specs.Batches.{misses_before}
use Rattle.rx_worker.specs.Polls.{Took}
use Rattle.rx_worker.proofs.polling.give_misses.Given as goal

abbrev pub invariant-turns : goal.invariant-turns
invariant-turns g l = record {
  rest : g.Q.Upcalls.rest l.queue ≡ g.Q.Upcalls.rest l.initial.queue;
  took : Took l.port l.batch.first (l.batch.first + l.turn) (g.Q.Upcalls.given l.initial.queue) l.given (g.Q.Upcalls.given l.queue);
  each : l.given + l.refused ≡ misses_before l.batch.missed l.turn;
  few : l.given + l.refused ≤ l.turn;
  count : g.Q.Upcalls.refusals l.initial.queue ≤ g.Q.Upcalls.refusals l.queue;
  refused : 0 < l.refused → Rose (g.Q.Upcalls.refusals l.initial.queue) (g.Q.Upcalls.refusals l.queue);
}
