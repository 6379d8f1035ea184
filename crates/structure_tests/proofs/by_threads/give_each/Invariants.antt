use Rattle.std.proofs.Common.{◌≡◌}
use Rattle.structure_tests.proofs.by_threads.give_each.Given as goal

abbrev pub invariant-places : goal.invariant-places
invariant-places g l = g.Q.Upcalls.rest l.queue ≡ g.Q.Upcalls.rest l.initial.queue
