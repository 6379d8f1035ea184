use Rattle.std.proofs.Common.{◌≡◌}
use Rattle.structure_tests.proofs.by_threads.takes_all.Given as goal

abbrev pub invariant-upcalls : goal.invariant-upcalls
invariant-upcalls g l = l.whole.queue ≡ l.fn.queue.name
