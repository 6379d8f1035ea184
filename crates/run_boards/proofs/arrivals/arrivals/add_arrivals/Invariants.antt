use Rattle.std.proofs.Common.{◌≡◌, ◌+◌, ◌++◌, drop}
use Rattle.spec_case.specs.Run.{frames_of}
use Rattle.spec_case.specs.Arrivals.{arrivals_at}
use Rattle.run_boards.proofs.arrivals.arrivals.add_arrivals.Given as goal

abbrev pub invariant-places : goal.invariant-places
invariant-places g l =
    l.arrivals.items ++ arrivals_at l.port (l.before + 1) (drop l.before (frames_of g.C.Case.run l.port)) ≡ l.initial.arrivals.items ++ arrivals_at l.port 1 (frames_of g.C.Case.run l.port)
