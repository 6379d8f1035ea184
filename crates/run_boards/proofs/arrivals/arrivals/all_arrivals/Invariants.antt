use Rattle.std.proofs.Common.{◌≡◌, take}
use Rattle.run_boards.proofs.arrivals.Places.{arrivals_to}
use Rattle.run_boards.proofs.arrivals.arrivals.all_arrivals.Given as goal

abbrev pub invariant-traces : goal.invariant-traces
invariant-traces g l = l.found.items ≡ arrivals_to g.C.Case.run.ports g.C.Case.run.traces (take l.port-index l.port-items)
