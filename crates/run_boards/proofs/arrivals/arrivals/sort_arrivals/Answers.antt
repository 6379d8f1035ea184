-- What the sort ensures, in order and stably, is what the definition gives.
use Rattle.std.proofs.Common.{rules}
use Rattle.std.proofs.lemmas.Result.{on_ok_weaker}
use Rattle.run_boards.proofs.arrivals.InOrder.{in_order-from_sort}
use Rattle.run_boards.proofs.arrivals.arrivals.sort_arrivals.Goals as goal

pub returns-clause-sorted : goal.returns-clause-sorted
returns-clause-sorted c = search (rules, on_ok_weaker, in_order-from_sort)
