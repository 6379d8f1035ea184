-- What the sort ensures, in order and stably, is the order of the dump.
use Rattle.std.proofs.Common.{rules}
use Rattle.std.proofs.lemmas.Result.{on_ok_weaker}
use Rattle.dump_lines.proofs.rules.InOrder.{places_in_order-from_sort}
use Rattle.dump_lines.proofs.rules.live.sort_places.Goals as goal

pub returns : goal.returns
returns c = search (rules, on_ok_weaker, places_in_order-from_sort)
