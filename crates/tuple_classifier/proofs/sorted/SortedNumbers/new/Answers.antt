use Rattle.std.proofs.Common.{length, ap}
use Rattle.tuple_classifier.proofs.CountedLaws.{nothing_in}
use Rattle.tuple_classifier.proofs.sorted.SortedNumbers.new.Goals as goal

pub returns : goal.returns
returns c = nothing_in c.new.result.items (ap length c.new.ensures.items)
