use Rattle.std.proofs.Common.{refl, sym, ap}
use Rattle.std.specs.Prelude.{nat_le}
use Rattle.std.specs.List.{list_any}
use Rattle.tuple_classifier.proofs.sorted.SortedNumbers.reaches.Goals as goal

pub returns-in-Some : goal.returns-in-Some
returns-in-Some c = sym (c.in-Some.ensures.some c.args.floor)

pub returns-in-None : goal.returns-in-None
returns-in-None c = sym (ap (list_any (λ n. nat_le c.args.floor n)) (c.in-None.ensures.none refl))
