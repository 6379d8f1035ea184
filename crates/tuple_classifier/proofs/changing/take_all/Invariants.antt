use Rattle.tuple_classifier.specs.Changing.{HaveGone, ForGoing, SomeGoing}
use Rattle.tuple_classifier.proofs.changing.take_all.Given as goal

abbrev pub invariant-went : goal.invariant-went
invariant-went l = record {
  can : SomeGoing l.change (HaveGone l.change l.place l.tables.items);
  gone : ForGoing l.change (λ rules. HaveGone l.change 0 l.fn.tables.items rules → HaveGone l.change l.place l.tables.items rules);
}
