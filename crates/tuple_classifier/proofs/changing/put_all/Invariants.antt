use Rattle.tuple_classifier.specs.Changing.{HaveCome, ForComing, SomeComing}
use Rattle.tuple_classifier.proofs.changing.put_all.Given as goal

abbrev pub invariant-came : goal.invariant-came
invariant-came l = record {
  can : SomeComing l.change (HaveCome l.change l.place l.tables.items);
  come : ForComing l.change (λ rules. HaveCome l.change 0 l.fn.tables.items rules → HaveCome l.change l.place l.tables.items rules);
}
