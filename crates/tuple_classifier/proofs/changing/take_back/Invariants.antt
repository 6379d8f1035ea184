use Rattle.tuple_classifier.specs.Changing.{HaveCome, ForComing, SomeComing}
use Rattle.tuple_classifier.proofs.changing.take_back.Given as goal

abbrev pub invariant-came : goal.invariant-came
invariant-came l = record {
  can : SomeComing l.change (HaveCome l.change l.place l.tables.items);
  back : ForComing l.change (λ rules. HaveCome l.change l.count l.fn.tables.items rules → HaveCome l.change l.place l.tables.items rules);
}
