use Rattle.std.proofs.Common.{refl, sym}
use Rattle.std.proofs.lemmas.List.{get_or-map}
use Rattle.tuple_classifier.specs.declared.sorted.Counted.{Counted}
use Rattle.tuple_classifier.proofs.CountedLaws.{times_set}
use Rattle.tuple_classifier.proofs.sorted.set_count.Goals as goal

pub returns-clause-times : goal.returns-clause-times
returns-clause-times c n =
    times_set n c.args.items.now _ c.args.place c.args.count _ c.requires.within refl
    (sym (get_or-map (λ (e : Counted). e.number) c.args.items.now c.args.place (record { number = 0; count = 0 }) 0 c.requires.within)) refl
