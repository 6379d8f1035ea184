use Rattle.std.proofs.Common.{refl, sym, ap, ◌∙◌}
use Rattle.std.specs.Prelude.{nat_le}
use Rattle.std.specs.List.{list_any}
use Rattle.std.proofs.lemmas.Bool.{not-true, not-false, false≢true}
use Rattle.tuple_classifier.specs.Numbers.{numbers_in}
use Rattle.tuple_classifier.proofs.PriorityLaws.{above, not_above}
use Rattle.tuple_classifier.proofs.indexes.Indexes.is_above.Goals as goal

pub returns-in-Some-clause-above : goal.returns-in-Some-clause-above
returns-in-Some-clause-above c higher =
    above (numbers_in c.args.self.now.priorities.items.items) (numbers_in c.args.other.now.priorities.items.items) c.in-Some.greatest c.in-Some.ensures.some (sym c.reaches.ensures ∙ not-true _ higher)

pub returns-in-Some-clause-not_above : goal.returns-in-Some-clause-not_above
returns-in-Some-clause-not_above c lower =
    not_above (numbers_in c.args.self.now.priorities.items.items) (numbers_in c.args.other.now.priorities.items.items) c.in-Some.greatest c.in-Some.ensures.some (sym c.reaches.ensures ∙ not-false _ lower)

pub returns-in-None-clause-not_above : goal.returns-in-None-clause-not_above
returns-in-None-clause-not_above c lower floor h =
    absurd (false≢true (sym (ap (list_any (λ n. nat_le floor n)) (c.in-None.ensures.none refl)) ∙ h))
