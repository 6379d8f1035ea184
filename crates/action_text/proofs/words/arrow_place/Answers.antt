use Rattle.std.proofs.Common.{◌≡◌, drop, true, false, arith, sym, ap, ◌∙◌}
use Rattle.std.specs.Prelude.{nat_eq}
use Rattle.std.specs.List.{starts_with}
use Rattle.spec_flow_text.specs.Actions.{arrow}
use Rattle.action_text.proofs.Arrows.{at_place, at_next_place, at_end}
use Rattle.action_text.proofs.words.arrow_place.Goals as goal

pub returns-then-starts_with_arrow-clause-value : goal.returns-then-starts_with_arrow-clause-value
returns-then-starts_with_arrow-clause-value c =
    let found : starts_with nat_eq (drop c.places.at c.args.text.now) arrow ≡ true = ap (λ t. starts_with nat_eq t arrow) (sym c.split_at.ensures.back) ∙ sym c.if-starts_with_arrow.ensures in
    sym (at_place c.places.at c.args.text.now c.places-test.true found) ∙ c.places.invariant

pub places-preserved : goal.places-preserved
places-preserved c =
    let none : starts_with nat_eq (drop c.places.at c.args.text.now) arrow ≡ false = ap (λ t. starts_with nat_eq t arrow) (sym c.split_at.ensures.back) ∙ sym c.if-starts_with_arrow.ensures in
    at_next_place c.places.at c.args.text.now c.places-test.true none ∙ c.places.invariant

pub returns-clause-value : goal.returns-clause-value
returns-clause-value c = sym (at_end c.places.at c.args.text.now (omega arith)) ∙ c.places.invariant
