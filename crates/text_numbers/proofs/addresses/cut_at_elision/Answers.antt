use Rattle.std.proofs.Common.{◌≡◌, drop, codes, Some, None, arith, sym, ap, ◌∙◌}
use Rattle.spec_flow_text.specs.Numbers.{strip_prefix}
use Rattle.text_numbers.proofs.Elision.{at_place, at_next_place, at_end}
use Rattle.text_numbers.proofs.addresses.cut_at_elision.Goals as goal

pub returns-in-Some : goal.returns-in-Some
returns-in-Some c =
    let found : strip_prefix (codes "::") (drop c.places.at c.args.text.now) ≡ Some c.in-Some.back.now = ap (λ t. strip_prefix (codes "::") t) (sym c.split_at.ensures.back) ∙ sym c.in-Some.ensures in
    ap (λ t. Some (t, c.in-Some.back.now)) c.split_at.ensures.front ∙ sym (at_place c.places.at c.args.text.now c.in-Some.back.now c.places-test.true found) ∙ c.places.invariant

pub places-preserved : goal.places-preserved
places-preserved c =
    let none : strip_prefix (codes "::") (drop c.places.at c.args.text.now) ≡ None = ap (λ t. strip_prefix (codes "::") t) (sym c.split_at.ensures.back) ∙ sym c.in-None.ensures in
    at_next_place c.places.at c.args.text.now c.places-test.true none ∙ c.places.invariant

pub returns : goal.returns
returns c = sym (at_end c.places.at c.args.text.now (omega arith)) ∙ c.places.invariant
