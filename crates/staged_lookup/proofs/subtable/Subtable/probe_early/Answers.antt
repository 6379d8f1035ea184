use Rattle.std.proofs.Common.{refl, sym, ap, ◌∙◌, List, lit<}
use Rattle.spec_tables.specs.Rules.{Rule}
use Rattle.ovs_fields.specs.Packed.{numbers, bits}
use Rattle.staged_lookup.specs.Stages.{some_agrees}
use Rattle.staged_lookup.specs.Subtables.{part_through}
use Rattle.staged_lookup.proofs.OtherRules.{no_rules, some_rule}
use Rattle.staged_lookup.proofs.ProbeLaws.{passed_none, passed_more, ends_at, agrees_on_none, decided_is}
use Rattle.staged_lookup.proofs.subtable.Subtable.probe_early.Goals as goal

pub returns-then-self-eq0-clause-some : goal.returns-then-self-eq0-clause-some
returns-then-self-eq0-clause-some c rs is =
    let mask = bits c.args.self.now.mask in
    let key = numbers c.args.key.now.key.now in
    let none = no_rules rs (sym is.count ∙ c.if-self-eq0.true) in
    ends_at mask key rs 0 (passed_none mask key rs) (ap (λ (qs : List Rule). some_agrees qs key (part_through 0 mask)) none)

pub returns-in-Ends-clause-some : goal.returns-in-Ends-clause-some
returns-in-Ends-clause-some c rs is =
    let mask = bits c.args.self.now.mask in
    let key = numbers c.args.key.now.key.now in
    ends_at mask key rs 0 (passed_none mask key rs) (c.in-Ends.ensures _ _ mask rs is.metadata)

pub returns-in-Decides-clause-some : goal.returns-in-Decides-clause-some
returns-in-Decides-clause-some c rs is =
    let mask = bits c.args.self.now.mask in
    let key = numbers c.args.key.now.key.now in
    decided_is mask key rs is.of_mask c.decided.result c.best.result 0 c.decided.ensures.none c.decided.ensures.some (c.best.ensures rs is) (c.in-Decides.ensures _ _ mask rs is.metadata) (passed_none mask key rs)

pub returns-in-Passes-step-clause-none : goal.returns-in-Passes-step-clause-none
returns-in-Passes-step-clause-none c goes_on rs is =
    let mask = bits c.args.self.now.mask in
    let key = numbers c.args.key.now.key.now in
    let some = some_rule rs (λ none. c.if-self-eq0.false (is.count ∙ none)) in
    let first = passed_more mask key rs 0 (passed_none mask key rs) (c.in-Passes.ensures _ _ mask rs is.metadata (agrees_on_none mask key rs some.0 some.1 (is.of_mask some.0 some.1) refl)) in
    passed_more mask key rs 1 first (c.in-Passes-step.ensures _ _ mask rs is.ethernet (first 0 (lit< tt)))

pub returns-in-Ends-step-clause-some : goal.returns-in-Ends-step-clause-some
returns-in-Ends-step-clause-some c rs is =
    let mask = bits c.args.self.now.mask in
    let key = numbers c.args.key.now.key.now in
    let some = some_rule rs (λ none. c.if-self-eq0.false (is.count ∙ none)) in
    let first = passed_more mask key rs 0 (passed_none mask key rs) (c.in-Passes.ensures _ _ mask rs is.metadata (agrees_on_none mask key rs some.0 some.1 (is.of_mask some.0 some.1) refl)) in
    ends_at mask key rs 1 first (c.in-Ends-step.ensures _ _ mask rs is.ethernet)

pub returns-in-Decides-step-clause-some : goal.returns-in-Decides-step-clause-some
returns-in-Decides-step-clause-some c rs is =
    let mask = bits c.args.self.now.mask in
    let key = numbers c.args.key.now.key.now in
    let some = some_rule rs (λ none. c.if-self-eq0.false (is.count ∙ none)) in
    let first = passed_more mask key rs 0 (passed_none mask key rs) (c.in-Passes.ensures _ _ mask rs is.metadata (agrees_on_none mask key rs some.0 some.1 (is.of_mask some.0 some.1) refl)) in
    decided_is mask key rs is.of_mask c.decided-in-Decides-step.result c.best-in-Decides-step.result 1 c.decided-in-Decides-step.ensures.none c.decided-in-Decides-step.ensures.some (c.best-in-Decides-step.ensures rs is) (c.in-Decides-step.ensures _ _ mask rs is.ethernet) first
