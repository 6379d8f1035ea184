use Rattle.std.proofs.Common.{◌≡◌, ℕ, Option, Some, None, refl, sym, ap, ◌∙◌}
use Rattle.rule_tables.specs.RulePlaces.{rule_hash}
use Rattle.rule_tables.proofs.Placed.{index_push, with_other}
use Rattle.rule_tables.proofs.places.RulePlaces.insert.Goals as goal

pub returns-in-Some-clause-placed : goal.returns-in-Some-clause-placed
returns-in-Some-clause-placed c stored s placed next its on =
    index_push _ _ c.args.self.now.others.items _ stored s c.rule_hash.result c.args.place c.in-Ok.other placed next (ap rule_hash its ∙ sym c.rule_hash.ensures) on
    c.in-Ok.ensures.old (λ q. c.in-Ok.ensures.updates.0 q)
    (c.push_reserved.ensures.items ∙ sym (ap (λ (o : Option ℕ). with_other o c.args.self.now.others.items) c.in-Some.is))

pub returns-in_default-other-clause-placed : goal.returns-in_default-other-clause-placed
returns-in_default-other-clause-placed c stored s placed next its on =
    index_push _ _ c.args.self.now.others.items _ stored s c.rule_hash.result c.args.place c.in-Ok.other placed next (ap rule_hash its ∙ sym c.rule_hash.ensures) on
    c.in-Ok.ensures.old (λ q. c.in-Ok.ensures.updates.0 q) (by c.in-Ok.other c.in_default-other.not-Some)
  where
    by : (o : Option ℕ) → ((other : ℕ) → o ≡ Some other → ⊥) → c.args.self.now.others.items ≡ with_other o c.args.self.now.others.items
    by None not_some = refl
    by (Some other) not_some = absurd (not_some other refl)
