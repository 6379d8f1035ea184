use Rattle.std.proofs.Common.{ℕ, ◌≤◌, ◌<◌, ◌^◌, List, ◌++◌, length, map, refl, ap, subst, arith}
use Rattle.spec_tables.specs.Rules.{Rule}
use Rattle.rule_tables.specs.Bare.{bare, apart_from, IsChangedTo, AreRising}
use Rattle.rule_tables.specs.Edited.{Edited}
use Rattle.rule_tables.specs.History.{rules_after}
use Rattle.rule_tables.specs.Stored.{rules_at}
use Rattle.rule_tables.proofs.Changing.{changed_are}
use Rattle.rule_tables.proofs.Lives.{length_within}
use Rattle.rule_tables.proofs.Orders.{rising_are, few_are}
use Rattle.rule_tables.proofs.Seen.{seen_rules}
use Rattle.rule_tables.proofs.edited.EditedRules.change_laws.Goals as goal

below : {n k last : ℕ} → n ≤ k → k ≤ last → last < 2 ^ 32 → n < 2 ^ 32
below le most fits = omega arith

pub returns-clause-bare : goal.returns-clause-bare
returns-clause-bare c =
    let before_is = seen_rules c.self.inside.modifications.items c.self.inside.rules.items c.self.inside.rules.items c.self.inside.last c.self.inside.changes c.args.self.now.history refl (ap (λ (s : Edited). s.history) c.self.view_is) c.args.before (omega (arith, c.requires.order, c.requires.made)) in
    let after_is = seen_rules c.self.inside.modifications.items c.self.inside.rules.items c.self.inside.rules.items c.self.inside.last c.self.inside.changes c.args.self.now.history refl (ap (λ (s : Edited). s.history) c.self.view_is) c.args.after c.requires.made in
    subst (λ (old : List Rule). IsChangedTo old (rules_after c.args.self.now.history c.args.after)) before_is
    (subst (λ (new : List Rule). IsChangedTo (rules_at c.self.inside.modifications.items c.args.before c.self.inside.rules.items) new) after_is
    (changed_are c.self.inside.modifications.items c.self.inside.rules.items c.self.invariant.consistent.in_order c.args.before c.args.after c.requires.order))

pub returns-clause-rising : goal.returns-clause-rising
returns-clause-rising c =
    let before_is = seen_rules c.self.inside.modifications.items c.self.inside.rules.items c.self.inside.rules.items c.self.inside.last c.self.inside.changes c.args.self.now.history refl (ap (λ (s : Edited). s.history) c.self.view_is) c.args.before (omega (arith, c.requires.order, c.requires.made)) in
    let after_is = seen_rules c.self.inside.modifications.items c.self.inside.rules.items c.self.inside.rules.items c.self.inside.last c.self.inside.changes c.args.self.now.history refl (ap (λ (s : Edited). s.history) c.self.view_is) c.args.after c.requires.made in
    subst (λ (old : List Rule). AreRising (map bare old ++ apart_from old (rules_after c.args.self.now.history c.args.after))) before_is
    (subst (λ (new : List Rule). AreRising (map bare (rules_at c.self.inside.modifications.items c.args.before c.self.inside.rules.items) ++ apart_from (rules_at c.self.inside.modifications.items c.args.before c.self.inside.rules.items) new)) after_is
    (rising_are c.self.inside.modifications.items c.self.inside.rules.items c.self.invariant.consistent.in_order c.args.before c.args.after c.requires.order))

pub returns-clause-few : goal.returns-clause-few
returns-clause-few c =
    let before_is = seen_rules c.self.inside.modifications.items c.self.inside.rules.items c.self.inside.rules.items c.self.inside.last c.self.inside.changes c.args.self.now.history refl (ap (λ (s : Edited). s.history) c.self.view_is) c.args.before (omega (arith, c.requires.order, c.requires.made)) in
    let after_is = seen_rules c.self.inside.modifications.items c.self.inside.rules.items c.self.inside.rules.items c.self.inside.last c.self.inside.changes c.args.self.now.history refl (ap (λ (s : Edited). s.history) c.self.view_is) c.args.after c.requires.made in
    subst (λ (old : List Rule). length (map bare old ++ apart_from old (rules_after c.args.self.now.history c.args.after)) < 2 ^ 32) before_is
    (subst (λ (new : List Rule). length (map bare (rules_at c.self.inside.modifications.items c.args.before c.self.inside.rules.items) ++ apart_from (rules_at c.self.inside.modifications.items c.args.before c.self.inside.rules.items) new) < 2 ^ 32) after_is
    (below (few_are c.self.inside.modifications.items c.self.inside.rules.items c.self.invariant.consistent.in_order c.args.before c.args.after)
    (length_within c.self.inside.rules.items c.self.inside.last c.self.invariant.consistent.numbered) c.self.invariant.consistent.fits))
