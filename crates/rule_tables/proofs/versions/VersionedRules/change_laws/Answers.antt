use Rattle.std.proofs.Common.{ℕ, ◌+◌, ◌≤◌, ◌<◌, ◌^◌, List, ◌++◌, length, map, sym, subst, arith}
use Rattle.spec_tables.specs.Bundles.{edits_through}
use Rattle.spec_tables.specs.Rules.{Rule}
use Rattle.rule_tables.specs.Bare.{bare, apart_from, IsChangedTo, AreRising}
use Rattle.rule_tables.specs.History.{applied, rules_after, rules_of}
use Rattle.rule_tables.proofs.SeenVersions.{seen_order, seen_rules_of, seen_within}
use Rattle.rule_tables.proofs.versions.VersionedRules.change_laws.Goals as goal

pub change_laws-requires : goal.change_laws-requires
change_laws-requires c = record {
  order =
      subst (λ (n : ℕ). n ≤ c.edits_through-after.result) (sym c.edits_through-before.ensures)
      (subst (λ (n : ℕ). edits_through c.args.self.now.bundles c.args.v ≤ n) (sym c.edits_through-after.ensures) (seen_order c.self.inside c.args.self.now c.self.view_is c.self.invariant c.args.v c.requires));
  made =
      subst (λ (n : ℕ). n ≤ applied c.self.inside.edited.history) (sym c.edits_through-after.ensures)
      (seen_within c.self.inside c.args.self.now c.self.view_is c.self.invariant (c.args.v + 1) (omega (arith, c.requires)));
}

pub returns-clause-bare : goal.returns-clause-bare
returns-clause-bare c =
    let before_is = seen_rules_of c.self.inside c.args.self.now c.self.view_is c.edits_through-before.result c.args.v c.edits_through-before.ensures in
    let after_is = seen_rules_of c.self.inside c.args.self.now c.self.view_is c.edits_through-after.result (c.args.v + 1) c.edits_through-after.ensures in
    subst (λ (old : List Rule). IsChangedTo old (rules_of c.args.self.now (c.args.v + 1))) before_is
    (subst (λ (new : List Rule). IsChangedTo (rules_after c.self.inside.edited.history c.edits_through-before.result) new) after_is c.change_laws.ensures.bare)

pub returns-clause-rising : goal.returns-clause-rising
returns-clause-rising c =
    let before_is = seen_rules_of c.self.inside c.args.self.now c.self.view_is c.edits_through-before.result c.args.v c.edits_through-before.ensures in
    let after_is = seen_rules_of c.self.inside c.args.self.now c.self.view_is c.edits_through-after.result (c.args.v + 1) c.edits_through-after.ensures in
    subst (λ (old : List Rule). AreRising (map bare old ++ apart_from old (rules_of c.args.self.now (c.args.v + 1)))) before_is
    (subst (λ (new : List Rule). AreRising (map bare (rules_after c.self.inside.edited.history c.edits_through-before.result) ++ apart_from (rules_after c.self.inside.edited.history c.edits_through-before.result) new)) after_is
    c.change_laws.ensures.rising)

pub returns-clause-few : goal.returns-clause-few
returns-clause-few c =
    let before_is = seen_rules_of c.self.inside c.args.self.now c.self.view_is c.edits_through-before.result c.args.v c.edits_through-before.ensures in
    let after_is = seen_rules_of c.self.inside c.args.self.now c.self.view_is c.edits_through-after.result (c.args.v + 1) c.edits_through-after.ensures in
    subst (λ (old : List Rule). length (map bare old ++ apart_from old (rules_of c.args.self.now (c.args.v + 1))) < 2 ^ 32) before_is
    (subst (λ (new : List Rule). length (map bare (rules_after c.self.inside.edited.history c.edits_through-before.result) ++ apart_from (rules_after c.self.inside.edited.history c.edits_through-before.result) new) < 2 ^ 32) after_is
    c.change_laws.ensures.few)
