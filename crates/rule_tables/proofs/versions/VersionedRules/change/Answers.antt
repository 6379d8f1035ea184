use Rattle.std.proofs.Common.{ℕ, ◌+◌, ◌≤◌, List, sym, ap₂, ◌∙◌, subst, arith}
use Rattle.std.specs.Prelude.{IsPermutation}
use Rattle.spec_tables.specs.Bundles.{edits_through}
use Rattle.spec_tables.specs.Rules.{Rule}
use Rattle.rule_tables.specs.Bare.{apart_from, told}
use Rattle.rule_tables.specs.History.{applied}
use Rattle.rule_tables.proofs.SeenVersions.{seen_order, seen_rules_of, seen_within}
use Rattle.rule_tables.proofs.versions.VersionedRules.change.Goals as goal

pub change-requires : goal.change-requires
change-requires c = record {
  order =
      subst (λ (n : ℕ). n ≤ c.edits_through-after.result) (sym c.edits_through-before.ensures)
      (subst (λ (n : ℕ). edits_through c.args.self.now.bundles c.args.v ≤ n) (sym c.edits_through-after.ensures) (seen_order c.self.inside c.args.self.now c.self.view_is c.self.invariant c.args.v c.requires));
  made =
      subst (λ (n : ℕ). n ≤ applied c.self.inside.edited.history) (sym c.edits_through-after.ensures)
      (seen_within c.self.inside c.args.self.now c.self.view_is c.self.invariant (c.args.v + 1) (omega (arith, c.requires)));
}

pub returns-clause-came : goal.returns-clause-came
returns-clause-came c =
    c.change.ensures.came
    ∙ ap₂ apart_from (seen_rules_of c.self.inside c.args.self.now c.self.view_is c.edits_through-before.result c.args.v c.edits_through-before.ensures)
    (seen_rules_of c.self.inside c.args.self.now c.self.view_is c.edits_through-after.result (c.args.v + 1) c.edits_through-after.ensures)

pub returns-clause-went : goal.returns-clause-went
returns-clause-went c =
    subst (λ (rules : List Rule). IsPermutation rules (told c.change.result.went))
    (ap₂ apart_from (seen_rules_of c.self.inside c.args.self.now c.self.view_is c.edits_through-after.result (c.args.v + 1) c.edits_through-after.ensures)
    (seen_rules_of c.self.inside c.args.self.now c.self.view_is c.edits_through-before.result c.args.v c.edits_through-before.ensures))
    c.change.ensures.went
