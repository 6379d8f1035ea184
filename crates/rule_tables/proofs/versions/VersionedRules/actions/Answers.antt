use Rattle.std.proofs.Common.{ℕ, ◌≤◌, List, IsTrue, sym, ap, ◌∙◌, subst}
use Rattle.std.specs.Option.{option_map}
use Rattle.spec_tables.specs.Rules.{Rule}
use Rattle.spec_tables.specs.Live.{is_live, rule_numbered}
use Rattle.rule_tables.specs.History.{applied}
use Rattle.rule_tables.proofs.SeenVersions.{seen_within, seen_rules_of}
use Rattle.rule_tables.proofs.versions.VersionedRules.actions.Goals as goal

pub actions-requires-clause-made : goal.actions-requires-clause-made
actions-requires-clause-made c = subst (λ (n : ℕ). n ≤ applied c.self.inside.edited.history) (sym c.edits_through-edits.ensures) (seen_within c.self.inside c.args.self.now c.self.view_is c.self.invariant c.args.v c.requires.made)

pub actions-requires-clause-live : goal.actions-requires-clause-live
actions-requires-clause-live c =
    subst (λ (rules : List Rule). IsTrue (is_live c.args.number rules)) (sym (seen_rules_of c.self.inside c.args.self.now c.self.view_is c.edits_through-edits.result c.args.v c.edits_through-edits.ensures)) c.requires.live

pub returns : goal.returns
returns c =
    sym (ap (λ (rules : List Rule). option_map (λ (r : Rule). r.actions) (rule_numbered c.args.number rules)) (seen_rules_of c.self.inside c.args.self.now c.self.view_is c.edits_through-edits.result c.args.v c.edits_through-edits.ensures)) ∙ c.actions.ensures
