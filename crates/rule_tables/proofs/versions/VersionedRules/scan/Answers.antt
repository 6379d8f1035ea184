use Rattle.std.proofs.Common.{ℕ, ◌≤◌, sym, ap, ◌∙◌, subst}
use Rattle.std.specs.Option.{option_map}
use Rattle.ovs_fields.specs.Packed.{numbers}
use Rattle.spec_tables.specs.Rules.{rules_in, winner}
use Rattle.rule_tables.specs.History.{applied}
use Rattle.rule_tables.proofs.SeenVersions.{seen_within, seen_rules_of}
use Rattle.rule_tables.proofs.versions.VersionedRules.scan.Goals as goal

pub scan-requires : goal.scan-requires
scan-requires c = subst (λ (n : ℕ). n ≤ applied c.self.inside.edited.history) (sym c.edits_through-edits.ensures) (seen_within c.self.inside c.args.self.now c.self.view_is c.self.invariant c.args.v c.requires)

pub returns : goal.returns
returns c =
    c.scan.ensures
    ∙ ap (λ rules. option_map (λ r. r.number) (winner (rules_in c.args.table rules) (numbers c.args.key.now)))
    (seen_rules_of c.self.inside c.args.self.now c.self.view_is c.edits_through-edits.result c.args.v c.edits_through-edits.ensures)
