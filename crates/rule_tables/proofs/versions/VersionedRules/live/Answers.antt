use Rattle.std.proofs.Common.{ℕ, ◌≤◌, sym, ap, ◌∙◌, subst}
use Rattle.spec_tables.specs.Live.{is_live}
use Rattle.rule_tables.specs.History.{applied}
use Rattle.rule_tables.proofs.SeenVersions.{seen_within, seen_rules_of}
use Rattle.rule_tables.proofs.versions.VersionedRules.live.Goals as goal

pub live-requires : goal.live-requires
live-requires c = subst (λ (n : ℕ). n ≤ applied c.self.inside.edited.history) (sym c.edits_through-edits.ensures) (seen_within c.self.inside c.args.self.now c.self.view_is c.self.invariant c.args.v c.requires)

pub returns : goal.returns
returns c = c.live.ensures ∙ ap (is_live c.args.number) (seen_rules_of c.self.inside c.args.self.now c.self.view_is c.edits_through-edits.result c.args.v c.edits_through-edits.ensures)
