use Rattle.std.proofs.Common.{refl, sym, ◌∙◌}
use Rattle.rule_tables.proofs.SeenVersions.{seen_rules_of}
use Rattle.rule_tables.proofs.versions.VersionedRules.first_law.Goals as goal

pub returns : goal.returns
returns c = sym (seen_rules_of c.self.inside c.args.self.now c.self.view_is 0 0 refl) ∙ c.first_law.ensures
