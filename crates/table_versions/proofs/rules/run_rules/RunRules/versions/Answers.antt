use Rattle.std.proofs.Common.{ap, ◌∙◌}
use Rattle.rule_tables.specs.History.{newest}
use Rattle.table_versions.proofs.rules.run_rules.RunRules.versions.Goals as goal

pub returns : goal.returns
returns g c = c.version.ensures ∙ ap newest c.args.self.now.made
