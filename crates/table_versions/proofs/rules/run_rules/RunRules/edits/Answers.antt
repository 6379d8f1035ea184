use Rattle.std.proofs.Common.{ap, ◌∙◌}
use Rattle.rule_tables.specs.History.{History, applied}
use Rattle.rule_tables.proofs.Histories.{applied-edit_history}
use Rattle.table_versions.proofs.rules.run_rules.RunRules.edits.Goals as goal

pub returns : goal.returns
returns g c =
    c.edits.ensures ∙ ap (λ (h : History). applied h.edits) c.args.self.now.made ∙ applied-edit_history g.C.Case.run.edits
