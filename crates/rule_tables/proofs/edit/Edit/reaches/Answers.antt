use Rattle.std.proofs.Common.{Bool, ◌&&◌, [], sym, ap, ◌∙◌}
use Rattle.spec_tables.specs.Rules.{is_within}
use Rattle.spec_tables.specs.Edits.{is_reached_by}
use Rattle.rule_tables.specs.Views.{match_view, rule_view}
use Rattle.rule_tables.proofs.edit.Edit.reaches.Goals as goal

pub returns-then-is_in_table : goal.returns-then-is_in_table
returns-then-is_in_table c =
    c.is_within.ensures
    ∙ sym (ap (λ (b : Bool). b && is_within (match_view c.args.rule.now.matching) (match_view c.self.inside.matching)) (sym c.is_in_table.ensures ∙ c.if-is_in_table.true))
    ∙ ap (λ e. is_reached_by e (rule_view c.args.rule.now [])) c.self.view_is
