use Rattle.std.proofs.Common.{Bool, ◌&&◌, [], sym, ap, ap₂, ◌∙◌, unwrap_or, eq-eqb}
use Rattle.std.proofs.lemmas.Bool.{eqb-true}
use Rattle.spec_tables.specs.Rules.{is_same_match}
use Rattle.spec_tables.specs.Edits.{is_named_by}
use Rattle.rule_tables.specs.Views.{match_view, rule_view}
use Rattle.rule_tables.proofs.edit.Edit.names.Goals as goal
use Rattle.rule_tables.proofs.edit.Edit.names.Goals.{then-rule-unwrap_or, else-rule-unwrap_or}

pub returns-then-rule-self : goal.returns-then-rule-self
returns-then-rule-self c =
    elim c.if-rule-unwrap_or.branch [
      | then-rule-unwrap_or w ↦
          c.eq.ensures
          ∙ sym (ap₂ (λ (a b : Bool). a && (b && is_same_match (match_view c.args.rule.now.matching) (match_view c.self.inside.matching)))
          (eq-eqb c.args.rule.now.table (unwrap_or c.self.inside.table 0) (w.if-rule-unwrap_or.true ∙ c.unwrap_or.ensures)) (sym w.value-is ∙ c.if-rule-self.true))
          ∙ ap (λ e. is_named_by e (rule_view c.args.rule.now [])) c.self.view_is
      | else-rule-unwrap_or w ↦ absurd (w.if-rule-unwrap_or.false (eqb-true c.args.rule.now.table c.unwrap_or.result (sym w.value-is ∙ c.if-rule-self.true)))
    ]
