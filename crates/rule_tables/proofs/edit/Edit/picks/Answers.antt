use Rattle.std.proofs.Common.{◌≡◌, [], sym, ap, ◌∙◌, inl, inr}
use Rattle.spec_tables.specs.declared.edit_word.EditWord.{EditWord}
use Rattle.rule_tables.specs.Views.{rule_view}
use Rattle.rule_tables.specs.Stored.{is_picked_by}
use Rattle.rule_tables.proofs.edit.Edit.picks.Goals as goal

pub returns-in-Add : goal.returns-in-Add
returns-in-Add c =
    let seen : c.self.inside.word ≡ c.args.self.now.word = ap (λ e. e.word) c.self.view_is in
    c.names.ensures ∙ elim c.in-Add.is [
      | inl add ↦ sym (ap (λ (w : EditWord). is_picked_by w c.args.self.now (rule_view c.args.rule.now [])) (sym seen ∙ add))
      | inr (inl modify) ↦ sym (ap (λ (w : EditWord). is_picked_by w c.args.self.now (rule_view c.args.rule.now [])) (sym seen ∙ modify))
      | inr (inr delete) ↦ sym (ap (λ (w : EditWord). is_picked_by w c.args.self.now (rule_view c.args.rule.now [])) (sym seen ∙ delete))
    ]
