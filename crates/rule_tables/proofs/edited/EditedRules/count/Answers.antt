use Rattle.std.proofs.Common.{◌≡◌, ℕ, Bool, cond, List, [], refl, sym, ap, ◌∙◌, subst}
use Rattle.std.specs.Prelude.{count_by}
use Rattle.spec_tables.specs.declared.edit_word.EditWord.{EditWord}
use Rattle.spec_tables.specs.declared.edit_word.EditWord.TheVariants.{ModifyStrict}
use Rattle.rule_tables.specs.declared.stored.StoredRule.{StoredRule}
use Rattle.rule_tables.specs.Views.{rule_view}
use Rattle.rule_tables.specs.Edited.{Edited}
use Rattle.rule_tables.specs.RulePlaces.{IsNamedPlace}
use Rattle.rule_tables.specs.Stored.{is_picked_by, acts_on, signatures_in}
use Rattle.rule_tables.proofs.Counts.{from_bool_is}
use Rattle.rule_tables.proofs.Endings.{count_picked}
use Rattle.rule_tables.proofs.Finds.{strict_modify, count_named}
use Rattle.rule_tables.proofs.Seen.{seen_last}
use Rattle.rule_tables.proofs.edited.EditedRules.count.Goals as goal

pub count_acted_on-requires : goal.count_acted_on-requires
count_acted_on-requires c = c.deref-in-Modify.ensures.value ∙ c.self.invariant.signed ∙ sym (ap signatures_in c.deref.ensures.value)

pub returns-in-Modify : goal.returns-in-Modify
returns-in-Modify c =
    c.count_acted_on.ensures ∙ ap (count_by (acts_on c.args.edit.now)) c.deref.ensures.value
    ∙ sym (count_picked c.self.inside.modifications.items c.self.inside.rules.items c.self.inside.last c.args.edit.now c.self.invariant.consistent.numbered c.self.invariant.consistent.lives)
    ∙ ap (count_by (is_picked_by c.args.edit.now.word c.args.edit.now)) (seen_last c.self.inside.modifications.items c.self.inside.rules.items c.self.inside.rules.items c.self.inside.last c.self.inside.changes c.args.self.now.history refl (ap (λ (s : Edited). s.history) c.self.view_is))

pub returns-in_default : goal.returns-in_default
returns-in_default c =
    let word : c.args.edit.now.word ≡ ModifyStrict =
    strict_modify c.args.edit.now.word c.requires (λ is. c.in_default.not-Modify (ap (λ e. e.word) c.edit.view_is ∙ is)) in
    c.from.ensures ∙ from_bool_is c.is_some.result ∙ ap (λ (b : Bool). cond {A = ℕ} b 1 0) c.is_some.ensures
    ∙ sym (count_named c.self.inside.rules.items c.self.invariant.consistent.apart c.args.edit.now (λ r. ap (λ (w : EditWord). is_picked_by w c.args.edit.now (rule_view r [])) word) c.find.result
    (subst (λ (stored : List StoredRule). IsNamedPlace stored c.args.edit.now c.find.result) c.deref-in_default.ensures.value c.find.ensures))
    ∙ sym (count_picked c.self.inside.modifications.items c.self.inside.rules.items c.self.inside.last c.args.edit.now c.self.invariant.consistent.numbered c.self.invariant.consistent.lives)
    ∙ ap (count_by (is_picked_by c.args.edit.now.word c.args.edit.now)) (seen_last c.self.inside.modifications.items c.self.inside.rules.items c.self.inside.rules.items c.self.inside.last c.self.inside.changes c.args.self.now.history refl (ap (λ (s : Edited). s.history) c.self.view_is))
