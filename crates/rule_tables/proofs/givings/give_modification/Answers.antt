use Rattle.std.proofs.Common.{◌≡◌, ℕ, ◌+◌, ◌≤◌, [], Option, sym, ap, ◌∙◌, arith, vec_len, vec_capacity}
use Rattle.std.specs.Prelude.{count_by, is_some, if◌then◌else◌}
use Rattle.spec_tables.specs.declared.edit_word.EditWord.{EditWord}
use Rattle.spec_tables.specs.declared.edit_word.EditWord.TheVariants.{ModifyStrict}
use Rattle.rule_tables.specs.Views.{rule_view}
use Rattle.rule_tables.specs.Givings.{is_place}
use Rattle.rule_tables.specs.Stored.{is_picked_by, acts_on}
use Rattle.rule_tables.proofs.Finds.{strict_modify, named_within, acts_where_found, count_named}
use Rattle.rule_tables.proofs.GivingSteps.{given_as}
use Rattle.rule_tables.proofs.givings.give_modification.Goals as goal

pub give_to-requires : goal.give_to-requires
give_to-requires c =
    let word : c.args.edit.now.word ≡ ModifyStrict =
    strict_modify c.args.edit.now.word c.requires.modify (λ is. c.in_default.not-Modify (ap (λ e. e.word) c.edit.view_is ∙ is)) in
    record {
      within = λ place is. named_within c.args.rules.now c.requires.apart c.args.edit.now c.find-place.result c.find-place.ensures place is;
      room = λ place is.
          let one : count_by (acts_on c.args.edit.now) c.args.rules.now ≡ 1 =
          count_named c.args.rules.now c.requires.apart c.args.edit.now (λ r. ap (λ (w : EditWord). is_picked_by w c.args.edit.now (rule_view r [])) word) c.find-place.result c.find-place.ensures
          ∙ ap (λ (o : Option ℕ). if is_some o then 1 else 0) is in
          let room : vec_len c.args.givings.now + count_by (acts_on c.args.edit.now) c.args.rules.now ≤ vec_capacity c.args.givings.now = c.requires.room in
          omega arith;
    }

pub returns-in_default-clause-given : goal.returns-in_default-clause-given
returns-in_default-clause-given c =
    let word : c.args.edit.now.word ≡ ModifyStrict =
    strict_modify c.args.edit.now.word c.requires.modify (λ is. c.in_default.not-Modify (ap (λ e. e.word) c.edit.view_is ∙ is)) in
    given_as (λ i s. is_place c.find-place.result i) (λ i. acts_on c.args.edit.now) c.args.modification c.args.givings.now.items c.give_to.new.givings.items c.args.rules.now c.give_to.new.rules
    (acts_where_found c.args.rules.now c.requires.apart c.args.edit.now (λ r. ap (λ (w : EditWord). is_picked_by w c.args.edit.now (rule_view r [])) word) c.find-place.result c.find-place.ensures)
    c.give_to.ensures.given

pub returns-in_default-clause-count : goal.returns-in_default-clause-count
returns-in_default-clause-count c =
    let word : c.args.edit.now.word ≡ ModifyStrict =
    strict_modify c.args.edit.now.word c.requires.modify (λ is. c.in_default.not-Modify (ap (λ e. e.word) c.edit.view_is ∙ is)) in
    c.give_to.ensures.count
    ∙ ap (λ (n : ℕ). vec_len c.args.givings.now + n)
    (sym (count_named c.args.rules.now c.requires.apart c.args.edit.now (λ r. ap (λ (w : EditWord). is_picked_by w c.args.edit.now (rule_view r [])) word) c.find-place.result c.find-place.ensures))
