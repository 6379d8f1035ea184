use Rattle.std.proofs.Common.{◌≡◌, ℕ, ◌+◌, ◌^◌, ◌<◌, Bool, cond, List, length, take, drop, [], ◌++◌, refl, sym, ap, ◌∙◌, subst, arith}
use Rattle.spec_tables.specs.declared.edit_word.EditWord.{EditWord}
use Rattle.rule_tables.specs.declared.rule.Rule.{Rule}
use Rattle.rule_tables.specs.declared.stored.StoredRule.{StoredRule}
use Rattle.rule_tables.specs.Edited.{Edited}
use Rattle.rule_tables.specs.History.{applied, edited_by}
use Rattle.rule_tables.specs.Views.{rule_view}
use Rattle.rule_tables.specs.RulePlaces.{IsNamedPlace}
use Rattle.rule_tables.specs.Stored.{is_picked_by, with_end, signatures_in}
use Rattle.rule_tables.specs.Ends.{with_ending}
use Rattle.rule_tables.proofs.Counts.{from_bool_is}
use Rattle.rule_tables.proofs.EndLaws.{ends_room_at, ends_moved, ends_with_end}
use Rattle.rule_tables.proofs.Ends.{written}
use Rattle.rule_tables.proofs.Finds.{named_within, named_on, ended_as_named, count_named}
use Rattle.rule_tables.proofs.Logged.{log_with_end}
use Rattle.rule_tables.proofs.Placed.{placed_moved}
use Rattle.rule_tables.proofs.Seen.{seen_applied}
use Rattle.rule_tables.proofs.Sound.{is_delete, sound_deleted}
use Rattle.rule_tables.proofs.SignedLaws.{signatures_with_end}
use Rattle.rule_tables.proofs.edited.EditedRules.delete_strict.Goals as goal

pub overflow_add-number : goal.overflow_add-number
overflow_add-number c =
    let applied_is : applied c.args.self.now.history ≡ c.self.inside.last = seen_applied c.self.inside.modifications.items c.self.inside.rules.items c.self.inside.rules.items c.self.inside.last c.self.inside.changes c.args.self.now.history refl (ap (λ (s : Edited). s.history) c.self.view_is) in
    let room : c.self.inside.last + 1 < 2 ^ 32 = subst (λ (n : ℕ). n + 1 < 2 ^ 32) applied_is c.requires.few in
    grind (arith, room)

pub find-place-requires : goal.find-place-requires
find-place-requires c = placed_moved c.self.inside.places _ c.self.inside.rules.items _ refl c.deref.ensures.value c.self.invariant.placed

pub remove_at-requires : goal.remove_at-requires
remove_at-requires c = λ place is.
    let named : IsNamedPlace c.self.inside.rules.items c.args.edit.now c.find-place.result =
    subst (λ (stored : List StoredRule). IsNamedPlace stored c.args.edit.now c.find-place.result) c.deref.ensures.value c.find-place.ensures in
    let within : place < length c.self.inside.rules.items = named_within c.self.inside.rules.items c.self.invariant.consistent.apart c.args.edit.now c.find-place.result named place is in
    let here : length c.deref-2.result.now ≡ length c.self.inside.rules.items = ap length c.deref-2.ensures.value in
    omega arith

pub end_rule-requires-clause-within : goal.end_rule-requires-clause-within
end_rule-requires-clause-within c = λ place is.
    let named : IsNamedPlace c.self.inside.rules.items c.args.edit.now c.find-place.result =
    subst (λ (stored : List StoredRule). IsNamedPlace stored c.args.edit.now c.find-place.result) c.deref.ensures.value c.find-place.ensures in
    let within : place < length c.self.inside.rules.items = named_within c.self.inside.rules.items c.self.invariant.consistent.apart c.args.edit.now c.find-place.result named place is in
    let here : length c.deref_mut.result.now ≡ length c.self.inside.rules.items = ap length c.deref_mut.ensures.value in
    omega arith

pub end_rule-requires-clause-room : goal.end_rule-requires-clause-room
end_rule-requires-clause-room c = λ place is.
    let named : IsNamedPlace c.self.inside.rules.items c.args.edit.now c.find-place.result =
    subst (λ (stored : List StoredRule). IsNamedPlace stored c.args.edit.now c.find-place.result) c.deref.ensures.value c.find-place.ensures in
    let within : place < length c.self.inside.rules.items = named_within c.self.inside.rules.items c.self.invariant.consistent.apart c.args.edit.now c.find-place.result named place is in
    let free : length c.self.inside.ends.items < length c.self.inside.rules.items =
    ends_room_at c.self.inside.ends.items c.self.inside.rules.items c.self.inside.last place c.self.invariant.ends within
    (λ s at. named_on c.self.inside.rules.items c.self.invariant.consistent.apart c.args.edit.now c.find-place.result named place s is at) in
    omega (arith, c.self.invariant.room)

pub invariant_of-self : goal.invariant_of-self
invariant_of-self c =
    let applied_is : applied c.args.self.now.history ≡ c.self.inside.last = seen_applied c.self.inside.modifications.items c.self.inside.rules.items c.self.inside.rules.items c.self.inside.last c.self.inside.changes c.args.self.now.history refl (ap (λ (s : Edited). s.history) c.self.view_is) in
    let room : c.self.inside.last + 1 < 2 ^ 32 = subst (λ (n : ℕ). n + 1 < 2 ^ 32) applied_is c.requires.few in
    let named : IsNamedPlace c.self.inside.rules.items c.args.edit.now c.find-place.result =
    subst (λ (stored : List StoredRule). IsNamedPlace stored c.args.edit.now c.find-place.result) c.deref.ensures.value c.find-place.ensures in
    let strict = λ (r : Rule). ap (λ (word : EditWord). is_picked_by word c.args.edit.now (rule_view r [])) c.requires.delete in
    let zs : List StoredRule = take c.self.inside.rules.len (c.end_rule.new.rules ++ drop (length c.end_rule.new.rules) c.self.inside.rules.items) in
    let becomes : zs ≡ with_end c.find-place.result (c.self.inside.last + 1) c.self.inside.rules.items =
    written c.self.inside.rules.len c.end_rule.new.rules c.self.inside.rules.items (omega arith) ∙ c.end_rule.ensures.rules
    ∙ ap (with_end c.find-place.result (c.self.inside.last + 1)) c.deref_mut.ensures.value in
    let done =
    sound_deleted c.self.inside.modifications.items c.self.inside.rules.items c.self.inside.last c.self.inside.changes c.self.invariant.consistent c.args.edit.now room (ap is_delete c.requires.delete) zs
    (becomes ∙ ended_as_named c.self.inside.rules.items c.self.invariant.consistent.apart c.args.edit.now strict c.find-place.result named (c.self.inside.last + 1))
    _ (c.from.ensures ∙ from_bool_is c.is_some.result ∙ ap (λ (b : Bool). cond {A = ℕ} b 1 0) c.is_some.ensures
    ∙ sym (count_named c.self.inside.rules.items c.self.invariant.consistent.apart c.args.edit.now strict c.find-place.result named)) in
    record {
      consistent = done.0;
      log =
          log_with_end c.self.inside.log c.self.inside.modifications.items c.self.inside.last c.self.invariant.consistent.made c.self.inside.rules.items c.self.invariant.log c.find-place.result (c.self.inside.last + 1) zs (omega arith)
          (named_on c.self.inside.rules.items c.self.invariant.consistent.apart c.args.edit.now c.find-place.result named) becomes;
      placed =
          placed_moved c.remove_at.new.self _ (with_end c.find-place.result (c.self.inside.last + 1) c.deref-2.result.now) zs refl
          (becomes ∙ ap (with_end c.find-place.result (c.self.inside.last + 1)) (sym c.deref-2.ensures.value))
          (c.remove_at.ensures.placed (c.self.inside.last + 1) (placed_moved c.self.inside.places c.self.inside.places c.self.inside.rules.items c.deref-2.result.now refl c.deref-2.ensures.value c.self.invariant.placed));
      signed =
          c.self.invariant.signed ∙ sym (ap signatures_in becomes ∙ signatures_with_end c.find-place.result (c.self.inside.last + 1) c.self.inside.rules.items);
      ends =
          ends_moved (with_ending c.find-place.result (c.self.inside.last + 1) c.self.inside.ends.items) _ (with_end c.find-place.result (c.self.inside.last + 1) c.self.inside.rules.items) zs (c.self.inside.last + 1)
          c.end_rule.ensures.ends becomes
          (ends_with_end c.self.inside.ends.items c.self.inside.rules.items c.self.inside.last (c.self.inside.last + 1) c.find-place.result (omega arith) c.self.invariant.ends
          (named_within c.self.inside.rules.items c.self.invariant.consistent.apart c.args.edit.now c.find-place.result named)
          (named_on c.self.inside.rules.items c.self.invariant.consistent.apart c.args.edit.now c.find-place.result named));
      room = omega (arith, c.self.invariant.room, c.end_rule.ensures.capacity);
    }

pub returns-clause-edited : goal.returns-clause-edited
returns-clause-edited c =
    let applied_is : applied c.args.self.now.history ≡ c.self.inside.last = seen_applied c.self.inside.modifications.items c.self.inside.rules.items c.self.inside.rules.items c.self.inside.last c.self.inside.changes c.args.self.now.history refl (ap (λ (s : Edited). s.history) c.self.view_is) in
    let room : c.self.inside.last + 1 < 2 ^ 32 = subst (λ (n : ℕ). n + 1 < 2 ^ 32) applied_is c.requires.few in
    let named : IsNamedPlace c.self.inside.rules.items c.args.edit.now c.find-place.result =
    subst (λ (stored : List StoredRule). IsNamedPlace stored c.args.edit.now c.find-place.result) c.deref.ensures.value c.find-place.ensures in
    let strict = λ (r : Rule). ap (λ (word : EditWord). is_picked_by word c.args.edit.now (rule_view r [])) c.requires.delete in
    let zs : List StoredRule = take c.self.inside.rules.len (c.end_rule.new.rules ++ drop (length c.end_rule.new.rules) c.self.inside.rules.items) in
    let becomes : zs ≡ with_end c.find-place.result (c.self.inside.last + 1) c.self.inside.rules.items =
    written c.self.inside.rules.len c.end_rule.new.rules c.self.inside.rules.items (omega arith) ∙ c.end_rule.ensures.rules
    ∙ ap (with_end c.find-place.result (c.self.inside.last + 1)) c.deref_mut.ensures.value in
    let done =
    sound_deleted c.self.inside.modifications.items c.self.inside.rules.items c.self.inside.last c.self.inside.changes c.self.invariant.consistent c.args.edit.now room (ap is_delete c.requires.delete) zs
    (becomes ∙ ended_as_named c.self.inside.rules.items c.self.invariant.consistent.apart c.args.edit.now strict c.find-place.result named (c.self.inside.last + 1))
    _ (c.from.ensures ∙ from_bool_is c.is_some.result ∙ ap (λ (b : Bool). cond {A = ℕ} b 1 0) c.is_some.ensures
    ∙ sym (count_named c.self.inside.rules.items c.self.invariant.consistent.apart c.args.edit.now strict c.find-place.result named)) in
    done.1 ∙ ap (edited_by c.args.edit.now) (ap (λ (s : Edited). s.history) c.self.view_is)
