use Rattle.std.proofs.Common.{◌≡◌, ℕ, ◌+◌, ◌-◌, ◌<◌, ◌≤◌, ◌^◌, min, length, List, [], ◌∷◌, ◌++◌, refl, sym, ap, ap₂, ◌∙◌, subst, arith, take, drop, length-append, vec_len, vec_capacity}
use Rattle.rule_tables.specs.declared.stored.StoredRule.{StoredRule}
use Rattle.std.proofs.lemmas.List.{map-append}
use Rattle.rule_tables.specs.declared.signatures.signature.Signature.{Signature}
use Rattle.rule_tables.specs.Signed.{signature_in}
use Rattle.rule_tables.specs.Edited.{Edited}
use Rattle.rule_tables.specs.Ends.{with_ending}
use Rattle.rule_tables.specs.History.{EditHistory, applied, edited_by, states_to}
use Rattle.rule_tables.specs.RulePlaces.{room_in, IsNamedPlace}
use Rattle.rule_tables.specs.Stored.{rules_at, with_end, signatures_in, AreConsistent}
use Rattle.rule_tables.proofs.Adding.{sound_added}
use Rattle.rule_tables.proofs.EndLaws.{ends_room_at, ends_moved, ends_added}
use Rattle.rule_tables.proofs.Ends.{length-with_end, with_end-push, written}
use Rattle.rule_tables.proofs.Finds.{named_within, named_on}
use Rattle.rule_tables.proofs.Lives.{length_within}
use Rattle.rule_tables.proofs.Logged.{log_added}
use Rattle.rule_tables.proofs.Placed.{placed_moved}
use Rattle.rule_tables.proofs.Seen.{seen_applied}
use Rattle.rule_tables.proofs.SignedLaws.{signatures_with_end}
use Rattle.rule_tables.proofs.edited.EditedRules.add.Goals as goal

pub overflow_cast-place : goal.overflow_cast-place
overflow_cast-place c =
    let few : length c.self.inside.rules.items ≤ c.self.inside.last = length_within c.self.inside.rules.items c.self.inside.last c.self.invariant.consistent.numbered in
    let fits : c.self.inside.last < 2 ^ 32 = c.self.invariant.consistent.fits in
    grind (arith, few, fits)

pub overflow_add-number : goal.overflow_add-number
overflow_add-number c =
    let applied_is : applied c.args.self.now.history ≡ c.self.inside.last = seen_applied c.self.inside.modifications.items c.self.inside.rules.items c.self.inside.rules.items c.self.inside.last c.self.inside.changes c.args.self.now.history refl (ap (λ (s : Edited). s.history) c.self.view_is) in
    let room : c.self.inside.last + 1 < 2 ^ 32 = subst (λ (n : ℕ). n + 1 < 2 ^ 32) applied_is c.requires.few in
    grind (arith, room)

pub find-replaced-requires : goal.find-replaced-requires
find-replaced-requires c = placed_moved c.self.inside.places _ c.self.inside.rules.items _ refl c.deref.ensures.value c.self.invariant.placed

pub remove_at-requires : goal.remove_at-requires
remove_at-requires c = λ place is.
    let named : IsNamedPlace c.self.inside.rules.items c.args.edit c.find-replaced.result =
    subst (λ (stored : List StoredRule). IsNamedPlace stored c.args.edit c.find-replaced.result) c.deref.ensures.value c.find-replaced.ensures in
    let within : place < length c.self.inside.rules.items = named_within c.self.inside.rules.items c.self.invariant.consistent.apart c.args.edit c.find-replaced.result named place is in
    let here : length c.deref-2.result.now ≡ length c.self.inside.rules.items = ap length c.deref-2.ensures.value in
    omega arith

pub insert-requires : goal.insert-requires
insert-requires c =
    let adds : min (min (min (vec_capacity c.self.inside.rules - vec_len c.self.inside.rules) (room_in c.self.inside.places)) (vec_capacity c.self.inside.signatures - vec_len c.self.inside.signatures)) (vec_capacity c.self.inside.ends - vec_len c.self.inside.rules) ≡ c.args.self.now.adds = ap (λ (s : Edited). s.adds) c.self.view_is in
    let kept : room_in c.self.inside.places ≤ room_in c.remove_at.new.self = c.remove_at.ensures.room in
    let room : 0 < room_in c.self.inside.places = omega (arith, c.requires.room) in
    omega arith

pub push_reserved-requires : goal.push_reserved-requires
push_reserved-requires c =
    let adds : min (min (min (vec_capacity c.self.inside.rules - vec_len c.self.inside.rules) (room_in c.self.inside.places)) (vec_capacity c.self.inside.signatures - vec_len c.self.inside.signatures)) (vec_capacity c.self.inside.ends - vec_len c.self.inside.rules) ≡ c.args.self.now.adds = ap (λ (s : Edited). s.adds) c.self.view_is in
    omega (arith, c.requires.room)

pub end_rule-requires-clause-within : goal.end_rule-requires-clause-within
end_rule-requires-clause-within c = λ place is.
    let named : IsNamedPlace c.self.inside.rules.items c.args.edit c.find-replaced.result =
    subst (λ (stored : List StoredRule). IsNamedPlace stored c.args.edit c.find-replaced.result) c.deref.ensures.value c.find-replaced.ensures in
    let within : place < length c.self.inside.rules.items = named_within c.self.inside.rules.items c.self.invariant.consistent.apart c.args.edit c.find-replaced.result named place is in
    let pushed : length c.push_reserved.new.self.items ≡ length c.self.inside.rules.items + 1 =
    ap length c.push_reserved.ensures.items ∙ length-append c.self.inside.rules.items (c.new-stored.result ∷ []) in
    let here : length c.deref_mut.result.now ≡ length c.push_reserved.new.self.items = ap length c.deref_mut.ensures.value in
    omega arith

pub end_rule-requires-clause-room : goal.end_rule-requires-clause-room
end_rule-requires-clause-room c = λ place is.
    let named : IsNamedPlace c.self.inside.rules.items c.args.edit c.find-replaced.result =
    subst (λ (stored : List StoredRule). IsNamedPlace stored c.args.edit c.find-replaced.result) c.deref.ensures.value c.find-replaced.ensures in
    let within : place < length c.self.inside.rules.items = named_within c.self.inside.rules.items c.self.invariant.consistent.apart c.args.edit c.find-replaced.result named place is in
    let free : length c.self.inside.ends.items < length c.self.inside.rules.items =
    ends_room_at c.self.inside.ends.items c.self.inside.rules.items c.self.inside.last place c.self.invariant.ends within
    (λ s at. named_on c.self.inside.rules.items c.self.invariant.consistent.apart c.args.edit c.find-replaced.result named place s is at) in
    omega (arith, c.self.invariant.room)

pub invariant_of-self : goal.invariant_of-self
invariant_of-self c =
    let applied_is : applied c.args.self.now.history ≡ c.self.inside.last = seen_applied c.self.inside.modifications.items c.self.inside.rules.items c.self.inside.rules.items c.self.inside.last c.self.inside.changes c.args.self.now.history refl (ap (λ (s : Edited). s.history) c.self.view_is) in
    let named : IsNamedPlace c.self.inside.rules.items c.args.edit c.find-replaced.result =
    subst (λ (stored : List StoredRule). IsNamedPlace stored c.args.edit c.find-replaced.result) c.deref.ensures.value c.find-replaced.ensures in
    let zs : List StoredRule = take c.push_reserved.new.self.len (c.end_rule.new.rules ++ drop (length c.end_rule.new.rules) c.push_reserved.new.self.items) in
    let becomes : zs ≡ with_end c.find-replaced.result (c.self.inside.last + 1) (c.self.inside.rules.items ++ c.new-stored.result ∷ []) =
    written c.push_reserved.new.self.len c.end_rule.new.rules c.push_reserved.new.self.items (omega arith) ∙ c.end_rule.ensures.rules
    ∙ ap (λ (stored : List StoredRule). with_end c.find-replaced.result (c.self.inside.last + 1) stored) (c.deref_mut.ensures.value ∙ c.push_reserved.ensures.items) in
    let numbered : zs ≡ with_end c.find-replaced.result c.new-stored.result.rule.number (c.self.inside.rules.items ++ c.new-stored.result ∷ []) =
    becomes ∙ ap (λ (n : ℕ). with_end c.find-replaced.result n (c.self.inside.rules.items ++ c.new-stored.result ∷ [])) (sym c.new-stored.ensures.number) in
    let made =
    sound_added c.self.inside.modifications.items c.self.inside.rules.items c.self.inside.last c.self.inside.changes c.self.invariant.consistent c.args.edit c.new-stored.result
    (record {
      room = subst (λ (n : ℕ). n + 1 < 2 ^ 32) applied_is c.requires.few;
      adds = c.requires.add;
      on = c.new-stored.ensures.gone;
      number = c.new-stored.ensures.number;
      rule = c.new-stored.ensures.rule;
    })
    c.find-replaced.result named c.count_changes.result c.count_changes.ensures zs numbered in
    record {
      consistent = subst (λ (n : ℕ). AreConsistent c.self.inside.modifications.items zs n (c.self.inside.changes + c.count_changes.result)) c.new-stored.ensures.number made.0;
      log =
          log_added c.self.inside.log c.self.inside.modifications.items c.self.inside.last c.self.invariant.consistent.made c.self.inside.rules.items c.self.invariant.log c.find-replaced.result
          (named_on c.self.inside.rules.items c.self.invariant.consistent.apart c.args.edit c.find-replaced.result named)
          c.new-stored.result c.new-stored.ensures.gone c.new-stored.ensures.given (omega (arith, c.new-stored.ensures.number)) zs numbered;
      placed =
          let old : List StoredRule = with_end c.find-replaced.result (c.self.inside.last + 1) c.self.inside.rules.items in
          let place : c.len-place.result ≡ length c.self.inside.rules.items = grind arith in
          placed_moved c.insert.new.self _ (old ++ c.new-stored.result ∷ []) zs refl
          (becomes ∙ with_end-push c.find-replaced.result (c.self.inside.last + 1) c.self.inside.rules.items c.new-stored.result
          (named_within c.self.inside.rules.items c.self.invariant.consistent.apart c.args.edit c.find-replaced.result named))
          (c.insert.ensures.placed old c.new-stored.result
          (placed_moved c.remove_at.new.self _ (with_end c.find-replaced.result (c.self.inside.last + 1) c.deref-2.result.now) old refl
          (ap (with_end c.find-replaced.result (c.self.inside.last + 1)) (sym c.deref-2.ensures.value))
          (c.remove_at.ensures.placed (c.self.inside.last + 1) (placed_moved c.self.inside.places _ c.self.inside.rules.items c.deref-2.result.now refl c.deref-2.ensures.value c.self.invariant.placed)))
          (place ∙ sym (length-with_end c.find-replaced.result (c.self.inside.last + 1) c.self.inside.rules.items)) refl c.new-stored.ensures.gone);
      signed =
          c.push_reserved-2.ensures.items ∙ ap₂ (λ (gs : List Signature) (g : Signature). gs ++ g ∷ []) c.self.invariant.signed c.of-signature.ensures
          ∙ sym (map-append (λ (s : StoredRule). signature_in s.rule) c.self.inside.rules.items (c.new-stored.result ∷ []))
          ∙ sym (ap signatures_in becomes ∙ signatures_with_end c.find-replaced.result (c.self.inside.last + 1) (c.self.inside.rules.items ++ c.new-stored.result ∷ []));
      ends =
          ends_moved (with_ending c.find-replaced.result (c.self.inside.last + 1) c.self.inside.ends.items) _
          (with_end c.find-replaced.result (c.self.inside.last + 1) (c.self.inside.rules.items ++ c.new-stored.result ∷ [])) zs (c.self.inside.last + 1)
          c.end_rule.ensures.ends becomes
          (ends_added c.self.inside.ends.items c.self.inside.rules.items c.self.inside.last (c.self.inside.last + 1) (omega arith) c.self.invariant.ends c.find-replaced.result
          (named_within c.self.inside.rules.items c.self.invariant.consistent.apart c.args.edit c.find-replaced.result named)
          (named_on c.self.inside.rules.items c.self.invariant.consistent.apart c.args.edit c.find-replaced.result named) c.new-stored.result c.new-stored.ensures.gone);
      room =
          let adds : min (min (min (vec_capacity c.self.inside.rules - vec_len c.self.inside.rules) (room_in c.self.inside.places)) (vec_capacity c.self.inside.signatures - vec_len c.self.inside.signatures)) (vec_capacity c.self.inside.ends - vec_len c.self.inside.rules) ≡ c.args.self.now.adds = ap (λ (s : Edited). s.adds) c.self.view_is in
          omega (arith, c.requires.room, c.push_reserved.ensures.len, c.end_rule.ensures.capacity);
    }

pub returns-clause-edited : goal.returns-clause-edited
returns-clause-edited c =
    let applied_is : applied c.args.self.now.history ≡ c.self.inside.last = seen_applied c.self.inside.modifications.items c.self.inside.rules.items c.self.inside.rules.items c.self.inside.last c.self.inside.changes c.args.self.now.history refl (ap (λ (s : Edited). s.history) c.self.view_is) in
    let named : IsNamedPlace c.self.inside.rules.items c.args.edit c.find-replaced.result =
    subst (λ (stored : List StoredRule). IsNamedPlace stored c.args.edit c.find-replaced.result) c.deref.ensures.value c.find-replaced.ensures in
    let zs : List StoredRule = take c.push_reserved.new.self.len (c.end_rule.new.rules ++ drop (length c.end_rule.new.rules) c.push_reserved.new.self.items) in
    let becomes : zs ≡ with_end c.find-replaced.result (c.self.inside.last + 1) (c.self.inside.rules.items ++ c.new-stored.result ∷ []) =
    written c.push_reserved.new.self.len c.end_rule.new.rules c.push_reserved.new.self.items (omega arith) ∙ c.end_rule.ensures.rules
    ∙ ap (λ (stored : List StoredRule). with_end c.find-replaced.result (c.self.inside.last + 1) stored) (c.deref_mut.ensures.value ∙ c.push_reserved.ensures.items) in
    let numbered : zs ≡ with_end c.find-replaced.result c.new-stored.result.rule.number (c.self.inside.rules.items ++ c.new-stored.result ∷ []) =
    becomes ∙ ap (λ (n : ℕ). with_end c.find-replaced.result n (c.self.inside.rules.items ++ c.new-stored.result ∷ [])) (sym c.new-stored.ensures.number) in
    let made =
    sound_added c.self.inside.modifications.items c.self.inside.rules.items c.self.inside.last c.self.inside.changes c.self.invariant.consistent c.args.edit c.new-stored.result
    (record {
      room = subst (λ (n : ℕ). n + 1 < 2 ^ 32) applied_is c.requires.few;
      adds = c.requires.add;
      on = c.new-stored.ensures.gone;
      number = c.new-stored.ensures.number;
      rule = c.new-stored.ensures.rule;
    })
    c.find-replaced.result named c.count_changes.result c.count_changes.ensures zs numbered in
    ap (λ (n : ℕ). let h : EditHistory = record {
      states = states_to n (λ v. rules_at c.self.inside.modifications.items v zs);
      changes = c.self.inside.changes + c.count_changes.result;
    } in h) (sym c.new-stored.ensures.number)
    ∙ made.1 ∙ ap (edited_by c.args.edit) (ap (λ (s : Edited). s.history) c.self.view_is)
