use Rattle.std.proofs.Common.{◌≡◌, ℕ, ◌+◌, ◌-◌, ◌*◌, ◌^◌, ◌≤◌, ◌<◌, List, [], ◌∷◌, ◌++◌, length, take, drop, refl, sym, ap, ◌∙◌, subst, arith, vec_len, vec_capacity}
use Rattle.std.specs.Prelude.{count_by}
use Rattle.rule_tables.specs.declared.stored.Modification.{Modification}
use Rattle.rule_tables.specs.declared.stored.StoredRule.{StoredRule}
use Rattle.rule_tables.specs.Edited.{Edited}
use Rattle.rule_tables.specs.History.{applied, edited_by}
use Rattle.rule_tables.specs.Stored.{is_picked_by, acts_on, rules_at, signatures_in, AreApart}
use Rattle.rule_tables.proofs.Endings.{count_picked}
use Rattle.rule_tables.proofs.EndLaws.{ends_later, ends_moved, ends_logged}
use Rattle.rule_tables.proofs.Ends.{written}
use Rattle.rule_tables.proofs.Logged.{log_moved, logged_moved, sound_modifying}
use Rattle.rule_tables.proofs.Placed.{placed_moved, index_logged}
use Rattle.rule_tables.proofs.Seen.{seen_applied, seen_last, same_history}
use Rattle.rule_tables.proofs.Sound.{few_picked, sound_moved, sound_idle}
use Rattle.rule_tables.proofs.SignedLaws.{signatures_logged}
use Rattle.rule_tables.proofs.edited.EditedRules.modify.Goals as goal

pub overflow_add-number : goal.overflow_add-number
overflow_add-number c =
    let applied_is : applied c.args.self.now.history ≡ c.self.inside.last = seen_applied c.self.inside.modifications.items c.self.inside.rules.items c.self.inside.rules.items c.self.inside.last c.self.inside.changes c.args.self.now.history refl (ap (λ (s : Edited). s.history) c.self.view_is) in
    let room : c.self.inside.last + 1 < 2 ^ 32 = subst (λ (n : ℕ). n + 1 < 2 ^ 32) applied_is c.requires.few in
    grind (arith, room)

pub invariant_of-self : goal.invariant_of-self
invariant_of-self c =
    let applied_is : applied c.args.self.now.history ≡ c.self.inside.last = seen_applied c.self.inside.modifications.items c.self.inside.rules.items c.self.inside.rules.items c.self.inside.last c.self.inside.changes c.args.self.now.history refl (ap (λ (s : Edited). s.history) c.self.view_is) in
    let room : c.self.inside.last + 1 < 2 ^ 32 = subst (λ (n : ℕ). n + 1 < 2 ^ 32) applied_is c.requires.few in
    let counted : c.count-count.result ≡ count_by (is_picked_by c.args.edit.word c.args.edit) (rules_at c.self.inside.modifications.items c.self.inside.last c.self.inside.rules.items) =
    c.count-count.ensures ∙ sym (ap (count_by (is_picked_by c.args.edit.word c.args.edit)) (seen_last c.self.inside.modifications.items c.self.inside.rules.items c.self.inside.rules.items c.self.inside.last c.self.inside.changes c.args.self.now.history refl (ap (λ (s : Edited). s.history) c.self.view_is))) in
    let done =
    sound_idle c.self.inside.modifications.items c.self.inside.rules.items c.self.inside.last c.self.inside.changes c.self.invariant.consistent c.args.edit room c.requires.modify
    (sym counted ∙ c.if-count-eq0.true) in
    record {
      consistent = done.0;
      log = c.self.invariant.log;
      placed = c.self.invariant.placed;
      signed = c.self.invariant.signed;
      ends = ends_later c.self.inside.ends.items c.self.inside.rules.items c.self.inside.last (c.self.inside.last + 1) (omega arith) c.self.invariant.ends;
      room = c.self.invariant.room;
    }

pub returns-then-count-eq0-clause-edited : goal.returns-then-count-eq0-clause-edited
returns-then-count-eq0-clause-edited c =
    let applied_is : applied c.args.self.now.history ≡ c.self.inside.last = seen_applied c.self.inside.modifications.items c.self.inside.rules.items c.self.inside.rules.items c.self.inside.last c.self.inside.changes c.args.self.now.history refl (ap (λ (s : Edited). s.history) c.self.view_is) in
    let room : c.self.inside.last + 1 < 2 ^ 32 = subst (λ (n : ℕ). n + 1 < 2 ^ 32) applied_is c.requires.few in
    let counted : c.count-count.result ≡ count_by (is_picked_by c.args.edit.word c.args.edit) (rules_at c.self.inside.modifications.items c.self.inside.last c.self.inside.rules.items) =
    c.count-count.ensures ∙ sym (ap (count_by (is_picked_by c.args.edit.word c.args.edit)) (seen_last c.self.inside.modifications.items c.self.inside.rules.items c.self.inside.rules.items c.self.inside.last c.self.inside.changes c.args.self.now.history refl (ap (λ (s : Edited). s.history) c.self.view_is))) in
    let done =
    sound_idle c.self.inside.modifications.items c.self.inside.rules.items c.self.inside.last c.self.inside.changes c.self.invariant.consistent c.args.edit room c.requires.modify
    (sym counted ∙ c.if-count-eq0.true) in
    done.1 ∙ ap (edited_by c.args.edit) (ap (λ (s : Edited). s.history) c.self.view_is)

pub push_reserved-requires : goal.push_reserved-requires
push_reserved-requires c =
    let modifies : vec_capacity c.self.inside.modifications - vec_len c.self.inside.modifications ≡ c.args.self.now.modifies = ap (λ (s : Edited). s.modifies) c.self.view_is in
    omega (arith, c.requires.room)

pub give-requires : goal.give-requires
give-requires c =
    let counted : c.count-count.result ≡ count_by (is_picked_by c.args.edit.word c.args.edit) (rules_at c.self.inside.modifications.items c.self.inside.last c.self.inside.rules.items) =
    c.count-count.ensures ∙ sym (ap (count_by (is_picked_by c.args.edit.word c.args.edit)) (seen_last c.self.inside.modifications.items c.self.inside.rules.items c.self.inside.rules.items c.self.inside.last c.self.inside.changes c.args.self.now.history refl (ap (λ (s : Edited). s.history) c.self.view_is))) in
    record {
      modify = c.requires.modify;
      placed = placed_moved c.self.inside.places _ c.self.inside.rules.items c.deref_mut.result.now refl c.deref_mut.ensures.value c.self.invariant.placed;
      apart = subst (λ (stored : List StoredRule). AreApart stored) (sym c.deref_mut.ensures.value) c.self.invariant.consistent.apart;
      count =
          counted ∙ count_picked c.self.inside.modifications.items c.self.inside.rules.items c.self.inside.last c.args.edit c.self.invariant.consistent.numbered c.self.invariant.consistent.lives
          ∙ sym (ap (count_by (acts_on c.args.edit)) c.deref_mut.ensures.value);
      few = c.self.invariant.log.few;
      signed = c.deref-2.ensures.value ∙ c.self.invariant.signed ∙ sym (ap signatures_in c.deref_mut.ensures.value);
    }

pub overflow_add-self : goal.overflow_add-self
overflow_add-self c =
    let counted : c.count-count.result ≡ count_by (is_picked_by c.args.edit.word c.args.edit) (rules_at c.self.inside.modifications.items c.self.inside.last c.self.inside.rules.items) =
    c.count-count.ensures ∙ sym (ap (count_by (is_picked_by c.args.edit.word c.args.edit)) (seen_last c.self.inside.modifications.items c.self.inside.rules.items c.self.inside.rules.items c.self.inside.last c.self.inside.changes c.args.self.now.history refl (ap (λ (s : Edited). s.history) c.self.view_is))) in
    let few : count_by (acts_on c.args.edit) c.self.inside.rules.items ≤ c.self.inside.last = few_picked c.self.inside.modifications.items c.self.inside.rules.items c.self.inside.last c.args.edit c.self.invariant.consistent.numbered in
    let number : c.count-count.result ≡ count_by (acts_on c.args.edit) c.self.inside.rules.items =
    counted ∙ count_picked c.self.inside.modifications.items c.self.inside.rules.items c.self.inside.last c.args.edit c.self.invariant.consistent.numbered c.self.invariant.consistent.lives in
    let fits : c.self.inside.last < 2 ^ 32 = c.self.invariant.consistent.fits in
    let so_far : c.self.inside.changes ≤ 2 ^ 32 * c.self.inside.last = c.self.invariant.consistent.few_changes in
    let sum : c.self.inside.changes + c.count-count.result < 2 ^ 64 = omega arith in
    grind (arith, sum)

pub invariant_of-self-2 : goal.invariant_of-self-2
invariant_of-self-2 c =
    let applied_is : applied c.args.self.now.history ≡ c.self.inside.last = seen_applied c.self.inside.modifications.items c.self.inside.rules.items c.self.inside.rules.items c.self.inside.last c.self.inside.changes c.args.self.now.history refl (ap (λ (s : Edited). s.history) c.self.view_is) in
    let room : c.self.inside.last + 1 < 2 ^ 32 = subst (λ (n : ℕ). n + 1 < 2 ^ 32) applied_is c.requires.few in
    let counted : c.count-count.result ≡ count_by (is_picked_by c.args.edit.word c.args.edit) (rules_at c.self.inside.modifications.items c.self.inside.last c.self.inside.rules.items) =
    c.count-count.ensures ∙ sym (ap (count_by (is_picked_by c.args.edit.word c.args.edit)) (seen_last c.self.inside.modifications.items c.self.inside.rules.items c.self.inside.rules.items c.self.inside.last c.self.inside.changes c.args.self.now.history refl (ap (λ (s : Edited). s.history) c.self.view_is))) in
    let m : Modification = record { number = c.self.inside.last + 1; edit = c.args.edit } in
    let zs : List StoredRule = take c.self.inside.rules.len (c.give.new.rules ++ drop (length c.give.new.rules) c.self.inside.rules.items) in
    let done =
    sound_modifying c.self.inside.log c.give.new.self c.self.inside.modifications.items m c.self.inside.rules.items zs
    (logged_moved c.args.edit _ (length c.self.inside.modifications.items) c.self.inside.log c.give.new.self c.deref_mut.result.now c.self.inside.rules.items c.give.new.rules zs
    (sym (ap length c.deref.ensures.value)) (sym c.deref_mut.ensures.value) (written c.self.inside.rules.len c.give.new.rules c.self.inside.rules.items (omega arith)) c.give.ensures)
    c.self.inside.last c.self.inside.changes c.self.invariant.consistent c.self.invariant.log refl
    room c.requires.modify c.count-count.result counted in
    record {
      consistent = sound_moved (c.self.inside.modifications.items ++ m ∷ []) c.push_reserved.new.self.items zs zs _ _ c.push_reserved.ensures.items refl done.0;
      log = log_moved c.give.new.self (c.self.inside.modifications.items ++ m ∷ []) c.push_reserved.new.self.items zs zs c.push_reserved.ensures.items refl done.1;
      placed =
          placed_moved c.self.inside.places c.self.inside.places c.give.new.rules zs refl (written c.self.inside.rules.len c.give.new.rules c.self.inside.rules.items (omega arith))
          (index_logged c.args.edit _ c.self.inside.log c.give.new.self c.deref_mut.result.now c.give.new.rules _ _ c.give.ensures
          (placed_moved c.self.inside.places c.self.inside.places c.self.inside.rules.items c.deref_mut.result.now refl c.deref_mut.ensures.value c.self.invariant.placed));
      signed =
          c.self.invariant.signed
          ∙ sym (ap signatures_in (written c.self.inside.rules.len c.give.new.rules c.self.inside.rules.items (omega arith))
          ∙ signatures_logged c.args.edit _ c.self.inside.log c.give.new.self c.deref_mut.result.now c.give.new.rules c.give.ensures ∙ ap signatures_in c.deref_mut.ensures.value);
      ends =
          ends_moved c.self.inside.ends.items c.self.inside.ends.items c.give.new.rules zs (c.self.inside.last + 1) refl (written c.self.inside.rules.len c.give.new.rules c.self.inside.rules.items (omega arith))
          (ends_later c.self.inside.ends.items c.give.new.rules c.self.inside.last (c.self.inside.last + 1) (omega arith)
          (ends_logged c.args.edit _ c.self.inside.log c.give.new.self c.deref_mut.result.now c.give.new.rules c.self.inside.ends.items c.self.inside.last c.give.ensures
          (ends_moved c.self.inside.ends.items c.self.inside.ends.items c.self.inside.rules.items c.deref_mut.result.now c.self.inside.last refl c.deref_mut.ensures.value c.self.invariant.ends)));
      room = c.self.invariant.room;
    }

pub returns-clause-edited : goal.returns-clause-edited
returns-clause-edited c =
    let applied_is : applied c.args.self.now.history ≡ c.self.inside.last = seen_applied c.self.inside.modifications.items c.self.inside.rules.items c.self.inside.rules.items c.self.inside.last c.self.inside.changes c.args.self.now.history refl (ap (λ (s : Edited). s.history) c.self.view_is) in
    let room : c.self.inside.last + 1 < 2 ^ 32 = subst (λ (n : ℕ). n + 1 < 2 ^ 32) applied_is c.requires.few in
    let counted : c.count-count.result ≡ count_by (is_picked_by c.args.edit.word c.args.edit) (rules_at c.self.inside.modifications.items c.self.inside.last c.self.inside.rules.items) =
    c.count-count.ensures ∙ sym (ap (count_by (is_picked_by c.args.edit.word c.args.edit)) (seen_last c.self.inside.modifications.items c.self.inside.rules.items c.self.inside.rules.items c.self.inside.last c.self.inside.changes c.args.self.now.history refl (ap (λ (s : Edited). s.history) c.self.view_is))) in
    let m : Modification = record { number = c.self.inside.last + 1; edit = c.args.edit } in
    let zs : List StoredRule = take c.self.inside.rules.len (c.give.new.rules ++ drop (length c.give.new.rules) c.self.inside.rules.items) in
    let done =
    sound_modifying c.self.inside.log c.give.new.self c.self.inside.modifications.items m c.self.inside.rules.items zs
    (logged_moved c.args.edit _ (length c.self.inside.modifications.items) c.self.inside.log c.give.new.self c.deref_mut.result.now c.self.inside.rules.items c.give.new.rules zs
    (sym (ap length c.deref.ensures.value)) (sym c.deref_mut.ensures.value) (written c.self.inside.rules.len c.give.new.rules c.self.inside.rules.items (omega arith)) c.give.ensures)
    c.self.inside.last c.self.inside.changes c.self.invariant.consistent c.self.invariant.log refl
    room c.requires.modify c.count-count.result counted in
    same_history (c.self.inside.modifications.items ++ m ∷ []) c.push_reserved.new.self.items zs zs (c.self.inside.last + 1) (c.self.inside.changes + c.count-count.result)
    _ c.push_reserved.ensures.items refl
    (done.2 ∙ ap (edited_by c.args.edit) (ap (λ (s : Edited). s.history) c.self.view_is))
