use Rattle.std.proofs.Common.{◌≡◌, ℕ, ◌+◌, ◌*◌, ◌^◌, ◌≤◌, ◌<◌, length, map, take, drop, ◌++◌, refl, sym, ap, ◌∙◌, subst, arith}
use Rattle.std.specs.Prelude.{count_by}
use Rattle.rule_tables.specs.Edited.{Edited}
use Rattle.rule_tables.specs.History.{applied, edited_by}
use Rattle.rule_tables.specs.Stored.{acts_on, ended_by, signatures_in}
use Rattle.rule_tables.proofs.EndLaws.{ends_later, ends_moved}
use Rattle.rule_tables.proofs.Ends.{written}
use Rattle.rule_tables.proofs.Lives.{length_within}
use Rattle.rule_tables.proofs.Logged.{log_ended}
use Rattle.rule_tables.proofs.Placed.{placed_moved}
use Rattle.rule_tables.proofs.Seen.{seen_applied}
use Rattle.rule_tables.proofs.Sound.{is_delete, few_picked, sound_deleted}
use Rattle.rule_tables.proofs.SignedLaws.{signatures_ended}
use Rattle.rule_tables.proofs.edited.EditedRules.delete.Goals as goal

pub overflow_add-number : goal.overflow_add-number
overflow_add-number c =
    let applied_is : applied c.args.self.now.history ≡ c.self.inside.last = seen_applied c.self.inside.modifications.items c.self.inside.rules.items c.self.inside.rules.items c.self.inside.last c.self.inside.changes c.args.self.now.history refl (ap (λ (s : Edited). s.history) c.self.view_is) in
    let room : c.self.inside.last + 1 < 2 ^ 32 = subst (λ (n : ℕ). n + 1 < 2 ^ 32) applied_is c.requires.few in
    grind (arith, room)

pub end_rules-count-requires-clause-placed : goal.end_rules-count-requires-clause-placed
end_rules-count-requires-clause-placed c = placed_moved c.self.inside.places _ c.self.inside.rules.items c.deref_mut.result.now refl c.deref_mut.ensures.value c.self.invariant.placed

pub end_rules-count-requires-clause-signed : goal.end_rules-count-requires-clause-signed
end_rules-count-requires-clause-signed c = c.deref.ensures.value ∙ c.self.invariant.signed ∙ sym (ap signatures_in c.deref_mut.ensures.value)

pub end_rules-count-requires-clause-ended : goal.end_rules-count-requires-clause-ended
end_rules-count-requires-clause-ended c =
    ends_moved c.self.inside.ends.items _ c.self.inside.rules.items c.deref_mut.result.now (c.self.inside.last + 1) refl c.deref_mut.ensures.value
    (ends_later c.self.inside.ends.items c.self.inside.rules.items c.self.inside.last (c.self.inside.last + 1) (omega arith) c.self.invariant.ends)

pub end_rules-count-requires-clause-few : goal.end_rules-count-requires-clause-few
end_rules-count-requires-clause-few c =
    let few : length c.self.inside.rules.items ≤ c.self.inside.last = length_within c.self.inside.rules.items c.self.inside.last c.self.invariant.consistent.numbered in
    let fits : c.self.inside.last < 2 ^ 32 = c.self.invariant.consistent.fits in
    let here : length c.deref_mut.result.now ≡ length c.self.inside.rules.items = ap length c.deref_mut.ensures.value in
    omega arith

pub end_rules-count-requires-clause-room : goal.end_rules-count-requires-clause-room
end_rules-count-requires-clause-room c =
    let here : length c.deref_mut.result.now ≡ length c.self.inside.rules.items = ap length c.deref_mut.ensures.value in
    omega (arith, c.self.invariant.room)

pub overflow_add-self : goal.overflow_add-self
overflow_add-self c =
    let counted : c.end_rules-count.result ≡ count_by (acts_on c.args.edit.now) c.self.inside.rules.items =
    c.end_rules-count.ensures.count ∙ ap (count_by (acts_on c.args.edit.now)) c.deref_mut.ensures.value in
    let few : count_by (acts_on c.args.edit.now) c.self.inside.rules.items ≤ c.self.inside.last =
    few_picked c.self.inside.modifications.items c.self.inside.rules.items c.self.inside.last c.args.edit.now c.self.invariant.consistent.numbered in
    let fits : c.self.inside.last < 2 ^ 32 = c.self.invariant.consistent.fits in
    let so_far : c.self.inside.changes ≤ 2 ^ 32 * c.self.inside.last = c.self.invariant.consistent.few_changes in
    let sum : c.self.inside.changes + c.end_rules-count.result < 2 ^ 64 = omega arith in
    grind (arith, sum)

pub invariant_of-self : goal.invariant_of-self
invariant_of-self c =
    let applied_is : applied c.args.self.now.history ≡ c.self.inside.last = seen_applied c.self.inside.modifications.items c.self.inside.rules.items c.self.inside.rules.items c.self.inside.last c.self.inside.changes c.args.self.now.history refl (ap (λ (s : Edited). s.history) c.self.view_is) in
    let room : c.self.inside.last + 1 < 2 ^ 32 = subst (λ (n : ℕ). n + 1 < 2 ^ 32) applied_is c.requires.few in
    let done =
    sound_deleted c.self.inside.modifications.items c.self.inside.rules.items c.self.inside.last c.self.inside.changes c.self.invariant.consistent c.args.edit.now room (ap is_delete c.requires.delete)
    (take c.self.inside.rules.len (c.end_rules-count.new.rules ++ drop (length c.end_rules-count.new.rules) c.self.inside.rules.items))
    (written c.self.inside.rules.len c.end_rules-count.new.rules c.self.inside.rules.items (omega arith) ∙ c.end_rules-count.ensures.rules ∙ ap (map (ended_by c.args.edit.now (c.self.inside.last + 1))) c.deref_mut.ensures.value)
    c.end_rules-count.result (c.end_rules-count.ensures.count ∙ ap (count_by (acts_on c.args.edit.now)) c.deref_mut.ensures.value) in
    record {
      consistent = done.0;
      log =
          log_ended c.self.inside.log c.self.inside.modifications.items c.self.inside.last c.self.invariant.consistent.made c.self.inside.rules.items c.self.invariant.log c.args.edit.now (c.self.inside.last + 1) _ (omega arith)
          (written c.self.inside.rules.len c.end_rules-count.new.rules c.self.inside.rules.items (omega arith) ∙ c.end_rules-count.ensures.rules ∙ ap (map (ended_by c.args.edit.now (c.self.inside.last + 1))) c.deref_mut.ensures.value);
      placed =
          placed_moved c.end_rules-count.new.places _ c.end_rules-count.new.rules _ refl (written c.self.inside.rules.len c.end_rules-count.new.rules c.self.inside.rules.items (omega arith)) c.end_rules-count.ensures.placed;
      signed =
          c.self.invariant.signed
          ∙ sym (ap signatures_in (written c.self.inside.rules.len c.end_rules-count.new.rules c.self.inside.rules.items (omega arith) ∙ c.end_rules-count.ensures.rules)
          ∙ signatures_ended c.args.edit.now (c.self.inside.last + 1) c.deref_mut.result.now ∙ ap signatures_in c.deref_mut.ensures.value);
      ends =
          ends_moved c.end_rules-count.new.ends.items _ c.end_rules-count.new.rules _ (c.self.inside.last + 1) refl
          (written c.self.inside.rules.len c.end_rules-count.new.rules c.self.inside.rules.items (omega arith)) c.end_rules-count.ensures.ended;
      room = omega (arith, c.self.invariant.room, c.end_rules-count.ensures.capacity);
    }

pub returns-clause-edited : goal.returns-clause-edited
returns-clause-edited c =
    let applied_is : applied c.args.self.now.history ≡ c.self.inside.last = seen_applied c.self.inside.modifications.items c.self.inside.rules.items c.self.inside.rules.items c.self.inside.last c.self.inside.changes c.args.self.now.history refl (ap (λ (s : Edited). s.history) c.self.view_is) in
    let room : c.self.inside.last + 1 < 2 ^ 32 = subst (λ (n : ℕ). n + 1 < 2 ^ 32) applied_is c.requires.few in
    let done =
    sound_deleted c.self.inside.modifications.items c.self.inside.rules.items c.self.inside.last c.self.inside.changes c.self.invariant.consistent c.args.edit.now room (ap is_delete c.requires.delete)
    (take c.self.inside.rules.len (c.end_rules-count.new.rules ++ drop (length c.end_rules-count.new.rules) c.self.inside.rules.items))
    (written c.self.inside.rules.len c.end_rules-count.new.rules c.self.inside.rules.items (omega arith) ∙ c.end_rules-count.ensures.rules ∙ ap (map (ended_by c.args.edit.now (c.self.inside.last + 1))) c.deref_mut.ensures.value)
    c.end_rules-count.result (c.end_rules-count.ensures.count ∙ ap (count_by (acts_on c.args.edit.now)) c.deref_mut.ensures.value) in
    done.1 ∙ ap (edited_by c.args.edit.now) (ap (λ (s : Edited). s.history) c.self.view_is)
