use Rattle.std.proofs.Common.{◌≡◌, ℕ, ◌/◌, ◌%◌, ◌^◌, List, Option, Some, None, sym, ap, ◌∙◌}
use Rattle.std.specs.Option.{option_or}
use Rattle.spec_board.specs.Cache.{slot_count, first_slot, second_slot}
use Rattle.ovs_fields.specs.Packed.{numbers}
use Rattle.exact_cache.specs.declared.slots.KeptSlots.{KeptSlots}
use Rattle.exact_cache.specs.Kept.{kept_in, entry_in}
use Rattle.exact_cache.proofs.KeptSlots.{cached-slots_view}
use Rattle.exact_cache.proofs.exact_look.look_by_hash.Goals as goal
use Rattle.exact_cache.proofs.exact_look.look_by_hash.Goals.{in-Some, in-None}

-- what a slot was found to name, under another spelling of its number
at_slot : (slots : KeptSlots) (key : List ℕ) (found : Option ℕ) (number slot : ℕ)
    → found ≡ entry_in key (kept_in slots number) → number ≡ slot → found ≡ entry_in key (kept_in slots slot)
at_slot slots key found number slot named is = named ∙ ap (λ (n : ℕ). entry_in key (kept_in slots n)) is

pub returns-clause-entry : goal.returns-clause-entry
returns-clause-entry c =
    let slots = c.args.slots.now in
    let key = numbers c.args.key.key.now in
    let in_second = entry_in key (kept_in slots (second_slot key)) in
    let is_first = c.first_slot.ensures ∙ ap (λ (h : ℕ). h % slot_count) c.args.key.hashed in
    elim c.match-entry_for.branch [
      | in-Some w ↦
          w.entry-is
          ∙ ap (λ (o : Option ℕ). option_or o in_second) (at_slot slots key (Some w.in-Some.entry) _ (first_slot key) w.in-Some.ensures is_first)
          ∙ sym (cached-slots_view slots key c.requires)
      | in-None w ↦
          w.entry-is
          ∙ at_slot slots key w.entry_for-entry.result _ (second_slot key) w.entry_for-entry.ensures (w.second_slot.ensures ∙ ap (λ (h : ℕ). h / 2 ^ 32 % slot_count) c.args.key.hashed)
          ∙ ap (λ (o : Option ℕ). option_or o in_second) (at_slot slots key None _ (first_slot key) w.in-None.ensures is_first)
          ∙ sym (cached-slots_view slots key c.requires)
    ]
