use Rattle.std.proofs.Common.{ℕ, ◌/◌, ◌%◌, ◌^◌, ap, ap₂, sym, ◌∙◌}
use Rattle.spec_board.specs.Cache.{slot_count}
use Rattle.ovs_fields.specs.Packed.{numbers}
use Rattle.exact_cache.specs.Kept.{kept_in, slot_of_two}
use Rattle.exact_cache.proofs.KeptSlots.{slot_for-slots_view}
use Rattle.exact_cache.proofs.slots.slot_for.Goals as goal

pub returns-clause-slot : goal.returns-clause-slot
returns-clause-slot c =
    let slots = c.args.slots.now in
    let key = numbers c.args.key.key.now in
    c.slot_of_two.ensures
    ∙ ap₂ (λ (f s : ℕ). slot_of_two key f (kept_in slots f) s (kept_in slots s))
    (c.first_slot.ensures ∙ ap (λ (h : ℕ). h % slot_count) c.args.key.hashed)
    (c.second_slot.ensures ∙ ap (λ (h : ℕ). h / 2 ^ 32 % slot_count) c.args.key.hashed)
    ∙ sym (slot_for-slots_view slots key c.requires)
