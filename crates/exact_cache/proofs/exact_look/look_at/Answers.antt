use Rattle.std.proofs.Common.{◌≡◌, ℕ, ◌%◌, List, length, Some, refl, sym, ap, ◌∙◌}
use Rattle.std.specs.Prelude.{slice_get}
use Rattle.std.proofs.lemmas.Option.{slice_get_read}
use Rattle.spec_keys.specs.Hash.{key_hash}
use Rattle.spec_board.specs.Cache.{slot_count, cached, first_slot}
use Rattle.ovs_fields.specs.declared.key.Key.{Key}
use Rattle.ovs_fields.specs.Packed.{numbers}
use Rattle.exact_cache.specs.declared.kept.Kept.{Kept}
use Rattle.exact_cache.specs.Kept.{slots_view}
use Rattle.exact_cache.proofs.KeptSlots.{cached-in_first}
use Rattle.exact_cache.proofs.exact_look.look_at.Goals as goal

pub returns-then-kept-first_slot-clause-entry : goal.returns-then-kept-first_slot-clause-entry
returns-then-kept-first_slot-clause-entry c =
    c.look_by_hash.ensures.entry ∙ ap (λ (k : Key). cached (slots_view c.args.slots.now) (numbers k)) c.in_ok-key.ensures.key

pub returns-clause-entry : goal.returns-clause-entry
returns-clause-entry c =
    let slots = c.args.slots.now in
    let key = numbers c.args.key.now in
    let k = c.in_ok-kept.kept.now in
    let lookup = c.in_ok-kept.ensures.lookup in
    let there : slice_get slots.kept.items c.args.place ≡ Some k =
    ap (λ (ks : List Kept). slice_get ks c.args.place) (sym c.deref.ensures.value)
    ∙ slice_get_read c.deref.result.now (length c.deref.result.now) c.args.place k refl lookup.3.0 lookup.1 in
    let first : k.slot ≡ first_slot key =
    c.if-kept-first_slot.false ∙ c.first_slot.ensures
    ∙ ap (λ (h : ℕ). h % slot_count) (c.in_ok-key.key.hashed ∙ ap (λ (x : Key). key_hash (numbers x)) c.in_ok-key.ensures.key) in
    sym (cached-in_first slots key c.args.place k c.requires there c.in_ok-key.ensures.kept first)
