use Rattle.std.proofs.Common.{◌≡◌, ℕ, ◌+◌, ◌-◌, List, length, set, map, ap, ap₂, ◌∙◌, refl, arith}
use Rattle.std.specs.Vec.{with_item}
use Rattle.std.proofs.lemmas.List.{map-set}
use Rattle.std.proofs.Math.Seq.{map-set_same}
use Rattle.exact_cache.specs.declared.slots.Indexed.{Indexed}
use Rattle.exact_cache.proofs.KeptSlots.{place_listed, place_below, room_for_new, added_cache, added_written, rewritten_cache, rewritten}
use Rattle.exact_cache.proofs.slots.write.Goals as goal

-- the index after a write
index_set : (index : List Indexed) (slot place tag place_is tag_is : ℕ) → place ≡ place_is → tag ≡ tag_is → (f : Indexed → ℕ)
    → map f (set index slot (record { place = place; tag = tag })) ≡ set (map f index) slot (f (record { place = place_is; tag = tag_is }))
index_set index slot place tag place_is tag_is placed tagged f =
    map-set f index slot (record { place = place; tag = tag }) ∙ ap₂ (λ (p t : ℕ). set (map f index) slot (f (record { place = p; tag = t }))) placed tagged

pub push_reserved-requires : goal.push_reserved-requires
push_reserved-requires c =
    let none = place_listed c.args.slots.now c.args.kept.slot c.index.result.now c.requires.cache c.requires.within c.index.ensures ∙ c.in-0.is in
    let few = room_for_new c.args.slots.now c.args.kept.slot c.requires.cache c.requires.within none in
    omega (arith, few, c.requires.cache.room, c.args.slots.now.kept.ok.0)

pub overflow_cast-place : goal.overflow_cast-place
overflow_cast-place c =
    let none = place_listed c.args.slots.now c.args.kept.slot c.index.result.now c.requires.cache c.requires.within c.index.ensures ∙ c.in-0.is in
    let few = room_for_new c.args.slots.now c.args.kept.slot c.requires.cache c.requires.within none in
    omega (arith, few, c.args.slots.now.kept.ok.0, c.push_reserved.ensures.len, c.len-place.ensures)

pub returns-in-0-clause-cache : goal.returns-in-0-clause-cache
returns-in-0-clause-cache c =
    let none = place_listed c.args.slots.now c.args.kept.slot c.index.result.now c.requires.cache c.requires.within c.index.ensures ∙ c.in-0.is in
    let long : c.len-place.result ≡ length c.args.slots.now.kept.items + 1 = omega (arith, c.len-place.ensures, c.push_reserved.ensures.len, c.args.slots.now.kept.ok.0) in
    let after = index_set c.args.slots.now.index.items c.args.kept.slot c.len-place.result c.tag_of-tag.result _ _ long c.tag_of-tag.ensures in
    added_cache c.args.slots.now _ c.args.kept c.requires.cache c.requires.within none c.push_reserved.ensures.items (after (λ (i : Indexed). i.place)) (after (λ (i : Indexed). i.tag)) c.push_reserved.ensures.capacity

pub returns-in-0-clause-written : goal.returns-in-0-clause-written
returns-in-0-clause-written c =
    let none = place_listed c.args.slots.now c.args.kept.slot c.index.result.now c.requires.cache c.requires.within c.index.ensures ∙ c.in-0.is in
    let long : c.len-place.result ≡ length c.args.slots.now.kept.items + 1 = omega (arith, c.len-place.ensures, c.push_reserved.ensures.len, c.args.slots.now.kept.ok.0) in
    let after = index_set c.args.slots.now.index.items c.args.kept.slot c.len-place.result c.tag_of-tag.result _ _ long c.tag_of-tag.ensures in
    added_written c.args.slots.now (record { index = with_item c.args.slots.now.index c.args.kept.slot (record { place = c.len-place.result; tag = c.tag_of-tag.result }); kept = c.push_reserved.new.self })
    c.args.kept c.requires.cache c.requires.within none c.push_reserved.ensures.items (after (λ (i : Indexed). i.place)) (after (λ (i : Indexed). i.tag)) c.push_reserved.ensures.capacity

pub index_mut-requires-in_default : goal.index_mut-requires-in_default
index_mut-requires-in_default c =
    omega (arith, place_below c.args.slots.now c.args.kept.slot c.index.result.now c.requires.cache c.requires.within c.index.ensures (omega arith), c.args.slots.now.kept.ok.0)

pub returns-in_default-clause-cache : goal.returns-in_default-clause-cache
returns-in_default-clause-cache c =
    let some = place_listed c.args.slots.now c.args.kept.slot c.index.result.now c.requires.cache c.requires.within c.index.ensures in
    let same = map-set_same (λ (i : Indexed). i.place) c.args.slots.now.index.items c.args.kept.slot (record { place = c.index.result.now.place; tag = c.tag_of-tag.result }) c.index.result.now (ap (λ (i : Indexed). i.place) c.index.ensures) in
    let after = index_set c.args.slots.now.index.items c.args.kept.slot c.index.result.now.place c.tag_of-tag.result _ _ refl c.tag_of-tag.ensures in
    rewritten_cache c.args.slots.now _ c.args.kept (c.index.result.now.place - 1) c.requires.cache c.requires.within (some ∙ omega arith) refl same (after (λ (i : Indexed). i.tag)) refl

pub returns-in_default-clause-written : goal.returns-in_default-clause-written
returns-in_default-clause-written c =
    let some = place_listed c.args.slots.now c.args.kept.slot c.index.result.now c.requires.cache c.requires.within c.index.ensures in
    let same = map-set_same (λ (i : Indexed). i.place) c.args.slots.now.index.items c.args.kept.slot (record { place = c.index.result.now.place; tag = c.tag_of-tag.result }) c.index.result.now (ap (λ (i : Indexed). i.place) c.index.ensures) in
    let after = index_set c.args.slots.now.index.items c.args.kept.slot c.index.result.now.place c.tag_of-tag.result _ _ refl c.tag_of-tag.ensures in
    rewritten c.args.slots.now
    (record { index = with_item c.args.slots.now.index c.args.kept.slot (record { place = c.index.result.now.place; tag = c.tag_of-tag.result }); kept = with_item c.args.slots.now.kept (c.index.result.now.place - 1) c.args.kept })
    c.args.kept (c.index.result.now.place - 1) c.requires.cache c.requires.within (some ∙ omega arith) refl same (after (λ (i : Indexed). i.tag)) refl
