-- Lists of slots that are the same cache name the same entries, also after a key is put.
use Rattle.std.proofs.Common.{◌≡◌, ℕ, cond, ◌==◌, List, Option, Some, None, refl, sym, ap₂, ◌∙◌}
use Rattle.std.specs.Prelude.{if◌then◌else◌}
use Rattle.std.specs.Option.{option_map, is_none}
use Rattle.spec_board.specs.State.{Slot}
use Rattle.spec_board.specs.Cache.{first_slot, second_slot, holds, cached, slot_for, with_cached}
use Rattle.exact_cache.specs.SameSlots.{AreSameSlots}

pub same_slots-reflexive : (a : List Slot) → AreSameSlots a a
same_slots-reflexive a number = refl

pub same_slots-symmetric : (a b : List Slot) → AreSameSlots a b → AreSameSlots b a
same_slots-symmetric a b alike number = sym (alike number)

pub same_slots-transitive : (a b c : List Slot) → AreSameSlots a b → AreSameSlots b c → AreSameSlots a c
same_slots-transitive a b c first second number = first number ∙ second number

-- both name the same entry for a key
pub same_slots-cached : (a b : List Slot) (key : List ℕ) → AreSameSlots a b → cached a key ≡ cached b key
same_slots-cached a b key alike =
    ap₂
    (λ (x y : Option Slot). if holds key x then option_map (λ (s : Slot). s.entry) x else (if holds key y then option_map (λ (s : Slot). s.entry) y else None))
    (alike (first_slot key)) (alike (second_slot key))

-- both have the same slot for a key
pub same_slots-slot_for : (a b : List Slot) (key : List ℕ) → AreSameSlots a b → slot_for a key ≡ slot_for b key
same_slots-slot_for a b key alike =
    ap₂
    (λ (x y : Option Slot). if holds key x then first_slot key
    else (if holds key y then second_slot key
    else (if is_none x then first_slot key
    else (if is_none y then second_slot key
    else first_slot key))))
    (alike (first_slot key)) (alike (second_slot key))

-- both are the same after a key is put
pub same_slots-with_cached : (a b : List Slot) (key : List ℕ) (entry : ℕ) → AreSameSlots a b → AreSameSlots (with_cached key entry a) (with_cached key entry b)
same_slots-with_cached a b key entry alike number =
    ap₂
    (λ (slot : ℕ) (behind : Option Slot). cond (slot == number) (Some (record { number = slot; key = key; entry = entry })) behind)
    (same_slots-slot_for a b key alike) (alike number)

-- so a list that is the same as a cache stays so as a key is put into both
pub same_slots-put : (old new slots : List Slot) (key : List ℕ) (entry : ℕ) → AreSameSlots new (with_cached key entry old) → AreSameSlots old slots
    → AreSameSlots new (with_cached key entry slots)
same_slots-put old new slots key entry put alike =
    same_slots-transitive new (with_cached key entry old) (with_cached key entry slots) put (same_slots-with_cached old slots key entry alike)
