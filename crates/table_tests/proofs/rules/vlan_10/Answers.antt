use Rattle.std.proofs.Common.{◌≡◌, ℕ, List, refl, sym, ap, ap₂, ◌∙◌}
use Rattle.std.specs.Prelude.{slice_set}
use Rattle.spec_keys.specs.declared.field_id.FieldId.TheVariants.{VlanTci}
use Rattle.spec_keys.specs.Fields.{place_of}
use Rattle.spec_keys.specs.Keys.{none, masked, joined, only_at}
use Rattle.ovs_fields.specs.Packed.{numbers, bits}
use Rattle.table_tests.proofs.rules.vlan_10.Goals as goal

pub invariant_of-result : goal.invariant_of-result
unfolding none masked joined only_at
invariant_of-result c =
    let key : numbers c.set.new.self ≡ slice_set none (place_of VlanTci) 0x100a = c.set.ensures ∙ ap (λ (k : List ℕ). slice_set k (place_of VlanTci) 0x100a) c.zero-key.ensures in
    let mask : bits c.add.new.self ≡ joined none (only_at (place_of VlanTci) 0xffff) = c.add.ensures ∙ ap (λ (m : List ℕ). joined m (only_at (place_of VlanTci) 0xffff)) c.none-mask.ensures in
    let stated : masked (slice_set none (place_of VlanTci) 0x100a) (joined none (only_at (place_of VlanTci) 0xffff)) ≡ slice_set none (place_of VlanTci) 0x100a = refl in
    record { normalised = ap₂ masked key mask ∙ stated ∙ sym key }
