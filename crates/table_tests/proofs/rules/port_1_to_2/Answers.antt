use Rattle.std.proofs.Common.{◌≡◌, ℕ, List, refl, sym, ap, ap₂, ◌∙◌}
use Rattle.std.specs.Prelude.{slice_set}
use Rattle.spec_keys.specs.declared.field_id.FieldId.TheVariants.{InPort, DlDst}
use Rattle.spec_keys.specs.Fields.{place_of}
use Rattle.spec_keys.specs.Keys.{none, masked, joined, only_at}
use Rattle.ovs_fields.specs.Packed.{numbers, bits}
use Rattle.table_tests.proofs.rules.port_1_to_2.Goals as goal

pub invariant_of-result : goal.invariant_of-result
unfolding none masked joined only_at
invariant_of-result c =
    let key : numbers c.set-2.new.self ≡ slice_set (slice_set none (place_of InPort) 1) (place_of DlDst) 2 =
    c.set-2.ensures ∙ ap (λ (k : List ℕ). slice_set k (place_of DlDst) 2) (c.set.ensures ∙ ap (λ (k : List ℕ). slice_set k (place_of InPort) 1) c.zero-key.ensures) in
    let mask : bits c.add-2.new.self ≡ joined (joined none (only_at (place_of InPort) 0xffff)) (only_at (place_of DlDst) 0xffff_ffff_ffff) =
    c.add-2.ensures ∙ ap (λ (m : List ℕ). joined m (only_at (place_of DlDst) 0xffff_ffff_ffff))
    (c.add.ensures ∙ ap (λ (m : List ℕ). joined m (only_at (place_of InPort) 0xffff)) c.none-mask.ensures) in
    let stated : masked (slice_set (slice_set none (place_of InPort) 1) (place_of DlDst) 2) (joined (joined none (only_at (place_of InPort) 0xffff)) (only_at (place_of DlDst) 0xffff_ffff_ffff))
    ≡ slice_set (slice_set none (place_of InPort) 1) (place_of DlDst) 2 = refl in
    record { normalised = ap₂ masked key mask ∙ stated ∙ sym key }
