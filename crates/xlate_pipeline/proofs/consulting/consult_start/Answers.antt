use Rattle.std.proofs.Common.{ℕ, Bool, List, [], ◌∷◌, ap, ◌∙◌}
use Rattle.spec_keys.specs.declared.field_id.FieldId.TheVariants as field
use Rattle.spec_keys.specs.Keys.{joined}
use Rattle.spec_xlate.specs.Needs.{is_met}
use Rattle.spec_xlate.specs.Lookup.{added, when}
use Rattle.spec_xlate.specs.Consulted.{whole}
use Rattle.ovs_fields.specs.Packed.{bits}
use Rattle.xlate_pipeline.proofs.consulting.consult_start.Goals as goal

pub returns-then-holds : goal.returns-then-holds
unfolding is_met
returns-then-holds c =
    let both = c.consult_whole-2.ensures ∙ ap (λ (m : List ℕ). joined m (whole field.DlType)) c.consult_whole.ensures in
    c.consult_whole-then-holds.ensures
    ∙ ap (λ (m : List ℕ). joined m (whole field.IpFrag)) both
    ∙ ap (λ (t : Bool). added (joined (joined (bits c.args.mask.now) (whole field.InPort)) (whole field.DlType)) (when t (whole field.IpFrag ∷ []))) c.if-holds.ensures

pub returns-else-holds : goal.returns-else-holds
unfolding is_met
returns-else-holds c =
    c.consult_whole-2.ensures
    ∙ ap (λ (m : List ℕ). joined m (whole field.DlType)) c.consult_whole.ensures
    ∙ ap (λ (t : Bool). added (joined (joined (bits c.args.mask.now) (whole field.InPort)) (whole field.DlType)) (when t (whole field.IpFrag ∷ []))) c.if-holds.ensures
