use Rattle.std.proofs.Common.{ℕ, Bool, not, ◌&&◌, ◌||◌, sym, ap, ap₂, ◌∙◌}
use Rattle.spec_keys.specs.declared.field_id.FieldId.TheVariants.{VlanTci2}
use Rattle.spec_actions.specs.declared.action.OfAction.{OfAction}
use Rattle.ovs_fields.specs.Packed.{numbers}
use Rattle.table_diff.specs.Following.{are_known, is_decided}
use Rattle.table_diff.specs.Paths.{path_view}
use Rattle.table_diff.proofs.path.Path.is_decided.Goals as goal

pub returns-in-OutputField : goal.returns-in-OutputField
unfolding is_decided
returns-in-OutputField c =
    ap₂ (λ (s t : Bool). s && t) c.is_own-in-OutputField.ensures c.is_slice_known.ensures
    ∙ ap (λ (x : OfAction). is_decided (path_view c.args.self.now) x (numbers c.args.key.now)) (sym c.in-OutputField.is)

pub returns-in-InPort : goal.returns-in-InPort
unfolding is_decided
returns-in-InPort c =
    c.is_own-in-InPort.ensures ∙ ap (λ (x : OfAction). is_decided (path_view c.args.self.now) x (numbers c.args.key.now)) (sym c.in-InPort.is)

pub returns-in-All : goal.returns-in-All
unfolding is_decided
returns-in-All c = c.is_own-in-All.ensures ∙ ap (λ (x : OfAction). is_decided (path_view c.args.self.now) x (numbers c.args.key.now)) (sym c.in-All.is)

pub returns-in-Flood : goal.returns-in-Flood
unfolding is_decided
returns-in-Flood c =
    c.is_own-in-Flood.ensures ∙ ap (λ (x : OfAction). is_decided (path_view c.args.self.now) x (numbers c.args.key.now)) (sym c.in-Flood.is)

pub returns-in-DecTtl : goal.returns-in-DecTtl
unfolding is_decided
returns-in-DecTtl c =
    ap₂ (λ (s t : Bool). s && t) c.is_own-in-DecTtl.ensures (ap₂ (λ (s t : Bool). not s || t) c.holds.ensures c.is_ttl_told.ensures)
    ∙ ap (λ (x : OfAction). is_decided (path_view c.args.self.now) x (numbers c.args.key.now)) (sym c.in-DecTtl.is)

pub returns-in-PushVlan : goal.returns-in-PushVlan
unfolding is_decided
returns-in-PushVlan c =
    c.are_known.ensures ∙ ap (λ (n : ℕ). are_known (path_view c.args.self.now) VlanTci2 n) c.from.ensures
    ∙ ap (λ (x : OfAction). is_decided (path_view c.args.self.now) x (numbers c.args.key.now)) (sym c.in-PushVlan.is)
