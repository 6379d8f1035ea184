use Rattle.std.proofs.Common.{ℕ, Bool, not, ◌&&◌, List, ap, ap₂, ◌∙◌}
use Rattle.spec_keys.specs.Keys.{covers}
use Rattle.spec_actions.specs.Named as table
use Rattle.spec_xlate.specs.Tags.{is_tag_field}
use Rattle.spec_xlate.specs.Lookup.{added}
use Rattle.spec_xlate.specs.Consulted.{slice_read, act_bits}
use Rattle.ovs_fields.specs.Packed.{bits}
use Rattle.table_diff.proofs.path.Path.is_slice_known.Goals as goal

pub returns : goal.returns
unfolding act_bits
returns c =
    ap₂ (λ (u v : Bool). not u && v) (c.is_tag_field.ensures ∙ ap (λ (n : table.Named). is_tag_field n.field) c.named.ensures)
    (c.covers.ensures ∙ ap (covers (bits c.args.self.now.known)) (c.consult.ensures ∙ ap (λ (m : List ℕ). added m (slice_read c.args.slice)) c.none-wanted.ensures))
