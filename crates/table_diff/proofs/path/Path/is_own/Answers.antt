use Rattle.std.proofs.Common.{ℕ, Bool, ◌==◌, ◌&&◌, List, ap, ap₂, ◌∙◌}
use Rattle.spec_keys.specs.Keys.{covers, joined}
use Rattle.spec_xlate.specs.Consulted.{whole}
use Rattle.ovs_fields.specs.Packed.{bits}
use Rattle.table_diff.proofs.path.Path.is_own.Goals as goal

pub returns : goal.returns
returns c =
    ap₂ (λ (n : ℕ) (u : Bool). (n == 0) && u) c.get.ensures.value
    (c.covers.ensures ∙ ap (covers (bits c.args.self.now.mask)) (c.add_field.ensures ∙ ap (λ (m : List ℕ). joined m (whole c.args.field)) c.none-whole.ensures))
