use Rattle.std.proofs.Common.{◌∙◌, sym}
use Rattle.spec_keys.specs.Fields.{place_of}
use Rattle.ovs_fields.specs.Lists.{list_of}
use Rattle.ovs_fields.proofs.KeyLaws.{or_within_width, key_from_set, joined-only_at, place_of-within}
use Rattle.ovs_fields.proofs.mask.Mask.add.Goals as goal

pub set-requires : goal.set-requires
set-requires c = rw c.get.ensures (or_within_width _ c.args.field c.args.more c.args.self.now.is_key c.requires)

pub invariant_of-self : goal.invariant_of-self
invariant_of-self c =
    record {
      is_key = key_from_set _ _ c.args.field _ c.set.ensures c.args.self.now.is_key
          (rw c.get.ensures (or_within_width _ c.args.field c.args.more c.args.self.now.is_key c.requires));
    }

-- one number replaced is bits added at its place
pub returns : goal.returns
returns c =
    let added = joined-only_at (list_of c.args.self.now.fields) (place_of c.args.field) c.args.more (place_of-within c.args.field) in
    c.set.ensures ∙ rw c.get.ensures (sym added)
