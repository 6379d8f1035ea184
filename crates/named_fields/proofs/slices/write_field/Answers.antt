use Rattle.spec_keys.specs.Fields.{width_of}
use Rattle.named_fields.proofs.WriteLaws.{merged-within}
use Rattle.named_fields.proofs.slices.write_field.Goals as goal

pub set-requires : goal.set-requires
set-requires c = merged-within (width_of c.args.field) c.get-number.result c.args.value c.args.mask c.get-number.ensures.within c.requires
