use Rattle.std.proofs.Common.{ap}
use Rattle.spec_actions.specs.Named as table
use Rattle.ovs_fields.specs.Packed.{numbers}
use Rattle.named_fields.proofs.WriteLaws.{written_by_code}
use Rattle.named_fields.proofs.slices.write_bits.Goals as goal

pub returns : goal.returns
returns c =
    let at = c.named-at.result in
    written_by_code c.args.name at.field at.low at.writable c.args.value c.args.mask (numbers c.args.key.now) (numbers c.write_field.new.key)
    (ap (λ (n : table.Named). n.field) c.named-at.ensures) (ap (λ (n : table.Named). n.low) c.named-at.ensures) (ap (λ (n : table.Named). n.writable) c.named-at.ensures)
    c.requires c.write_field.ensures
