use Rattle.std.proofs.Common.{refl}
use Rattle.ovs_fields.specs.Packed.{bits}
use Rattle.table_diff.proofs.WayLaws.{differing}
use Rattle.table_diff.proofs.ways.differ.Goals as goal

pub returns : goal.returns
returns c o n key ho hn so sn other =
    let mask = bits c.args.mask in
    let old = c.deed_of.ensures o key mask so ho in
    let new = c.deed_of-2.ensures n key mask sn hn in
    record {
      same_mask = refl;
      holds = differing o n key mask c.deed_of.result c.deed_of-2.result old new other;
      printable = (old.printable, new.printable);
    }
