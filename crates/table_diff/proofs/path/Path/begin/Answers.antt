use Rattle.std.proofs.Common.{false, true}
use Rattle.ovs_fields.specs.Packed.{bits}
use Rattle.table_diff.proofs.path.Path.begin.Goals as goal

pub returns : goal.returns
returns c = λ i. record {
  ports = c.args.ports.now;
  mask = bits c.args.mask.now;
  known = c.with_registers-known.ensures i;
  touched = c.none.ensures i;
  actions = c.in_ok-with_capacity.ensures.items i;
  used = 0;
  dirty = false;
  fine = true;
}
