-- The way of a translation, as the definition sees it.
use Rattle.ovs_fields.specs.Packed.{bits}
use Rattle.table_diff.specs.declared.path.Path.{Path}
use Rattle.table_diff.specs.Following as spec

abbrev pub path_view : Path → spec.Path
path_view p = record {
  ports = p.ports.now;
  mask = bits p.mask;
  known = bits p.known;
  touched = bits p.touched;
  actions = p.actions.items;
  used = p.used;
  dirty = p.dirty;
  fine = p.fine;
}
