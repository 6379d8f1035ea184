use Rattle.std.proofs.Common.{◌≡◌, ℕ, ◌<◌, Some, take}
use Rattle.std.specs.Prelude.{slice_get}
use Rattle.std.specs.List.{flat_map}
use Rattle.ovs_fields.specs.Packed.{numbers, bits}
use Rattle.ovs_fields.specs.declared.mask.Mask.{Mask}
use Rattle.megaflow_table.specs.Subtables.{Subtable}
use Rattle.megaflow_table.specs.Overlaps.{overlapping_in, IsScanned}
use Rattle.megaflow_table.proofs.overlaps.overlapping.Given as goal

abbrev pub invariant-subtables : goal.invariant-subtables
invariant-subtables l =
    (l.found.items ≡ flat_map (overlapping_in (numbers l.key.key.now) (bits l.mask)) (take l.i l.subtables.entries))
    × ((j : ℕ) (t : Mask × Subtable) → j < l.i → slice_get l.subtables.entries j ≡ Some t → IsScanned (bits l.mask) t)
