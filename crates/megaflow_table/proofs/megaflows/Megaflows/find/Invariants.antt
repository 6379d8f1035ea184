use Rattle.std.proofs.Common.{◌≡◌, ℕ, ◌<◌, Some}
use Rattle.std.specs.Prelude.{slice_get}
use Rattle.ovs_fields.specs.declared.mask.Mask.{Mask}
use Rattle.ovs_fields.specs.Packed.{numbers}
use Rattle.megaflow_table.specs.Subtables.{Subtable}
use Rattle.megaflow_table.proofs.FindLaws.{IsPassed}
use Rattle.megaflow_table.proofs.megaflows.Megaflows.find.Given as goal

abbrev pub invariant-subtables : goal.invariant-subtables
invariant-subtables l = (j : ℕ) (t : Mask × Subtable) → j < l.i → slice_get l.self-inside.subtables.entries j ≡ Some t → IsPassed (numbers l.key) t
