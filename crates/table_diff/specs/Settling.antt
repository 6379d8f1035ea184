-- What is kept as a cube is settled by what was found of the packet of its key.
use Rattle.std.specs.Prelude.{ℕ, ◌+◌, ◌++◌, List, [], ◌∷◌}
use Rattle.spec_tables.specs.Rules.{Match}
use Rattle.spec_xlate.specs.Translation.{Switch}
use Rattle.ovs_fields.specs.Packed.{numbers}
use Rattle.table_diff.specs.declared.cube.Cube.{Cube}
use Rattle.table_diff.specs.declared.class.Class.{Class}
use Rattle.table_diff.specs.declared.judging.Judged.{Judged}
use Rattle.table_diff.specs.Cubes.{cubes_view, classes_view}
use Rattle.table_diff.specs.Judging.{Holds}
use Rattle.spec_tools.specs.Progress.{IsPartWay}

-- Where these cubes and this one are left, and these classes are found, the comparison is as far as before, and a step
-- further, with the cubes and the classes that there are then.
abbrev pub IsSettled : Judged → Cube → List Cube → List Class → List Cube → List Class → Type 0
IsSettled judged cube work classes work' classes' =
    (o n : Switch) (first : List Match) (steps : ℕ) → Holds o n (numbers cube.key) judged
    → IsPartWay o n first (cubes_view (work ++ cube ∷ [])) (classes_view classes) steps
    → IsPartWay o n first (cubes_view work') (classes_view classes') (steps + 1)
