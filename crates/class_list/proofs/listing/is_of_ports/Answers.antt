use Rattle.std.proofs.Common.{ℕ, List, subst}
use Rattle.std.specs.Prelude.{IsTrue}
use Rattle.spec_tables.specs.Rules.{Match, is_matched}
use Rattle.table_diff.specs.Cubes.{cube_view}
use Rattle.class_list.proofs.ListLaws.{of_ports}
use Rattle.class_list.proofs.listing.is_of_ports.Goals as goal

pub returns-then-lies_within : goal.returns-then-lies_within
returns-then-lies_within c is =
    of_ports c.args.ports.now c.ports.port-index 0 (cube_view c.args.cube.now) c.ports-test.true
    (subst (λ (m : Match). (key : List ℕ) → IsTrue (is_matched key (cube_view c.args.cube.now)) → IsTrue (is_matched key m)) c.cube_of.ensures
    (c.lies_within.ensures c.if-lies_within.true))
