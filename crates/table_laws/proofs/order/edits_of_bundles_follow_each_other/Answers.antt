use Rattle.table_laws.proofs.Bundles.{bundle-after, length-bundle}
use Rattle.table_laws.proofs.order.edits_of_bundles_follow_each_other.Goals as goal

pub returns-clause-after : goal.returns-clause-after
returns-clause-after c = λ edits bundles v are. bundle-after edits bundles v are

pub returns-clause-count : goal.returns-clause-count
returns-clause-count c = λ edits bundles v are. length-bundle edits bundles v are
