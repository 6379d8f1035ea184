use Rattle.std.proofs.Common.{◌-◌, ◌≤◌}
use Rattle.table_versions.proofs.tables.Tables.follow.Given as goal

abbrev pub invariant-versions : goal.invariant-versions
invariant-versions g l = (l.fn.self ≤ l.self) × (l.self ≤ l.to)

abbrev pub decreases-versions : goal.decreases-versions
decreases-versions g l = l.to - l.self
