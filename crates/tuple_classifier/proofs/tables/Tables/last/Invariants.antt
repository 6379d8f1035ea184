use Rattle.std.proofs.Common.{◌≡◌, ◌-◌}
use Rattle.rule_tables.specs.History.{newest}
use Rattle.tuple_classifier.specs.Versions.{version_in}
use Rattle.tuple_classifier.proofs.tables.Tables.last.Given as goal

abbrev pub invariant-versions : goal.invariant-versions
invariant-versions l = l.tables ≡ version_in l.store l.tables.number

abbrev pub decreases-versions : goal.decreases-versions
decreases-versions l = newest l.store - l.tables.number
