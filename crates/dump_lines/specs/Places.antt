-- Where a rule stands in the dump.
use Rattle.spec_tables.specs.Rules.{Rule}
use Rattle.dump_lines.specs.declared.rules.places.RulePlace.{RulePlace}

abbrev pub place_of : Rule → RulePlace
place_of r = record { table = r.table; priority = record { 0 = r.priority }; number = r.number }
