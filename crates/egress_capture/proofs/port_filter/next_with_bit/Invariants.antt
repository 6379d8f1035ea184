use Rattle.std.proofs.Common.{◌≤◌, ◌-◌, length}
use Rattle.egress_capture.specs.Filters.{LackBit}
use Rattle.egress_capture.proofs.port_filter.next_with_bit.Given as goal

abbrev pub invariant-several : goal.invariant-several
invariant-several l = record {
  from : l.from ≤ l.at;
  within : l.at ≤ length l.filters;
  passed : LackBit l.filters l.port l.from l.at;
}

abbrev pub decreases-several : goal.decreases-several
decreases-several l = length l.filters - l.at

abbrev pub invariant-each : goal.invariant-each
invariant-each l = record {
  from : l.from ≤ l.at;
  within : l.at ≤ length l.filters;
  passed : LackBit l.filters l.port l.from l.at;
}

abbrev pub decreases-each : goal.decreases-each
decreases-each l = length l.filters - l.at
