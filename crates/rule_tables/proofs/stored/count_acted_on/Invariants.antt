use Rattle.std.proofs.Common.{◌≡◌, take}
use Rattle.std.specs.Prelude.{count_by}
use Rattle.rule_tables.specs.Stored.{acts_on}
use Rattle.rule_tables.proofs.stored.count_acted_on.Given as goal

abbrev pub invariant-rules : goal.invariant-rules
invariant-rules l = record {
  place : l.place ≡ l.stored-index;
  count : l.count ≡ count_by (acts_on l.edit) (take l.stored-index l.rules);
}
