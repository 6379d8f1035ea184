use Rattle.std.proofs.Common.{◌≡◌, length, take}
use Rattle.spec_tables.specs.Bundles.{AreBundles}
use Rattle.rule_tables.specs.History.{history_of}
use Rattle.board_tests.proofs.rows.each_alone.Given as goal

abbrev pub invariant-edits : goal.invariant-edits
invariant-edits l = record {
  rules : l.rules ≡ history_of (take l.edit-index l.edits) l.bundles.items;
  whole : AreBundles l.bundles.items l.edit-index;
  count : length l.bundles.items ≡ l.edit-index;
}
