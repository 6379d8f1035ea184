use Rattle.std.proofs.Common.{◌+◌, ◌-◌, ℕ, List}
use Rattle.std.specs.Prelude.{vec_len}
use Rattle.spec_tables.specs.Rules.{Rule}
use Rattle.tuple_classifier.specs.ByTable.{AreClassified, HaveNoRule}
use Rattle.tuple_classifier.proofs.by_table.grow.Given as goal

abbrev pub invariant-tables : goal.invariant-tables
invariant-tables l = record {
  rules : (rules : List Rule) → AreClassified l.fn.tables.items rules → AreClassified l.tables.items rules;
  numbers : (number : ℕ) → HaveNoRule number l.fn.tables.items → HaveNoRule number l.tables.items;
}

abbrev pub decreases-tables : goal.decreases-tables
decreases-tables l = l.table + 1 - vec_len l.tables
