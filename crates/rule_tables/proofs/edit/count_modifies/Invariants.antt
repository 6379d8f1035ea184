use Rattle.std.proofs.Common.{◌≡◌, take}
use Rattle.rule_tables.specs.Edited.{modifies_in}
use Rattle.rule_tables.proofs.edit.count_modifies.Given as goal

abbrev pub invariant-list : goal.invariant-list
invariant-list l = l.count ≡ modifies_in (take l.edit-index l.list)
