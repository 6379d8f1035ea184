use Rattle.std.proofs.Common.{◌≡◌, take}
use Rattle.rule_tables.specs.Edited.{adds_in}
use Rattle.rule_tables.proofs.edit.count_adds.Given as goal

abbrev pub invariant-list : goal.invariant-list
invariant-list l = l.count ≡ adds_in (take l.edit-index l.list)
