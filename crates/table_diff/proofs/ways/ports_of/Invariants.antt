use Rattle.std.proofs.Common.{◌≡◌, ◌++◌, drop}
use Rattle.table_diff.specs.Sending.{ports_in}
use Rattle.table_diff.proofs.ways.ports_of.Given as goal

-- with those of the actions that are left, all are there
abbrev pub invariant-actions : goal.invariant-actions
invariant-actions l = l.ports.items ++ ports_in (drop l.action-index l.actions) ≡ ports_in l.actions
