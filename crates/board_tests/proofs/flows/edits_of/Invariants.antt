use Rattle.std.proofs.Common.{◌≡◌, IsTrue, length}
use Rattle.std.specs.List.{list_all}
use Rattle.spec_tables.specs.Edits.{has_sound_actions}
use Rattle.board_tests.proofs.flows.edits_of.Given as goal

abbrev pub invariant-flows : goal.invariant-flows
invariant-flows l = record {
  sound : IsTrue (list_all has_sound_actions l.edits.items);
  each : length l.edits.items ≡ l.flow-index;
}
