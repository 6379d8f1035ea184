use Rattle.std.proofs.Common.{[]}
use Rattle.board_tests.proofs.rows.first_wrong_of.Given as goal

-- the name means what the row made
abbrev pub ghosts-in_run : goal.ghosts-in_run
ghosts-in_run a = record {
  run = record { ports = a.ports; edits = a.edits.items; bundles = a.bundles.items; syncs = a.syncs.items; traces = a.traces.items; flow_limit = a.row.now.flow_limit; steps = [] };
}
