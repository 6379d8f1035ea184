use Rattle.std.proofs.Common.{[]}
use Rattle.board_tests.proofs.blocks.blocks_are.Given as goal

-- the name means what the test made
abbrev pub ghosts-in_run : goal.ghosts-in_run
ghosts-in_run g a = record {
  run = record { ports = a.ports; edits = []; bundles = []; syncs = a.syncs.items; traces = a.traces.items; flow_limit = 0; steps = [] };
}
