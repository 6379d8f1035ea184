use Rattle.std.proofs.Common.{◌≡◌, ◌*◌, ◌^◌, ◌≤◌, take}
use Rattle.spec_run.specs.Summary.{megaflow_count}
use Rattle.pmd_board.specs.BoardView.{journals_view}
use Rattle.flow_dump.proofs.summary.megaflow_count.Given as goal

abbrev pub invariant-boards : goal.invariant-boards
invariant-boards g l = record {
  megaflows : l.megaflows ≡ megaflow_count g.C.Case.run (journals_view (take l.board-index l.of_ports));
  few : l.megaflows ≤ l.board-index * 2 ^ 64;
}
