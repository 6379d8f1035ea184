use Rattle.std.proofs.Common.{◌≡◌, ◌*◌, ◌^◌, take}
use Rattle.pmd_board.specs.BoardView.{journals_view}
use Rattle.flow_dump.specs.StepCounts.{counts_of_all, AreAtMost}
use Rattle.flow_dump.proofs.step_counts.count_all_steps.Given as goal

abbrev pub invariant-boards : goal.invariant-boards
invariant-boards g l = record {
  counted : l.counts ≡ counts_of_all (journals_view (take l.board-index l.of_ports));
  few : AreAtMost (l.board-index * 2 ^ 64) l.counts;
}
