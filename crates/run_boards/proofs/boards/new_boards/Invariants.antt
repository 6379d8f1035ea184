use Rattle.std.proofs.Common.{◌≡◌, map, take, All}
use Rattle.spec_board.specs.Schedules as schedules
use Rattle.pmd_board.specs.BoardView.{BoardView}
use Rattle.run_boards.specs.Scheduled.{under_way, IsNew}
use Rattle.run_boards.proofs.boards.new_boards.Given as goal

abbrev pub invariant-ports : goal.invariant-ports
invariant-ports g l = record {
  new : All (IsNew l.flow_limit) l.boards.items;
  ports : map (λ (b : BoardView). b.port) l.boards.items ≡ take l.port-index g.C.Case.run.ports;
  scheduled : map (under_way g.C.Case.run) l.boards.items ≡ map (schedules.new_board g.C.Case.run) (take l.port-index g.C.Case.run.ports);
}
