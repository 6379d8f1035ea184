use Rattle.std.proofs.Common.{ap, ◌∙◌}
use Rattle.spec_case.specs.Run.{Run}
use Rattle.spec_board.specs.State.{is_pending}
use Rattle.pmd_board.specs.BoardView.{BoardView, state_of}
use Rattle.step_runner.proofs.Progress.{plans_one, planned-settled}
use Rattle.step_runner.proofs.deciding.settle_if_pending.Goals as goal

pub returns-in_ok-settle-clause-none_pending : goal.returns-in_ok-settle-clause-none_pending
returns-in_ok-settle-clause-none_pending g c =
    let run : Run = g.C.Case.run in
    let b : BoardView = c.args.board.now in
    let settled = c.in_ok-settle.ensures.settled in record {
      block = settled.block;
      next = settled.next;
      is_sweeping = settled.is_sweeping;
      others = settled.others;
      only_plans = plans_one run b.port (state_of run b) (state_of run c.settle.new.board) c.args.place settled.others settled.decided;
      none_pending = ap is_pending settled.decided ∙ planned-settled run b.port c.args.place;
    }
