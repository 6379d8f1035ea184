use Rattle.std.proofs.Common.{arith, ◌≤◌, refl, sym, ap, ◌∙◌}
use Rattle.spec_case.specs.Run.{Run}
use Rattle.spec_case.specs.Blocks.{last_block}
use Rattle.spec_board.specs.Schedules as schedules
use Rattle.run_boards.specs.Scheduled.{schedule_of}
use Rattle.step_runner.proofs.Turns.{none_done, all_done, planned_none, planned_then, iterate_more, all_rounds}
use Rattle.step_runner.proofs.finishing.finish_blocks.Goals as goal

pub rounds-init : goal.rounds-init
rounds-init g c =
    let run : Run = g.C.Case.run in record {
      version = c.requires;
      done = none_done run c.args.boards;
      only_plans = planned_none run c.args.boards;
      scheduled = refl;
    }

pub rounds-preserved : goal.rounds-preserved
rounds-preserved g c =
    let run : Run = g.C.Case.run in
    let inv = c.rounds.invariant in
    let made = c.in_ok-left.ensures in
    let upto = c.rounds-test.true in
    let last = c.last_block-last.ensures.block in
    let within : c.rounds.round ≤ last_block run = omega (arith, upto, last) in record {
      version = made.version;
      done = made.done c.rounds.round within inv.done;
      only_plans = planned_then run c.args.boards c.rounds.left c.in_ok-left.left inv.only_plans made.only_plans;
      scheduled = made.scheduled ∙ ap (schedules.finish_block run) inv.scheduled
          ∙ sym (iterate_more (schedules.finish_block run) c.rounds.round (schedule_of run c.args.tables.now c.args.boards));
    }

pub returns-clause-finished : goal.returns-clause-finished
returns-clause-finished g c =
    let run : Run = g.C.Case.run in
    let stop = c.rounds-test.false in
    let last = c.last_block-last.ensures.block in
    all_done run c.rounds.round c.rounds.left (omega (arith, stop, last)) c.rounds.invariant.done

pub returns-clause-scheduled : goal.returns-clause-scheduled
returns-clause-scheduled g c =
    let run : Run = g.C.Case.run in
    let stop = c.rounds-test.false in
    let upto = c.rounds.auto.round-end in
    let last = c.last_block-last.ensures.block in
    all_rounds run c.rounds.round (schedule_of run c.args.tables.now c.args.boards) (schedule_of run c.rounds.tables c.rounds.left) (omega (arith, stop, upto, last)) c.rounds.invariant.scheduled
