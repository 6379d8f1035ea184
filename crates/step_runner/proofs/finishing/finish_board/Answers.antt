use Rattle.std.proofs.Common.{sym, ap, ◌∙◌, subst}
use Rattle.spec_case.specs.Run.{Run}
use Rattle.spec_board.specs.Schedules as schedules
use Rattle.pmd_board.specs.BoardView.{state_of}
use Rattle.run_boards.specs.Progress.{OnlyPlans}
use Rattle.run_boards.specs.Scheduled.{under_way}
use Rattle.step_runner.proofs.Progress.{plans_same, plans_then}
use Rattle.run_boards.proofs.Scheduled.{finish_board_is}
use Rattle.step_runner.proofs.finishing.finish_board.Goals as goal

pub returns-clause-scheduled : goal.returns-clause-scheduled
returns-clause-scheduled g c =
    let run : Run = g.C.Case.run in
    let v = c.args.tables.now in
    let b = under_way run c.args.board.now in
    let ended = c.in_ok-end_sweep.ensures.ended in
    let settled = c.in_ok-settle_pending.ensures.scheduled ∙ ap (schedules.with_pending_settled run v) ended in
    let made = c.in_ok-sweep.ensures.made ∙ ap (schedules.with_sweep_made run v) settled in
    let decided = c.in_ok-decide_all.ensures.scheduled ∙ ap (schedules.with_all_decided run v) made in
    c.open_next.ensures.scheduled ∙ ap (schedules.with_next_opened run) decided ∙ sym (finish_board_is run v b)

pub returns-clause-only_plans : goal.returns-clause-only_plans
returns-clause-only_plans g c =
    let run : Run = g.C.Case.run in
    let port = c.args.board.now.port in
    let a = state_of run c.args.board.now in
    let b = state_of run c.end_sweep.new.board in
    let d = state_of run c.settle_pending.new.board in
    let e = state_of run c.sweep.new.board in
    let f = state_of run c.decide_all.new.board in
    let h = state_of run c.open_next.new.board in
    let port_b = c.in_ok-end_sweep.ensures.port.port in
    let port_d = c.in_ok-settle_pending.ensures.port.port ∙ port_b in
    let port_e = c.in_ok-sweep.ensures.port.port ∙ port_d in
    let port_f = c.in_ok-decide_all.ensures.port.port ∙ port_e in
    let ended = plans_same run port a b c.in_ok-end_sweep.ensures.as_far.places in
    let settled = plans_then run port a b d ended (subst (λ p. OnlyPlans run p b d) port_b c.in_ok-settle_pending.ensures.only_plans) in
    let swept = plans_then run port a d e settled (plans_same run port d e c.in_ok-sweep.ensures.as_far.places) in
    let decided = plans_then run port a e f swept (subst (λ p. OnlyPlans run p e f) port_e c.in_ok-decide_all.ensures.only_plans) in
    plans_then run port a f h decided (subst (λ p. OnlyPlans run p f h) port_f c.open_next.ensures.only_plans)
