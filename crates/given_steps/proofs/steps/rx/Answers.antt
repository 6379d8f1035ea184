use Rattle.std.proofs.Common.{◌<◌, length, false, arith, refl, ap, ◌∙◌, subst}
use Rattle.std.specs.Option.{is_none}
use Rattle.spec_case.specs.Run.{Run, frames_of}
use Rattle.spec_case.specs.declared.run_step.RunStep.TheVariants as given
use Rattle.spec_board.specs.Refusals.{look_fault}
use Rattle.spec_board.specs.Schedules as schedules
use Rattle.pmd_board.specs.BoardView.{BoardView, state_of}
use Rattle.run_boards.specs.Scheduled.{under_way}
use Rattle.given_steps.specs.ScheduledViews.{ScheduledView}
use Rattle.given_steps.specs.Translations.{kept_views}
use Rattle.given_steps.specs.Taken.{TookIf, Takes}
use Rattle.given_steps.proofs.Keeping.{kept_with, beyond}
use Rattle.given_steps.proofs.Taken.{rx_takes, rx_beyond}
use Rattle.given_steps.proofs.steps.rx.Goals as goal

pub returns-then-place-frames : goal.returns-then-place-frames
returns-then-place-frames g c = λ newest.
    let run : Run = g.C.Case.run in
    let b : BoardView = c.board.inside.board in
    let past : length (frames_of run b.port) < (state_of run b).next = (let t = c.if-place-frames.true in let n = c.next-place.ensures.same in let f = c.frames.ensures.count ∙ ap (λ p. length (frames_of run p)) c.port-port.ensures.same in omega (arith, t, n, f)) in
    subst (λ (v : ScheduledView). Takes run newest (given.Rx v.board.port) v false v) c.board.view_is
    (rx_beyond run newest (record { board = b; snaps = kept_views c.board.inside.snaps.entries; checks = kept_views c.board.inside.checks.entries }) (beyond run b c.next-place.ensures.lawful past))

pub invariant_of-board : goal.invariant_of-board
invariant_of-board g c =
    let k = c.board.invariant in
    kept_with g.C.Case.run c.board.inside.board _ k.limit c.look.ensures.goes_on k.snaps k.checks

pub returns : goal.returns
returns g c = λ newest.
    let run : Run = g.C.Case.run in
    let b : BoardView = c.board.inside.board in
    let new : BoardView = c.look.new.board in
    let was : ScheduledView = record { board = b; snaps = kept_views c.board.inside.snaps.entries; checks = kept_views c.board.inside.checks.entries } in
    let now : ScheduledView = record { board = new; snaps = kept_views c.board.inside.snaps.entries; checks = kept_views c.board.inside.checks.entries } in
    let took = subst (λ p. TookIf run (is_none (look_fault run b.port (state_of run b) p)) (schedules.look_next run (under_way run b)) b c.look.result new) (c.keyed-at.ensures.place ∙ c.next-place.ensures.same) c.look.ensures.took in
    subst (λ (v : ScheduledView). Takes run newest (given.Rx v.board.port) v c.look.result now) c.board.view_is
    (rx_takes run newest was now c.look.result took c.look.ensures.goes_on refl refl)
