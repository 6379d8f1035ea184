use Rattle.std.proofs.Common.{◌≡◌, ℕ, Bool, false, Some, None, refl, sym, ap, ◌∙◌, subst}
use Rattle.std.specs.Prelude.{IfOk}
use Rattle.std.specs.Option.{is_none}
use Rattle.spec_case.specs.Run.{Run}
use Rattle.spec_case.specs.declared.run_step.RunStep.TheVariants as given
use Rattle.spec_board.specs.Results.{key_at}
use Rattle.spec_board.specs.Refusals.{settle_fault}
use Rattle.spec_board.specs.Schedules as schedules
use Rattle.spec_board.specs.GivenSteps.{kept_version}
use Rattle.run_case.specs.Places.{HasPlace}
use Rattle.run_xlate.specs.Views.{XlateView}
use Rattle.pmd_board.specs.BoardView.{BoardView, state_of}
use Rattle.run_boards.specs.Scheduled.{under_way}
use Rattle.given_steps.specs.ScheduledViews.{ScheduledView}
use Rattle.given_steps.specs.Translations.{kept_views}
use Rattle.given_steps.specs.Fields.{IsOfPlace}
use Rattle.given_steps.specs.Taken.{TookIf, Takes}
use Rattle.given_steps.proofs.Boards.{stays, if_ok_then}
use Rattle.given_steps.proofs.KeptLists.{version_of, given_up_in}
use Rattle.given_steps.proofs.Keeping.{kept_with, others_hold}
use Rattle.given_steps.proofs.Taken.{settle_takes, settle_unmet}
use Rattle.given_steps.proofs.steps.settle.Goals as goal

pub keyed-at-requires-clause-place : goal.keyed-at-requires-clause-place
keyed-at-requires-clause-place g c =
    let run : Run = g.C.Case.run in
    let b : BoardView = c.board.inside.board in
    let of = c.board.invariant.snaps c.args.place c.in-Some.made (sym c.in-Some.ensures.found) in
    subst (λ p. HasPlace run p c.args.place) (sym c.port.ensures.same) of.there

pub settle-requires-clause-key : goal.settle-requires-clause-key
settle-requires-clause-key g c =
    let run : Run = g.C.Case.run in
    let b : BoardView = c.board.inside.board in
    let of = c.board.invariant.snaps c.args.place c.in-Some.made (sym c.in-Some.ensures.found) in
    let at = c.keyed-at.result in
    let port : at.port ≡ b.port = c.keyed-at.ensures.port ∙ c.port.ensures.same in
    of.same ∙ ap (λ p. key_at run p c.args.place) (sym port) ∙ ap (λ i. key_at run at.port i) (sym c.keyed-at.ensures.place) ∙ sym at.key_is

pub invariant_of-board : goal.invariant_of-board
invariant_of-board g c =
    let run : Run = g.C.Case.run in
    let b : BoardView = c.board.inside.board in
    let k = c.board.invariant in
    kept_with run b _ k.limit c.settle.ensures.goes_on
    (others_hold (IsOfPlace run b.port) c.args.place c.board.inside.snaps.entries c.give_up.new.kept.entries k.snaps c.give_up.ensures.rest) k.checks

pub invariant_of-board-in-None : goal.invariant_of-board-in-None
invariant_of-board-in-None g c =
    let run : Run = g.C.Case.run in
    let b : BoardView = c.board.inside.board in
    let k = c.board.invariant in
    kept_with run b _ k.limit (stays run b b refl)
    (others_hold (IsOfPlace run b.port) c.args.place c.board.inside.snaps.entries c.give_up.new.kept.entries k.snaps c.give_up.ensures.rest) k.checks

pub returns-in-Some : goal.returns-in-Some
returns-in-Some g c = λ newest.
    let run : Run = g.C.Case.run in
    let b : BoardView = c.board.inside.board in
    let place = c.args.place in
    let made : XlateView = c.in-Some.made in
    let new : BoardView = c.settle.new.board in
    let snaps = c.board.inside.snaps.entries in
    let checks = kept_views c.board.inside.checks.entries in
    let was : ScheduledView = record { board = b; snaps = kept_views snaps; checks = checks } in
    let now : ScheduledView = record { board = new; snaps = kept_views c.give_up.new.kept.entries; checks = checks } in
    let kept : kept_version place was.snaps ≡ Some made.version = version_of place snaps (Some made) c.in-Some.ensures.found in
    let rest = given_up_in place snaps c.give_up.new.kept.entries c.give_up.ensures.rest in
    let taken = λ (i : ℕ) (took : Bool). TookIf run (is_none (settle_fault run (state_of run b) i made.version)) (schedules.settle_at run made.version i (under_way run b)) b took new in
    subst (λ (v : ScheduledView). IfOk c.settle.result (λ met. Takes run newest (given.Settle v.board.port place) v met now)) c.board.view_is
    (if_ok_then c.settle.result
    (λ met took. settle_takes run newest was now met place made.version kept (subst (λ i. taken i met) c.keyed-at.ensures.place took) c.settle.ensures.goes_on rest refl)
    c.settle.ensures.took)

pub returns-in-None : goal.returns-in-None
returns-in-None g c = λ newest.
    let run : Run = g.C.Case.run in
    let b : BoardView = c.board.inside.board in
    let snaps = c.board.inside.snaps.entries in
    let checks = kept_views c.board.inside.checks.entries in
    let was : ScheduledView = record { board = b; snaps = kept_views snaps; checks = checks } in
    let now : ScheduledView = record { board = b; snaps = kept_views c.give_up.new.kept.entries; checks = checks } in
    let none : kept_version c.args.place was.snaps ≡ None = version_of c.args.place snaps None c.in-None.ensures.found in
    let rest = given_up_in c.args.place snaps c.give_up.new.kept.entries c.give_up.ensures.rest in
    subst (λ (v : ScheduledView). Takes run newest (given.Settle v.board.port c.args.place) v false now) c.board.view_is
    (settle_unmet run newest was c.args.place now.snaps none rest)
