use Rattle.std.proofs.Common.{◌≡◌, ℕ, false, Some, None, refl, sym, subst}
use Rattle.std.specs.Prelude.{IsSome}
use Rattle.spec_case.specs.Run.{Run}
use Rattle.spec_case.specs.declared.run_step.RunStep.TheVariants as given
use Rattle.spec_board.specs.State.{State}
use Rattle.spec_board.specs.Results.{entry_of}
use Rattle.spec_board.specs.GivenSteps.{kept_version}
use Rattle.table_laws.proofs.MemberLaws.{All-Among}
use Rattle.board_laws.proofs.NumberLaws.{is_among-Among}
use Rattle.run_xlate.specs.Views.{XlateView}
use Rattle.pmd_board.specs.BoardView.{BoardView, state_of}
use Rattle.given_steps.specs.ScheduledViews.{ScheduledView}
use Rattle.given_steps.specs.Translations.{kept_views}
use Rattle.given_steps.specs.Fields.{IsOfEntry}
use Rattle.given_steps.specs.Taken.{Takes}
use Rattle.given_steps.proofs.Boards.{stays}
use Rattle.given_steps.proofs.Entries.{key_there}
use Rattle.given_steps.proofs.KeptLists.{version_of, given_up_in}
use Rattle.given_steps.proofs.Keeping.{kept_with, others_hold}
use Rattle.given_steps.proofs.Taken.{put_takes, put_unmet}
use Rattle.given_steps.proofs.steps.put.Goals as goal

pub put-requires : goal.put-requires
put-requires g c = λ is.
    let run : Run = g.C.Case.run in
    let s : State = state_of run c.board.inside.board in
    let n = c.args.entry in
    let of = c.board.invariant.checks n c.in-Some.made (sym c.in-Some.ensures.found) in
    let live = All-Among (λ (k : ℕ). IsSome (entry_of k s.entries)) s.listed c.journal.ensures.lawful.listed n (is_among-Among s.listed n is) in
    key_there s n c.in-Some.made.key of live

pub invariant_of-board : goal.invariant_of-board
invariant_of-board g c =
    let run : Run = g.C.Case.run in
    let b : BoardView = c.board.inside.board in
    let k = c.board.invariant in
    kept_with run b _ k.limit c.put.ensures.goes_on k.snaps
    (others_hold (IsOfEntry (state_of run b)) c.args.entry c.board.inside.checks.entries c.give_up.new.kept.entries k.checks c.give_up.ensures.rest)

pub invariant_of-board-in-None : goal.invariant_of-board-in-None
invariant_of-board-in-None g c =
    let run : Run = g.C.Case.run in
    let b : BoardView = c.board.inside.board in
    let k = c.board.invariant in
    kept_with run b _ k.limit (stays run b b refl) k.snaps
    (others_hold (IsOfEntry (state_of run b)) c.args.entry c.board.inside.checks.entries c.give_up.new.kept.entries k.checks c.give_up.ensures.rest)

pub returns-in-Some : goal.returns-in-Some
returns-in-Some g c = λ newest.
    let run : Run = g.C.Case.run in
    let b : BoardView = c.board.inside.board in
    let n = c.args.entry in
    let made : XlateView = c.in-Some.made in
    let checks = c.board.inside.checks.entries in
    let snaps = kept_views c.board.inside.snaps.entries in
    let was : ScheduledView = record { board = b; snaps = snaps; checks = kept_views checks } in
    let now : ScheduledView = record { board = c.put.new.board; snaps = snaps; checks = kept_views c.give_up.new.kept.entries } in
    let kept : kept_version n was.checks ≡ Some made.version = version_of n checks (Some made) c.in-Some.ensures.found in
    let rest = given_up_in n checks c.give_up.new.kept.entries c.give_up.ensures.rest in
    subst (λ (v : ScheduledView). Takes run newest (given.Put v.board.port n) v c.put.result now) c.board.view_is
    (put_takes run newest was now c.put.result n made.version kept c.put.ensures.took c.put.ensures.goes_on refl rest)

pub returns-in-None : goal.returns-in-None
returns-in-None g c = λ newest.
    let run : Run = g.C.Case.run in
    let b : BoardView = c.board.inside.board in
    let n = c.args.entry in
    let checks = c.board.inside.checks.entries in
    let snaps = kept_views c.board.inside.snaps.entries in
    let was : ScheduledView = record { board = b; snaps = snaps; checks = kept_views checks } in
    let now : ScheduledView = record { board = b; snaps = snaps; checks = kept_views c.give_up.new.kept.entries } in
    let none : kept_version n was.checks ≡ None = version_of n checks None c.in-None.ensures.found in
    let rest = given_up_in n checks c.give_up.new.kept.entries c.give_up.ensures.rest in
    subst (λ (v : ScheduledView). Takes run newest (given.Put v.board.port n) v false now) c.board.view_is
    (put_unmet run newest was n now.checks none rest)
