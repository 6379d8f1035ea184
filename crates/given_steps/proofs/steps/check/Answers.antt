use Rattle.std.proofs.Common.{ℕ, true, List, refl, sym, subst}
use Rattle.ovs_fields.specs.Packed.{numbers}
use Rattle.spec_case.specs.Run.{Run}
use Rattle.spec_case.specs.declared.run_step.RunStep.TheVariants as given
use Rattle.spec_board.specs.State.{State}
use Rattle.board_laws.proofs.Kept.{kept_after}
use Rattle.run_xlate.specs.Views.{XlateView}
use Rattle.pmd_board.specs.BoardView.{BoardView, state_of}
use Rattle.given_steps.specs.Keys.{IsKeyOfEntry}
use Rattle.given_steps.specs.ScheduledViews.{ScheduledView}
use Rattle.given_steps.specs.Translations.{kept_views}
use Rattle.given_steps.specs.Fields.{IsOfEntry}
use Rattle.given_steps.specs.Taken.{Takes}
use Rattle.given_steps.proofs.Boards.{stays}
use Rattle.given_steps.proofs.Entries.{key_listed}
use Rattle.given_steps.proofs.KeptLists.{kept_in}
use Rattle.given_steps.proofs.Keeping.{kept_with, same_hold, one_holds}
use Rattle.given_steps.proofs.Taken.{check_met}
use Rattle.given_steps.proofs.steps.check.Goals as goal

pub invariant_of-board : goal.invariant_of-board
invariant_of-board g c =
    let run : Run = g.C.Case.run in
    let b : BoardView = c.board.inside.board in
    let k = c.board.invariant in
    kept_with run b _ k.limit (stays run b b refl) k.snaps
    (same_hold (IsOfEntry (state_of run b)) c.args.entry c.board.inside.checks.entries c.keep.new.kept.entries k.checks c.in_err-keep-in-Some.ensures.same)

pub invariant_of-board-in-Some : goal.invariant_of-board-in-Some
invariant_of-board-in-Some g c =
    let run : Run = g.C.Case.run in
    let b : BoardView = c.board.inside.board in
    let s : State = state_of run b in
    let n = c.args.entry in
    let k = c.board.invariant in
    let made : XlateView = c.in_ok-made-in-Some.made in
    let apart = (kept_after run b.port b.flow_limit b.journal c.journal.ensures.legal).apart in
    let listed : IsKeyOfEntry s n (numbers c.in-Some.key) = key_listed s apart n (numbers c.in-Some.key) c.in-Some.ensures.some.1 in
    let of : IsKeyOfEntry s n made.key = subst (λ (key : List ℕ). IsKeyOfEntry s n key) (sym c.in_ok-made-in-Some.ensures.key) listed in
    kept_with run b _ k.limit (stays run b b refl) k.snaps
    (one_holds (IsOfEntry s) n c.board.inside.checks.entries c.keep.new.kept.entries k.checks made of c.in_ok-keep-in-Some.ensures.kept)

pub returns-in_ok-keep-in-Some : goal.returns-in_ok-keep-in-Some
returns-in_ok-keep-in-Some g c =
    let run : Run = g.C.Case.run in
    let b : BoardView = c.board.inside.board in
    let n = c.args.entry in
    let made : XlateView = c.in_ok-made-in-Some.made in
    let newest = c.args.tables.now in
    let snaps = kept_views c.board.inside.snaps.entries in
    let was : ScheduledView = record { board = b; snaps = snaps; checks = kept_views c.board.inside.checks.entries } in
    let now : ScheduledView = record { board = b; snaps = snaps; checks = kept_views c.keep.new.kept.entries } in
    let more = kept_in n newest made c.board.inside.checks.entries c.keep.new.kept.entries c.in_ok-made-in-Some.ensures.version c.in_ok-keep-in-Some.ensures.kept in
    subst (λ (v : ScheduledView). Takes run newest (given.Check v.board.port n) v true now) c.board.view_is
    (check_met run newest was n now.checks c.in-Some.ensures.some.0 more)
