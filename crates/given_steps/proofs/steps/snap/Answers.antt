use Rattle.std.proofs.Common.{◌≡◌, true, refl, sym, ap, ◌∙◌, subst}
use Rattle.spec_case.specs.Run.{Run}
use Rattle.spec_case.specs.declared.run_step.RunStep.TheVariants as given
use Rattle.spec_board.specs.Results.{key_at}
use Rattle.run_case.specs.Places.{HasPlace}
use Rattle.run_xlate.specs.Views.{XlateView}
use Rattle.pmd_board.specs.BoardView.{BoardView}
use Rattle.given_steps.specs.ScheduledViews.{ScheduledView}
use Rattle.given_steps.specs.Translations.{kept_views}
use Rattle.given_steps.specs.Fields.{IsOfPlace}
use Rattle.given_steps.specs.Taken.{Takes}
use Rattle.given_steps.proofs.Boards.{stays}
use Rattle.given_steps.proofs.KeptLists.{kept_in}
use Rattle.given_steps.proofs.Keeping.{kept_with, same_hold, one_holds, place_pending}
use Rattle.given_steps.proofs.Taken.{snap_met}
use Rattle.given_steps.proofs.steps.snap.Goals as goal

pub keyed-at-requires-clause-place : goal.keyed-at-requires-clause-place
keyed-at-requires-clause-place g c =
    let run : Run = g.C.Case.run in
    let b : BoardView = c.board.inside.board in
    subst (λ p. HasPlace run p c.args.place) (sym c.port.ensures.same) (place_pending run b c.args.place c.journal.ensures.lawful (sym c.is_pending.ensures ∙ c.if-not-is_pending.false))

pub invariant_of-board : goal.invariant_of-board
invariant_of-board g c =
    let run : Run = g.C.Case.run in
    let b : BoardView = c.board.inside.board in
    let k = c.board.invariant in
    kept_with run b _ k.limit (stays run b b refl)
    (same_hold (IsOfPlace run b.port) c.args.place c.board.inside.snaps.entries c.keep.new.kept.entries k.snaps c.in_err-keep.ensures.same) k.checks

pub invariant_of-board-2 : goal.invariant_of-board-2
invariant_of-board-2 g c =
    let run : Run = g.C.Case.run in
    let b : BoardView = c.board.inside.board in
    let k = c.board.invariant in
    let place = c.args.place in
    let at = c.keyed-at.result in
    let made : XlateView = c.in_ok-made.made in
    let port : at.port ≡ b.port = c.keyed-at.ensures.port ∙ c.port.ensures.same in
    let there = place_pending run b place c.journal.ensures.lawful (sym c.is_pending.ensures ∙ c.if-not-is_pending.false) in
    let same : made.key ≡ key_at run b.port place = c.in_ok-made.ensures.key ∙ at.key_is ∙ ap (λ i. key_at run at.port i) c.keyed-at.ensures.place ∙ ap (λ p. key_at run p place) port in
    kept_with run b _ k.limit (stays run b b refl)
    (one_holds (IsOfPlace run b.port) place c.board.inside.snaps.entries c.keep.new.kept.entries k.snaps made (record { there = there; same = same }) c.in_ok-keep.ensures.kept) k.checks

pub returns : goal.returns
returns g c =
    let run : Run = g.C.Case.run in
    let b : BoardView = c.board.inside.board in
    let place = c.args.place in
    let made : XlateView = c.in_ok-made.made in
    let newest = c.args.tables.now in
    let checks = kept_views c.board.inside.checks.entries in
    let was : ScheduledView = record { board = b; snaps = kept_views c.board.inside.snaps.entries; checks = checks } in
    let now : ScheduledView = record { board = b; snaps = kept_views c.keep.new.kept.entries; checks = checks } in
    let more = kept_in place newest made c.board.inside.snaps.entries c.keep.new.kept.entries c.in_ok-made.ensures.version c.in_ok-keep.ensures.kept in
    subst (λ (v : ScheduledView). Takes run newest (given.Snap v.board.port place) v true now) c.board.view_is
    (snap_met run newest was place now.snaps (sym c.is_pending.ensures ∙ c.if-not-is_pending.false) more)
