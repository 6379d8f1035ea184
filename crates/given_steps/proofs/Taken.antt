-- That what is done for a given step is what the definition has it do.
use Rattle.std.proofs.Common.{◌≡◌, ℕ, ◌+◌, Bool, true, false, List, Option, Some, None, refl, sym, ap, ◌∙◌, subst}
use Rattle.std.specs.Option.{is_none}
use Rattle.std.proofs.lemmas.Bool.{cond-true, cond-false}
use Rattle.spec_case.specs.Run.{Run}
use Rattle.spec_case.specs.declared.run_step.RunStep.{RunStep}
use Rattle.spec_case.specs.declared.run_step.RunStep.TheVariants as given
use Rattle.spec_board.specs.Steps as steps
use Rattle.spec_board.specs.State.{Entry, State, place_at, is_pending}
use Rattle.spec_board.specs.Results.{entry_of}
use Rattle.spec_board.specs.Refusals.{open_fault, look_fault, settle_fault, begin_fault, put_fault, end_fault}
use Rattle.spec_board.specs.Effects.{is_among}
use Rattle.spec_board.specs.Schedules as schedules
use Rattle.spec_board.specs.GivenSteps.{Met, met_if, given_step, kept_version, given_up, keeping, settle_kept, put_kept, port_of}
use Rattle.pmd_board.specs.BoardView.{BoardView, state_of}
use Rattle.run_boards.specs.Scheduled.{under_way}
use Rattle.given_steps.specs.Translations.{versions}
use Rattle.given_steps.specs.ScheduledViews.{ScheduledView, scheduled}
use Rattle.given_steps.specs.ByNumber.{NumberedBoard, by_number}
use Rattle.given_steps.specs.Taken.{GoesOn, TookIf, Takes}

-- ---- a step that is taken if nothing refuses it

-- It gives a line of the definition.
record IsLine (run : Run) (line : Met) (met : Bool) (b : ScheduledView) : Type 0 where
  met_is : met ≡ line.0
  taken : by_number (scheduled run b) ≡ by_number line.1

-- What is kept is as said, and the rest of the board is as before or after the step.
meets : (run : Run) (may : Bool) (x done other : schedules.Board) (a : BoardView) (b : ScheduledView) (took : Bool) (snaps checks : List schedules.Kept)
    → TookIf run may x a took b.board → versions b.snaps ≡ versions snaps → versions b.checks ≡ versions checks
    → record x { snaps = snaps; checks = checks } ≡ done → record (under_way run a) { snaps = snaps; checks = checks } ≡ other
    → IsLine run (met_if may done other) took b
meets run may x done other a b took snaps checks is of_places of_entries as_done as_other = by_cases may is.met
  where
    with_kept : schedules.Board → (ℕ → Option ℕ) → (ℕ → Option ℕ) → NumberedBoard
    with_kept u f g = record { port = u.port; steps = u.steps; state = u.state; snaps = f; checks = g }

    seen : (u : schedules.Board) → under_way run b.board ≡ u → by_number (scheduled run b) ≡ by_number (record u { snaps = snaps; checks = checks })
    seen u same =
        ap (λ f. with_kept (under_way run b.board) f (versions b.checks)) of_places
        ∙ ap (with_kept (under_way run b.board) (versions snaps)) of_entries
        ∙ ap (λ (v : schedules.Board). with_kept v (versions snaps) (versions checks)) same

    by_cases : (m : Bool) → took ≡ m → IsLine run (met_if m done other) took b
    by_cases true met = record { met_is = met; taken = seen x (is.taken ∙ cond-true took x (under_way run a) met) ∙ ap by_number as_done }
    by_cases false met = record { met_is = met; taken = seen (under_way run a) (is.taken ∙ cond-false took x (under_way run a) met) ∙ ap by_number as_other }

line_takes : (run : Run) (newest : ℕ) (step : RunStep) (a b : ScheduledView) (m : Bool) (line : Met) → IsLine run line m b → given_step run newest step (scheduled run a) ≡ line
    → b.board.port ≡ a.board.port → Takes run newest step a m b
line_takes run newest step a b m line is gives port = record {
  met_is = is.met_is ∙ ap (λ (l : Met). l.0) (sym gives);
  taken = is.taken ∙ ap (λ (l : Met). by_number l.1) (sym gives);
  port = port;
}

-- a test that holds, and one that doesn't
passed : (run : Run) (t : Bool) (done other : schedules.Board) (b : ScheduledView) → t ≡ true → by_number (scheduled run b) ≡ by_number done → IsLine run (met_if t done other) true b
passed run t done other b holds same = subst (λ m. IsLine run (met_if m done other) true b) (sym holds) (record { met_is = refl; taken = same })

failed : (run : Run) (t : Bool) (done other : schedules.Board) (b : ScheduledView) → t ≡ false → by_number (scheduled run b) ≡ by_number other → IsLine run (met_if t done other) false b
failed run t done other b fails same = subst (λ m. IsLine run (met_if m done other) false b) (sym fails) (record { met_is = refl; taken = same })

-- a put leaves what is kept
pub put_keeps : (run : Run) (v n : ℕ) (u : schedules.Board) (snaps checks : List schedules.Kept)
    → record (schedules.put_at run v n u) { snaps = snaps; checks = checks } ≡ schedules.put_at run v n (record u { snaps = snaps; checks = checks })
put_keeps run v n u snaps checks = at (entry_of n u.state.entries)
  where
    at : (o : Option Entry) → record (schedules.put_entry run v o u) { snaps = snaps; checks = checks } ≡ schedules.put_entry run v o (record u { snaps = snaps; checks = checks })
    at None = refl
    at (Some e) = refl

-- ---- each step

module _ (run : Run) (newest : ℕ) (a b : ScheduledView) (m : Bool) where
  abbrev s : State
  s = state_of run a.board

  abbrev before : schedules.Board
  before = under_way run a.board

  pub rx_takes : TookIf run (is_none (look_fault run a.board.port s s.next)) (schedules.look_next run before) a.board m b.board
      → GoesOn run a.board b.board → b.snaps ≡ a.snaps → b.checks ≡ a.checks → Takes run newest (given.Rx a.board.port) a m b
  rx_takes took on snaps checks =
      line_takes run newest (given.Rx a.board.port) a b m _ (meets run _ (schedules.look_next run before) (schedules.look_next run (scheduled run a)) (scheduled run a) a.board b m a.snaps a.checks took (ap versions snaps) (ap versions checks) refl refl) refl on.port

  pub settle_takes : (place v : ℕ) → kept_version place a.snaps ≡ Some v
      → TookIf run (is_none (settle_fault run s place v)) (schedules.settle_at run v place before) a.board m b.board
      → GoesOn run a.board b.board → versions b.snaps ≡ versions (given_up place a.snaps) → b.checks ≡ a.checks → Takes run newest (given.Settle a.board.port place) a m b
  settle_takes place v kept took on snaps checks =
      let other : schedules.Board = record (scheduled run a) { snaps = given_up place a.snaps } in
      line_takes run newest (given.Settle a.board.port place) a b m _
      (meets run _ (schedules.settle_at run v place before) (schedules.settle_at run v place other) other a.board b m (given_up place a.snaps) a.checks took snaps (ap versions checks) refl refl)
      (ap (λ o. settle_kept run place o other) kept) on.port

  pub sweep_takes : (v : ℕ) → v ≡ newest → TookIf run (is_none (begin_fault run s v)) (schedules.with_step run (steps.Begin v) before) a.board m b.board
      → GoesOn run a.board b.board → b.snaps ≡ a.snaps → b.checks ≡ a.checks → Takes run newest (given.Sweep a.board.port) a m b
  sweep_takes v is took on snaps checks =
      line_takes run newest (given.Sweep a.board.port) a b m _
      (meets run _ (schedules.with_step run (steps.Begin v) before) (schedules.with_step run (steps.Begin v) (scheduled run a)) (scheduled run a) a.board b m a.snaps a.checks took (ap versions snaps) (ap versions checks) refl refl)
      (ap (λ w. met_if (is_none (begin_fault run s w)) (schedules.with_step run (steps.Begin w) (scheduled run a)) (scheduled run a)) (sym is)) on.port

  pub put_takes : (number v : ℕ) → kept_version number a.checks ≡ Some v
      → TookIf run (is_none (put_fault run s number v)) (schedules.put_at run v number before) a.board m b.board
      → GoesOn run a.board b.board → b.snaps ≡ a.snaps → versions b.checks ≡ versions (given_up number a.checks) → Takes run newest (given.Put a.board.port number) a m b
  put_takes number v kept took on snaps checks =
      let other : schedules.Board = record (scheduled run a) { checks = given_up number a.checks } in
      line_takes run newest (given.Put a.board.port number) a b m _
      (meets run _ (schedules.put_at run v number before) (schedules.put_at run v number other) other a.board b m a.snaps (given_up number a.checks) took (ap versions snaps) checks
      (put_keeps run v number before a.snaps (given_up number a.checks)) refl)
      (ap (λ o. put_kept run number o other) kept) on.port

  pub swept_takes : TookIf run (is_none (end_fault s)) (schedules.with_step run steps.End before) a.board m b.board
      → GoesOn run a.board b.board → b.snaps ≡ a.snaps → b.checks ≡ a.checks → Takes run newest (given.Swept a.board.port) a m b
  swept_takes took on snaps checks =
      line_takes run newest (given.Swept a.board.port) a b m _
      (meets run _ (schedules.with_step run steps.End before) (schedules.with_step run steps.End (scheduled run a)) (scheduled run a) a.board b m a.snaps a.checks took (ap versions snaps) (ap versions checks) refl refl) refl on.port

  pub open_takes : (block : ℕ) → block ≡ s.block + 1 → TookIf run (is_none (open_fault run a.board.port s block)) (schedules.with_step run (steps.Open block) before) a.board m b.board
      → GoesOn run a.board b.board → b.snaps ≡ a.snaps → b.checks ≡ a.checks → Takes run newest (given.Open a.board.port) a m b
  open_takes block is took on snaps checks =
      line_takes run newest (given.Open a.board.port) a b m _
      (meets run _ (schedules.with_step run (steps.Open block) before) (schedules.with_step run (steps.Open block) (scheduled run a)) (scheduled run a) a.board b m a.snaps a.checks took (ap versions snaps) (ap versions checks) refl refl)
      (ap (λ k. met_if (is_none (open_fault run a.board.port s k)) (schedules.with_step run (steps.Open k) (scheduled run a)) (scheduled run a)) (sym is)) on.port

module _ (run : Run) (newest : ℕ) (a : ScheduledView) where
  abbrev now : State
  now = state_of run a.board

  abbrev with_snaps : (ℕ → Option ℕ) → NumberedBoard
  with_snaps f = record { port = a.board.port; steps = a.board.journal; state = now; snaps = f; checks = versions a.checks }

  abbrev with_checks : (ℕ → Option ℕ) → NumberedBoard
  with_checks f = record { port = a.board.port; steps = a.board.journal; state = now; snaps = versions a.snaps; checks = f }

  -- ---- steps that aren't met at the first test

  pub rx_beyond : is_none (look_fault run a.board.port now now.next) ≡ false → Takes run newest (given.Rx a.board.port) a false a
  rx_beyond fails = line_takes run newest (given.Rx a.board.port) a a false _ (failed run _ (schedules.look_next run (scheduled run a)) (scheduled run a) a fails refl) refl refl

  pub snap_unmet : (place : ℕ) → is_pending (place_at place now) ≡ false → Takes run newest (given.Snap a.board.port place) a false a
  snap_unmet place fails =
      line_takes run newest (given.Snap a.board.port place) a a false _
      (failed run _ (record (scheduled run a) { snaps = keeping place newest a.snaps }) (scheduled run a) a fails refl) refl refl

  pub check_unmet : (number : ℕ) → is_among now.listed number ≡ false → Takes run newest (given.Check a.board.port number) a false a
  check_unmet number fails =
      line_takes run newest (given.Check a.board.port number) a a false _
      (failed run _ (record (scheduled run a) { checks = keeping number newest a.checks }) (scheduled run a) a fails refl) refl refl

  pub settle_unmet : (place : ℕ) (kept : List schedules.Kept) → kept_version place a.snaps ≡ None → versions kept ≡ versions (given_up place a.snaps)
      → Takes run newest (given.Settle a.board.port place) a false (record a { snaps = kept })
  settle_unmet place kept none is =
      let other : schedules.Board = record (scheduled run a) { snaps = given_up place a.snaps } in
      line_takes run newest (given.Settle a.board.port place) a (record a { snaps = kept }) false (false, other)
      (record { met_is = refl; taken = ap with_snaps is }) (ap (λ o. settle_kept run place o other) none) refl

  pub put_unmet : (number : ℕ) (kept : List schedules.Kept) → kept_version number a.checks ≡ None → versions kept ≡ versions (given_up number a.checks)
      → Takes run newest (given.Put a.board.port number) a false (record a { checks = kept })
  put_unmet number kept none is =
      let other : schedules.Board = record (scheduled run a) { checks = given_up number a.checks } in
      line_takes run newest (given.Put a.board.port number) a (record a { checks = kept }) false (false, other)
      (record { met_is = refl; taken = ap with_checks is }) (ap (λ o. put_kept run number o other) none) refl

  -- ---- translations that are kept

  pub snap_met : (place : ℕ) (kept : List schedules.Kept) → is_pending (place_at place now) ≡ true → versions kept ≡ versions (keeping place newest a.snaps)
      → Takes run newest (given.Snap a.board.port place) a true (record a { snaps = kept })
  snap_met place kept holds is =
      line_takes run newest (given.Snap a.board.port place) a (record a { snaps = kept }) true _
      (passed run _ (record (scheduled run a) { snaps = keeping place newest a.snaps }) (scheduled run a) (record a { snaps = kept }) holds (ap with_snaps is)) refl refl

  pub check_met : (number : ℕ) (kept : List schedules.Kept) → is_among now.listed number ≡ true → versions kept ≡ versions (keeping number newest a.checks)
      → Takes run newest (given.Check a.board.port number) a true (record a { checks = kept })
  check_met number kept holds is =
      line_takes run newest (given.Check a.board.port number) a (record a { checks = kept }) true _
      (passed run _ (record (scheduled run a) { checks = keeping number newest a.checks }) (scheduled run a) (record a { checks = kept }) holds (ap with_checks is)) refl refl

-- ---- the step of a port

pub of_step : (run : Run) (newest : ℕ) (step : RunStep) (of : ℕ → RunStep) (p : ℕ) (a b : ScheduledView) (m : Bool) → step ≡ of p → port_of (of p) ≡ Some p
    → port_of step ≡ Some a.board.port → Takes run newest (of a.board.port) a m b → Takes run newest step a m b
of_step run newest step of p a b m is names named takes =
    let port : p ≡ a.board.port = cc (sym names ∙ sym (ap port_of is) ∙ named) in
    subst (λ s. Takes run newest s a m b) (sym (is ∙ ap of port)) takes
