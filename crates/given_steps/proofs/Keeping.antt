-- What the type of a board that takes given steps keeps, from step to step.
use Rattle.std.proofs.Common.{◌≡◌, ℕ, ◌<◌, ◌==◌, if◌then◌else◌, Bool, true, false, List, length, Some, None, refl, sym, ◌∙◌, subst, arith}
use Rattle.std.specs.Prelude.{nat_eq}
use Rattle.std.specs.Map.{lookup}
use Rattle.std.specs.Option.{is_none}
use Rattle.std.proofs.lemmas.Bool.{eq-eqb, eqb-true, ne_eqb}
use Rattle.spec_case.specs.Run.{Run, frames_of}
use Rattle.spec_case.specs.Blocks.{block_of}
use Rattle.spec_board.specs.State.{place_at, is_pending}
use Rattle.spec_board.specs.Refusals.{look_fault}
use Rattle.run_case.specs.Places.{HasPlace}
use Rattle.run_case.proofs.blocks.Blocks.{block_of-after}
use Rattle.board_laws.proofs.PlaceLaws.{pending_from, pending_upto}
use Rattle.run_xlate.specs.Views.{XlateView}
use Rattle.pmd_board.specs.BoardView.{BoardView, IsLawful, state_of}
use Rattle.given_steps.specs.declared.scheduled_board.ScheduledBoard.TheInside.{Inside}
use Rattle.given_steps.specs.Translations.{Each}
use Rattle.given_steps.specs.Fields.{IsKept, IsOfPlace, IsOfEntry}
use Rattle.given_steps.specs.Taken.{GoesOn}

pub kept_with : {X : Type 0} (run : Run) (old : BoardView) (b : Inside X) → old.flow_limit ≡ run.flow_limit → GoesOn run old b.board
    → Each (IsOfPlace run old.port) b.snaps.entries → Each (IsOfEntry (state_of run old)) b.checks.entries → IsKept run b
kept_with run old b limit on of_places of_entries = record {
  limit = on.limit ∙ limit;
  snaps = subst (λ p. Each (IsOfPlace run p) b.snaps.entries) (sym on.port) of_places;
  checks = λ n x kept. on.keys n x.key (of_entries n x kept);
}

module _ (P : ℕ → XlateView → Type 0) (m : ℕ) (old new : List (ℕ × XlateView)) (all : Each P old) where
  -- those that are kept for other numbers
  pub others_hold : ((n : ℕ) → lookup (nat_eq n) new ≡ (if nat_eq m n then None else lookup (nat_eq n) old)) → Each P new
  others_hold rest n x kept = at (nat_eq m n) (sym (rest n) ∙ kept)
    where
      at : (t : Bool) → (if t then None else lookup (nat_eq n) old) ≡ Some x → P n x
      at true is = absurd (cc is)
      at false is = all n x is

  -- and one more
  pub one_holds : (y : XlateView) → P m y → ((n : ℕ) → lookup (nat_eq n) new ≡ (if nat_eq m n then Some y else lookup (nat_eq n) old)) → Each P new
  one_holds y this more n x kept = at (nat_eq m n) refl (sym (more n) ∙ kept)
    where
      at : (t : Bool) → nat_eq m n ≡ t → (if t then Some y else lookup (nat_eq n) old) ≡ Some x → P n x
      at true same is =
          let e : y ≡ x = cc is in
          subst (P n) e (subst (λ k. P k y) (eqb-true m n same) this)
      at false same is = all n x is

  -- and none where there was no memory
  pub same_hold : ((n : ℕ) → lookup (nat_eq n) new ≡ lookup (nat_eq n) old) → Each P new
  same_hold same n x kept = all n x (sym (same n) ∙ kept)

-- a pending frame has a place
pub place_pending : (run : Run) (b : BoardView) (place : ℕ) → IsLawful run b → is_pending (place_at place (state_of run b)) ≡ true → HasPlace run b.port place
place_pending run b place lawful pending =
    let last = pending_upto (state_of run b).places place pending in
    let all = lawful.places.all_places in
    (pending_from (state_of run b).places place pending, omega (arith, last, all))

-- a place behind the trace is in no block
pub beyond : (run : Run) (b : BoardView) → IsLawful run b → length (frames_of run b.port) < (state_of run b).next
    → is_none (look_fault run b.port (state_of run b) (state_of run b).next) ≡ false
beyond run b lawful past =
    let s = state_of run b in
    let there = lawful.versions.block_there in
    let after = block_of-after run b.port s.next past in
    let turn : (s.next == s.next) ≡ true = eq-eqb s.next s.next refl in
    let other : (block_of run b.port s.next == s.block) ≡ false = ne_eqb (block_of run b.port s.next) s.block (λ e. omega (arith, e, there, after)) in
    rw (turn, other) refl
