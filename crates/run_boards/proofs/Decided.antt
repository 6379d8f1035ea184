-- At a board that did what is planned each frame is decided, under the last version of its block.
use Rattle.std.proofs.Common.{◌≡◌, ◌⊎◌, inl, inr, ℕ, zero, suc, ◌-◌, ◌<◌, ◌≤◌, true, List, [], ◌∷◌, length, slice_index_or, All, sym, ap, ◌∙◌, arith}
use Rattle.std.specs.List.{list_all}
use Rattle.std.proofs.lemmas.Bool.{and_parts, false≢true}
use Rattle.spec_case.specs.Run.{Run, frames_of}
use Rattle.spec_board.specs.State.{Place, Waiting, place_at, is_decided}
use Rattle.spec_board.specs.Journals.{IsFinished, after}
use Rattle.spec_board.specs.Decisions.{IsDecided}
use Rattle.board_laws.proofs.Once.{decided_in}
use Rattle.board_laws.proofs.PlaceLaws.{at_there, waiting_at}
use Rattle.pmd_board.specs.BoardView.{BoardView, state_of}
use Rattle.run_boards.specs.Progress.{planned, OnlyPlans, ArePlanned, AreDecided}
use Rattle.run_boards.specs.Scheduled.{IsNew, IsKnown, AreOnlyPlanned}

all_decided : (run : Run) (b : BoardView) → IsKnown run b → ArePlanned run b → AreDecided run b
unfolding planned
all_decided run b known are_planned place one last =
    let at = are_planned place one last in
    let d = decided_in run b.port place b.flow_limit known.in_order b.journal known.legal known.keys (ap is_decided at) in
    (d.0, cc (sym d.1 ∙ at))

decided_at : (places : List Place) (i : ℕ) → list_all is_decided places ≡ true → i < length places → is_decided (slice_index_or places i Waiting) ≡ true
decided_at [] i all within = absurd (omega (arith, within))
decided_at (p ∷ places) zero all within = (and_parts (is_decided p) (list_all is_decided places) all).0
decided_at (p ∷ places) (suc i) all within = decided_at places i (and_parts (is_decided p) (list_all is_decided places) all).1 (omega (arith, within))

pub is_decided_at : (run : Run) (b : BoardView) → IsKnown run b → IsFinished run (state_of run b) → (place : ℕ) → 1 ≤ place → place ≤ length (frames_of run b.port) → is_decided (place_at place (state_of run b)) ≡ true
is_decided_at run b known finished place one last =
    let n = known.lawful.places.all_places in
    ap is_decided (at_there (state_of run b).places place one) ∙ decided_at (state_of run b).places (place - 1) finished.all_decided (omega (arith, n, one, last))

-- a board that was new, only did what is planned, and is finished
planned_from_new : (run : Run) (limit : ℕ) (a b : BoardView) → IsNew limit a → b.port ≡ a.port → OnlyPlans run a.port (state_of run a) (state_of run b) → IsKnown run b → IsFinished run (state_of run b) → ArePlanned run b
planned_from_new run limit a b new port plans known finished place one last = by_cases (plans place)
  where
    decided : is_decided (place_at place (state_of run b)) ≡ true
    decided = is_decided_at run b known finished place one last

    waited : place_at place (state_of run a) ≡ Waiting
    waited = ap (λ steps. place_at place (after run a.port steps)) new.no_steps ∙ waiting_at (length (frames_of run a.port)) place

    by_cases : (place_at place (state_of run b) ≡ place_at place (state_of run a)) ⊎ (place_at place (state_of run b) ≡ planned run a.port place) → place_at place (state_of run b) ≡ planned run b.port place
    by_cases (inl same) = absurd (false≢true (sym (ap is_decided (same ∙ waited)) ∙ decided))
    by_cases (inr p) = p ∙ ap (λ q. planned run q place) (sym port)

pub decided_from_new : (run : Run) (limit : ℕ) (old new : List BoardView) → All (IsNew limit) old → AreOnlyPlanned run old new → All (IsKnown run) new → All (λ (b : BoardView). IsFinished run (state_of run b)) new
    → All (AreDecided run) new
decided_from_new run limit old new are_new plans known finished = λ k d within.
    let n = plans.count in
    let inside : k < length old = omega (arith, within, n) in
    let a = slice_index_or old k d in
    let b = slice_index_or new k d in
    all_decided run b (known k d within) (planned_from_new run limit a b (are_new k d inside) (plans.ports k d inside) (plans.each k d inside) (known k d within) (finished k d within))

-- at a board that is finished each frame is decided by one of its steps
pub finished_decided : (run : Run) (b : BoardView) → IsKnown run b → IsFinished run (state_of run b) → (place : ℕ) → 1 ≤ place → place ≤ length (frames_of run b.port) → IsDecided run b.port b.journal place
finished_decided run b known finished place one last = known.lawful.decided place (is_decided_at run b known finished place one last)
