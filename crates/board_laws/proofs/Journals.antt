-- What every legal step keeps, every legal journal has.
use Rattle.std.proofs.Common.{ℕ, ◌≤◌, ◌≡◌, List, [], ◌∷◌, ◌++◌, arith}
use Rattle.std.proofs.lemmas.List.Sums.{fold-append}
use Rattle.spec_base.specs.Machine as machine
use Rattle.spec_case.specs.Run.{Run}
use Rattle.spec_board.specs.declared.looked.Looked.TheVariants.{Exact, Mega, Miss}
use Rattle.spec_board.specs.declared.put_done.PutDone.TheVariants.{Idle, Removed, Kept, Replaced}
use Rattle.spec_board.specs.Steps.{Step, Open, Look, Settle, Begin, Put, End, Present, Full, Installed}
use Rattle.spec_board.specs.State.{State}
use Rattle.spec_board.specs.Effects.{effect}
use Rattle.spec_board.specs.Journals.{Legal, IsLegal, opened, after}

-- the steps are legal from a state on
abbrev pub AreLegal : Run → ℕ → ℕ → State → List Step → Type 0
AreLegal run port limit s steps = machine.IsLegal (Legal run port limit) (effect run port) s steps

-- the state that they lead to
abbrev pub after_all : Run → ℕ → State → List Step → State
after_all run port s steps = machine.after (effect run port) s steps

module _ (run : Run) (port limit : ℕ) (P : State → Type 0)
    (keeps : (s : State) → P s → (step : Step) → Legal run port limit s step → P (effect run port s step)) where
  pub kept_along : (s : State) → P s → (steps : List Step) → AreLegal run port limit s steps → P (after_all run port s steps)
  kept_along s k [] legal = k
  kept_along s k (step ∷ steps) legal = kept_along (effect run port s step) (keeps s k step legal.0) steps legal.1

-- ---- one more step

-- the state after one more step
pub after_step : (run : Run) (port : ℕ) (steps : List Step) (step : Step) → after run port (steps ++ step ∷ []) ≡ effect run port (after run port steps) step
after_step run port steps step = fold-append (effect run port) (opened run port) steps (step ∷ [])

legal_from : (run : Run) (port limit : ℕ) (s : State) (steps : List Step) (step : Step) → AreLegal run port limit s steps
    → Legal run port limit (after_all run port s steps) step → AreLegal run port limit s (steps ++ step ∷ [])
legal_from run port limit s [] step legal last = (last, tt)
legal_from run port limit s (x ∷ steps) step legal last = (legal.0, legal_from run port limit (effect run port s x) steps step legal.1 last)

-- a legal journal with one more step that is legal is legal
pub legal_step : (run : Run) (port limit : ℕ) (steps : List Step) (step : Step) → IsLegal run port limit steps
    → Legal run port limit (after run port steps) step → IsLegal run port limit (steps ++ step ∷ [])
legal_step run port limit steps step legal last = legal_from run port limit (opened run port) steps step legal last

-- ---- the next place never falls

pub next_le : (run : Run) (port : ℕ) (s : State) (step : Step) → s.next ≤ (effect run port s step).next
next_le run port s (Open block) = omega arith
next_le run port s (Look place (Exact n)) = omega arith
next_le run port s (Look place (Mega n)) = omega arith
next_le run port s (Look place Miss) = omega arith
next_le run port s (Settle place v (Present n)) = omega arith
next_le run port s (Settle place v Full) = omega arith
next_le run port s (Settle place v (Installed n numbers)) = omega arith
next_le run port s (Begin v) = omega arith
next_le run port s (Put n v Idle) = omega arith
next_le run port s (Put n v Removed) = omega arith
next_le run port s (Put n v Kept) = omega arith
next_le run port s (Put n v Replaced) = omega arith
next_le run port s End = omega arith

pub next_le_all : (run : Run) (port : ℕ) (s : State) (steps : List Step) → s.next ≤ (after_all run port s steps).next
next_le_all run port s [] = omega arith
next_le_all run port s (step ∷ steps) = omega (arith, next_le run port s step, next_le_all run port (effect run port s step) steps)
