-- Journals of any machine. Where a step is legal, and the state that it leads to, are given.
use Rattle.std.specs.Prelude.{List, [], ◌∷◌, fold}

-- the state after the steps
abbrev pub after : {State Step : Type 0} → (State → Step → State) → State → List Step → State
after effect state steps = fold effect state steps

module _ {State Step : Type 0} (Legal : State → Step → Type 0) (effect : State → Step → State) where
  -- from this state on, each step is legal where it stands
  abbrev pub IsLegal : State → List Step → Type 0
  IsLegal state [] = Unit {0}
  IsLegal state (step ∷ steps) = Legal state step × IsLegal (effect state step) steps
