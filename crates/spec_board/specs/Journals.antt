-- Journals: lists of steps.
use Rattle.std.specs.Prelude.{◌≡◌, ℕ, false, IsTrue, List, length, Some, None}
use Rattle.std.specs.List.{list_all}
use Rattle.std.specs.Option.{option_map}
use Rattle.spec_base.specs.Machine as machine
use Rattle.spec_case.specs.Run.{Run, frames_of}
use Rattle.spec_case.specs.Blocks.{last_block, hi}
use Rattle.spec_board.specs.Steps.{Step, Open, Look, Settle, Begin, Put, End}
use Rattle.spec_board.specs.State.{State, opening, is_decided}
use Rattle.spec_board.specs.Results.{key_at, looked, settled, entry_of, put_done}
use Rattle.spec_board.specs.Refusals.{open_fault, look_fault, settle_fault, begin_fault, put_fault, end_fault}
use Rattle.spec_board.specs.Effects.{effect}

-- A step is legal where nothing refuses it and its result is what it gives there. A board is of a port and has at most
-- so many entries.
abbrev pub Legal : Run → ℕ → ℕ → State → Step → Type 0
Legal run port limit s (Open block) = open_fault run port s block ≡ None
Legal run port limit s (Look place r) = (look_fault run port s place ≡ None) × (r ≡ looked (key_at run port place) s)
Legal run port limit s (Settle place v r) = (settle_fault run s place v ≡ None) × (r ≡ settled run limit (key_at run port place) v s)
Legal run port limit s (Begin v) = begin_fault run s v ≡ None
Legal run port limit s (Put number v r) =
    (put_fault run s number v ≡ None) × (option_map (λ e. put_done run e v s) (entry_of number s.entries) ≡ Some r)
Legal run port limit s End = end_fault s ≡ None

-- the state of a new board of a port
abbrev pub opened : Run → ℕ → State
opened run port = opening (length (frames_of run port))

-- the journal is legal from there on
abbrev pub IsLegal : Run → ℕ → ℕ → List Step → Type 0
IsLegal run port limit steps = machine.IsLegal (Legal run port limit) (effect run port) (opened run port) steps

-- the state that it leads to
abbrev pub after : Run → ℕ → List Step → State
after run port steps = machine.after (effect run port) (opened run port) steps

-- Nothing is left to be done: the last block is open, each frame is decided, no sweep runs, and one of the last version
-- was completed.
pub record IsFinished (run : Run) (s : State) : Type 0 where
  pub in_last_block : s.block ≡ last_block run
  pub all_decided : IsTrue (list_all is_decided s.places)
  pub no_sweep : s.is_sweeping ≡ false
  pub swept : s.done ≡ hi run (last_block run)

abbrev pub IsComplete : Run → ℕ → List Step → Type 0
IsComplete run port steps = IsFinished run (after run port steps)
