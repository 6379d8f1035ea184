-- What a board is seen as, and one more step of it.
use Rattle.std.specs.Prelude.{◌≡◌, ℕ, ◌+◌, ◌-◌, ◌≤◌, nat_lt, List, [], ◌∷◌, ◌++◌, length, map, slice_get, All, AllPairs, Option, Some, None, IsSome, IsTrue}
use Rattle.std.specs.List.{find}
use Rattle.std.specs.Option.{option_and_then, option_map}
use Rattle.spec_actions.specs.declared.action.DpAction.{DpAction}
use Rattle.spec_case.specs.Run.{Run, frames_of}
use Rattle.spec_board.specs.Steps.{Step, Open, Look, Settle, Begin, Put, End, Settled}
use Rattle.spec_board.specs.State.{Entry, State, is_decided, place_at}
use Rattle.spec_board.specs.Results.{entry_of}
use Rattle.spec_board.specs.Journals as journals
use Rattle.spec_board.specs.Decisions.{IsDecided}
use Rattle.spec_board.specs.Counts.{IsAccounted}
use Rattle.spec_board.specs.Texts.{Journal}
use Rattle.megaflow_table.specs.declared.entry.Entry as flows
use Rattle.port_caches.specs.declared.lists.HeldList.{HeldList}
use Rattle.port_caches.specs.Views.{entry_view}
use Rattle.board_laws.specs.Entries.{AreApart, IsRight, NamesCovering}
use Rattle.board_laws.specs.Versions.{HasVersionsInOrder, IsRecent}
use Rattle.board_laws.specs.Places.{ArePlaces}

-- its port, the most entries that it may have, and its journal
pub record BoardView : Type 0 where
  pub port : ℕ
  pub flow_limit : ℕ
  pub journal : List Step

-- the journals of boards, in their order
abbrev pub journal_view : BoardView → Journal
journal_view b = record { port = b.port; steps = b.journal }

abbrev pub journals_view : List BoardView → List Journal
journals_view boards = map journal_view boards

-- the state that its journal leads to
abbrev pub state_of : Run → BoardView → State
state_of run b = journals.after run b.port b.journal

-- a board with one more step
abbrev pub with_step : Step → BoardView → BoardView
with_step step b = record b { journal = b.journal ++ step ∷ [] }

-- The second board is the first with one more step, which was legal.
pub record Appends (run : Run) (before : BoardView) (step : Step) (after : BoardView) : Type 0 where
  pub legal : journals.Legal run before.port before.flow_limit (state_of run before) step
  pub appended : after ≡ with_step step before

-- This is the least entry above a number that the sweep has yet to put, and its key.
abbrev pub IsNextCheck : State → ℕ → ℕ → List ℕ → Type 0
IsNextCheck s above number key = (find (λ n. nat_lt above n) s.listed ≡ Some number) × (option_map (λ e. e.key) (entry_of number s.entries) ≡ Some key)

-- What the laws of boards say of every board: the versions stand in order, and those of the entries; the places as
-- they were looked up; no key is covered by two entries, and each entry has what a plain scan under its version gives,
-- for every key that it covers; a slot of the exact-match cache that names a live entry names one that covers the slot's
-- key; each frame that is decided is decided once, rightly, and within its window; and what a rule was credited with and
-- what the entries owe it are together what it is due.
pub record IsLawful (run : Run) (b : BoardView) : Type 0 where
  pub versions : HasVersionsInOrder run (state_of run b)
  pub places : ArePlaces run b.port (state_of run b)
  pub next_within : (state_of run b).next ≤ length (frames_of run b.port) + 1
  pub apart : AllPairs AreApart (state_of run b).entries
  pub few : length (state_of run b).entries ≤ b.flow_limit
  pub right : All (IsRight run) (state_of run b).entries
  pub recent : All (IsRecent (state_of run b)) (state_of run b).entries
  pub slots : All (NamesCovering (state_of run b).entries) (state_of run b).slots
  pub listed : All (λ n. IsSome (entry_of n (state_of run b).entries)) (state_of run b).listed
  pub decided : (place : ℕ) → IsTrue (is_decided (place_at place (state_of run b))) → IsDecided run b.port b.journal place
  pub accounted : (rule : ℕ) → IsAccounted run b.port b.journal rule

-- The second board is the first with one more step, a legal settle of a place under a version.
pub record HasSettled (run : Run) (before : BoardView) (place version : ℕ) (after : BoardView) : Type 0 where
  pub result : Settled
  pub appends : Appends run before (Settle place version result) after

-- what the last step did, if it is a settle, beside deciding a frame
abbrev pub settled_by : Step → Option Settled
settled_by (Open block) = None
settled_by (Look place r) = None
settled_by (Settle place v r) = Some r
settled_by (Begin v) = None
settled_by (Put number v r) = None
settled_by End = None

abbrev pub last_settled : List Step → Option Settled
last_settled steps = option_and_then settled_by (slice_get steps (length steps - 1))

-- These are the entries of a state, whose actions stand elsewhere.
abbrev pub AreEntries : List flows.Entry → List Entry → Type 0
AreEntries kept entries = (lists : List HeldList) × (entries ≡ map (entry_view lists) kept)

-- The frame of a place is decided once by the board's journal, under this version and with these actions.
pub record IsDecision (run : Run) (b : BoardView) (place version : ℕ) (actions : List DpAction) : Type 0 where
  pub decided : IsDecided run b.port b.journal place
  pub version_is : version ≡ decided.decision.version
  pub actions_are : actions ≡ decided.decision.actions
