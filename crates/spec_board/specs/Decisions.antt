-- Which step decided a frame, and what follows from it.
use Rattle.std.specs.Prelude.{◌≡◌, ℕ, ◌≤◌, ◌*◌, ◌==◌, Bool, false, List, [], ◌∷◌, ◌++◌, length, count_by, Option, Some, None}
use Rattle.std.specs.List.{find, sum_by}
use Rattle.std.specs.Option.{option_map_or}
use Rattle.spec_actions.specs.declared.action.DpAction.{DpAction}
use Rattle.spec_case.specs.Run.{Run, frame_at}
use Rattle.spec_case.specs.Blocks.{lo, hi, block_of}
use Rattle.spec_board.specs.declared.looked.Looked.TheVariants.{Exact, Mega, Miss}
use Rattle.spec_board.specs.Steps.{Step, Open, Look, Settle, Begin, Put, End}
use Rattle.spec_board.specs.State.{Place, Waiting, Pending, Decided, State, place_at}
use Rattle.spec_board.specs.Results.{key_at, translated}
use Rattle.spec_board.specs.Effects.{effect}
use Rattle.spec_board.specs.Journals.{opened}

-- A step decided the frame of a place, under a version and with these actions: the states just before it and just
-- after it.
pub record Decision : Type 0 where
  pub place : ℕ
  pub version : ℕ
  pub actions : List DpAction
  pub before : State
  pub after : State

-- the place whose frame a step decides, if it decides one
abbrev pub decided_place : Step → Option ℕ
decided_place (Open block) = None
decided_place (Look place (Exact n)) = Some place
decided_place (Look place (Mega n)) = Some place
decided_place (Look place Miss) = None
decided_place (Settle place v r) = Some place
decided_place (Begin v) = None
decided_place (Put number v r) = None
decided_place End = None

-- what stands at a place, as a decision
abbrev pub decision_as : ℕ → Place → State → State → List Decision
decision_as place Waiting before after = []
decision_as place Pending before after = []
decision_as place (Decided v actions) before after =
    record { place = place; version = v; actions = actions; before = before; after = after } ∷ []

abbrev pub decision_at : Option ℕ → State → State → List Decision
decision_at None before after = []
decision_at (Some place) before after = decision_as place (place_at place after) before after

-- the decisions of steps from a state on, in order
unfoldable pub decisions_from : Run → ℕ → State → List Step → List Decision
decisions_from run port s [] = []
decisions_from run port s (step ∷ steps) =
    decision_at (decided_place step) s (effect run port s step) ++ decisions_from run port (effect run port s step) steps

abbrev pub decisions : Run → ℕ → List Step → List Decision
decisions run port steps = decisions_from run port (opened run port) steps

abbrev pub is_of : ℕ → Decision → Bool
is_of place d = d.place == place

-- the decision of a place's frame
abbrev pub decision_of : Run → ℕ → List Step → ℕ → Option Decision
decision_of run port steps place = find (is_of place) (decisions run port steps)

-- whether a step decides the frame of a place, and how many of the steps do
abbrev pub decides : ℕ → Step → Bool
decides place step = option_map_or (λ p. p == place) (decided_place step) false

abbrev pub times_decided : List Step → ℕ → ℕ
times_decided steps place = count_by (decides place) steps

-- The version is no older than the last sweep completed before the decision, no newer than the newest version that a
-- step of the board had carried then, and one of the frame's block.
pub record IsInWindow (run : Run) (port : ℕ) (d : Decision) : Type 0 where
  pub not_older : d.before.done ≤ d.version
  pub not_newer : d.version ≤ d.after.newest
  pub from_block : lo run (block_of run port d.place) ≤ d.version
  pub within_block : d.version ≤ hi run (block_of run port d.place)

-- The frame of a place is decided by exactly one of the steps; as a plain priority scan of one version of the tables
-- decides it; and that version is in its window.
pub record IsDecided (run : Run) (port : ℕ) (steps : List Step) (place : ℕ) : Type 0 where
  pub decision : Decision
  pub is_decision : decision_of run port steps place ≡ Some decision
  pub once : times_decided steps place ≡ 1
  pub plain : decision.actions ≡ (translated run decision.version (key_at run port place)).actions
  pub window : IsInWindow run port decision

-- how often a rule is visited in the translation of a decided frame
abbrev pub visits_of : Run → ℕ → ℕ → Decision → ℕ
visits_of run port rule d = count_by (λ r. r == rule) (translated run d.version (key_at run port d.place)).visits

-- what a rule is due: a packet for each visit, and its bytes
abbrev pub due_packets : Run → ℕ → List Step → ℕ → ℕ
due_packets run port steps rule = sum_by (visits_of run port rule) (decisions run port steps)

abbrev pub due_bytes : Run → ℕ → List Step → ℕ → ℕ
due_bytes run port steps rule =
    sum_by (λ d. visits_of run port rule d * length (frame_at run port d.place).bytes) (decisions run port steps)
