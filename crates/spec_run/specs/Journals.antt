-- What the journals of a run are to be.
use Rattle.std.specs.Prelude.{◌≡◌, ℕ, ◌≤◌, ◌==◌, List, [], length, map, All, Option, Some, None}
use Rattle.std.specs.List.{find}
use Rattle.std.specs.Option.{option_map}
use Rattle.spec_actions.specs.declared.action.DpAction.{DpAction}
use Rattle.spec_case.specs.Run.{Run, frames_of}
use Rattle.spec_case.specs.Blocks.{lo, hi, block_of}
use Rattle.spec_board.specs.Steps.{Step}
use Rattle.spec_board.specs.Journals.{IsLegal, IsComplete}
use Rattle.spec_board.specs.Decisions.{Decision, decision_of, IsDecided}
use Rattle.spec_board.specs.Counts.{IsAccounted}
use Rattle.spec_board.specs.Schedules.{Board}
use Rattle.spec_board.specs.Scheduled.{scheduled}
use Rattle.spec_board.specs.Texts.{Journal}

-- The journal is legal and complete, and each frame of the port is decided by it. Each rule was credited with what it is
-- due, but for what the entries of the port's board owe it.
pub record IsWhole (run : Run) (j : Journal) : Type 0 where
  pub legal : IsLegal run j.port run.flow_limit j.steps
  pub complete : IsComplete run j.port j.steps
  pub decided : (place : ℕ) → 1 ≤ place → place ≤ length (frames_of run j.port) → IsDecided run j.port j.steps place
  pub accounted : (rule : ℕ) → IsAccounted run j.port j.steps rule

-- There is a whole journal for each port, in the order of the words.
pub record AreWhole (run : Run) (journals : List Journal) : Type 0 where
  pub of_ports : map (λ (j : Journal). j.port) journals ≡ run.ports
  pub each : All (IsWhole run) journals

-- the version under which a journal decided the frame of a place
abbrev pub version_by : Run → Journal → ℕ → Option ℕ
version_by run j place = option_map (λ (d : Decision). d.version) (decision_of run j.port j.steps place)

-- Each frame of the port was decided under the last version of its block.
abbrev pub IsByLastVersion : Run → Journal → Type 0
IsByLastVersion run j =
    (place : ℕ) → 1 ≤ place → place ≤ length (frames_of run j.port)
    → version_by run j place ≡ Some (hi run (block_of run j.port place))

-- the journals of the run's schedule, in the order of the words
abbrev pub journal_in : Board → Journal
journal_in b = record { port = b.port; steps = b.steps }

abbrev pub scheduled_journals : Run → List Journal
scheduled_journals run = map journal_in (scheduled run).boards

-- No block has both edits and frames: the version of each frame is known before it comes.
abbrev pub HasEditsApart : Run → Type 0
HasEditsApart run =
    (port place : ℕ) → 1 ≤ place → place ≤ length (frames_of run port) → lo run (block_of run port place) ≡ hi run (block_of run port place)

-- They are whole. Without workers they are those of the run's schedule, and where no steps are given each frame is decided
-- under the last version of its block; with workers threads make one of the many lists that the run may have. Where edits
-- are apart from frames, each of these decides by the last version too.
pub record AreJournals (workers : ℕ) (run : Run) (journals : List Journal) : Type 0 where
  pub are_whole : AreWhole run journals
  pub as_scheduled : workers ≡ 0 → journals ≡ scheduled_journals run
  pub by_last_version : workers ≡ 0 → run.steps ≡ [] → All (IsByLastVersion run) journals
  pub apart : HasEditsApart run → All (IsByLastVersion run) journals

-- the steps of a port's journal
abbrev pub steps_in : Option Journal → List Step
steps_in (Some j) = j.steps
steps_in None = []

abbrev pub steps_of : List Journal → ℕ → List Step
steps_of journals port = steps_in (find (λ (j : Journal). j.port == port) journals)

-- the actions of a decision
abbrev pub actions_in : Option Decision → List DpAction
actions_in (Some d) = d.actions
actions_in None = []

-- the actions that journals decided for the frame of a place
abbrev pub actions_for : Run → List Journal → ℕ → ℕ → List DpAction
actions_for run journals port place = actions_in (decision_of run port (steps_of journals port) place)
