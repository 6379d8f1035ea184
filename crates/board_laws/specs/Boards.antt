-- What holds of each board and of each journal, under the premises of the laws.
use Rattle.std.specs.Prelude.{ℕ, ◌≤◌, List, [], ◌∷◌, ◌++◌, length, All}
use Rattle.spec_pcap.specs.Pcap.{Frame}
use Rattle.spec_case.specs.Run.{Run, last_version, frames_of}
use Rattle.spec_case.specs.Blocks.{AreInOrder}
use Rattle.spec_board.specs.Steps.{Step}
use Rattle.spec_board.specs.State.{State}
use Rattle.spec_board.specs.Journals.{Legal, IsLegal, after}
use Rattle.board_laws.specs.Entries.{HasKeys}

-- It holds of each board: of the state to which a legal journal leads, in a run, of a port, with a limit of entries.
abbrev pub OfBoards : (Run → ℕ → ℕ → State → Type 0) → Type 0
OfBoards claim =
    (run : Run) (port limit : ℕ) (steps : List Step)
    → IsLegal run port limit steps → claim run port limit (after run port steps)

-- It holds of each board that looked up only frames that have keys.
abbrev pub OfKeyedBoards : (Run → ℕ → ℕ → State → Type 0) → Type 0
OfKeyedBoards claim =
    (run : Run) (port limit : ℕ) (steps : List Step)
    → HasKeys run port (after run port steps).next → IsLegal run port limit steps
    → claim run port limit (after run port steps)

-- It holds of each board of a run whose sync points stand in order.
abbrev pub OfOrderedBoards : (Run → ℕ → ℕ → State → Type 0) → Type 0
OfOrderedBoards claim =
    (run : Run) (port limit : ℕ) (steps : List Step)
    → AreInOrder run.syncs (last_version run) → IsLegal run port limit steps
    → claim run port limit (after run port steps)

-- It holds of each legal journal of a port, where the sync points stand in order and the frames that were looked up
-- have keys.
abbrev pub OfJournals : (Run → ℕ → List Step → Type 0) → Type 0
OfJournals claim =
    (run : Run) (port limit : ℕ) (steps : List Step)
    → AreInOrder run.syncs (last_version run) → HasKeys run port (after run port steps).next
    → IsLegal run port limit steps → claim run port steps

-- No frame of the port has more bytes than this.
abbrev pub HaveAtMost : Run → ℕ → ℕ → Type 0
HaveAtMost run port most = All (λ (f : Frame). length f.bytes ≤ most) (frames_of run port)

-- It holds of each such journal and of the bytes that a frame of the port has at most.
abbrev pub OfShortFrames : (Run → ℕ → ℕ → List Step → Type 0) → Type 0
OfShortFrames claim =
    (run : Run) (port limit most : ℕ) (steps : List Step)
    → AreInOrder run.syncs (last_version run) → HasKeys run port (after run port steps).next
    → HaveAtMost run port most → IsLegal run port limit steps → claim run port most steps

-- It holds of each such journal with one more step at its end, which is legal there.
abbrev pub OfNextSteps : (Run → ℕ → ℕ → List Step → Type 0) → Type 0
OfNextSteps claim =
    (run : Run) (port limit most : ℕ) (steps : List Step) (step : Step)
    → AreInOrder run.syncs (last_version run) → HasKeys run port (after run port (steps ++ step ∷ [])).next
    → HaveAtMost run port most → IsLegal run port limit steps → Legal run port limit (after run port steps) step
    → claim run port most (steps ++ step ∷ [])
