-- The boards of a run.
use Rattle.std.specs.Prelude.{◌≡◌, ℕ, ◌<◌, List, length, slice_index_or, All}
use Rattle.spec_case.specs.Run.{Run}
use Rattle.pmd_board.specs.BoardView.{BoardView, state_of}

-- A board is of this port, with this limit.
pub record IsOf (limit port : ℕ) (b : BoardView) : Type 0 where
  pub of_port : b.port ≡ port
  pub has_limit : b.flow_limit ≡ limit

-- There is one for each port, in the order of the words, each with this limit.
pub record AreBoards (run : Run) (limit : ℕ) (boards : List BoardView) : Type 0 where
  pub one_each : length boards ≡ length run.ports
  pub each : (k : ℕ) (d : BoardView) → k < length boards
      → IsOf limit (slice_index_or run.ports k 0) (slice_index_or boards k d)

-- They are all in a block.
abbrev pub AreIn : Run → ℕ → List BoardView → Type 0
AreIn run block boards = All (λ (b : BoardView). (state_of run b).block ≡ block) boards

-- They are those of a phase: there is one for each port, in the order of the words, each with this limit and in this block.
abbrev pub AreOfPhase : Run → ℕ → ℕ → List BoardView → Type 0
AreOfPhase run limit block boards = AreBoards run limit boards × AreIn run block boards
