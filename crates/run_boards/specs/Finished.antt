-- Boards that are finished, and their journals.
use Rattle.std.specs.Prelude.{◌≡◌, ◌/◌, ◌<◌, ◌≤◌, ◌^◌, List, length, map, All}
use Rattle.spec_pcap.specs.Pcap.{second, snap_length}
use Rattle.spec_case.specs.declared.arrival.Arrival.{Arrival}
use Rattle.spec_case.specs.Run.{Run, frame_at}
use Rattle.spec_case.specs.Arrivals.{arrivals, in_order}
use Rattle.spec_xlate.specs.Translation.{action_limit}
use Rattle.spec_board.specs.Journals.{IsFinished}
use Rattle.spec_board.specs.Schedules as schedules
use Rattle.spec_board.specs.Texts.{Journal}
use Rattle.spec_run.specs.Journals.{journal_in, AreWhole, actions_for}
use Rattle.run_boards.specs.Arrivals.{IsArrival}
use Rattle.pmd_board.specs.BoardView.{BoardView, journals_view, state_of}
use Rattle.run_boards.specs.declared.decided_frame.DecidedFrame.{DecidedFrame}

-- Nothing is left to be done at any of these boards.
abbrev pub AreFinished : Run → List BoardView → Type 0
AreFinished run boards = All (λ (b : BoardView). IsFinished run (state_of run b)) boards

-- the journals of a schedule
abbrev pub journals_in : schedules.Schedule → List Journal
journals_in s = map journal_in s.boards

-- What is kept of boards that are finished: their journals are whole, and these are the arrivals of the run in order.
pub record AreKept (run : Run) (boards : List BoardView) (came : List Arrival) : Type 0 where
  pub finished : AreFinished run boards
  pub whole : AreWhole run (journals_view boards)
  pub ordered : came ≡ in_order (arrivals run)
  pub each : All (IsArrival run) came

-- It is the frame of an arrival, with the actions that the journals decided for it.
pub record IsDecidedFrame (run : Run) (journals : List Journal) (a : Arrival) (f : DecidedFrame) : Type 0 where
  pub time : f.time ≡ (frame_at run a.port a.place).time
  pub seconds : f.time / second < 2 ^ 32
  pub bytes : f.bytes.now ≡ (frame_at run a.port a.place).bytes
  pub len : length f.bytes.now ≤ snap_length
  pub actions : f.actions.now ≡ actions_for run journals a.port a.place
  pub few : length f.actions.now ≤ action_limit
