-- Two runs that differ in their tables, and a list of lines that tells how these differ.
use Rattle.std.specs.Prelude.{◌≡◌, ◌≢◌, ℕ, ◌≤◌, nat_eq, List, length, All}
use Rattle.std.specs.List.{IsDistinct}
use Rattle.spec_actions.specs.declared.action.DpAction.{DpAction}
use Rattle.spec_xlate.specs.Translation.{Switch}
use Rattle.spec_case.specs.Run.{Run, last_version, frames_of}
use Rattle.spec_case.specs.Blocks.{hi, block_of}
use Rattle.spec_board.specs.Results.{key_at, switch_at}
use Rattle.spec_board.specs.Texts.{Journal}
use Rattle.spec_run.specs.Journals.{AreWhole, IsByLastVersion}
use Rattle.board_laws.specs.Entries.{AreOfBytes}
use Rattle.spec_tools.specs.Classes.{Deed, done_as}
use Rattle.spec_tools.specs.Lines.{Said, Line, IsListed, said_of}
use Rattle.spec_tools.specs.Lines.Said.{Alike, Differ}

-- ---- runs

-- the switch with the tables that all edits make
abbrev pub last_switch : Run → Switch
last_switch run = switch_at run (last_version run)

-- It holds of each frame of a run, by its port and its place.
abbrev pub OfFrames : Run → (ℕ → ℕ → Type 0) → Type 0
OfFrames run claim = (port place : ℕ) → 1 ≤ place → place ≤ length (frames_of run port) → claim port place

-- No edit stands in a block after that of a frame.
abbrev pub HasEditsFirst : Run → Type 0
HasEditsFirst run = OfFrames run (λ port place. hi run (block_of run port place) ≡ last_version run)

-- These are whole journals, and each frame was decided under the tables that all edits make.
pub record AreByAllEdits (run : Run) (journals : List Journal) : Type 0 where
  pub whole : AreWhole run journals
  pub by_last : All (IsByLastVersion run) journals
  pub first : HasEditsFirst run

-- The ports are different numbers of 16 bits, and frames are made of bytes.
pub record HasPackets (run : Run) : Type 0 where
  pub distinct : IsDistinct nat_eq run.ports
  pub of_bytes : All (AreOfBytes run) run.ports

-- The runs have the same ports and the same traces, and the lines tell how their tables differ.
pub record AreCompared (o n : Run) (lines : List Line) : Type 0 where
  pub ports : o.ports ≡ n.ports
  pub traces : o.traces ≡ n.traces
  pub packets : HasPackets o
  pub listed : IsListed (last_switch o) (last_switch n) o.ports lines

-- ---- frames

-- Of none of the frames the lines tell a difference.
abbrev pub HasNone : Run → List Line → Type 0
HasNone run lines = OfFrames run (λ port place. said_of lines (key_at run port place) ≡ Alike)

-- What was decided of a packet of this key at these ports is what is said of both, and that isn't the same.
pub record IsAsTold (ports key : List ℕ) (old new : List DpAction) (by_old by_new : Deed) : Type 0 where
  pub old_is : old ≡ done_as ports by_old key
  pub new_is : new ≡ done_as ports by_new key
  pub differ : old ≢ new

-- Where the first line that has a packet of this key tells a difference, it says what was decided of both; else that is
-- the same.
abbrev pub IsTreated : List ℕ → List ℕ → List DpAction → List DpAction → Said → Type 0
IsTreated ports key old new Alike = old ≡ new
IsTreated ports key old new (Differ by_old by_new) = IsAsTold ports key old new by_old by_new

-- So a frame of a run is treated, by its port and its place, where this is decided of each, as lines say.
abbrev pub IsTreatedAt : Run → List Line → (ℕ → ℕ → List DpAction) → (ℕ → ℕ → List DpAction) → ℕ → ℕ → Type 0
IsTreatedAt run lines old new port place =
    IsTreated run.ports (key_at run port place) (old port place) (new port place) (said_of lines (key_at run port place))
