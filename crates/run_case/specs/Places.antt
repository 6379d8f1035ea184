-- The ports of a run, and the places of their traces.
use Rattle.std.specs.Prelude.{ℕ, zero, suc, ◌+◌, ◌^◌, ◌<◌, ◌≤◌, ◌==◌, IsTrue, length, List, All}
use Rattle.std.specs.List.{list_any}
use Rattle.spec_pcap.specs.Pcap.{Capture}
use Rattle.spec_tables.specs.declared.sync_point.SyncPoint.{SyncPoint}
use Rattle.spec_case.specs.Run.{Run, frames_of}
use Rattle.spec_case.specs.Blocks.{ends_after, last_place}

-- A port is among these.
abbrev pub HasPort : List ℕ → ℕ → Type 0
HasPort ports port = IsTrue (list_any (λ p. p == port) ports)

-- A place of a port's trace, and one place after it, are numbers of 32 bits.
abbrev pub IsCounted : Capture → Type 0
IsCounted trace = length trace.frames + 1 < 2 ^ 32

abbrev pub AreCounted : List Capture → Type 0
AreCounted traces = All IsCounted traces

-- A frame stands at this place of a port's trace; places are counted from 1.
abbrev pub HasPlace : Run → ℕ → ℕ → Type 0
HasPlace run port place = (1 ≤ place) × (place ≤ length (frames_of run port))

-- the last place of each block of a trace
abbrev pub ends_of : List SyncPoint → Capture → List ℕ
ends_of syncs trace = ends_after 0 syncs trace.frames

-- the last place before a block
abbrev pub place_before : Run → ℕ → ℕ → ℕ
place_before run port zero = 0
place_before run port (suc block) = last_place run port block

-- A place is in a block: after the last place before it, and not after its own.
pub record IsInBlock (run : Run) (port block place : ℕ) : Type 0 where
  pub after : place_before run port block < place
  pub within : place ≤ last_place run port block
