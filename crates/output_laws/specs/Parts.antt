-- The parts of a run that is cut at times, as runs of their own.
use Rattle.std.specs.Prelude.{ℕ, ◌-◌, ◌≤◌, nat_le, nat_eq, List, [], ◌∷◌, ◌++◌, map, take, drop, All, AllPairs}
use Rattle.std.specs.List.{prefix_len, IsDistinct}
use Rattle.spec_pcap.specs.Pcap.{Frame, Capture}
use Rattle.spec_tables.specs.declared.sync_point.SyncPoint.{SyncPoint}
use Rattle.spec_case.specs.Run.{Run}
use Rattle.spec_case.specs.Blocks.{frames_before}

-- ---- traces

-- the frames of a trace before the first that isn't before a time, and those from there on
abbrev pub frames_until : ℕ → List Frame → List Frame
frames_until time frames = take (frames_before time frames) frames

abbrev pub frames_since : ℕ → List Frame → List Frame
frames_since time frames = drop (frames_before time frames) frames

abbrev pub trace_until : ℕ → Capture → Capture
trace_until time t = record t { frames = frames_until time t.frames }

abbrev pub trace_since : ℕ → Capture → Capture
trace_since time t = record t { frames = frames_since time t.frames }

-- ---- sync points

-- how many sync points stand before the first that is after a time
abbrev pub syncs_through : ℕ → List SyncPoint → ℕ
syncs_through time syncs = prefix_len (λ (s : SyncPoint). nat_le s.time time) syncs

-- a sync point at time 0
abbrev pub begun : SyncPoint → SyncPoint
begun s = record s { time = 0 }

-- Of the sync points up to a time the last is put at time 0, and those before it are left out; the others stay.
abbrev pub syncs_since : ℕ → List SyncPoint → List SyncPoint
syncs_since time syncs =
    map begun (drop (syncs_through time syncs - 1) (take (syncs_through time syncs) syncs))
    ++ drop (syncs_through time syncs) syncs

-- ---- runs

-- The part before a time: the same edits and sync points, and the frames before it. No steps are given.
abbrev pub before : ℕ → Run → Run
before time run = record run { traces = map (trace_until time) run.traces; steps = [] }

-- The part from a time on: the same edits, so that rules keep their numbers; the version that stands at the time is
-- there from the beginning; and the frames from the time on.
abbrev pub since : ℕ → Run → Run
since time run =
    record run { syncs = syncs_since time run.syncs; traces = map (trace_since time) run.traces; steps = [] }

-- the parts of a run that is cut at these times, one after the other
abbrev pub parts : List ℕ → Run → List Run
parts [] run = run ∷ []
parts (time ∷ times) run = before time run ∷ parts times (since time run)

-- In a trace the frames before a time stand before those from it on.
abbrev pub IsCutIn : ℕ → Capture → Type 0
IsCutIn time t = All (λ (f : Frame). time ≤ f.time) (frames_since time t.frames)

-- The run may be cut at these times: none is less than one before it, the ports of the run differ, and at each of the
-- times all traces are cut so.
pub record MayBeCutAt (times : List ℕ) (run : Run) : Type 0 where
  pub rising : AllPairs (λ earlier later. earlier ≤ later) times
  pub ports : IsDistinct nat_eq run.ports
  pub traces : All (λ time. All (IsCutIn time) run.traces) times
