-- What the words and the files of one run give.
use Rattle.std.specs.Prelude.{ℕ, ◌==◌, Bool, if◌then◌else◌, List, [], ◌∷◌, length}
use Rattle.std.specs.List.{list_any}
use Rattle.spec_pcap.specs.Pcap.{Frame, Capture, frame_number}
use Rattle.spec_tables.specs.Edits.{Edit}
use Rattle.spec_tables.specs.declared.sync_point.SyncPoint.{SyncPoint}
use Rattle.spec_case.specs.declared.run_step.RunStep.{RunStep}

-- the ports in the order of the words; the edits of their tables, how many of these stand through each bundle, and the
-- sync points; the trace of each port; the most entries of a port's cache, and the schedule's given steps
pub record Run : Type 0 where
  pub ports : List ℕ
  pub edits : List Edit
  pub bundles : List ℕ
  pub syncs : List SyncPoint
  pub traces : List Capture
  pub flow_limit : ℕ
  pub steps : List RunStep

-- the last version of the tables: each bundle makes one
abbrev pub last_version : Run → ℕ
last_version run = length run.bundles

-- how many edits there are; a rule has the number of the edit that added it
abbrev pub edit_count : Run → ℕ
edit_count run = length run.edits

-- the frames of a port's trace
unfoldable pub frames_in : List ℕ → List Capture → ℕ → List Frame
frames_in [] traces port = []
frames_in (p ∷ ps) [] port = []
frames_in (p ∷ ps) (t ∷ ts) port = if p == port then t.frames else frames_in ps ts port

abbrev pub frames_of : Run → ℕ → List Frame
frames_of run port = frames_in run.ports run.traces port

-- the frame at a place of a port's trace
abbrev pub frame_at : Run → ℕ → ℕ → Frame
frame_at run port place = frame_number (frames_of run port) place

-- whether a trace of the run has times in nanoseconds
abbrev pub is_nanos : Run → Bool
is_nanos run = list_any (λ (t : Capture). t.nanos) run.traces
