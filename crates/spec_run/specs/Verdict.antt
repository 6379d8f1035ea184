-- What becomes of a run before anything is written. The words come first, then the file of edits, then the steps file,
-- then the mirrors file, then the traces in the order of the words; the first input that is refused decides.
use Rattle.std.specs.Prelude.{ℕ, ◌-◌, nat_lt, false, if◌then◌else◌, List, [], ◌∷◌, ◌++◌, length, map, Option, Some, None, Result, Ok, Err, codes}
use Rattle.std.specs.Option.{ok_or}
use Rattle.spec_base.specs.Files.{File, lookup_or_empty}
use Rattle.spec_pcap.specs.declared.fault.PcapFault.{PcapFault}
use Rattle.spec_pcap.specs.declared.fault.PcapFault.TheVariants.{TooManyFrames}
use Rattle.spec_pcap.specs.Pcap.{Capture, capture_of}
use Rattle.spec_case.specs.declared.run_step.RunStep.{RunStep}
use Rattle.spec_case.specs.Run.{Run}
use Rattle.spec_input.specs.Words.{PortWord, Input, Files as Named, Made, Command, command_of, has_trace}
use Rattle.spec_tables.specs.Changes.{changes_to}
use Rattle.spec_flow_text.specs.declared.fault.TextFault.TheVariants as text
use Rattle.spec_input.specs.declared.fault.FileFault.{FileFault}
use Rattle.spec_input.specs.declared.fault.FileFault.TheVariants as fault
use Rattle.spec_input.specs.Script.{Script, script_of}
use Rattle.spec_input.specs.Steps as steps_file
use Rattle.spec_input.specs.Mirrors as mirrors_file
use Rattle.spec_input.specs.Mirrors.{Mirror, most_mirrors_bytes}
use Rattle.spec_input.specs.Made.{edits_made, trace_made}
use Rattle.spec_run.specs.declared.quantity.Quantity.{Quantity}
use Rattle.spec_run.specs.declared.quantity.Quantity.TheVariants.{EditsBytes, StepsBytes, MirrorsBytes, Line, Edits, Syncs, Actions, Steps, Mirrors, Changes, TraceBytes, Frames}
use Rattle.spec_run.specs.Limits.{most_edits_bytes, most_steps_bytes, most_changes, most_trace_bytes, most_frames}

-- the bytes of a file by its name, where there is one
abbrev pub Files : Type 0
Files = List ℕ → Option (List ℕ)

-- Why there is no run: words that the program doesn't take, a file that isn't there, the file of edits, the steps file or the
-- mirrors file by its name and what is wrong with it, a trace likewise, or a quantity that is above its limit.
pub data Refusal : Type 0 where
  Usage : Refusal
  Missing : List ℕ → Refusal
  Text : List ℕ → FileFault → Refusal
  Trace : List ℕ → PcapFault → Refusal
  Limit : Quantity → Refusal

-- a run, and its mirrors, which are no part of it: no frame is decided otherwise for them
pub record MirroredRun : Type 0 where
  pub run : Run
  pub mirrors : List Mirror

-- a command, and what is given by what it reads
pub record Accepted : Type 0 where
  pub command : Command
  pub run : Run
  pub mirrors : List Mirror

infixl 10 ◌>>=◌
abbrev pub ◌>>=◌ : {A B : Type 0} → Result A Refusal → (A → Result B Refusal) → Result B Refusal
Ok a >>= f = f a
Err e >>= f = Err e

-- ---- the words

unfoldable pub command_in : List (List ℕ) → Result Command Refusal
command_in words = ok_or (command_of words) Usage

-- ---- what is read

-- the names of what is read: the file of edits, the steps file and the mirrors file where there are such, and the traces of
-- the ports
pub record Sources : Type 0 where
  pub edits : List ℕ
  pub steps : Option (List ℕ)
  pub mirrors : Option (List ℕ)
  pub ports : List PortWord

-- What a number makes is read as if it were files: one of edits, and a trace for each port, which the port's number names.
abbrev pub made_trace : ℕ → List ℕ → PortWord
made_trace port name = record { port = port; file = name }

abbrev pub made_sources : Sources
made_sources = record {
  edits = codes "edits";
  steps = None;
  mirrors = None;
  ports = made_trace 1 (codes "1") ∷ made_trace 2 (codes "2") ∷ made_trace 3 (codes "3") ∷ made_trace 4 (codes "4") ∷ [];
}

abbrev pub made_list : ℕ → List File
made_list number =
    (made_sources.edits, edits_made number) ∷ map (λ (w : PortWord). (w.file, trace_made number w.port)) made_sources.ports

abbrev pub sources_of : Input → Sources
sources_of (Named f) = record { edits = f.edits; steps = f.steps; mirrors = f.mirrors; ports = f.ports }
sources_of (Made number) = made_sources

-- where it is read
abbrev pub files_for : Files → Input → Files
files_for files (Named f) = files
files_for files (Made number) = lookup_or_empty (made_list number)

-- the bytes of a file that has to be there
abbrev pub bytes_in : Files → List ℕ → Result (List ℕ) Refusal
bytes_in files name = ok_or (files name) (Missing name)

-- a file of lines with this fault is refused
abbrev pub refused_text : List ℕ → FileFault → Refusal
refused_text name (fault.Line line text.TooManyActions) = Limit Actions
refused_text name fault.LineTooLong = Limit Line
refused_text name fault.TooManyEdits = Limit Edits
refused_text name fault.TooManySyncs = Limit Syncs
refused_text name fault.TooManySteps = Limit Steps
refused_text name fault.TooManyMirrors = Limit Mirrors
refused_text name why = Text name why

-- what a file of lines says, if it has no fault
abbrev pub text_or_refusal : {A : Type 0} → List ℕ → Result A FileFault → Result A Refusal
text_or_refusal name (Ok said) = Ok said
text_or_refusal name (Err why) = Err (refused_text name why)

-- ---- the edits

-- a file of so many bytes at most
abbrev pub script_within : List ℕ → List ℕ → Result Script Refusal
script_within name bytes =
    if nat_lt most_edits_bytes (length bytes) then Err (Limit EditsBytes) else text_or_refusal name (script_of bytes)

-- the edits change no more rules than they may
abbrev pub with_few_changes : Script → Result Script Refusal
with_few_changes s = if nat_lt most_changes (changes_to s.edits (length s.edits)) then Err (Limit Changes) else Ok s

unfoldable pub script_in : Files → List ℕ → Result Script Refusal
script_in files name = bytes_in files name >>= script_within name >>= with_few_changes

-- ---- the steps

-- a file of so many bytes at most, for a switch of these ports
abbrev pub steps_within : List ℕ → List ℕ → List ℕ → Result (List RunStep) Refusal
steps_within ports name bytes =
    if nat_lt most_steps_bytes (length bytes) then Err (Limit StepsBytes) else text_or_refusal name (steps_file.steps_of ports bytes)

-- no step is given where there is no file
abbrev pub steps_in : Files → List ℕ → Option (List ℕ) → Result (List RunStep) Refusal
steps_in files ports None = Ok []
steps_in files ports (Some name) = bytes_in files name >>= steps_within ports name

-- ---- the mirrors

-- a file of so many bytes at most, for a switch of these ports
abbrev pub mirrors_within : List ℕ → List ℕ → List ℕ → Result (List Mirror) Refusal
mirrors_within ports name bytes =
    if nat_lt most_mirrors_bytes (length bytes) then Err (Limit MirrorsBytes)
    else text_or_refusal name (mirrors_file.mirrors_in ports bytes)

-- there is no mirror where there is no file
abbrev pub mirrors_in : Files → List ℕ → Option (List ℕ) → Result (List Mirror) Refusal
mirrors_in files ports None = Ok []
mirrors_in files ports (Some name) = bytes_in files name >>= mirrors_within ports name

-- ---- the traces

-- a trace, and the bytes of its file
pub record TraceFile : Type 0 where
  pub size : ℕ
  pub capture : Capture

-- a port without a trace
abbrev pub no_trace : TraceFile
no_trace = record { size = 0; capture = record { nanos = false; frames = [] } }

-- a trace with this fault is refused
abbrev pub refused_trace : List ℕ → PcapFault → Refusal
refused_trace name TooManyFrames = Limit Frames
refused_trace name fault = Trace name fault

abbrev pub trace_file : List ℕ → ℕ → Result Capture PcapFault → Result TraceFile Refusal
trace_file name size (Ok capture) = Ok (record { size = size; capture = capture })
trace_file name size (Err fault) = Err (refused_trace name fault)

-- a file of at most so many bytes and frames. Its size is found in reading it, before any fault.
abbrev pub trace_within : ℕ → ℕ → List ℕ → List ℕ → Result TraceFile Refusal
trace_within bytes_left frames_left name bytes =
    if nat_lt bytes_left (length bytes) then Err (Limit TraceBytes) else trace_file name (length bytes) (capture_of frames_left bytes)

-- the trace of a file, for which so much room is left
unfoldable pub file_in : Files → ℕ → ℕ → List ℕ → Result TraceFile Refusal
file_in files bytes_left frames_left name = bytes_in files name >>= trace_within bytes_left frames_left name

-- the trace of a port, if it has one
abbrev pub trace_in : Files → ℕ → ℕ → PortWord → Result TraceFile Refusal
trace_in files bytes_left frames_left w = if has_trace w then file_in files bytes_left frames_left w.file else Ok no_trace

-- the traces of ports, after those of the ports before them. Each takes of the room that those before it left.
unfoldable pub traces_after : Files → List Capture → ℕ → ℕ → List PortWord → Result (List Capture) Refusal
traces_after files before bytes_left frames_left [] = Ok before
traces_after files before bytes_left frames_left (w ∷ ws) =
    trace_in files bytes_left frames_left w
    >>= (λ t. traces_after files (before ++ t.capture ∷ []) (bytes_left - t.size) (frames_left - length t.capture.frames) ws)

abbrev pub traces_in : Files → List PortWord → Result (List Capture) Refusal
traces_in files ports = traces_after files [] most_trace_bytes most_frames ports

-- ---- the whole

abbrev pub ports_said : List PortWord → List ℕ
ports_said ports = map (λ (w : PortWord). w.port) ports

abbrev pub run_of : ℕ → Sources → Script → List RunStep → List Capture → Run
run_of flow_limit sources script steps traces = record {
  ports = ports_said sources.ports;
  edits = script.edits;
  bundles = script.bundles;
  syncs = script.syncs;
  traces = traces;
  flow_limit = flow_limit;
  steps = steps;
}

-- the run that files give, where each port has at most so many megaflows, and its mirrors
unfoldable pub run_in : Files → ℕ → Sources → Result MirroredRun Refusal
run_in files flow_limit sources =
    script_in files sources.edits
    >>= (λ script. steps_in files (ports_said sources.ports) sources.steps
    >>= (λ steps. mirrors_in files (ports_said sources.ports) sources.mirrors
    >>= (λ mirrors. traces_in files sources.ports
    >>= (λ traces. Ok (record { run = run_of flow_limit sources script steps traces; mirrors = mirrors })))))

unfoldable pub verdict : List (List ℕ) → Files → Result Accepted Refusal
verdict words files =
    command_in words
    >>= (λ command. run_in (files_for files command.input) command.flow_limit (sources_of command.input)
    >>= (λ given. Ok (record { command = command; run = given.run; mirrors = given.mirrors })))

-- ---- what is opened

-- what follows where a stage was passed
abbrev pub if_passed : {A : Type 0} → Result A Refusal → (A → List (List ℕ)) → List (List ℕ)
if_passed (Ok a) names = names a
if_passed (Err e) names = []

-- the name of a file that may be left out, where there is one
abbrev pub given_names : Option (List ℕ) → List (List ℕ)
given_names None = []
given_names (Some name) = name ∷ []

-- the name of a port's trace, if it has one
abbrev pub trace_names : PortWord → List (List ℕ)
trace_names w = if has_trace w then w.file ∷ [] else []

-- the traces that are opened, each only where none before it is refused
unfoldable pub traces_opened : Files → ℕ → ℕ → List PortWord → List (List ℕ)
traces_opened files bytes_left frames_left [] = []
traces_opened files bytes_left frames_left (w ∷ ws) =
    trace_names w
    ++ if_passed (trace_in files bytes_left frames_left w) (λ t. traces_opened files (bytes_left - t.size) (frames_left - length t.capture.frames) ws)

-- the mirrors file and the traces
unfoldable pub last_opened : Files → Sources → List (List ℕ)
last_opened files s =
    given_names s.mirrors
    ++ if_passed (mirrors_in files (ports_said s.ports) s.mirrors) (λ _. traces_opened files most_trace_bytes most_frames s.ports)

-- the steps file, and what follows
unfoldable pub later_opened : Files → Sources → List (List ℕ)
later_opened files s =
    given_names s.steps ++ if_passed (steps_in files (ports_said s.ports) s.steps) (λ _. last_opened files s)

unfoldable pub sources_opened : Files → Sources → List (List ℕ)
sources_opened files s = s.edits ∷ if_passed (script_in files s.edits) (λ _. later_opened files s)

-- nothing is opened where a number makes what is read
abbrev pub opened_for : Files → Input → List (List ℕ)
opened_for files (Named f) = sources_opened files (sources_of (Named f))
opened_for files (Made number) = []

-- the files that are opened in reading, each only where none before it is refused
unfoldable pub files_opened : List (List ℕ) → Files → List (List ℕ)
files_opened words files = if_passed (command_in words) (λ command. opened_for files command.input)
