-- Worked rows: the room that several traces share, what is opened of them, and the limits and faults of a verdict.
use Rattle.std.specs.Prelude.{◌≡◌, ℕ, false, List, [], ◌∷◌, map, replicate, bytes_eq, if◌then◌else◌, Option, Some, None, Result, Ok, Err, codes, refl}
use Rattle.std.specs.Result.{result_ok}
use Rattle.std.specs.Option.{option_map}
use Rattle.spec_base.specs.Bytes.{little_endian_at}
use Rattle.spec_pcap.specs.declared.fault.PcapFault.{PcapFault}
use Rattle.spec_pcap.specs.declared.fault.PcapFault.TheVariants.{ShortHeader, Magic, Version, LinkType, ShortRecord, TooLong, Fraction, TooManyFrames}
use Rattle.spec_pcap.specs.Pcap.{Frame, Capture, format_of, record_fault, capture_of, frames_from, header, record_header, file_of}
use Rattle.spec_case.specs.Run.{Run}
use Rattle.spec_tables.specs.Changes.{changes_to}
use Rattle.spec_flow_text.specs.Numbers.{digits_upto, decimal_upto}
use Rattle.clap.proofs.OnLiterals.{clap_on_literals}
use Rattle.spec_input.specs.Words as command_line
use Rattle.spec_input.specs.Words.{PortWord, port_number, port_word, new_port, port_words, command_of}
use Rattle.spec_flow_text.specs.declared.fault.TextFault.TheVariants as text
use Rattle.spec_input.specs.declared.fault.FileFault.{FileFault}
use Rattle.spec_input.specs.declared.fault.FileFault.TheVariants as fault
use Rattle.spec_input.specs.Lines.{with_lines}
use Rattle.spec_input.specs.Script.{with_line, script_of}
use Rattle.spec_run.specs.declared.quantity.Quantity.TheVariants.{Line, Edits, Syncs, Actions, Steps, Mirrors, TraceBytes, Frames}
use Rattle.spec_run.specs.Verdict.{Files, Refusal, Text, Trace, Limit, command_in, script_in, file_in, refused_text, refused_trace, traces_after, traces_in, traces_opened, last_opened, later_opened, sources_opened, files_opened, run_in, verdict}

-- 60 bytes from 00:00:00:00:00:01 to 00:00:00:00:00:02, of the type 0x88b5 for local experiments (IEEE 802)
abbrev frame : Frame
frame = record { time = 1000000000; bytes = 0 ∷ 0 ∷ 0 ∷ 0 ∷ 0 ∷ 2 ∷ 0 ∷ 0 ∷ 0 ∷ 0 ∷ 0 ∷ 1 ∷ 0x88 ∷ 0xb5 ∷ replicate 46 0 }

abbrev capture : Capture
capture = record { nanos = false; frames = frame ∷ [] }

-- every file is a trace of 100 bytes with this frame in it; no file is there
abbrev everywhere : Files
everywhere name = Some (file_of false (frame ∷ []))

abbrev nowhere : Files
nowhere name = None

abbrev word : ℕ → List ℕ → PortWord
word port file = record { port = port; file = file }

-- ---- room

-- two ports with a trace, and one without between them
abbrev two_traces : List PortWord
two_traces = word 1 (codes "a") ∷ word 2 [] ∷ word 3 (codes "b") ∷ []

abbrev traces_within : ℕ → ℕ → Result (List Capture) Refusal
traces_within bytes frames = traces_after everywhere [] bytes frames two_traces

two_traces_share_the_room_for_bytes_and_for_frames :
    (traces_within 200 2 ≡ Ok (capture ∷ record { nanos = false; frames = [] } ∷ capture ∷ []))
    × ((traces_within 199 2 ≡ Err (Limit TraceBytes)) × (traces_within 200 1 ≡ Err (Limit Frames)))
unfolding traces_after file_in capture_of format_of record_fault frames_from little_endian_at header record_header
two_traces_share_the_room_for_bytes_and_for_frames = (refl, (refl, refl))

all_traces_have_256_mib_and_131072_frames :
    (files : Files) (ports : List PortWord) → traces_in files ports ≡ traces_after files [] 268435456 131072 ports
all_traces_have_256_mib_and_131072_frames files ports = refl

-- ---- what is opened

abbrev three_traces : List PortWord
three_traces = word 1 (codes "a") ∷ word 2 (codes "b") ∷ word 3 [] ∷ word 4 (codes "c") ∷ []

abbrev opened_within : ℕ → ℕ → List (List ℕ)
opened_within bytes frames = traces_opened everywhere bytes frames three_traces

no_trace_is_opened_after_one_that_is_refused :
    (opened_within 300 3 ≡ codes "a" ∷ codes "b" ∷ codes "c" ∷ [])
    × ((opened_within 199 3 ≡ codes "a" ∷ codes "b" ∷ []) × ((opened_within 300 1 ≡ codes "a" ∷ codes "b" ∷ [])
    × ((opened_within 99 3 ≡ codes "a" ∷ []) × (traces_opened nowhere 300 3 three_traces ≡ codes "a" ∷ []))))
unfolding traces_opened file_in capture_of format_of record_fault frames_from little_endian_at header record_header
no_trace_is_opened_after_one_that_is_refused = (refl, (refl, (refl, (refl, refl))))

-- ---- a whole verdict

-- no edits, and any other files
abbrev with_no_edits : Option (List ℕ) → Files
with_no_edits a name = if bytes_eq name (codes "e") then Some [] else a

abbrev said : List (List ℕ)
said = codes "e" ∷ codes "o" ∷ codes "1=a" ∷ codes "2=" ∷ []

the_traces_are_opened_after_the_edits_within_the_same_room :
    (a : Option (List ℕ)) → files_opened said (with_no_edits a)
    ≡ codes "e" ∷ traces_opened (with_no_edits a) 268435456 131072 (word 1 (codes "a") ∷ word 2 [] ∷ [])
unfolding files_opened sources_opened later_opened last_opened command_in script_in digits_upto decimal_upto port_number port_word new_port port_words command_of command_line.command_in command_line.files_in clap_on_literals changes_to with_line with_lines script_of
the_traces_are_opened_after_the_edits_within_the_same_room a = refl

abbrev run_of : List (List ℕ) → Files → Option Run
run_of words files = option_map (λ accepted. accepted.run) (result_ok (verdict words files))

-- what the words and the files give, and no step
abbrev run_with : ℕ → Run
run_with limit = record {
  ports = 1 ∷ 2 ∷ [];
  edits = [];
  bundles = [];
  syncs = [];
  traces = capture ∷ record { nanos = false; frames = [] } ∷ [];
  flow_limit = limit;
  steps = [];
}

abbrev gives_run : List (List ℕ) → ℕ → Type 0
gives_run words limit = run_of words (with_no_edits (Some (file_of false (frame ∷ [])))) ≡ Some (run_with limit)

a_board_keeps_as_many_megaflows_as_the_words_say_or_8192 : (gives_run said 8192) × (gives_run (codes "--flow-limit=1" ∷ said) 1)
unfolding verdict run_in command_in script_in traces_after file_in capture_of format_of record_fault frames_from little_endian_at header record_header digits_upto decimal_upto port_number port_word new_port port_words command_of command_line.command_in command_line.files_in clap_on_literals changes_to with_line with_lines script_of
a_board_keeps_as_many_megaflows_as_the_words_say_or_8192 = (refl, refl)

-- ---- faults

-- what is a fault of the text, and what is above a limit
abbrev faults_and_their_refusals : List (FileFault × Refusal)
faults_and_their_refusals =
    (fault.Line 7 (text.Syntax 2), Text (codes "e") (fault.Line 7 (text.Syntax 2))) ∷
    (fault.Line 7 (text.UnknownName 2), Text (codes "e") (fault.Line 7 (text.UnknownName 2))) ∷
    (fault.Line 7 (text.Unsupported 2), Text (codes "e") (fault.Line 7 (text.Unsupported 2))) ∷
    (fault.Line 7 (text.BadValue 2), Text (codes "e") (fault.Line 7 (text.BadValue 2))) ∷
    (fault.Line 7 (text.Repeated 2), Text (codes "e") (fault.Line 7 (text.Repeated 2))) ∷
    (fault.Line 7 text.TooManyActions, Limit Actions) ∷
    (fault.SyncOrder 7, Text (codes "e") (fault.SyncOrder 7)) ∷
    (fault.LineTooLong, Limit Line) ∷
    (fault.TooManyEdits, Limit Edits) ∷
    (fault.TooManySyncs, Limit Syncs) ∷
    (fault.TooManySteps, Limit Steps) ∷
    (fault.TooManyMirrors, Limit Mirrors) ∷ []

what_is_above_a_limit_is_no_fault_of_the_text :
    map (λ row. refused_text (codes "e") row.0) faults_and_their_refusals ≡ map (λ row. row.1) faults_and_their_refusals
what_is_above_a_limit_is_no_fault_of_the_text = refl

abbrev faults_of_traces : List PcapFault
faults_of_traces = ShortHeader ∷ Magic ∷ Version 2 10 ∷ LinkType 101 ∷ ShortRecord 24 ∷ TooLong 40 262145 ∷ Fraction 40 ∷ []

too_many_frames_are_no_fault_of_the_trace :
    (map (refused_trace (codes "a")) faults_of_traces ≡ map (Trace (codes "a")) faults_of_traces)
    × (refused_trace (codes "a") TooManyFrames ≡ Limit Frames)
too_many_frames_are_no_fault_of_the_trace = (refl, refl)
