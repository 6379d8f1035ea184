-- A trace as its file's bytes, their format, and the offsets of the records in them.
use Rattle.std.specs.Prelude.{◌≡◌, ℕ, ◌≤◌, List, length, map, All, None, Result, Ok, Err}
use Rattle.spec_pcap.specs.declared.fault.PcapFault.{PcapFault}
use Rattle.spec_pcap.specs.declared.format.Format.{Format}
use Rattle.spec_pcap.specs.Pcap.{Frame, Capture, record_frame, record_fault, snap_length}

-- the frames of the records at these offsets
abbrev pub frames_at : Format → List ℕ → List ℕ → List Frame
frames_at format bytes starts = map (record_frame format bytes) starts

-- how many frames there are, if none is faulty
abbrev pub count_of : Result (List Frame) PcapFault → Result ℕ PcapFault
count_of (Ok frames) = Ok (length frames)
count_of (Err fault) = Err fault

-- Whole records stand at these offsets.
abbrev pub AreRecords : Format → List ℕ → List ℕ → Type 0
AreRecords format bytes starts = All (λ at. record_fault format bytes at ≡ None) starts

-- A frame is no longer than a capture file may say.
abbrev pub IsShort : Frame → Type 0
IsShort frame = length frame.bytes ≤ snap_length

-- what is seen of such a trace
abbrev pub capture_at : Format → List ℕ → List ℕ → Capture
capture_at format bytes starts = record { nanos = format.nanos; frames = frames_at format bytes starts }
