-- Reading a file that was written.
use Rattle.std.specs.Prelude.{◌≡◌, ℕ, ◌/◌, ◌%◌, ◌^◌, ◌<◌, ◌≤◌, Bool, List, length, All, Ok}
use Rattle.spec_pcap.specs.Pcap.{Frame, second, unit_of, snap_length, file_of, capture_of}

-- A frame that a file in this unit keeps whole: its time is in whole units, its seconds fit in 32 bits, and it isn't
-- longer than what is captured.
pub record IsKept (nanos : Bool) (frame : Frame) : Type 0 where
  pub units : frame.time % unit_of nanos ≡ 0
  pub seconds : frame.time / second < 2 ^ 32
  pub len : length frame.bytes ≤ snap_length

-- Reading the file of frames gives them back, where there is room.
abbrev pub WrittenIsRead : Type 0
WrittenIsRead = (nanos : Bool) (frames : List Frame) (room : ℕ) → All (IsKept nanos) frames → length frames ≤ room
    → capture_of room (file_of nanos frames) ≡ Ok (record { nanos = nanos; frames = frames })
