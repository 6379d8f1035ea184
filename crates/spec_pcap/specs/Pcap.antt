-- Classic capture files: pcap-savefile(5), and the IETF draft "PCAP Capture File Format" (draft-ietf-opsawg-pcap).
use Rattle.std.specs.Prelude.{ℕ, zero, suc, ◌+◌, ◌-◌, ◌*◌, ◌/◌, ◌%◌, ◌^◌, Bool, true, false, ◌&&◌, ◌==◌, nat_le, nat_lt, if◌then◌else◌, List, [], ◌∷◌, ◌++◌, length, take, drop, slice_index_or, Option, Some, None, Result, Ok, Err}
use Rattle.std.specs.List.{flat_map}
use Rattle.std.specs.Option.{option_or}
use Rattle.spec_base.specs.Bytes.{little_endian_at, little_endian, big_endian_at}
use Rattle.spec_pcap.specs.declared.format.ByteOrder.{ByteOrder}
use Rattle.spec_pcap.specs.declared.format.ByteOrder.TheVariants.{LittleEndian, BigEndian}
use Rattle.spec_pcap.specs.declared.format.Format.{Format}
use Rattle.spec_pcap.specs.declared.fault.PcapFault.{PcapFault}
use Rattle.spec_pcap.specs.declared.fault.PcapFault.TheVariants.{ShortHeader, Magic, Version, LinkType, ShortRecord, TooLong, Fraction, TooManyFrames}

-- a frame: when it was captured, in nanoseconds since the beginning of 1970 (UTC), and its bytes
pub record Frame : Type 0 where
  pub time : ℕ
  pub bytes : List ℕ

-- what a file holds: whether it counts fractions of a second in nanoseconds, and its frames in order
pub record Capture : Type 0 where
  pub nanos : Bool
  pub frames : List Frame

-- the frame at a place; places are counted from 1
abbrev pub frame_number : List Frame → ℕ → Frame
frame_number frames place = slice_index_or frames (place - 1) (record { time = 0; bytes = [] })

-- ---- the numbers of the format

-- how a file in microseconds begins, and one in nanoseconds
abbrev pub micros_magic : ℕ
micros_magic = 0xa1b2c3d4

abbrev pub nanos_magic : ℕ
nanos_magic = 0xa1b23c4d

-- version 2.4 of the format
abbrev pub major_version : ℕ
major_version = 2

abbrev pub minor_version : ℕ
minor_version = 4

-- the most bytes of a frame that are captured, as tcpdump(8) has it
abbrev pub snap_length : ℕ
snap_length = 262144

-- LINKTYPE_ETHERNET
abbrev pub ethernet : ℕ
ethernet = 1

-- how many bytes the header of a file has, and that of a record
abbrev pub header_length : ℕ
header_length = 24

abbrev pub record_header_length : ℕ
record_header_length = 16

-- a second in nanoseconds, and the unit in which fractions of it are counted
abbrev pub second : ℕ
second = 1000000000

abbrev pub unit_of : Bool → ℕ
unit_of nanos = if nanos then 1 else 1000

-- ---- how numbers are written

-- the number of the n bytes at an offset
abbrev pub number_at : ByteOrder → ℕ → List ℕ → ℕ → ℕ
number_at LittleEndian n bytes at = little_endian_at n bytes at
number_at BigEndian n bytes at = big_endian_at n bytes at

-- the format of a file whose first number, read in this order, is a magic one
abbrev pub format_by : ByteOrder → ℕ → Option Format
format_by order number =
    if number == micros_magic then Some (record { order = order; nanos = false })
    else (if number == nanos_magic then Some (record { order = order; nanos = true }) else None)

-- the format that a magic number tells
abbrev pub told_format : List ℕ → Option Format
told_format bytes =
    option_or (format_by LittleEndian (number_at LittleEndian 4 bytes 0)) (format_by BigEndian (number_at BigEndian 4 bytes 0))

-- ---- what is read: the header

abbrev pub major_of : ByteOrder → List ℕ → ℕ
major_of order bytes = number_at order 2 bytes 4

abbrev pub minor_of : ByteOrder → List ℕ → ℕ
minor_of order bytes = number_at order 2 bytes 6

-- the upper bits of that field are no part of the type: they tell of a frame check sequence
abbrev pub link_type_of : ByteOrder → List ℕ → ℕ
link_type_of order bytes = number_at order 4 bytes 20 % 2 ^ 16

-- the format of a file that begins with a header of this version and link type
abbrev pub with_magic : List ℕ → Option Format → Result Format PcapFault
with_magic bytes None = Err Magic
with_magic bytes (Some format) =
    let major = major_of format.order bytes in
    let minor = minor_of format.order bytes in
    let link_type = link_type_of format.order bytes in
    if (major == major_version) && (minor == minor_version)
    then (if link_type == ethernet then Ok format else Err (LinkType link_type))
    else Err (Version major minor)

unfoldable pub format_of : List ℕ → Result Format PcapFault
format_of bytes = if nat_lt (length bytes) header_length then Err ShortHeader else with_magic bytes (told_format bytes)

-- ---- what is read: the records

-- the parts of the record at an offset
abbrev pub seconds_at : Format → List ℕ → ℕ → ℕ
seconds_at format bytes at = number_at format.order 4 bytes at

abbrev pub fraction_at : Format → List ℕ → ℕ → ℕ
fraction_at format bytes at = number_at format.order 4 bytes (at + 4)

abbrev pub captured_at : Format → List ℕ → ℕ → ℕ
captured_at format bytes at = number_at format.order 4 bytes (at + 8)

-- the offset after the record at an offset
abbrev pub record_end : Format → List ℕ → ℕ → ℕ
record_end format bytes at = at + record_header_length + captured_at format bytes at

-- what is wrong with the record at an offset: it is cut in its header, has too many captured bytes, is cut after its
-- header, or has a fraction of a second or more
unfoldable pub record_fault : Format → List ℕ → ℕ → Option PcapFault
record_fault format bytes at =
    if nat_lt (length bytes) (at + record_header_length) then Some (ShortRecord at)
    else (if nat_lt snap_length (captured_at format bytes at) then Some (TooLong at (captured_at format bytes at))
    else (if nat_lt (length bytes) (record_end format bytes at) then Some (ShortRecord at)
    else (if nat_le second (fraction_at format bytes at * unit_of format.nanos) then Some (Fraction at)
    else None)))

-- the frame of the record at an offset
abbrev pub record_frame : Format → List ℕ → ℕ → Frame
record_frame format bytes at = record {
  time = seconds_at format bytes at * second + fraction_at format bytes at * unit_of format.nanos;
  bytes = take (captured_at format bytes at) (drop (at + record_header_length) bytes);
}

-- a frame before others, if none is faulty
abbrev pub preceded : Frame → Option PcapFault → Result (List Frame) PcapFault → Result (List Frame) PcapFault
preceded frame (Some fault) others = Err fault
preceded frame None (Ok frames) = Ok (frame ∷ frames)
preceded frame None (Err fault) = Err fault

-- the frames of the records from an offset to the end, which are at most so many. The first fault decides.
unfoldable pub frames_from : Format → ℕ → List ℕ → ℕ → Result (List Frame) PcapFault
frames_from format zero bytes at = if at == length bytes then Ok [] else Err TooManyFrames
frames_from format (suc room) bytes at =
    if at == length bytes then Ok []
    else preceded (record_frame format bytes at) (record_fault format bytes at) (frames_from format room bytes (record_end format bytes at))

-- the frames of a file in this format
abbrev pub captured : Bool → Result (List Frame) PcapFault → Result Capture PcapFault
captured nanos (Ok frames) = Ok (record { nanos = nanos; frames = frames })
captured nanos (Err fault) = Err fault

abbrev pub with_format : ℕ → List ℕ → Result Format PcapFault → Result Capture PcapFault
with_format room bytes (Ok format) = captured format.nanos (frames_from format room bytes header_length)
with_format room bytes (Err fault) = Err fault

-- what a file of at most so many frames holds, or what is wrong with it
unfoldable pub capture_of : ℕ → List ℕ → Result Capture PcapFault
capture_of room bytes = with_format room bytes (format_of bytes)

-- ---- what is written, in little-endian order

abbrev pub magic : Bool → ℕ
magic nanos = if nanos then nanos_magic else micros_magic

-- the header of a file: magic number, version, the time zone and its accuracy, which are 0, snap length, link type
unfoldable pub header : Bool → List ℕ
header nanos =
    little_endian 4 (magic nanos) ++ (little_endian 2 major_version ++ (little_endian 2 minor_version
    ++ (little_endian 4 0 ++ (little_endian 4 0 ++ (little_endian 4 snap_length ++ little_endian 4 ethernet)))))

-- the header of a frame's record: the seconds of its time, the whole units of the rest, and its length, as captured
-- and as it was on the wire
unfoldable pub record_header : Bool → ℕ → ℕ → List ℕ
record_header nanos time len =
    little_endian 4 (time / second) ++ (little_endian 4 (time % second / unit_of nanos)
    ++ (little_endian 4 len ++ little_endian 4 len))

-- the record of a frame
abbrev pub record_of : Bool → Frame → List ℕ
record_of nanos frame = record_header nanos frame.time (length frame.bytes) ++ frame.bytes

-- the file of frames
abbrev pub file_of : Bool → List Frame → List ℕ
file_of nanos frames = header nanos ++ flat_map (record_of nanos) frames
