-- Worked rows: small files, byte by byte, and what they hold.
use Rattle.std.specs.Prelude.{◌≡◌, ℕ, true, false, List, [], ◌∷◌, ◌++◌, take, drop, replicate, slice_set, Some, None, Result, Ok, Err, refl}
use Rattle.spec_base.specs.Bytes.{little_endian_at, big_endian_at}
use Rattle.spec_pcap.specs.declared.format.ByteOrder.TheVariants.{LittleEndian}
use Rattle.spec_pcap.specs.declared.format.Format.{Format}
use Rattle.spec_pcap.specs.declared.fault.PcapFault.{PcapFault}
use Rattle.spec_pcap.specs.declared.fault.PcapFault.TheVariants.{ShortHeader, Magic, Version, LinkType, ShortRecord, TooLong, Fraction, TooManyFrames}
use Rattle.spec_pcap.specs.Pcap.{Frame, Capture, frame_number, record_fault, format_of, frames_from, capture_of, header, record_header, record_of, file_of}

-- 60 bytes from 00:00:00:00:00:01 to 00:00:00:00:00:02, of the type 0x88b5 for local experiments (IEEE 802)
abbrev ethernet_frame : List ℕ
ethernet_frame = 0 ∷ 0 ∷ 0 ∷ 0 ∷ 0 ∷ 2 ∷ 0 ∷ 0 ∷ 0 ∷ 0 ∷ 0 ∷ 1 ∷ 0x88 ∷ 0xb5 ∷ replicate 46 0

abbrev at_one_second : Frame
at_one_second = record { time = 1000000000; bytes = ethernet_frame }

-- the header of a file in microseconds
abbrev file_header : List ℕ
file_header =
    0xd4 ∷ 0xc3 ∷ 0xb2 ∷ 0xa1 ∷ 2 ∷ 0 ∷ 4 ∷ 0 ∷
    0 ∷ 0 ∷ 0 ∷ 0 ∷ 0 ∷ 0 ∷ 0 ∷ 0 ∷
    0 ∷ 0 ∷ 4 ∷ 0 ∷ 1 ∷ 0 ∷ 0 ∷ 0 ∷ []

-- the file of that frame at one second: 100 bytes
abbrev file : List ℕ
file =
    file_header
    ++ (1 ∷ 0 ∷ 0 ∷ 0 ∷ 0 ∷ 0 ∷ 0 ∷ 0 ∷
    60 ∷ 0 ∷ 0 ∷ 0 ∷ 60 ∷ 0 ∷ 0 ∷ 0 ∷ ethernet_frame)

abbrev micros : List Frame → Result Capture PcapFault
micros frames = Ok (record { nanos = false; frames = frames })

abbrev nanos : List Frame → Result Capture PcapFault
nanos frames = Ok (record { nanos = true; frames = frames })

abbrev little_micros : Format
little_micros = record { order = LittleEndian; nanos = false }

-- ---- read

one_frame : capture_of 1 file ≡ micros (at_one_second ∷ [])
unfolding capture_of format_of record_fault frames_from little_endian_at big_endian_at
one_frame = refl

header_alone : capture_of 0 file_header ≡ micros []
unfolding capture_of format_of record_fault frames_from little_endian_at big_endian_at
header_alone = refl

abbrev one_byte : Frame
one_byte = record { time = 2000001000; bytes = 7 ∷ [] }

two_frames_in_order : capture_of 5 (file_header ++ (record_of false at_one_second ++ record_of false one_byte))
    ≡ micros (at_one_second ∷ one_byte ∷ [])
unfolding capture_of format_of record_fault frames_from little_endian_at big_endian_at record_header
two_frames_in_order = refl

short_header : capture_of 1 (take 23 file) ≡ Err ShortHeader
unfolding capture_of format_of record_fault frames_from little_endian_at big_endian_at
short_header = refl

short_record_header : capture_of 1 (take 39 file) ≡ Err (ShortRecord 24)
unfolding capture_of format_of record_fault frames_from little_endian_at big_endian_at
short_record_header = refl

last_byte_missing : capture_of 1 (take 99 file) ≡ Err (ShortRecord 24)
unfolding capture_of format_of record_fault frames_from little_endian_at big_endian_at
last_byte_missing = refl

a_cut_record : record_fault little_micros (take 99 file) 24 ≡ Some (ShortRecord 24)
unfolding record_fault little_endian_at
a_cut_record = refl

one_byte_more : capture_of 1 (file ++ 0 ∷ []) ≡ Err TooManyFrames
unfolding capture_of format_of record_fault frames_from little_endian_at big_endian_at
one_byte_more = refl

captured_length_one_too_great : capture_of 1 (slice_set file 32 61) ≡ Err (ShortRecord 24)
unfolding capture_of format_of record_fault frames_from little_endian_at big_endian_at
captured_length_one_too_great = refl

-- 0x040000 captured bytes are the most
greatest_captured_length : record_fault little_micros (replicate 8 0 ++ (0 ∷ 0 ∷ 4 ∷ 0 ∷ 0 ∷ 0 ∷ 0 ∷ 0 ∷ replicate 262144 0)) 0 ≡ None
unfolding record_fault little_endian_at
greatest_captured_length = refl

captured_length_above_it : record_fault little_micros (replicate 8 0 ++ (1 ∷ 0 ∷ 4 ∷ 0 ∷ 0 ∷ 0 ∷ 0 ∷ 0 ∷ replicate 262145 0)) 0 ≡ Some (TooLong 0 262145)
unfolding record_fault little_endian_at
captured_length_above_it = refl

length_on_the_wire_is_free : capture_of 1 (slice_set file 37 5) ≡ micros (at_one_second ∷ [])
unfolding capture_of format_of record_fault frames_from little_endian_at big_endian_at
length_on_the_wire_is_free = refl

-- a fraction of 999,999 microseconds, and one of 1,000,000
abbrev with_fraction : ℕ → List ℕ
with_fraction low = slice_set (slice_set (slice_set file 28 low) 29 0x42) 30 0x0f

last_microsecond : capture_of 1 (with_fraction 0x3f) ≡ micros (record { time = 1999999000; bytes = ethernet_frame } ∷ [])
unfolding capture_of format_of record_fault frames_from little_endian_at big_endian_at
last_microsecond = refl

fraction_of_a_second : capture_of 1 (with_fraction 0x40) ≡ Err (Fraction 24)
unfolding capture_of format_of record_fault frames_from little_endian_at big_endian_at
fraction_of_a_second = refl

no_magic : capture_of 1 (slice_set file 0 0xd5) ≡ Err Magic
unfolding capture_of format_of record_fault frames_from little_endian_at big_endian_at
no_magic = refl

other_major_version : capture_of 1 (slice_set file 4 3) ≡ Err (Version 3 4)
unfolding capture_of format_of record_fault frames_from little_endian_at big_endian_at
other_major_version = refl

other_minor_version : capture_of 1 (slice_set file 6 3) ≡ Err (Version 2 3)
unfolding capture_of format_of record_fault frames_from little_endian_at big_endian_at
other_minor_version = refl

-- the time zone, its accuracy and the snap length
not_looked_at : capture_of 1 (slice_set (slice_set (slice_set file 8 1) 12 1) 16 1) ≡ micros (at_one_second ∷ [])
unfolding capture_of format_of record_fault frames_from little_endian_at big_endian_at
not_looked_at = refl

raw_ip : capture_of 1 (slice_set file 20 101) ≡ Err (LinkType 101)
unfolding capture_of format_of record_fault frames_from little_endian_at big_endian_at
raw_ip = refl

ethernet_with_a_check_sequence : capture_of 1 (slice_set file 23 0x24) ≡ micros (at_one_second ∷ [])
unfolding capture_of format_of record_fault frames_from little_endian_at big_endian_at
ethernet_with_a_check_sequence = refl

no_room : capture_of 0 file ≡ Err TooManyFrames
unfolding capture_of format_of record_fault frames_from little_endian_at big_endian_at
no_room = refl

first_place : frame_number (at_one_second ∷ []) 1 ≡ at_one_second
first_place = refl

-- the same frame at one second and five nanoseconds, the most significant byte of each number first
abbrev big_endian_nanos : List ℕ
big_endian_nanos =
    0xa1 ∷ 0xb2 ∷ 0x3c ∷ 0x4d ∷ 0 ∷ 2 ∷ 0 ∷ 4 ∷ 0 ∷ 0 ∷ 0 ∷ 0 ∷ 0 ∷ 0 ∷ 0 ∷ 0 ∷ 0 ∷ 4 ∷ 0 ∷ 0 ∷ 0 ∷ 0 ∷ 0 ∷ 1 ∷
    0 ∷ 0 ∷ 0 ∷ 1 ∷ 0 ∷ 0 ∷ 0 ∷ 5 ∷ 0 ∷ 0 ∷ 0 ∷ 60 ∷ 0 ∷ 0 ∷ 0 ∷ 60 ∷ ethernet_frame

in_big_endian_nanoseconds : capture_of 1 big_endian_nanos ≡ nanos (record { time = 1000000005; bytes = ethernet_frame } ∷ [])
unfolding capture_of format_of record_fault frames_from little_endian_at big_endian_at
in_big_endian_nanoseconds = refl

in_big_endian_microseconds :
    capture_of 1 (slice_set (slice_set big_endian_nanos 2 0xc3) 3 0xd4) ≡ micros (record { time = 1000005000; bytes = ethernet_frame } ∷ [])
unfolding capture_of format_of record_fault frames_from little_endian_at big_endian_at
in_big_endian_microseconds = refl

in_little_endian_nanoseconds : capture_of 1 (slice_set (slice_set file 0 0x4d) 1 0x3c) ≡ nanos (at_one_second ∷ [])
unfolding capture_of format_of record_fault frames_from little_endian_at big_endian_at
in_little_endian_nanoseconds = refl

-- the section header block with which a file of pcapng begins
pcapng : capture_of 1 (0x0a ∷ 0x0d ∷ 0x0d ∷ 0x0a ∷ replicate 96 0) ≡ Err Magic
unfolding capture_of format_of little_endian_at big_endian_at
pcapng = refl

-- the version is looked at before the link type, and the length before the bytes and the fraction
other_version_and_link_type : capture_of 1 (slice_set (slice_set file 4 3) 20 101) ≡ Err (Version 3 4)
unfolding capture_of format_of little_endian_at big_endian_at
other_version_and_link_type = refl

too_long_and_cut : capture_of 1 (slice_set (with_fraction 0x40) 34 5) ≡ Err (TooLong 24 327740)
unfolding capture_of format_of record_fault frames_from little_endian_at big_endian_at
too_long_and_cut = refl

cut_with_a_fraction_of_a_second : capture_of 1 (take 99 (with_fraction 0x40)) ≡ Err (ShortRecord 24)
unfolding capture_of format_of record_fault frames_from little_endian_at big_endian_at
cut_with_a_fraction_of_a_second = refl

-- a record for which there is no room isn't looked at
no_room_for_a_cut_record : capture_of 1 (file ++ drop 24 (take 99 file)) ≡ Err TooManyFrames
unfolding capture_of format_of record_fault frames_from little_endian_at big_endian_at
no_room_for_a_cut_record = refl

the_second_record_is_cut : capture_of 2 (file ++ drop 24 (take 99 file)) ≡ Err (ShortRecord 100)
unfolding capture_of format_of record_fault frames_from little_endian_at big_endian_at
the_second_record_is_cut = refl

-- ---- written

one_frame_written : file_of false (at_one_second ∷ []) ≡ file
unfolding header record_header
one_frame_written = refl

header_alone_written : file_of false [] ≡ file_header
unfolding header
header_alone_written = refl

-- a file in nanoseconds differs in its magic number
nanos_header : header true ≡ 0x4d ∷ 0x3c ∷ 0xb2 ∷ 0xa1 ∷ drop 4 file_header
unfolding header
nanos_header = refl

five_nanoseconds_written : record_of true (record { time = 1000000005; bytes = 7 ∷ 8 ∷ [] })
    ≡ 1 ∷ 0 ∷ 0 ∷ 0 ∷ 5 ∷ 0 ∷ 0 ∷ 0 ∷ 2 ∷ 0 ∷ 0 ∷ 0 ∷ 2 ∷ 0 ∷ 0 ∷ 0 ∷ 7 ∷ 8 ∷ []
unfolding record_header
five_nanoseconds_written = refl

-- 0x0307 seconds and 0x0201 microseconds, and 999 nanoseconds that no microsecond holds
nanoseconds_are_cut : record_of false (record { time = 775000513999; bytes = [] })
    ≡ 7 ∷ 3 ∷ 0 ∷ 0 ∷ 1 ∷ 2 ∷ 0 ∷ 0 ∷ replicate 8 0
unfolding record_header
nanoseconds_are_cut = refl
