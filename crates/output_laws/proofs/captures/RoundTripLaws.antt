-- Reading a file that was written, record by record.
use Rattle.std.proofs.Common.{◌≡◌, ℕ, zero, suc, ◌+◌, ◌*◌, ◌/◌, ◌%◌, ◌^◌, ◌<◌, ◌≤◌, Bool, true, false, List, [], ◌∷◌, ◌++◌, length, take, drop, refl, sym, ap, ◌∙◌, append_assoc, arith}
use Rattle.std.specs.Prelude.{◌==◌, nat_le, nat_lt, Ok, None}
use Rattle.std.specs.List.{flat_map}
use Rattle.std.proofs.Math.Seq.{drop-append-add, drop-append_seam, take-append_seam}
use Rattle.std.proofs.lemmas.List.Elements.{recursion_from_All}
use Rattle.std.proofs.lemmas.List.{get_or-append-add, length-append, append-nil}
use Rattle.std.specs.List.{AllByRecursion}
use Rattle.std.proofs.lemmas.Bool.{le-ltb, lt-leb, ne_eqb, eq-eqb}
use Rattle.std.proofs.lemmas.Nat.{from_le_bytes-to_le_bytes_4}
use Rattle.spec_base.specs.Bytes.{little_endian_at, big_endian_at}
use Rattle.spec_pcap.specs.declared.format.Format.{Format}
use Rattle.spec_pcap.specs.declared.format.ByteOrder.TheVariants.{LittleEndian}
use Rattle.spec_pcap.specs.Pcap.{Frame, preceded, second, snap_length, header_length, record_header_length, unit_of, header, record_header, record_of, file_of, format_of, record_fault, record_frame, captured_at, record_end, frames_from}
use Rattle.output_laws.specs.RoundTrip.{IsKept, WrittenIsRead}
use Rattle.pcap_files.proofs.reader.Walk.{Walked, frames_from-end, frames_from-record}
use Rattle.pcap_files.proofs.reader.Captures.{capture_of-frames}

-- a number after a prefix is the number in the rest
little_endian_at-append : (n : ℕ) (prefix rest : List ℕ) (at : ℕ)
    → little_endian_at n (prefix ++ rest) (length prefix + at) ≡ little_endian_at n rest at
unfolding little_endian_at
little_endian_at-append zero prefix rest at = refl
little_endian_at-append (suc n) prefix rest at =
    let next : length prefix + at + 1 ≡ length prefix + (at + 1) = omega arith in
    rw (get_or-append-add prefix rest at 0, next, little_endian_at-append n prefix rest (at + 1)) refl

-- ---- the header of a record

-- the format in which files are written
abbrev written_format : Bool → Format
written_format nanos = record { order = LittleEndian; nanos = nanos }

fraction-fits : (nanos : Bool) (time : ℕ) → time % second / unit_of nanos < 2 ^ 32
fraction-fits true time = omega arith
fraction-fits false time = omega arith

fraction-below : (nanos : Bool) (time : ℕ) → time % second / unit_of nanos * unit_of nanos < second
fraction-below true time = omega arith
fraction-below false time = omega arith

-- a time in whole units is that of its seconds and fraction
whole_time : (nanos : Bool) (time : ℕ) → time % unit_of nanos ≡ 0
    → time / second * second + time % second / unit_of nanos * unit_of nanos ≡ time
whole_time true time units = omega arith
whole_time false time units = omega (arith, units)

module _ (nanos : Bool) where
  abbrev format : Format
  format = written_format nanos

  abbrev head_of : ℕ → ℕ → List ℕ
  head_of time len = record_header nanos time len

  seconds_there : (time len : ℕ) (rest : List ℕ) → time / second < 2 ^ 32 → little_endian_at 4 (head_of time len ++ rest) 0 ≡ time / second
  unfolding little_endian_at record_header
  seconds_there time len rest fits = omega (arith, from_le_bytes-to_le_bytes_4 (time / second) fits)

  fraction_there : (time len : ℕ) (rest : List ℕ) → little_endian_at 4 (head_of time len ++ rest) 4 ≡ time % second / unit_of nanos
  unfolding little_endian_at record_header
  fraction_there time len rest = omega (arith, from_le_bytes-to_le_bytes_4 (time % second / unit_of nanos) (fraction-fits nanos time))

  captured_there : (time len : ℕ) (rest : List ℕ) → len < 2 ^ 32 → little_endian_at 4 (head_of time len ++ rest) 8 ≡ len
  unfolding little_endian_at record_header
  captured_there time len rest fits = omega (arith, from_le_bytes-to_le_bytes_4 len fits)

  length-head_of : (time len : ℕ) → length (head_of time len) ≡ record_header_length
  unfolding record_header
  length-head_of time len = refl

  -- ---- after a prefix stands the record of a frame, and then the rest of a file

  module _ (prefix : List ℕ) (frame : Frame) (rest : List ℕ) where
    abbrev len : ℕ
    len = length frame.bytes

    abbrev head : List ℕ
    head = head_of frame.time len

    abbrev file : List ℕ
    file = prefix ++ (head ++ (frame.bytes ++ rest))

    abbrev place : ℕ
    place = length prefix

    length-head : length head ≡ record_header_length
    length-head = length-head_of frame.time len

    length-file : length file ≡ place + (record_header_length + (len + length rest))
    length-file =
        let in_record = length-append head (frame.bytes ++ rest) in
        omega (arith, length-append prefix (head ++ (frame.bytes ++ rest)), in_record, length-append frame.bytes rest, length-head)

    seconds_is : IsKept nanos frame → little_endian_at 4 file place ≡ frame.time / second
    seconds_is kept =
        let here : place ≡ place + 0 = omega arith in
        ap (little_endian_at 4 file) here ∙ little_endian_at-append 4 prefix (head ++ (frame.bytes ++ rest)) 0
        ∙ seconds_there frame.time len (frame.bytes ++ rest) kept.seconds

    fraction_is : little_endian_at 4 file (place + 4) ≡ frame.time % second / unit_of nanos
    fraction_is =
        little_endian_at-append 4 prefix (head ++ (frame.bytes ++ rest)) 4 ∙ fraction_there frame.time len (frame.bytes ++ rest)

    captured_is : IsKept nanos frame → captured_at format file place ≡ len
    captured_is kept =
        little_endian_at-append 4 prefix (head ++ (frame.bytes ++ rest)) 8
        ∙ captured_there frame.time len (frame.bytes ++ rest) (omega (arith, kept.len))

    bytes_is : take len (drop (place + record_header_length) file) ≡ frame.bytes
    bytes_is =
        let after_head : drop record_header_length (head ++ (frame.bytes ++ rest)) ≡ frame.bytes ++ rest =
        ap (λ (n : ℕ). drop n (head ++ (frame.bytes ++ rest))) (sym length-head) ∙ drop-append_seam head (frame.bytes ++ rest) in
        let after_prefix = drop-append-add prefix (head ++ (frame.bytes ++ rest)) record_header_length in
        ap (take len) (after_prefix ∙ after_head) ∙ take-append_seam frame.bytes rest

    frame_is : IsKept nanos frame → record_frame format file place ≡ frame
    frame_is kept =
        let time_is : little_endian_at 4 file place * second + little_endian_at 4 file (place + 4) * unit_of nanos ≡ frame.time =
        rw (seconds_is kept, fraction_is) (whole_time nanos frame.time kept.units) in
        let bytes_are : take (captured_at format file place) (drop (place + record_header_length) file) ≡ frame.bytes =
        rw (captured_is kept) bytes_is in
        λ i. record { time = time_is i; bytes = bytes_are i }

    after_is : IsKept nanos frame → record_end format file place ≡ place + (record_header_length + len)
    after_is kept = omega (arith, captured_is kept)

    record_is : IsKept nanos frame → record_fault format file place ≡ None
    unfolding record_fault
    record_is kept =
        let header_in : nat_lt (length file) (place + record_header_length) ≡ false = le-ltb _ _ (omega (arith, length-file)) in
        let short : nat_lt snap_length (captured_at format file place) ≡ false = le-ltb _ _ (omega (arith, captured_is kept, kept.len)) in
        let bytes_in : nat_lt (length file) (record_end format file place) ≡ false = le-ltb _ _ (omega (arith, length-file, after_is kept)) in
        let below : nat_le second (little_endian_at 4 file (place + 4) * unit_of nanos) ≡ false =
        rw fraction_is (lt-leb _ _ (fraction-below nanos frame.time)) in
        rw (header_in, short, bytes_in, below) refl

    more_is : (place == length file) ≡ false
    more_is = ne_eqb place (length file) (λ e. omega (arith, length-file))

    -- the file, with the record in front of the rest
    file_is : prefix ++ (record_of nanos frame ++ rest) ≡ file
    file_is = ap (λ (bytes : List ℕ). prefix ++ bytes) (append_assoc head frame.bytes rest)

    next_is : IsKept nanos frame → length (prefix ++ record_of nanos frame) ≡ record_end format file place
    next_is kept =
        let in_record = length-append head frame.bytes in
        omega (arith, length-append prefix (record_of nanos frame), in_record, length-head, after_is kept)

  -- ---- all the records of a file

  written : (prefix : List ℕ) (frames : List Frame) (room : ℕ) → AllByRecursion (IsKept nanos) frames → length frames ≤ room
      → frames_from format room (prefix ++ flat_map (record_of nanos) frames) (length prefix) ≡ Ok frames
  written prefix [] room kept fits =
      frames_from-end format (prefix ++ []) room (length prefix) (eq-eqb _ _ (ap length (sym (append-nil prefix))))
  written prefix (frame ∷ frames) zero kept fits = absurd (omega (arith, fits))
  written prefix (frame ∷ frames) (suc room) kept fits =
      let rest = flat_map (record_of nanos) frames in
      let all = file prefix frame rest in
      let at = length prefix in
      let passed : (prefix ++ record_of nanos frame) ++ rest ≡ all = append_assoc prefix (record_of nanos frame) rest ∙ file_is prefix frame rest in
      let others = written (prefix ++ record_of nanos frame) frames room kept.1 (omega (arith, fits)) in
      let others_there : frames_from format room all (record_end format all at) ≡ Ok frames = rw (passed, next_is prefix frame rest kept.0) at others in
      ap (λ (bytes : List ℕ). frames_from format (suc room) bytes at) (file_is prefix frame rest)
      ∙ frames_from-record format all room at (more_is prefix frame rest) (record_is prefix frame rest kept.0)
      ∙ ap (preceded (record_frame format all at) None) others_there
      ∙ ap (λ (first : Frame). let is : Walked = Ok (first ∷ frames) in is) (frame_is prefix frame rest kept.0)

  -- ---- the header of a file

  length-header : length (header nanos) ≡ header_length
  unfolding header
  length-header = refl

-- the header is that of the format
header_is : (nanos : Bool) (rest : List ℕ) → format_of (header nanos ++ rest) ≡ Ok (written_format nanos)
unfolding header format_of little_endian_at big_endian_at
header_is true rest = rw (le-ltb (length (header true ++ rest)) header_length (omega (arith, length-append (header true) rest))) refl
header_is false rest = rw (le-ltb (length (header false ++ rest)) header_length (omega (arith, length-append (header false) rest))) refl

pub written_is_read : WrittenIsRead
written_is_read nanos frames room kept fits =
    let records = written nanos (header nanos) frames room (recursion_from_All (IsKept nanos) frames kept) fits in
    capture_of-frames room (file_of nanos frames) (written_format nanos) (Ok frames) (header_is nanos (flat_map (record_of nanos) frames))
    (rw (← length-header nanos) records)
