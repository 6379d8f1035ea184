-- Records that stand one after the other in the bytes of a file, as they are written.
use Rattle.std.proofs.Common.{get_or, map, ◌≡◌, ℕ, suc, ◌-◌, ◌+◌, ◌*◌, ◌/◌, ◌%◌, ◌≤◌, ◌<◌, Bool, true, false, None, List, [], ◌∷◌, ◌++◌, length, take, drop, sym, ap, ap₂, ◌∙◌, inl, inr, arith}
use Rattle.std.specs.List.{flat_map}
use Rattle.std.specs.Int.{from_le_bytes, w32}
use Rattle.std.proofs.lemmas.Bool.{cases_lt}
use Rattle.std.proofs.lemmas.Bool.Decides.{nat_tests}
use Rattle.std.proofs.lemmas.Nat.{le_bytes_4}
use Rattle.std.proofs.lemmas.List.{drop-drop, flat_map_more, get_or-drop, get_or-map, get_or-take, get_or_past, length-drop, length-map, length-take-le}
use Rattle.std.proofs.Math.Seq.{take-add, take-suc}
use Rattle.spec_base.specs.Bytes.{little_endian, little_endian_at}
use Rattle.spec_pcap.specs.declared.format.Format.{Format}
use Rattle.spec_pcap.specs.declared.format.ByteOrder.TheVariants.{LittleEndian}
use Rattle.spec_pcap.specs.Pcap.{Frame, second, unit_of, number_at, record_fault, record_frame, record_header, record_header_length, record_of, captured_at, fraction_at, seconds_at}
use Rattle.pcap_files.proofs.reader.Walk.{header-within, after-within}

-- ---- the header of a record that is as it is written

module _ (bytes : List ℕ) (small : (i : ℕ) → get_or bytes i 0 < 256) where
  abbrev four : ℕ → List ℕ
  four at = take 4 (drop at bytes)

  -- a number's bytes are those that are written of it
  number_bytes : (at : ℕ) → at + 4 ≤ length bytes → four at ≡ little_endian 4 (little_endian_at 4 bytes at)
  unfolding little_endian_at
  number_bytes at within = sym (le_bytes_4 (four at) _ long each value)
    where
      long : length (four at) ≡ 4
      long = length-take-le 4 (drop at bytes) (omega (arith, length-drop at bytes, within))

      byte : (i : ℕ) → i < 4 → get_or (four at) i 0 ≡ get_or bytes (at + i) 0
      byte i lt = get_or-take 4 (drop at bytes) i 0 lt ∙ get_or-drop at bytes i 0

      each : (i : ℕ) → get_or (four at) i 0 < 256
      each i =
          elim (cases_lt i 4) [
            | inl lt ↦ rw (byte i lt) (small (at + i))
            | inr past ↦ rw (get_or_past (four at) i 0 (omega (arith, long, past))) (omega arith)
          ]

      at_0 : get_or (four at) 0 0 ≡ get_or bytes at 0
      at_0 = byte 0 (omega arith) ∙ ap (λ (k : ℕ). get_or bytes k 0) (omega arith)

      at_2 : get_or (four at) 2 0 ≡ get_or bytes (at + 1 + 1) 0
      at_2 = byte 2 (omega arith) ∙ ap (λ (k : ℕ). get_or bytes k 0) (omega arith)

      at_3 : get_or (four at) 3 0 ≡ get_or bytes (at + 1 + 1 + 1) 0
      at_3 = byte 3 (omega arith) ∙ ap (λ (k : ℕ). get_or bytes k 0) (omega arith)

      value : little_endian_at 4 bytes at ≡ from_le_bytes w32 (four at)
      value = omega (arith, at_0, byte 1 (omega arith), at_2, at_3)

  -- two numbers, one after the other
  two_numbers : (at n : ℕ) → at + 4 + n ≤ length bytes
      → take (4 + n) (drop at bytes) ≡ little_endian 4 (little_endian_at 4 bytes at) ++ take n (drop (at + 4) bytes)
  two_numbers at n within =
      take-add 4 n (drop at bytes)
      ∙ ap₂ (λ (a b : List ℕ). a ++ b) (number_bytes at (omega (arith, within))) (ap (take n) (drop-drop 4 at bytes))

  -- the sixteen bytes of a header
  header_bytes : (at : ℕ) → at + 16 ≤ length bytes
      → take 16 (drop at bytes)
      ≡ little_endian 4 (little_endian_at 4 bytes at) ++ (little_endian 4 (little_endian_at 4 bytes (at + 4))
      ++ (little_endian 4 (little_endian_at 4 bytes (at + 8)) ++ little_endian 4 (little_endian_at 4 bytes (at + 12))))
  header_bytes at within =
      let number : ℕ → List ℕ = λ (k : ℕ). little_endian 4 (little_endian_at 4 bytes (at + k)) in
      let third : take 8 (drop (at + 8) bytes) ≡ number 8 ++ number 12 =
      two_numbers (at + 8) 4 (omega (arith, within))
      ∙ ap (λ (k : ℕ). number 8 ++ take 4 (drop k bytes)) (omega arith)
      ∙ ap (λ (last : List ℕ). number 8 ++ last) (number_bytes (at + 12) (omega (arith, within))) in
      let second : take 12 (drop (at + 4) bytes) ≡ number 4 ++ (number 8 ++ number 12) =
      two_numbers (at + 4) 8 (omega (arith, within))
      ∙ ap (λ (k : ℕ). number 4 ++ take 8 (drop k bytes)) (omega arith)
      ∙ ap (λ (rest : List ℕ). number 4 ++ rest) third in
      two_numbers at 12 (omega (arith, within))
      ∙ ap (λ (rest : List ℕ). little_endian 4 (little_endian_at 4 bytes at) ++ rest) second

-- the seconds of a time, and the fraction that is left
whole_seconds : (nanos : Bool) (s f : ℕ) → f * unit_of nanos < second → (s * second + f * unit_of nanos) / second ≡ s
whole_seconds true s f below = omega (arith, below)
whole_seconds false s f below = omega (arith, below)

fraction_left : (nanos : Bool) (s f : ℕ) → f * unit_of nanos < second
    → (s * second + f * unit_of nanos) % second / unit_of nanos ≡ f
fraction_left true s f below = omega (arith, below)
fraction_left false s f below = omega (arith, below)

fraction_below : (format : Format) (bytes : List ℕ) (at : ℕ) → record_fault format bytes at ≡ None
    → fraction_at format bytes at * unit_of format.nanos < second
unfolding record_fault
fraction_below format bytes at whole = grind (arith, nat_tests)

-- A header in the order and the unit of what is written, whose two lengths are the same, is the one that is written.
header_written : (format : Format) (bytes : List ℕ) (at : ℕ) → ((i : ℕ) → get_or bytes i 0 < 256)
    → format.order ≡ LittleEndian → record_fault format bytes at ≡ None
    → captured_at format bytes at ≡ number_at format.order 4 bytes (at + 12)
    → take record_header_length (drop at bytes)
    ≡ record_header format.nanos (record_frame format bytes at).time (captured_at format bytes at)
unfolding record_header
header_written format bytes at small little whole lengths =
    let within = header-within format bytes at whole in
    let below = fraction_below format bytes at whole in
    let seconds = whole_seconds format.nanos (seconds_at format bytes at) (fraction_at format bytes at) below in
    let fraction = fraction_left format.nanos (seconds_at format bytes at) (fraction_at format bytes at) below in
    rw (seconds, fraction) (header_little within ∙ ap numbers (sym lengths))
  where
    -- the numbers of the header, with this one as the last
    numbers : ℕ → List ℕ
    numbers last =
        little_endian 4 (seconds_at format bytes at) ++ (little_endian 4 (fraction_at format bytes at)
        ++ (little_endian 4 (captured_at format bytes at) ++ little_endian 4 last))

    header_little : at + 16 ≤ length bytes → take 16 (drop at bytes) ≡ numbers (number_at format.order 4 bytes (at + 12))
    header_little within = rw little (header_bytes bytes small at within)

-- A record is its header and the bytes of its frame.
record_split : (format : Format) (bytes : List ℕ) (at : ℕ)
    → take (record_header_length + captured_at format bytes at) (drop at bytes)
    ≡ take record_header_length (drop at bytes) ++ (record_frame format bytes at).bytes
record_split format bytes at =
    take-add record_header_length (captured_at format bytes at) (drop at bytes)
    ∙ ap (λ (rest : List ℕ). take record_header_length (drop at bytes) ++ take (captured_at format bytes at) rest)
    (drop-drop record_header_length at bytes)

-- A whole record's frame has as many bytes as the record says.
frame_length : (format : Format) (bytes : List ℕ) (at : ℕ) → record_fault format bytes at ≡ None
    → length (record_frame format bytes at).bytes ≡ captured_at format bytes at
frame_length format bytes at whole =
    let within = after-within format bytes at whole in
    let left = length-drop (at + record_header_length) bytes in
    length-take-le (captured_at format bytes at) (drop (at + record_header_length) bytes) (omega (arith, within, left))

-- So a record that begins with such a header is the one that is written of its frame.
pub record_written : (format : Format) (bytes : List ℕ) (at : ℕ) (nanos : Bool) → ((i : ℕ) → get_or bytes i 0 < 256)
    → format.order ≡ LittleEndian → format.nanos ≡ nanos → record_fault format bytes at ≡ None
    → captured_at format bytes at ≡ number_at format.order 4 bytes (at + 12)
    → take (record_header_length + captured_at format bytes at) (drop at bytes) ≡ record_of nanos (record_frame format bytes at)
record_written format bytes at nanos small little unit whole lengths =
    let frame = record_frame format bytes at in
    let long = frame_length format bytes at whole in
    let header : take record_header_length (drop at bytes) ≡ record_header nanos frame.time (length frame.bytes) =
    header_written format bytes at small little whole lengths
    ∙ ap (λ (n : Bool). record_header n frame.time (captured_at format bytes at)) unit
    ∙ ap (record_header nanos frame.time) (sym long) in
    record_split format bytes at ∙ ap (λ (h : List ℕ). h ++ frame.bytes) header

-- ---- records one after the other

-- The frames from a place on, and one more.
frames_more : {X : Type 0} (frames : List X) (first count : ℕ) (d : X) → first + count < length frames
    → take (count + 1) (drop first frames) ≡ take count (drop first frames) ++ get_or frames (first + count) d ∷ []
frames_more frames first count d within =
    let left = length-drop first frames in
    let one : count + 1 ≡ suc count = omega arith in
    ap (λ (n : ℕ). take n (drop first frames)) one
    ∙ take-suc (drop first frames) count d (omega (arith, left, within))
    ∙ ap (λ x. take count (drop first frames) ++ x ∷ []) (get_or-drop first frames count d)

module _ (format : Format) (bytes starts : List ℕ) (nanos : Bool) where
  -- From one offset to another stand the records of frames, as they are written.
  abbrev pub AreAsWritten : ℕ → ℕ → ℕ → ℕ → Type 0
  AreAsWritten begin end first count =
      take (end - begin) (drop begin bytes)
      ≡ flat_map (record_of nanos) (take count (drop first (map (record_frame format bytes) starts)))

  pub written_more : (begin at first count n d : ℕ) → begin ≤ at → first + count < length starts
      → at ≡ get_or starts (first + count) d
      → n ≡ captured_at format bytes at
      → take (record_header_length + captured_at format bytes at) (drop at bytes) ≡ record_of nanos (record_frame format bytes at)
      → AreAsWritten begin at first count → AreAsWritten begin (at + record_header_length + n) first (count + 1)
  written_more begin at first count n d order within is number written before =
      let frames = map (record_frame format bytes) starts in
      let long : (at + record_header_length + n) - begin ≡ (at - begin) + (record_header_length + n) = omega (arith, order) in
      let there : begin + (at - begin) ≡ at = omega (arith, order) in
      let one : take (record_header_length + n) (drop (at - begin) (drop begin bytes)) ≡ record_of nanos (record_frame format bytes at) =
      ap (take (record_header_length + n)) (drop-drop (at - begin) begin bytes ∙ ap (λ (k : ℕ). drop k bytes) there)
      ∙ ap (λ (k : ℕ). take (record_header_length + k) (drop at bytes)) number ∙ written in
      let many = length-map starts (record_frame format bytes) in
      let frame : get_or frames (first + count) (record_frame format bytes d) ≡ record_frame format bytes at =
      get_or-map (record_frame format bytes) starts (first + count) d (record_frame format bytes d) within
      ∙ ap (record_frame format bytes) (sym is) in
      let more = frames_more frames first count (record_frame format bytes d) (omega (arith, many, within)) in
      ap (λ (k : ℕ). take k (drop begin bytes)) long
      ∙ take-add (at - begin) (record_header_length + n) (drop begin bytes)
      ∙ ap₂ (λ (a b : List ℕ). a ++ b) before one
      ∙ flat_map_more (record_of nanos) [] (take count (drop first frames)) (record_frame format bytes at)
      ∙ ap (λ (x : Frame). flat_map (record_of nanos) (take count (drop first frames) ++ x ∷ [])) (sym frame)
      ∙ ap (flat_map (record_of nanos)) (sym more)

-- No record at all.
pub none_written : (bytes : List ℕ) (begin : ℕ) → take (begin - begin) (drop begin bytes) ≡ []
none_written bytes begin =
    let none : begin - begin ≡ 0 = omega arith in
    ap (λ (n : ℕ). take n (drop begin bytes)) none
