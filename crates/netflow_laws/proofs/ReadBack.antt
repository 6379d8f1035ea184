-- Reading datagrams that were written, one after the other.
use Rattle.std.proofs.Common.{◌≡◌, ℕ, zero, suc, ◌+◌, ◌-◌, ◌*◌, ◌^◌, ◌<◌, ◌≤◌, min, false, true, List, [], ◌∷◌, ◌++◌, length, map, drop, All, refl, sym, ap, ap₂, ◌∙◌, append_assoc, arith}
use Rattle.std.specs.Prelude.{◌==◌, nat_le, nat_lt, Ok, None, Result}
use Rattle.std.specs.List.{flat_map, range_with_len}
use Rattle.std.proofs.lemmas.Bool.{le-ltb, lt-leb, le-leb, ne_eqb, eq-eqb}
use Rattle.std.proofs.lemmas.Nat.{from_be_bytes-to_be_bytes_2, from_be_bytes-to_be_bytes_4}
use Rattle.std.proofs.lemmas.List.{get_or-append-add, length-append, length-take, length-drop, drop-drop, drop_all, take-append-drop}
use Rattle.std.proofs.lemmas.List.Elements.{All-head, All-tail, All-take, All-drop}
use Rattle.spec_base.specs.Bytes.{big_endian_at}
use Rattle.spec_netflow.specs.declared.flow_record.FlowRecord.{FlowRecord}
use Rattle.spec_netflow.specs.declared.export_time.ExportTime.{ExportTime}
use Rattle.spec_netflow.specs.declared.fault.NetflowFault.{NetflowFault}
use Rattle.spec_netflow.specs.Datagrams.{version, most_records, header_size, record_size, header, record_bytes, records_of, datagram, datagram_count, datagrams, version_at, count_at, sequence_at, datagram_fault, record_at, records_at, flows_from, flows_in}
use Rattle.netflow_laws.specs.Widths.{IsWithin}

-- a number after a prefix is the number in the rest
big_endian_at-append : (n : ℕ) (prefix rest : List ℕ) (at : ℕ) → big_endian_at n (prefix ++ rest) (length prefix + at) ≡ big_endian_at n rest at
unfolding big_endian_at
big_endian_at-append zero prefix rest at = refl
big_endian_at-append (suc n) prefix rest at =
    let next : length prefix + at + 1 ≡ length prefix + (at + 1) = omega arith in
    rw (get_or-append-add prefix rest at 0, next, big_endian_at-append n prefix rest (at + 1)) refl

-- ---- a record

length-record_bytes : (r : FlowRecord) → length (record_bytes r) ≡ record_size
unfolding record_bytes
length-record_bytes r = refl

length-records : (rs : List FlowRecord) → length (flat_map record_bytes rs) ≡ length rs * record_size
length-records [] = refl
length-records (r ∷ rs) = omega (arith, length-append (record_bytes r) (flat_map record_bytes rs), length-record_bytes r, length-records rs)

-- one that stands in front
record_there : (r : FlowRecord) (rest : List ℕ) → IsWithin r → record_at (record_bytes r ++ rest) 0 ≡ r
unfolding record_at record_bytes big_endian_at
record_there r rest within =
    let src_is : big_endian_at 4 (record_bytes r ++ rest) 0 ≡ r.src = omega (arith, from_be_bytes-to_be_bytes_4 r.src within.src) in
    let dst_is : big_endian_at 4 (record_bytes r ++ rest) 4 ≡ r.dst = omega (arith, from_be_bytes-to_be_bytes_4 r.dst within.dst) in
    let input_is : big_endian_at 2 (record_bytes r ++ rest) 12 ≡ r.input = omega (arith, from_be_bytes-to_be_bytes_2 r.input within.input) in
    let output_is : big_endian_at 2 (record_bytes r ++ rest) 14 ≡ r.output = omega (arith, from_be_bytes-to_be_bytes_2 r.output within.output) in
    let packets_is : big_endian_at 4 (record_bytes r ++ rest) 16 ≡ r.packets = omega (arith, from_be_bytes-to_be_bytes_4 r.packets within.packets) in
    let octets_is : big_endian_at 4 (record_bytes r ++ rest) 20 ≡ r.octets = omega (arith, from_be_bytes-to_be_bytes_4 r.octets within.octets) in
    let first_is : big_endian_at 4 (record_bytes r ++ rest) 24 ≡ r.first = omega (arith, from_be_bytes-to_be_bytes_4 r.first within.first) in
    let last_is : big_endian_at 4 (record_bytes r ++ rest) 28 ≡ r.last = omega (arith, from_be_bytes-to_be_bytes_4 r.last within.last) in
    let sport_is : big_endian_at 2 (record_bytes r ++ rest) 32 ≡ r.sport = omega (arith, from_be_bytes-to_be_bytes_2 r.sport within.sport) in
    let dport_is : big_endian_at 2 (record_bytes r ++ rest) 34 ≡ r.dport = omega (arith, from_be_bytes-to_be_bytes_2 r.dport within.dport) in
    λ i. record {
      src = src_is i;
      dst = dst_is i;
      input = input_is i;
      output = output_is i;
      packets = packets_is i;
      octets = octets_is i;
      first = first_is i;
      last = last_is i;
      sport = sport_is i;
      dport = dport_is i;
      flags = r.flags;
      proto = r.proto;
      tos = r.tos;
    }

-- one that stands after a prefix
record_at-append : (prefix rest : List ℕ) → record_at (prefix ++ rest) (length prefix) ≡ record_at rest 0
unfolding record_at
record_at-append prefix rest =
    let here : length prefix ≡ length prefix + 0 = omega arith in
    λ i. record {
      src = (ap (big_endian_at 4 (prefix ++ rest)) here ∙ big_endian_at-append 4 prefix rest 0) i;
      dst = big_endian_at-append 4 prefix rest 4 i;
      input = big_endian_at-append 2 prefix rest 12 i;
      output = big_endian_at-append 2 prefix rest 14 i;
      packets = big_endian_at-append 4 prefix rest 16 i;
      octets = big_endian_at-append 4 prefix rest 20 i;
      first = big_endian_at-append 4 prefix rest 24 i;
      last = big_endian_at-append 4 prefix rest 28 i;
      sport = big_endian_at-append 2 prefix rest 32 i;
      dport = big_endian_at-append 2 prefix rest 34 i;
      flags = get_or-append-add prefix rest 37 0 i;
      proto = get_or-append-add prefix rest 38 0 i;
      tos = get_or-append-add prefix rest 39 0 i;
    }

-- records that stand after a prefix, one after the other
module _ (bytes : List ℕ) (begin : ℕ) (rest : List ℕ) where
  records_there : (rs : List FlowRecord) (prefix : List ℕ) (index : ℕ) → All IsWithin rs
      → bytes ≡ prefix ++ (flat_map record_bytes rs ++ rest) → length prefix ≡ begin + index * record_size
      → map (λ k. record_at bytes (begin + k * record_size)) (range_with_len index (length rs)) ≡ rs
  records_there [] prefix index within is long = refl
  records_there (r ∷ rs) prefix index within is long =
      let after = flat_map record_bytes rs in
      let apart : bytes ≡ prefix ++ (record_bytes r ++ (after ++ rest)) =
      is ∙ ap (λ (bs : List ℕ). prefix ++ bs) (append_assoc (record_bytes r) after rest) in
      let first : record_at bytes (begin + index * record_size) ≡ r =
      ap₂ record_at apart (sym long) ∙ record_at-append prefix (record_bytes r ++ (after ++ rest))
      ∙ record_there r (after ++ rest) (All-head IsWithin r rs within) in
      let longer : length (prefix ++ record_bytes r) ≡ begin + (index + 1) * record_size =
      omega (arith, length-append prefix (record_bytes r), length-record_bytes r, long) in
      let others = records_there rs (prefix ++ record_bytes r) (index + 1) (All-tail IsWithin r rs within)
      (apart ∙ sym (append_assoc prefix (record_bytes r) (after ++ rest))) longer in
      ap₂ (λ (x : FlowRecord) (xs : List FlowRecord). x ∷ xs) first others

-- ---- a header

module _ (now : ExportTime) (count before : ℕ) where
  abbrev head : List ℕ
  head = header now count before

  length-head : length head ≡ header_size
  unfolding header
  length-head = refl

  version_there : (rest : List ℕ) → big_endian_at 2 (head ++ rest) 0 ≡ version
  unfolding header big_endian_at
  version_there rest = refl

  count_there : (rest : List ℕ) → count < 2 ^ 16 → big_endian_at 2 (head ++ rest) 2 ≡ count
  unfolding header big_endian_at
  count_there rest fits = omega (arith, from_be_bytes-to_be_bytes_2 count fits)

  sequence_there : (rest : List ℕ) → before < 2 ^ 32 → big_endian_at 4 (head ++ rest) 16 ≡ before
  unfolding header big_endian_at
  sequence_there rest fits = omega (arith, from_be_bytes-to_be_bytes_4 before fits)

-- ---- a datagram that stands after a prefix

module _ (now : ExportTime) (these : List FlowRecord) (before : ℕ) (prefix rest : List ℕ) where
  abbrev begin : List ℕ
  begin = header now (length these) before

  abbrev written : List ℕ
  written = flat_map record_bytes these

  abbrev bytes : List ℕ
  bytes = prefix ++ ((begin ++ written) ++ rest)

  abbrev place : ℕ
  place = length prefix

  -- where the next one stands
  abbrev next : ℕ
  next = place + header_size + length these * record_size

  apart : bytes ≡ prefix ++ (begin ++ (written ++ rest))
  apart = ap (λ (bs : List ℕ). prefix ++ bs) (append_assoc begin written rest)

  length-begin : length begin ≡ header_size
  length-begin = length-head now (length these) before

  length-past : length (prefix ++ (begin ++ written)) ≡ next
  length-past = omega (arith, length-append prefix (begin ++ written), length-append begin written, length-begin, length-records these)

  length-bytes : length bytes ≡ next + length rest
  length-bytes =
      let all = length-append prefix ((begin ++ written) ++ rest) in
      let in_datagram = length-append (begin ++ written) rest in
      omega (arith, all, in_datagram, length-append begin written, length-begin, length-records these)

  version_is : version_at bytes place ≡ version
  version_is =
      let here : place ≡ place + 0 = omega arith in
      ap₂ (big_endian_at 2) apart here ∙ big_endian_at-append 2 prefix (begin ++ (written ++ rest)) 0
      ∙ version_there now (length these) before (written ++ rest)

  module _ (some : 1 ≤ length these) (few : length these ≤ most_records) (fits : before < 2 ^ 32) where
    count_is : count_at bytes place ≡ length these
    count_is =
        ap (λ (bs : List ℕ). big_endian_at 2 bs (place + 2)) apart ∙ big_endian_at-append 2 prefix (begin ++ (written ++ rest)) 2
        ∙ count_there now (length these) before (written ++ rest) (omega (arith, few))

    sequence_is : sequence_at bytes place ≡ before
    sequence_is =
        ap (λ (bs : List ℕ). big_endian_at 4 bs (place + 16)) apart ∙ big_endian_at-append 4 prefix (begin ++ (written ++ rest)) 16
        ∙ sequence_there now (length these) before (written ++ rest) fits

    no_fault : datagram_fault bytes place before ≡ None
    unfolding datagram_fault
    no_fault =
        let header_in : nat_lt (length bytes) (place + header_size) ≡ false = le-ltb _ _ (omega (arith, length-bytes)) in
        let not_zero : (length these == 0) ≡ false = ne_eqb _ _ (λ e. omega (arith, e, some)) in
        let not_more : nat_lt most_records (length these) ≡ false = le-ltb _ _ few in
        let in_turn : (before == before) ≡ true = eq-eqb before before refl in
        let all_in : nat_lt (length bytes) next ≡ false = le-ltb _ _ (omega (arith, length-bytes)) in
        rw (header_in, version_is, count_is, not_zero, not_more, sequence_is, in_turn, all_in) refl

    records_are : All IsWithin these → records_at bytes place ≡ these
    records_are within =
        let to_records : bytes ≡ (prefix ++ begin) ++ (written ++ rest) = apart ∙ sym (append_assoc prefix begin (written ++ rest)) in
        let long : length (prefix ++ begin) ≡ place + header_size + 0 * record_size =
        omega (arith, length-append prefix begin, length-begin) in
        ap (λ (n : ℕ). map (λ k. record_at bytes (place + header_size + k * record_size)) (range_with_len 0 n)) count_is
        ∙ records_there bytes (place + header_size) rest these (prefix ++ begin) 0 within to_records long

    more : nat_le (length bytes) place ≡ false
    more = lt-leb _ _ (omega (arith, length-bytes))

    -- its records are read, and then what follows
    one_read : All IsWithin these → (room : ℕ) (others : List FlowRecord)
        → flows_from room bytes next (before + length these) ≡ Ok others
        → flows_from (suc room) bytes place before ≡ Ok (these ++ others)
    unfolding flows_from
    one_read within room others read = rw (more, no_fault, records_are within, count_is, read) refl

-- ---- all of them

module _ (now : ExportTime) (records : List FlowRecord) (within : All IsWithin records) (fits : length records ≤ 2 ^ 32) where
  -- the last datagrams, from one on
  abbrev from : ℕ → ℕ → List ℕ
  from number left = flat_map (datagram now records) (range_with_len number left)

  abbrev ahead : ℕ → ℕ
  ahead number = number * most_records

  abbrev these_of : ℕ → List FlowRecord
  these_of number = records_of records number

  length-these : (number : ℕ) → length (these_of number) ≡ min most_records (length records - ahead number)
  length-these number =
      let left = length-drop (ahead number) records in
      omega (arith, length-take most_records (drop (ahead number) records), left)

  these-within : (number : ℕ) → All IsWithin (these_of number)
  these-within number = All-take IsWithin most_records (drop (ahead number) records) (All-drop IsWithin (ahead number) records within)

  together : (number : ℕ) → these_of number ++ drop (ahead (number + 1)) records ≡ drop (ahead number) records
  together number =
      let next : ahead (number + 1) ≡ ahead number + most_records = omega arith in
      ap (λ (n : ℕ). these_of number ++ drop n records) next
      ∙ ap (λ (rs : List FlowRecord). these_of number ++ rs) (sym (drop-drop most_records (ahead number) records))
      ∙ take-append-drop most_records (drop (ahead number) records)

  abbrev Read : Type 0
  Read = Result (List FlowRecord) NetflowFault

  none_left : (number : ℕ) → length records ≤ ahead number → (let is : Read = Ok [] in is) ≡ Ok (drop (ahead number) records)
  none_left number past = ap (λ (rs : List FlowRecord). let is : Read = Ok rs in is) (sym (drop_all (ahead number) records past))

  -- the count of those before is that of full datagrams, but after the last one
  all_read : (left number room before : ℕ) (prefix : List ℕ) → number + left ≡ datagram_count (length records)
      → before ≡ min (ahead number) (length records) → length (prefix ++ from number left) ≤ length prefix + room
      → flows_from room (prefix ++ from number left) (length prefix) before ≡ Ok (drop (ahead number) records)
  unfolding flows_from
  all_read zero number zero before prefix last is enough = none_left number (omega (arith, last))
  all_read zero number (suc room) before prefix last is enough =
      let end : nat_le (length (prefix ++ [])) (length prefix) ≡ true = le-leb _ _ (omega (arith, length-append prefix [])) in
      rw end (none_left number (omega (arith, last)))
  all_read (suc left) number zero before prefix last is enough =
      absurd (omega (arith, enough, length-bytes now (these_of number) (ahead number) prefix (from (number + 1) left)))
  all_read (suc left) number (suc room) before prefix last is enough =
      let these = these_of number in
      let rest = from (number + 1) left in
      let all = bytes now these (ahead number) prefix rest in
      let count = length-these number in
      let in_turn : before ≡ ahead number = omega (arith, last, is) in
      let passed = prefix ++ datagram now records number in
      let place_is : length passed ≡ next now these (ahead number) prefix rest = length-past now these (ahead number) prefix rest in
      let same : passed ++ rest ≡ all = append_assoc prefix (datagram now records number) rest in
      let long = length-bytes now these (ahead number) prefix rest in
      let others =
      all_read left (number + 1) room (ahead number + length these) passed (omega (arith, last)) (omega (arith, last, count))
      (omega (arith, enough, long, ap length same, place_is)) in
      ap (flows_from (suc room) all (length prefix)) in_turn
      ∙ one_read now these (ahead number) prefix rest (omega (arith, last, count)) (omega (arith, count)) (omega (arith, last, fits))
      (these-within number) room (drop (ahead (number + 1)) records)
      (ap₂ (λ (bs : List ℕ) (at : ℕ). flows_from room bs at (ahead number + length these)) (sym same) (sym place_is) ∙ others)
      ∙ ap (λ (rs : List FlowRecord). let is : Read = Ok rs in is) (together number)

  pub read_back : flows_in (datagrams now records) ≡ Ok records
  unfolding flows_in
  read_back =
      let all = datagrams now records in
      all_read (datagram_count (length records)) 0 (length all) 0 [] (omega arith) (omega arith) (omega arith)
