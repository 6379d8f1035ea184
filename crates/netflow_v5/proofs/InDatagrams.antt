-- The datagrams of records, one after the other.
use Rattle.std.proofs.Common.{◌≡◌, ℕ, ◌+◌, ◌-◌, ◌*◌, ◌<◌, List, ◌++◌, length, length-drop, get_or, take, drop, min, sym, ap, ◌∙◌, arith}
use Rattle.std.specs.List.{flat_map, range_with_len}
use Rattle.std.proofs.lemmas.List.{take_min}
use Rattle.std.proofs.lemmas.List.FromFn.{get_or-range_with_len, length-range_with_len}
use Rattle.spec_netflow.specs.declared.flow_record.FlowRecord.{FlowRecord}
use Rattle.spec_netflow.specs.declared.export_time.ExportTime.{ExportTime}
use Rattle.spec_netflow.specs.Datagrams.{most_records, header, record_bytes, records_of, datagram, datagram_count}

module _ (now : ExportTime) (records : List FlowRecord) (number : ℕ) where
  -- the numbers of the datagrams
  abbrev pub numbers : List ℕ
  numbers = range_with_len 0 (datagram_count (length records))

  abbrev before : ℕ
  before = number * most_records

  -- the records up to an index or to the end are those of the datagram
  these : (last : ℕ) → last ≡ min (length records) (before + most_records) → take (last - before) (drop before records) ≡ records_of records number
  these last is =
      let left = length-drop before records in
      let same : last - before ≡ min most_records (length (drop before records)) = omega (arith, is, left) in
      ap (λ (n : ℕ). take n (drop before records)) same ∙ take_min most_records (drop before records)

  module _ (lt : number < datagram_count (length records)) where
    pub within : number < length numbers
    within = let all = length-range_with_len 0 (datagram_count (length records)) in omega (arith, lt, all)

    number_there : get_or numbers number 0 ≡ number
    number_there = get_or-range_with_len 0 (datagram_count (length records)) number 0 lt ∙ omega arith

    pub filled : (last : ℕ) → last ≡ min (length records) (before + most_records) → (bytes : List ℕ)
        → bytes ≡ header now (length (take (last - before) (drop before records))) before ++ flat_map record_bytes (take (last - before) (drop before records))
        → bytes ≡ datagram now records (get_or numbers number 0)
    filled last is bytes made =
        made ∙ ap (λ (rs : List FlowRecord). header now (length rs) before ++ flat_map record_bytes rs) (these last is)
        ∙ ap (datagram now records) (sym number_there)
