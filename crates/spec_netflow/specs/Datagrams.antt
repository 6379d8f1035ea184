-- Datagrams of NetFlow (Cisco, "NetFlow Export Datagram Formats", version 5), and files of them.
use Rattle.std.specs.Prelude.{ℕ, zero, suc, ◌+◌, ◌*◌, not, ◌||◌, ◌==◌, nat_le, nat_lt, if◌then◌else◌, List, [], ◌∷◌, ◌++◌, length, map, slice_index, take, drop, Option, Some, None, Result, Ok, Err, codes}
use Rattle.std.specs.Int.{div_ceil}
use Rattle.std.specs.List.{flat_map, range_with_len}
use Rattle.spec_base.specs.Bytes.{big_endian, big_endian_at}
use Rattle.spec_base.specs.Files.{File}
use Rattle.spec_case.specs.Run.{Run}
use Rattle.spec_netflow.specs.declared.flow_record.FlowRecord.{FlowRecord}
use Rattle.spec_netflow.specs.declared.export_time.ExportTime.{ExportTime}
use Rattle.spec_netflow.specs.declared.fault.NetflowFault.{NetflowFault}
use Rattle.spec_netflow.specs.declared.fault.NetflowFault.TheVariants.{Short, Version, Count, Sequence}
use Rattle.spec_netflow.specs.Flows.{Decided, export_time, flows}

-- ---- the numbers of the format

abbrev pub version : ℕ
version = 5

-- the most records of a datagram
abbrev pub most_records : ℕ
most_records = 30

-- how many bytes the header of a datagram has, and a record
abbrev pub header_size : ℕ
header_size = 24

abbrev pub record_size : ℕ
record_size = 48

-- ---- what is written, in the byte order of the network

-- the header of a datagram of so many records, with so many records in those before it: version, count, SysUptime,
-- unix_secs, unix_nsecs, flow_sequence, and engine and sampling, which are 0
unfoldable pub header : ExportTime → ℕ → ℕ → List ℕ
header now count before =
    big_endian 2 version ++ (big_endian 2 count ++ (big_endian 4 now.uptime ++ (big_endian 4 now.seconds
    ++ (big_endian 4 now.nanoseconds ++ (big_endian 4 before ++ big_endian 4 0)))))

-- a record: srcaddr, dstaddr, nexthop, input, output, dPkts, dOctets, First, Last, srcport, dstport, pad1, tcp_flags, prot,
-- tos, and autonomous systems, masks and pad2; nexthop and what stands after tos is 0
unfoldable pub record_bytes : FlowRecord → List ℕ
record_bytes r =
    big_endian 4 r.src ++ (big_endian 4 r.dst ++ (big_endian 4 0 ++ (big_endian 2 r.input ++ (big_endian 2 r.output
    ++ (big_endian 4 r.packets ++ (big_endian 4 r.octets ++ (big_endian 4 r.first ++ (big_endian 4 r.last
    ++ (big_endian 2 r.sport ++ (big_endian 2 r.dport ++ ((0 ∷ r.flags ∷ r.proto ∷ r.tos ∷ []) ++ big_endian 8 0)))))))))))

-- the records of a datagram by its number, from 0: all datagrams are full but the last
abbrev pub records_of : List FlowRecord → ℕ → List FlowRecord
records_of records number = take most_records (drop (number * most_records) records)

abbrev pub datagram : ExportTime → List FlowRecord → ℕ → List ℕ
datagram now records number =
    let these = records_of records number in
    header now (length these) (number * most_records) ++ flat_map record_bytes these

abbrev pub datagram_count : ℕ → ℕ
datagram_count records = div_ceil records most_records

-- the datagrams of records, one after the other
abbrev pub datagrams : ExportTime → List FlowRecord → List ℕ
datagrams now records = flat_map (datagram now records) (range_with_len 0 (datagram_count (length records)))

-- the export of a run, by what was decided of its frames
abbrev pub netflow_bytes : Run → Decided → List ℕ
netflow_bytes run decided = datagrams (export_time run) (flows run decided)

-- OUT.netflow
abbrev pub netflow_file : List ℕ → Run → Decided → File
netflow_file out run decided = (out ++ codes ".netflow", netflow_bytes run decided)

-- ---- what is read

abbrev pub version_at : List ℕ → ℕ → ℕ
version_at bytes at = big_endian_at 2 bytes at

abbrev pub count_at : List ℕ → ℕ → ℕ
count_at bytes at = big_endian_at 2 bytes (at + 2)

abbrev pub sequence_at : List ℕ → ℕ → ℕ
sequence_at bytes at = big_endian_at 4 bytes (at + 16)

-- the offset after the datagram at an offset
abbrev pub datagram_end : List ℕ → ℕ → ℕ
datagram_end bytes at = at + header_size + count_at bytes at * record_size

-- what is wrong with the datagram at an offset, which has so many records before it
unfoldable pub datagram_fault : List ℕ → ℕ → ℕ → Option NetflowFault
datagram_fault bytes at before =
    if nat_lt (length bytes) (at + header_size) then Some (Short at)
    else (if not (version_at bytes at == version) then Some (Version at)
    else (if (count_at bytes at == 0) || nat_lt most_records (count_at bytes at) then Some (Count at)
    else (if not (sequence_at bytes at == before) then Some (Sequence at)
    else (if nat_lt (length bytes) (datagram_end bytes at) then Some (Short at)
    else None))))

-- the record at an offset; what is written as 0 isn't looked at
unfoldable pub record_at : List ℕ → ℕ → FlowRecord
record_at bytes at = record {
  src = big_endian_at 4 bytes at;
  dst = big_endian_at 4 bytes (at + 4);
  input = big_endian_at 2 bytes (at + 12);
  output = big_endian_at 2 bytes (at + 14);
  packets = big_endian_at 4 bytes (at + 16);
  octets = big_endian_at 4 bytes (at + 20);
  first = big_endian_at 4 bytes (at + 24);
  last = big_endian_at 4 bytes (at + 28);
  sport = big_endian_at 2 bytes (at + 32);
  dport = big_endian_at 2 bytes (at + 34);
  flags = slice_index bytes (at + 37);
  proto = slice_index bytes (at + 38);
  tos = slice_index bytes (at + 39);
}

-- the records of the datagram at an offset
abbrev pub records_at : List ℕ → ℕ → List FlowRecord
records_at bytes at =
    map (λ index. record_at bytes (at + header_size + index * record_size)) (range_with_len 0 (count_at bytes at))

-- records before others, if no datagram is faulty
abbrev pub preceded : List FlowRecord → Option NetflowFault → Result (List FlowRecord) NetflowFault → Result (List FlowRecord) NetflowFault
preceded records (Some fault) others = Err fault
preceded records None (Ok more) = Ok (records ++ more)
preceded records None (Err fault) = Err fault

-- the flows of at most so many datagrams from an offset to the end, which have so many records before them. The first fault
-- decides.
unfoldable pub flows_from : ℕ → List ℕ → ℕ → ℕ → Result (List FlowRecord) NetflowFault
flows_from zero bytes at before = Ok []
flows_from (suc most) bytes at before =
    if nat_le (length bytes) at then Ok []
    else preceded (records_at bytes at) (datagram_fault bytes at before)
    (flows_from most bytes (datagram_end bytes at) (before + count_at bytes at))

-- the flows that datagrams tell, one datagram after the other. There are fewer datagrams than bytes.
unfoldable pub flows_in : List ℕ → Result (List FlowRecord) NetflowFault
flows_in bytes = flows_from (length bytes) bytes 0 0
