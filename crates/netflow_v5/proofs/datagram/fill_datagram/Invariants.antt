use Rattle.std.proofs.Common.{◌≡◌, ◌++◌, length, take}
use Rattle.std.specs.List.{flat_map}
use Rattle.spec_netflow.specs.Datagrams.{header, record_bytes}
use Rattle.netflow_v5.proofs.datagram.fill_datagram.Given as goal

abbrev pub invariant-records : goal.invariant-records
invariant-records l =
    l.buffer.items ≡ header l.now (length l.records) l.before ++ flat_map record_bytes (take l.record-index l.records)
