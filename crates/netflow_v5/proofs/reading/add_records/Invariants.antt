use Rattle.std.proofs.Common.{◌≡◌, ◌+◌, ◌*◌, ◌++◌, map}
use Rattle.std.specs.List.{range_with_len}
use Rattle.spec_netflow.specs.Datagrams.{header_size, record_size, record_at}
use Rattle.netflow_v5.proofs.reading.add_records.Given as goal

abbrev pub invariant-records : goal.invariant-records
invariant-records l =
    l.flows.items ≡ l.fn.flows.items ++ map (λ index. record_at l.bytes (l.at + header_size + index * record_size)) (range_with_len 0 l.index)
