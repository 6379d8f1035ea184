use Rattle.std.proofs.Common.{take, length}
use Rattle.std.specs.List.{flat_map, range_with_len}
use Rattle.edge_io.specs.Written.{HasWritten}
use Rattle.spec_netflow.specs.Datagrams.{datagram, datagram_count}
use Rattle.netflow_v5.proofs.export.write_datagrams.Given as goal

abbrev pub invariant-datagrams : goal.invariant-datagrams
invariant-datagrams g l =
    HasWritten g.S.Shelf l.fn.shelf l.shelf
    (flat_map (datagram l.now l.records) (take l.number (range_with_len 0 (datagram_count (length l.records)))))
