use Rattle.std.proofs.Common.{◌-◌, length}
use Rattle.netflow_v5.specs.Reading.{IsReadTo}
use Rattle.netflow_v5.proofs.reading.read_netflow.Given as goal

abbrev pub invariant-datagrams : goal.invariant-datagrams
invariant-datagrams l = IsReadTo l.bytes l.flows.items l.at

abbrev pub decreases-datagrams : goal.decreases-datagrams
decreases-datagrams l = length l.bytes - l.at
