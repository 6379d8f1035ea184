use Rattle.std.proofs.Common.{◌≡◌, take, All}
use Rattle.std.specs.Int.{bit_at}
use Rattle.egress_capture.specs.Filters.{bit_of}
use Rattle.egress_capture.proofs.port_filter.PortFilter.may_send_to_one.Given as goal

abbrev pub invariant-ports : goal.invariant-ports
invariant-ports l = All (λ port. bit_at l.self.bits (bit_of port) ≡ 0) (take l.port-index l.ports)
