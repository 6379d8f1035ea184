use Rattle.std.proofs.Common.{arith}
use Rattle.std.proofs.lemmas.List.{take_all}
use Rattle.std.proofs.lemmas.List.Elements.{All-more}
use Rattle.egress_capture.proofs.Unsent.{Absent}
use Rattle.egress_capture.proofs.port_filter.PortFilter.may_send_to_one.Goals as goal

pub ports-preserved : goal.ports-preserved
ports-preserved c =
    All-more (Absent c.args.self.bits) c.args.ports.now c.ports.port-index _ c.ports-test.true c.ports.invariant (c.may_send_to.ensures c.if-may_send_to.false)

pub returns : goal.returns
returns c = λ absent.
    let all = take_all c.ports.port-index c.args.ports.now (omega arith) in
    rw all at c.ports.invariant
