use Rattle.std.proofs.Common.{◌≡◌, ◌+◌, ◌*◌, length, inr, sym, ap, ◌∙◌, arith}
use Rattle.std.specs.Prelude.{Some, None}
use Rattle.spec_netflow.specs.Datagrams.{datagram_fault, datagram_end}
use Rattle.netflow_v5.proofs.DatagramWalk.{begun, whole, faulty, read_on, ended}
use Rattle.netflow_v5.proofs.reading.read_netflow.Goals as goal

pub datagrams-init : goal.datagrams-init
datagrams-init c = rw (c.new-flows.ensures.items) (begun c.args.bytes.now)

pub returns-in-Some-clause-fault : goal.returns-in-Some-clause-fault
returns-in-Some-clause-fault c =
    let long : c.len.result ≡ length c.datagrams.flows.items = omega (arith, c.len.ensures, c.datagrams.flows.ok) in
    let is : datagram_fault c.args.bytes.now c.datagrams.at (length c.datagrams.flows.items) ≡ Some c.in-Some.fault =
    ap (datagram_fault c.args.bytes.now c.datagrams.at) (sym long) ∙ (sym c.datagram_fault.ensures ∙ c.in-Some.is) in
    inr (faulty c.args.bytes.now c.datagrams.flows.items c.datagrams.at c.datagrams.invariant c.in-Some.fault c.datagrams-test.true is)

pub add_records-requires : goal.add_records-requires
add_records-requires c = whole c.args.bytes.now c.datagrams.at c.len.result (sym c.datagram_fault.ensures ∙ c.in_default.is)

pub overflow_mul-at : goal.overflow_mul-at
overflow_mul-at c =
    let within = whole c.args.bytes.now c.datagrams.at c.len.result (sym c.datagram_fault.ensures ∙ c.in_default.is) in
    omega (arith, within, c.in-Ok.ensures.count)

pub overflow_add-at : goal.overflow_add-at
overflow_add-at c =
    let within = whole c.args.bytes.now c.datagrams.at c.len.result (sym c.datagram_fault.ensures ∙ c.in_default.is) in
    omega (arith, within, c.in-Ok.ensures.count)

pub overflow_add-at-in-datagrams : goal.overflow_add-at-in-datagrams
overflow_add-at-in-datagrams c =
    let within = whole c.args.bytes.now c.datagrams.at c.len.result (sym c.datagram_fault.ensures ∙ c.in_default.is) in
    omega (arith, within, c.in-Ok.ensures.count)

pub datagrams-preserved : goal.datagrams-preserved
datagrams-preserved c =
    let bytes = c.args.bytes.now in
    let at = c.datagrams.at in
    let long : c.len.result ≡ length c.datagrams.flows.items = omega (arith, c.len.ensures, c.datagrams.flows.ok) in
    let none : datagram_fault bytes at (length c.datagrams.flows.items) ≡ None =
    ap (datagram_fault bytes at) (sym long) ∙ (sym c.datagram_fault.ensures ∙ c.in_default.is) in
    let next : at + (24 + c.in-Ok.count * 48) ≡ datagram_end bytes at = omega (arith, c.in-Ok.ensures.count) in
    rw (next, c.in-Ok.ensures.flows) (read_on bytes c.datagrams.flows.items at c.datagrams.invariant c.datagrams-test.true none)

pub returns-clause-flows : goal.returns-clause-flows
returns-clause-flows c = ended c.args.bytes.now c.datagrams.flows.items c.datagrams.at c.datagrams.invariant c.datagrams-test.false
