use Rattle.std.proofs.Common.{arith}
use Rattle.std.proofs.lemmas.List.{take_all}
use Rattle.std.proofs.lemmas.List.Elements.{All-more}
use Rattle.egress_capture.proofs.Filters.{Passes}
use Rattle.egress_capture.proofs.port_filter.bits_of.Goals as goal

pub actions-preserved : goal.actions-preserved
actions-preserved c = λ port absent.
    let both = c.with_bit-bits.ensures port absent in
    All-more (Passes port) c.args.actions.now c.actions.action-index _ c.actions-test.true (c.actions.invariant port both.0) both.1

pub returns : goal.returns
returns c = λ port absent.
    let all = take_all c.actions.action-index c.args.actions.now (omega arith) in
    rw all at (c.actions.invariant port absent)
