use Rattle.std.proofs.Common.{refl, lit<}
use Rattle.ovs_fields.specs.Packed.{numbers, bits}
use Rattle.staged_lookup.proofs.ProbeLaws.{passed_more, ends_at, decided_is}
use Rattle.staged_lookup.proofs.subtable.Subtable.probe_late.Goals as goal

pub returns-in-Passes : goal.returns-in-Passes
returns-in-Passes c rs is passes =
    let mask = bits c.args.self.now.mask in
    let key = numbers c.args.key.now.key.now in
    let third = passed_more mask key rs 2 passes (c.in-Passes.ensures _ _ mask rs is.network (passes 1 (lit< tt))) in
    decided_is mask key rs is.of_mask c.decided.result c.best.result 3 c.decided.ensures.none c.decided.ensures.some (c.best.ensures rs is) refl third

pub returns-in-Ends : goal.returns-in-Ends
returns-in-Ends c rs is passes =
    let mask = bits c.args.self.now.mask in
    let key = numbers c.args.key.now.key.now in
    ends_at mask key rs 2 passes (c.in-Ends.ensures _ _ mask rs is.network)

pub returns-in-Decides : goal.returns-in-Decides
returns-in-Decides c rs is passes =
    let mask = bits c.args.self.now.mask in
    let key = numbers c.args.key.now.key.now in
    decided_is mask key rs is.of_mask c.decided-in-Decides.result c.best-in-Decides.result 2 c.decided-in-Decides.ensures.none c.decided-in-Decides.ensures.some (c.best-in-Decides.ensures rs is) (c.in-Decides.ensures _ _ mask rs is.network) passes
