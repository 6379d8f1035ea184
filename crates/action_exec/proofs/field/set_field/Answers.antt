use Rattle.std.proofs.Common.{length}
use Rattle.action_exec.proofs.Within.{place-before, sums-before}
use Rattle.action_exec.proofs.field.set_field.Goals as goal

pub write-requires-clause-place : goal.write-requires-clause-place
write-requires-clause-place c =
    place-before (length c.args.frame.now) c.layout_for-layout.result c.args.field c.in-Some.place c.requires c.layout_for-layout.ensures.within c.in-Some.ensures.value

pub write-requires-clause-sums : goal.write-requires-clause-sums
write-requires-clause-sums c =
    sums-before (length c.args.frame.now) c.layout_for-layout.result c.args.field c.sums_of-sums.result c.layout_for-layout.ensures.within c.sums_of-sums.ensures
