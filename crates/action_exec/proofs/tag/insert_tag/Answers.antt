use Rattle.std.proofs.Common.{arith}
use Rattle.action_exec.proofs.Tags.{inserted}
use Rattle.action_exec.proofs.tag.insert_tag.Goals as goal

pub returns : goal.returns
returns c =
    rw (c.copy_from_slice.ensures.after, c.copy_within.ensures.after) (inserted c.args.frame.now c.args.tag.now (omega arith) c.told-tag)
