use Rattle.std.proofs.Common.{sym}
use Rattle.address_prefixes.proofs.tracker.Difference.{common_by_zeros}
use Rattle.address_prefixes.proofs.tracker.common.in_common.Goals as goal

pub overflow_sub-result : goal.overflow_sub-result
overflow_sub-result c = (common_by_zeros c.args.width c.args.x c.args.y c.requires.wide c.requires.x c.requires.y).0

pub returns : goal.returns
returns c = sym (common_by_zeros c.args.width c.args.x c.args.y c.requires.wide c.requires.x c.requires.y).1
