use Rattle.std.proofs.Common.{sym, take_all, arith}
use Rattle.pipe_model.proofs.outputs.cut_off.Goals as goal

pub returns-then-len-le-ACTION_LIMIT-clause-actions : goal.returns-then-len-le-ACTION_LIMIT-clause-actions
returns-then-len-le-ACTION_LIMIT-clause-actions c = sym (take_all 128 c.args.actions.now (omega (arith, c.len.ensures, c.if-len-le-ACTION_LIMIT.true)))
