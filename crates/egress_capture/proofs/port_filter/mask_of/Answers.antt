use Rattle.std.proofs.Common.{◌%◌, arith}
use Rattle.std.proofs.lemmas.Nat.{mod_below, one_shl}
use Rattle.egress_capture.proofs.port_filter.mask_of.Goals as goal

pub returns : goal.returns
returns c = one_shl (c.args.port % 32) 32 (mod_below c.args.port 32 (omega arith))
