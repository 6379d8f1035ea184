use Rattle.std.proofs.Common.{length, ap, arith}
use Rattle.run_case.proofs.blocks.Blocks.{length-block_ends}
use Rattle.run_case.proofs.run_data.RunData.keyed.Goals as goal

pub block_of-requires : goal.block_of-requires
block_of-requires g c =
    omega (arith, ap length c.of_port.ensures.ends, length-block_ends g.C.Case.run c.args.port, c.args.self.now.few_syncs)
