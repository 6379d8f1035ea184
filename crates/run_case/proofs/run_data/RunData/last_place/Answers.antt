use Rattle.std.proofs.Common.{length, ap, arith}
use Rattle.run_case.proofs.blocks.Blocks.{length-block_ends, last_place-last, last_place-le-frames}
use Rattle.run_case.proofs.run_data.RunData.last_place.Goals as goal

pub bounds-block_ends-block : goal.bounds-block_ends-block
bounds-block_ends-block g c =
    omega (arith, ap length c.block_ends.ensures, length-block_ends g.C.Case.run c.args.port, c.requires.block)

pub returns-clause-within : goal.returns-clause-within
returns-clause-within g c = rw c.block_ends.ensures (last_place-le-frames g.C.Case.run c.args.port c.args.block c.requires.block)

pub returns-clause-all : goal.returns-clause-all
returns-clause-all g c = λ last. rw (c.block_ends.ensures, last) (last_place-last g.C.Case.run c.args.port)
