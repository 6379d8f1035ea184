use Rattle.std.proofs.Common.{arith, ap, length}
use Rattle.pmd_board.proofs.board.bounds_of.Goals as goal

pub hi-requires : goal.hi-requires
hi-requires g c = omega (arith, c.bounds-test.true, c.blocks-block-end.ensures)

pub last_place-requires-clause-port : goal.last_place-requires-clause-port
last_place-requires-clause-port g c = c.requires

pub last_place-requires-clause-block : goal.last_place-requires-clause-block
last_place-requires-clause-block g c = omega (arith, c.bounds-test.true, c.blocks-block-end.ensures)

pub bounds-init : goal.bounds-init
bounds-init g c = (ap length c.new-bounds.ensures.items, λ block l. absurd (omega (arith, l)))
