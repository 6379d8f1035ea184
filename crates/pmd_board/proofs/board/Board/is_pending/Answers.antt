use Rattle.std.proofs.Common.{arith}
use Rattle.pmd_board.proofs.board.Board.is_pending.Goals as goal

pub overflow_sub-place : goal.overflow_sub-place
overflow_sub-place g c = omega (arith, c.if-place-eq0.false)

pub index-requires : goal.index-requires
index-requires g c = omega (arith, c.if-place-eq0.false, c.if-place-len.false, c.len.ensures)
