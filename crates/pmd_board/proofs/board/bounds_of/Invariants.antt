use Rattle.std.proofs.Common.{◌≡◌, ℕ, ◌<◌, length, slice_get, Some}
use Rattle.spec_case.specs.Blocks.{hi, last_place}
use Rattle.pmd_board.proofs.board.bounds_of.Given as goal

abbrev pub invariant-bounds : goal.invariant-bounds
invariant-bounds g l =
    (length l.bounds.items ≡ l.block)
    × ((block : ℕ) → block < l.block → slice_get l.bounds.items block ≡ Some (record { hi = hi g.C.Case.run block; last_place = last_place g.C.Case.run l.fn.port block }))
