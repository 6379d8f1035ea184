use Rattle.std.proofs.Common.{◌≡◌, take}
use Rattle.pmd_board.proofs.sweep_list.SweepList.of.Given as goal

abbrev pub invariant-numbers : goal.invariant-numbers
invariant-numbers l = l.list.items ≡ take l.number-index l.numbers
