use Rattle.std.proofs.Common.{◌≡◌, not, filter, take}
use Rattle.spec_board.specs.Effects.{is_among}
use Rattle.pmd_board.proofs.sweep_list.SweepList.forget_all.Given as goal

abbrev pub invariant-numbers : goal.invariant-numbers
invariant-numbers l = l.self ≡ filter (λ n. not (is_among (take l.number-index l.numbers) n)) l.initial.self
