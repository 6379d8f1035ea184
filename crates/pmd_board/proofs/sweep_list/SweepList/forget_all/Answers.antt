use Rattle.std.proofs.Common.{sym, ap, ◌∙◌, not, ◌==◌, filter, slice_index_or}
use Rattle.pmd_board.proofs.Listed.{left_out_more, none_left_out}
use Rattle.pmd_board.proofs.sweep_list.SweepList.forget_all.Goals as goal

pub numbers-init : goal.numbers-init
numbers-init c = sym (none_left_out c.args.self.now)

pub numbers-preserved : goal.numbers-preserved
numbers-preserved c =
    let k = c.numbers.number-index in
    c.forget.ensures ∙ ap (filter (λ n. not (n == slice_index_or c.args.numbers.now k 0))) c.numbers.invariant ∙ left_out_more c.args.numbers.now k 0 c.args.self.now c.numbers-test.true
