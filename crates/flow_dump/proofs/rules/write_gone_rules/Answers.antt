use Rattle.std.proofs.Common.{◌≡◌, ℕ, ◌+◌, ◌<◌, Err, length, get_or, ap, ◌∙◌, arith}
use Rattle.std.specs.List.{range_with_len}
use Rattle.std.proofs.lemmas.List.{take_all}
use Rattle.std.proofs.lemmas.List.FromFn.{length-range_with_len, get_or-range_with_len}
use Rattle.std.proofs.lemmas.Result.{err_from_is_err_and}
use Rattle.rule_tables.specs.History.{applied}
use Rattle.edge_io.proofs.InTurn.{none_yet, one_cut, one_more}
use Rattle.flow_dump.specs.RuleTexts.{gone_text}
use Rattle.flow_dump.proofs.rules.write_gone_rules.Goals as goal

-- the number at a place
number_at : (last before : ℕ) → before < last → before + 1 ≡ get_or (range_with_len 1 last) before 0
number_at last before lt = omega (arith, get_or-range_with_len 1 last before 0 lt)

within_range : (last before : ℕ) → before < last → before < length (range_with_len 1 last)
within_range last before lt = omega (arith, length-range_with_len 1 last)

pub numbers-init : goal.numbers-init
numbers-init g c = none_yet g.S.Shelf _ c.requires.created

pub returns-in_err-write_if_gone : goal.returns-in_err-write_if_gone
returns-in_err-write_if_gone g c =
    let n = applied c.args.rules.now.edits in
    let lt : c.numbers.before < n = omega arith in
    let text = gone_text c.args.rules.now c.args.counts.now in
    let p = err_from_is_err_and c.from_residual.result c.from_residual.ensures.1 in
    let cut = rw (number_at n c.numbers.before lt) at c.in_err-write_if_gone.ensures in
    one_cut g.S.Shelf text _ _ _ (range_with_len 1 n) c.numbers.before 0 (within_range n c.numbers.before lt) c.numbers.invariant _ _ (p.1 ∙ ap Err p.2) cut

pub numbers-preserved : goal.numbers-preserved
numbers-preserved g c =
    let n = applied c.args.rules.now.edits in
    let lt : c.numbers.before < n = omega arith in
    let text = gone_text c.args.rules.now c.args.counts.now in
    let one = rw (number_at n c.numbers.before lt) at c.in_ok-write_if_gone.ensures in
    one_more g.S.Shelf text _ _ _ (range_with_len 1 n) c.numbers.before 0 (within_range n c.numbers.before lt) c.numbers.invariant _ one

pub returns : goal.returns
returns g c =
    let n = applied c.args.rules.now.edits in
    let all = take_all c.numbers.before (range_with_len 1 n) (omega (arith, length-range_with_len 1 n)) in
    rw (← all) c.numbers.invariant
