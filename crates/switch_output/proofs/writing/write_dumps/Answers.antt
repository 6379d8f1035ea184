use Rattle.std.proofs.lemmas.Result.{err_from_is_err_and}
use Rattle.switch_output.proofs.Written.{stopped_in_turn, then_in_turn, one_in_turn}
use Rattle.switch_output.proofs.writing.write_dumps.Goals as goal

pub returns-in_err-write_one : goal.returns-in_err-write_one
returns-in_err-write_one g c =
    let p = err_from_is_err_and c.from_residual.result c.from_residual.ensures.1 in
    rw (p.1, p.2) (stopped_in_turn g.S.Shelf _ _ _ _ _ (one_in_turn g.S.Shelf _ _ _ _ c.in_err-write_one.ensures))

pub returns-in_err-write_one-2 : goal.returns-in_err-write_one-2
returns-in_err-write_one-2 g c =
    let p = err_from_is_err_and c.from_residual-in_err-write_one-2.result c.from_residual-in_err-write_one-2.ensures.1 in
    let first = one_in_turn g.S.Shelf _ _ _ _ c.in_ok-write_one.ensures in
    rw (p.1, p.2) (then_in_turn g.S.Shelf _ _ _ _ _ _ _ first (stopped_in_turn g.S.Shelf _ _ _ _ _ (one_in_turn g.S.Shelf _ _ _ _ c.in_err-write_one-2.ensures)))

pub returns : goal.returns
returns g c =
    let first = one_in_turn g.S.Shelf _ _ _ _ c.in_ok-write_one.ensures in
    let second = one_in_turn g.S.Shelf _ _ _ _ c.in_ok-write_one-2.ensures in
    then_in_turn g.S.Shelf _ _ _ _ _ _ _ first (then_in_turn g.S.Shelf _ _ _ _ _ _ _ second (one_in_turn g.S.Shelf _ _ _ _ c.write_one-3.ensures))
