use Rattle.std.proofs.lemmas.Result.{err_from_is_err_and}
use Rattle.switch_output.proofs.Written.{stopped_in_turn, then_in_turn, unwritten_before}
use Rattle.switch_output.proofs.writing.write_files.Goals as goal

pub returns-in_err-filters : goal.returns-in_err-filters
returns-in_err-filters g c =
    let p = err_from_is_err_and c.from_residual.result c.from_residual.ensures.1 in
    rw (p.1, p.2) (unwritten_before g.S.Shelf c.args.shelf.now _ _ _ c.requires.in_use)

pub returns-in_err-write_port_files : goal.returns-in_err-write_port_files
returns-in_err-write_port_files g c =
    let p = err_from_is_err_and c.from_residual-in_err-write_port_files.result c.from_residual-in_err-write_port_files.ensures.1 in
    rw (p.1, p.2) (stopped_in_turn g.S.Shelf _ _ _ _ _ c.in_err-write_port_files.ensures)

pub returns-in_err-write_dumps : goal.returns-in_err-write_dumps
returns-in_err-write_dumps g c =
    let p = err_from_is_err_and c.from_residual-in_err-write_dumps.result c.from_residual-in_err-write_dumps.ensures.1 in
    rw (p.1, p.2) (then_in_turn g.S.Shelf _ _ _ _ _ _ _ c.in_ok-write_port_files.ensures (stopped_in_turn g.S.Shelf _ _ _ _ _ c.in_err-write_dumps.ensures))

pub returns-in_err-write_flows : goal.returns-in_err-write_flows
returns-in_err-write_flows g c =
    let p = err_from_is_err_and c.from_residual-in_err-write_flows.result c.from_residual-in_err-write_flows.ensures.1 in
    rw (p.1, p.2) (then_in_turn g.S.Shelf _ _ _ _ _ _ _ c.in_ok-write_port_files.ensures
    (then_in_turn g.S.Shelf _ _ _ _ _ _ _ c.in_ok-write_dumps.ensures (stopped_in_turn g.S.Shelf _ _ _ _ _ c.in_err-write_flows.ensures)))

pub returns : goal.returns
returns g c =
    then_in_turn g.S.Shelf _ _ _ _ _ _ _ c.in_ok-write_port_files.ensures
    (then_in_turn g.S.Shelf _ _ _ _ _ _ _ c.in_ok-write_dumps.ensures
    (then_in_turn g.S.Shelf _ _ _ _ _ _ _ c.in_ok-write_flows.ensures c.write_mirror_files.ensures))
