use Rattle.std.proofs.Common.{Err, ap, ◌∙◌}
use Rattle.std.proofs.lemmas.Result.{err_from_is_err_and}
use Rattle.edge_io.proofs.InTurn.{first_cut, second}
use Rattle.flow_dump.proofs.rules.write_lines.Goals as goal

pub returns-in_err-write_live_rules : goal.returns-in_err-write_live_rules
returns-in_err-write_live_rules g c =
    let p = err_from_is_err_and c.from_residual.result c.from_residual.ensures.1 in
    first_cut g.S.Shelf c.args.shelf.now c.write_live_rules.new.shelf c.from_residual.result _ _ _ (p.1 ∙ ap Err p.2) c.in_err-write_live_rules.ensures

pub returns : goal.returns
returns g c =
    second g.S.Shelf c.args.shelf.now c.write_gone_rules.new.shelf c.write_gone_rules.result c.write_live_rules.new.shelf _ _ _ c.in_ok-write_live_rules.ensures c.write_gone_rules.ensures
