use Rattle.std.proofs.Common.{Err, ap, sym, ◌∙◌}
use Rattle.std.proofs.lemmas.Result.{err_from_is_err_and}
use Rattle.edge_io.proofs.Always.{on_ok}
use Rattle.edge_io.proofs.Filled.{cut, whole}
use Rattle.edge_io.proofs.writing.write_file.Goals as goal

pub returns-in_err-fill-clause-file : goal.returns-in_err-fill-clause-file
returns-in_err-fill-clause-file g c = λ bytes fills.
    let w = fills _ _ _ c.in_ok-create_file.ensures.created c.fill.ensures in
    let p = err_from_is_err_and c.from_residual-in_err-fill.result c.from_residual-in_err-fill.ensures.1 in
    cut g.S.Shelf c.args.shelf.now c.create_file.new.self (c.args.name.now, bytes) (λ t. (c.in_ok-create_file.ensures.told t).ok) (λ t. (c.in_ok-create_file.ensures.since t).ok) c.in_ok-create_file.ensures.cause.ok _ _ _ (p.1 ∙ ap Err p.2) (rw c.in_err-fill.was at w)

pub close_file-requires : goal.close_file-requires
close_file-requires g c = λ none.
    let w = c.requires.fills.1 _ _ _ c.in_ok-create_file.ensures.created c.fill.ensures in
    let e = sym w.in_use ∙ none in
    cc

pub returns-clause-file : goal.returns-clause-file
returns-clause-file g c = λ bytes fills.
    let w = fills _ _ _ c.in_ok-create_file.ensures.created c.fill.ensures in
    whole g.S.Shelf c.args.shelf.now c.create_file.new.self (c.args.name.now, bytes) (λ t. (c.in_ok-create_file.ensures.told t).ok) (λ t. (c.in_ok-create_file.ensures.since t).ok) c.in_ok-create_file.ensures.cause.ok
    c.fill.new.arg2 _ _ _ (rw c.in_ok-fill.was at w) c.close_file.ensures.in_use (λ t. c.close_file.ensures.told_created t w.in_use) c.close_file.ensures.since (c.close_file.ensures.cause_created w.in_use)

pub returns-clause-filled : goal.returns-clause-filled
returns-clause-filled g c = on_ok c.close_file.result (_, _, rw c.in_ok-fill.was at c.fill.ensures)
