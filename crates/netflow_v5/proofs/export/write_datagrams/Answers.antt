use Rattle.std.proofs.Common.{◌<◌, Err, length, refl, ap, ◌∙◌, arith}
use Rattle.std.proofs.lemmas.List.{take_all}
use Rattle.std.proofs.lemmas.List.FromFn.{length-range_with_len}
use Rattle.std.proofs.lemmas.Result.{err_from_is_err_and}
use Rattle.edge_io.specs.declared.outside.Failed.TheVariants.{OutOfMemory}
use Rattle.edge_io.proofs.InTurn.{out_of_memory, one_cut, one_more}
use Rattle.spec_netflow.specs.Datagrams.{datagram, datagram_count}
use Rattle.netflow_v5.proofs.InDatagrams.{numbers, within, filled}
use Rattle.netflow_v5.proofs.export.write_datagrams.Goals as goal

pub returns-in_err-fill_datagram : goal.returns-in_err-fill_datagram
returns-in_err-fill_datagram g c =
    let now = c.args.now.now in
    let records = c.args.records.now in
    let number = c.datagrams.number in
    let p = err_from_is_err_and c.from_residual-in_err-fill_datagram.result c.from_residual-in_err-fill_datagram.ensures.1 in
    let lt : number < datagram_count (length records) = omega (arith, c.datagrams-test.true, c.div_ceil-number-end.ensures) in
    one_cut g.S.Shelf {U = Unit {0}} (datagram now records) c.args.shelf.now c.datagrams.shelf c.datagrams.shelf (numbers now records number) number 0 (within now records number lt)
    c.datagrams.invariant _ OutOfMemory (p.1 ∙ ap Err p.2) (out_of_memory g.S.Shelf {T = Unit {0}} c.datagrams.shelf _ (Err OutOfMemory) refl c.datagrams.invariant.in_use)

pub returns-in_err-write_all : goal.returns-in_err-write_all
returns-in_err-write_all g c =
    let now = c.args.now.now in
    let records = c.args.records.now in
    let number = c.datagrams.number in
    let p = err_from_is_err_and c.from_residual-in_err-write_all.result c.from_residual-in_err-write_all.ensures.1 in
    let lt : number < datagram_count (length records) = omega (arith, c.datagrams-test.true, c.div_ceil-number-end.ensures) in
    let bytes = c.deref.ensures.value ∙ filled now records number lt c.min-end.result c.min-end.ensures _ c.in_ok-fill_datagram.ensures in
    one_cut g.S.Shelf (datagram now records) c.args.shelf.now c.datagrams.shelf c.write_all.new.shelf (numbers now records number) number 0 (within now records number lt)
    c.datagrams.invariant _ _ (p.1 ∙ ap Err p.2) (rw bytes at c.in_err-write_all.ensures)

pub datagrams-preserved : goal.datagrams-preserved
datagrams-preserved g c =
    let now = c.args.now.now in
    let records = c.args.records.now in
    let number = c.datagrams.number in
    let lt : number < datagram_count (length records) = omega (arith, c.datagrams-test.true, c.div_ceil-number-end.ensures) in
    let bytes = c.deref.ensures.value ∙ filled now records number lt c.min-end.result c.min-end.ensures _ c.in_ok-fill_datagram.ensures in
    one_more g.S.Shelf (datagram now records) c.args.shelf.now c.datagrams.shelf c.write_all.new.shelf (numbers now records number) number 0 (within now records number lt)
    c.datagrams.invariant _ (rw bytes at c.in_ok-write_all.ensures)

pub returns : goal.returns
returns g c =
    let now = c.args.now.now in
    let records = c.args.records.now in
    let all = take_all c.datagrams.number (numbers now records c.datagrams.number)
    (let long = length-range_with_len 0 (datagram_count (length records)) in omega (arith, c.datagrams-test.false, c.div_ceil-number-end.ensures, long)) in
    rw all at c.datagrams.invariant
