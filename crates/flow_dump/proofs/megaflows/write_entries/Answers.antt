use Rattle.std.proofs.Common.{ℕ, List, Err, subst, sym, ap, ◌∙◌, arith}
use Rattle.std.specs.List.{flat_map}
use Rattle.std.proofs.lemmas.List.{take_all}
use Rattle.std.proofs.lemmas.Result.{err_from_is_err_and}
use Rattle.edge_io.specs.Written.{WritesAll, HasWritten}
use Rattle.edge_io.proofs.InTurn.{none_yet, one_cut, one_more}
use Rattle.spec_board.specs.Results.{numbers_of}
use Rattle.pmd_board.specs.BoardView.{state_of}
use Rattle.flow_dump.specs.Numbered.{line_of_number}
use Rattle.flow_dump.proofs.Numbered.{numbers-kept, live_in, lines_in}
use Rattle.flow_dump.proofs.megaflows.write_entries.Goals as goal

pub write_numbered-requires-clause-created : goal.write_numbered-requires-clause-created
write_numbered-requires-clause-created g c = c.numbers.invariant.in_use

pub write_numbered-requires-clause-live : goal.write_numbered-requires-clause-live
write_numbered-requires-clause-live g c =
    let run = g.C.Case.run in
    let b = c.args.board.now in
    let viewed = c.entries.ensures.entries in
    let are = c.numbers-live.ensures ∙ numbers-kept viewed.0 c.entries.result.now.entries ∙ ap numbers_of (sym viewed.1) in
    live_in (state_of run b).entries c.numbers-live.result.now are (c.entries_are_found.ensures.number run b.port b.flow_limit b.journal c.journal.ensures.legal)
    c.numbers.number-index c.numbers-test.true

pub returns-in_err-write_numbered : goal.returns-in_err-write_numbered
returns-in_err-write_numbered g c =
    let run = g.C.Case.run in
    let b = c.args.board.now in
    let es = (state_of run b).entries in
    let viewed = c.entries.ensures.entries in
    let are = c.numbers-live.ensures ∙ numbers-kept viewed.0 c.entries.result.now.entries ∙ ap numbers_of (sym viewed.1) in
    let text = lines_in b.port es c.numbers-live.result.now are (c.entries_are_found.ensures.number run b.port b.flow_limit b.journal c.journal.ensures.legal) in
    let p = err_from_is_err_and c.from_residual.result c.from_residual.ensures.1 in
    subst (λ (t : List ℕ). WritesAll g.S.Shelf c.args.shelf.now c.write_numbered.new.shelf t c.from_residual.result) text
    (one_cut g.S.Shelf (line_of_number b.port es) _ _ _ c.numbers-live.result.now c.numbers.number-index 0 c.numbers-test.true c.numbers.invariant _ _
    (p.1 ∙ ap Err p.2) c.in_err-write_numbered.ensures)

pub numbers-init : goal.numbers-init
numbers-init g c = none_yet g.S.Shelf _ c.requires

pub numbers-preserved : goal.numbers-preserved
numbers-preserved g c =
    let b = c.args.board.now in
    one_more g.S.Shelf (line_of_number b.port (state_of g.C.Case.run b).entries) _ _ _ c.numbers-live.result.now c.numbers.number-index 0 c.numbers-test.true
    c.numbers.invariant _ c.in_ok-write_numbered.ensures

pub returns : goal.returns
returns g c =
    let run = g.C.Case.run in
    let b = c.args.board.now in
    let es = (state_of run b).entries in
    let ns = c.numbers-live.result.now in
    let viewed = c.entries.ensures.entries in
    let are = c.numbers-live.ensures ∙ numbers-kept viewed.0 c.entries.result.now.entries ∙ ap numbers_of (sym viewed.1) in
    let text = lines_in b.port es ns are (c.entries_are_found.ensures.number run b.port b.flow_limit b.journal c.journal.ensures.legal) in
    let all = take_all c.numbers.number-index ns (omega arith) in
    subst (λ (t : List ℕ). HasWritten g.S.Shelf c.args.shelf.now c.numbers.shelf t) (ap (flat_map (line_of_number b.port es)) all ∙ text) c.numbers.invariant
