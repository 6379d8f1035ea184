use Rattle.std.proofs.Common.{Err, ap, ◌∙◌, arith}
use Rattle.std.proofs.lemmas.List.{take_all}
use Rattle.std.proofs.lemmas.Result.{err_from_is_err_and}
use Rattle.edge_io.proofs.InTurn.{none_yet, one_cut, one_more}
use Rattle.dump_lines.specs.declared.rules.places.RulePlace.{RulePlace}
use Rattle.flow_dump.specs.RuleTexts.{live_text}
use Rattle.flow_dump.proofs.rules.write_live_rules.Goals as goal

pub returns-in_err-write_live : goal.returns-in_err-write_live
returns-in_err-write_live g c =
    let text = λ (p : RulePlace). live_text c.args.rules.now c.args.counts.now p.number in
    let p = err_from_is_err_and c.from_residual.result c.from_residual.ensures.1 in
    let cut = c.in_err-write_live.ensures in
    one_cut g.S.Shelf text _ _ _ c.args.order.now c.places.place-index _ c.places-test.true c.places.invariant _ _ (p.1 ∙ ap Err p.2) cut

pub places-init : goal.places-init
places-init g c = none_yet g.S.Shelf _ c.requires.created

pub places-preserved : goal.places-preserved
places-preserved g c =
    let text = λ (p : RulePlace). live_text c.args.rules.now c.args.counts.now p.number in
    let one = c.in_ok-write_live.ensures in
    one_more g.S.Shelf text _ _ _ c.args.order.now c.places.place-index _ c.places-test.true c.places.invariant _ one

pub returns : goal.returns
returns g c =
    let all = take_all c.places.place-index c.args.order.now (omega arith) in
    rw (← all) c.places.invariant
