use Rattle.std.proofs.Common.{sym, ◌∙◌}
use Rattle.std.proofs.lemmas.Result.{err_from_is_err_and}
use Rattle.field_text.specs.WordViews.{word_view}
use Rattle.match_text.specs.Views.{sofar_view}
use Rattle.match_text.proofs.Steps.{goes_on, stops, at_end, fails}
use Rattle.match_text.proofs.items.read_items.Goals as goal

pub returns-in-Some-list_start-clause-items : goal.returns-in-Some-list_start-clause-items
returns-in-Some-list_start-clause-items c =
    sym c.items.invariant.so_far
    ∙ rw (c.in-Some.ensures.some, c.column.ensures) (stops c.args.word (sofar_view c.items.sofar) (word_view c.in-Some.item) _ c.in-Some-list_start.place c.in-Some-list_start.ensures.place)

pub returns-in_err-with_item-clause-items : goal.returns-in_err-with_item-clause-items
returns-in_err-with_item-clause-items c =
    let p = err_from_is_err_and c.from_residual.result c.from_residual.ensures.1 in
    let failed = fails c.args.word (sofar_view c.items.sofar) (word_view c.in-Some.item) _ c.in_err-with_item.field-0.0 c.in_default-list_start.ensures.place c.in_err-with_item.ensures in
    rw (p.1, p.2, ← c.items.invariant.so_far, c.in-Some.ensures.some) failed

pub items-preserved : goal.items-preserved
items-preserved c = record {
  so_far = sym (goes_on c.args.word (sofar_view c.items.sofar) (sofar_view c.with_item.new.sofar) (word_view c.in-Some.item) _ c.in_default-list_start.ensures.place c.in_ok-with_item.ensures)
      ∙ rw (← c.in-Some.ensures.some) c.items.invariant.so_far;
  ends = c.in-Some.ensures.ends ∙ c.items.invariant.ends;
}

pub returns-clause-items : goal.returns-clause-items
returns-clause-items c = sym c.items.invariant.so_far ∙ rw c.in_default.ensures.none (at_end c.args.word (sofar_view c.items.sofar))
