use Rattle.std.proofs.Common.{◌≡◌, ◌<◌, length, arith, ap, sym, ◌∙◌, vec_len}
use Rattle.std.specs.Prelude.{◌==◌, ◌&&◌}
use Rattle.std.proofs.lemmas.Result.{err_from_is_err_and}
use Rattle.spec_flow_text.specs.Actions.{most_actions, read_items}
use Rattle.field_text.specs.WordViews.{word_view}
use Rattle.action_text.specs.ActionsRead.{listed}
use Rattle.action_text.specs.ItemStarts.{items_in}
use Rattle.action_text.proofs.ListSteps.{too_many, stretch_read, stretch_refused}
use Rattle.action_text.proofs.actions.read_next.Goals as goal

pub returns-then-len-eq-MOST_ACTIONS-clause-fault : goal.returns-then-len-eq-MOST_ACTIONS-clause-fault
returns-then-len-eq-MOST_ACTIONS-clause-fault c =
    let full : length c.args.actions.now.items ≡ most_actions = omega (arith, c.args.actions.now.ok.0) in
    ap (read_items c.args.actions.now.items) c.in_ok-cut.ensures.items ∙ too_many c.args.actions.now.items (word_view c.in_ok-cut.cut.item) (items_in (word_view c.in_ok-cut.cut.rest)) full

pub returns-in_err-action-clause-fault : goal.returns-in_err-action-clause-fault
returns-in_err-action-clause-fault c =
    let p = err_from_is_err_and c.from_residual-in_err-action.result c.from_residual-in_err-action.ensures.1 in
    let count : vec_len c.args.actions.now ≡ length c.args.actions.now.items = omega (arith, c.args.actions.now.ok.0) in
    let room : length c.args.actions.now.items < most_actions = omega (arith, count) in
    let alone = ap (λ b. b && c.is_empty-last.result) (c.is_empty.ensures ∙ ap (λ n. n == 0) count) in
    let refused = stretch_refused c.args.actions.now.items c.in_err-action.field-0.0 (word_view c.args.rest) (word_view c.in_ok-cut.cut.rest) (word_view c.in_ok-cut.cut.item)
    (c.is_empty.result && c.is_empty-last.result) c.is_empty-last.result
    c.in_ok-cut.ensures.items c.in_ok-cut.ensures.begins c.is_empty-last.ensures alone room c.in_err-action.ensures.value in
    rw (p.1, p.2) refused

pub returns-clause-read : goal.returns-clause-read
returns-clause-read c =
    let count : vec_len c.args.actions.now ≡ length c.args.actions.now.items = omega (arith, c.args.actions.now.ok.0) in
    let room : length c.args.actions.now.items < most_actions = omega (arith, count) in
    let alone = ap (λ b. b && c.is_empty-last.result) (c.is_empty.ensures ∙ ap (λ n. n == 0) count) in
    stretch_read c.args.actions.now.items (listed c.in_ok-action.action) (word_view c.args.rest) (word_view c.in_ok-cut.cut.rest) (word_view c.in_ok-cut.cut.item)
    (c.is_empty.result && c.is_empty-last.result) c.is_empty-last.result
    c.in_ok-cut.ensures.items c.in_ok-cut.ensures.begins c.is_empty-last.ensures alone room c.in_ok-action.ensures.value
    ∙ ap (λ list. read_items list (items_in (word_view c.in_ok-cut.cut.rest))) (sym c.in_ok-add.ensures.added)
