use Rattle.std.proofs.Common.{◌≡◌, ◌+◌, [], true, false, length, get_or, take, sym, ap, ◌∙◌, arith, vec_len}
use Rattle.std.specs.Prelude.{◌==◌}
use Rattle.std.proofs.lemmas.List.{take_all}
use Rattle.spec_flow_text.specs.Actions.{ends_item, open_after, up_to_end, is_closed}
use Rattle.action_text.specs.Brackets.{innermost_first}
use Rattle.action_text.proofs.ItemBytes.{item_from, at_byte, at_end_byte, at_end, open_at_next, none_open, closed_where_none_open, closed_where_empty}
use Rattle.action_text.proofs.brackets.item_end.Goals as goal

pub returns-then-ends_item-clause-count : goal.returns-then-ends_item-clause-count
returns-then-ends_item-clause-count c =
    let text = c.args.text.now in
    let place = c.bytes.place in
    let ends : ends_item (innermost_first c.bytes.stack.items) (get_or c.args.text.now c.bytes.place 0) ≡ true =
    ap (λ s. ends_item (innermost_first s) (get_or text place 0)) (sym c.deref.ensures.value) ∙ sym c.if-ends_item.ensures in
    sym (at_end_byte (innermost_first c.bytes.stack.items) place text c.bytes-test.true ends) ∙ c.bytes.invariant.item

pub returns-then-ends_item-clause-closed : goal.returns-then-ends_item-clause-closed
returns-then-ends_item-clause-closed c =
    let text = c.args.text.now in
    let place = c.bytes.place in
    let ends : ends_item (innermost_first c.bytes.stack.items) (get_or c.args.text.now c.bytes.place 0) ≡ true =
    ap (λ s. ends_item (innermost_first s) (get_or text place 0)) (sym c.deref.ensures.value) ∙ sym c.if-ends_item.ensures in
    let item : take c.bytes.place c.args.text.now ≡ up_to_end [] c.args.text.now = sym (at_end_byte (innermost_first c.bytes.stack.items) place text c.bytes-test.true ends) ∙ c.bytes.invariant.item in
    sym (none_open (innermost_first c.bytes.stack.items) (get_or text place 0) ends) ∙ closed_where_none_open (take place text) (innermost_first c.bytes.stack.items) c.bytes.invariant.brackets ∙ ap is_closed item

pub bytes-preserved : goal.bytes-preserved
bytes-preserved c =
    let text = c.args.text.now in
    let place = c.bytes.place in
    let byte = get_or c.args.text.now c.bytes.place 0 in
    let stack = c.bytes.stack.items in
    let inside : ends_item (innermost_first c.bytes.stack.items) (get_or c.args.text.now c.bytes.place 0) ≡ false =
    ap (λ s. ends_item (innermost_first s) (get_or text place 0)) (sym c.deref.ensures.value) ∙ sym c.if-ends_item.ensures in
    record {
      item = ap (λ s. item_from s (place + 1) text) c.in_ok-follow.ensures ∙ at_byte (innermost_first stack) place text c.bytes-test.true inside ∙ c.bytes.invariant.item;
      brackets = c.in_ok-follow.ensures ∙ ap (λ s. open_after s byte) c.bytes.invariant.brackets ∙ sym (open_at_next place text c.bytes-test.true);
    }

pub returns-clause-count : goal.returns-clause-count
returns-clause-count c =
    let text = c.args.text.now in
    let place = c.bytes.place in
    let whole : take c.bytes.place c.args.text.now ≡ c.args.text.now = take_all place text c.bytes-test.false in
    take_all (length text) text (omega arith) ∙ sym whole ∙ sym (at_end (innermost_first c.bytes.stack.items) place text c.bytes-test.false) ∙ c.bytes.invariant.item

pub returns-clause-closed : goal.returns-clause-closed
returns-clause-closed c =
    let text = c.args.text.now in
    let place = c.bytes.place in
    let item : take c.bytes.place c.args.text.now ≡ up_to_end [] c.args.text.now = sym (at_end (innermost_first c.bytes.stack.items) place text c.bytes-test.false) ∙ c.bytes.invariant.item in
    let none : vec_len c.bytes.stack ≡ length c.bytes.stack.items = omega (arith, c.bytes.stack.ok.0) in
    let closed = closed_where_empty c.bytes.stack.items (take place text) (c.bytes.invariant.brackets) in
    c.is_empty.ensures ∙ ap (λ n. n == 0) none ∙ closed ∙ ap is_closed item
