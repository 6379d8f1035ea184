use Rattle.std.proofs.Common.{◌≡◌, ◌+◌, ◌-◌, ◌<◌, Some, length, remove, set, slice_get, sym, subst, ap, ◌∙◌, arith}
use Rattle.std.specs.List.{swap_remove}
use Rattle.std.proofs.lemmas.Option.{get_or_from_slice_get, slice_get_within}
use Rattle.tuple_classifier.specs.Numbers.{times}
use Rattle.tuple_classifier.specs.Order.{IsFallingAlong}
use Rattle.tuple_classifier.specs.Placed.{IsOrderOf}
use Rattle.tuple_classifier.proofs.OrderLaws.{falling_removed, falling_popped, falling_swapped}
use Rattle.tuple_classifier.proofs.PlacedLaws.{stands_in, once_in, left_stands, left_gone, order_popped, order_swapped}
use Rattle.tuple_classifier.proofs.order.leave.Goals as goal

pub position_of-requires : goal.position_of-requires
position_of-requires c =
    let within = c.requires.within in
    subst (λ xs. 0 < times c.args.place xs) (sym c.deref.ensures.value) (stands_in (c.args.last + 1) c.args.order.now.items c.requires.order c.args.place (omega (arith, within)))

pub remove-freed-requires : goal.remove-freed-requires
remove-freed-requires c =
    let at : slice_get c.args.order.now.items c.position_of.result ≡ Some c.args.place = ap (λ xs. slice_get xs c.position_of.result) (sym c.deref.ensures.value) ∙ c.position_of.ensures in
    let within = slice_get_within c.args.order.now.items c.position_of.result c.args.place at in
    let l = c.args.order.now.ok.0 in
    omega (arith, within, l)

pub position_of-index-requires : goal.position_of-index-requires
position_of-index-requires c =
    let order = c.args.order.now.items in
    let at : slice_get order c.position_of.result ≡ Some c.args.place = ap (λ xs. slice_get xs c.position_of.result) (sym c.deref.ensures.value) ∙ c.position_of.ensures in
    let less = c.if-place-last.true in
    subst (λ xs. 0 < times c.args.last xs) (sym (c.deref-then-place-last.ensures.value ∙ c.remove-freed.ensures.items))
    (left_stands (c.args.last + 1) order c.requires.order c.position_of.result c.args.place at c.args.last (omega arith) (λ e. omega (arith, e, less)))

pub index_mut-requires : goal.index_mut-requires
index_mut-requires c =
    let within = slice_get_within c.deref-then-place-last.result.now c.position_of-index.result c.args.last c.position_of-index.ensures in
    let l = c.remove-freed.new.self.ok.0 in
    let same = ap length c.deref-then-place-last.ensures.value in
    omega (arith, within, l, same)

pub returns-then-place-last-clause-order : goal.returns-then-place-last-clause-order
returns-then-place-last-clause-order c =
    let order = c.args.order.now.items in
    let k = c.position_of.result in
    let at : slice_get order k ≡ Some c.args.place = ap (λ xs. slice_get xs k) (sym c.deref.ensures.value) ∙ c.position_of.ensures in
    let freed : c.remove-freed.result ≡ c.args.place = c.remove-freed.ensures.value ∙ get_or_from_slice_get order k c.args.place c.remove-freed.result at in
    let at_last : slice_get (remove order k) c.position_of-index.result ≡ Some c.args.last =
    ap (λ xs. slice_get xs c.position_of-index.result) (sym (c.deref-then-place-last.ensures.value ∙ c.remove-freed.ensures.items)) ∙ c.position_of-index.ensures in
    subst (λ xs. IsOrderOf c.args.last (set xs c.position_of-index.result c.remove-freed.result)) (sym c.remove-freed.ensures.items)
    (subst (λ p. IsOrderOf c.args.last (set (remove order k) c.position_of-index.result p)) (sym freed)
    (order_swapped c.args.last order c.requires.order k c.args.place at c.position_of-index.result at_last))

pub returns-then-place-last-clause-falling : goal.returns-then-place-last-clause-falling
returns-then-place-last-clause-falling c ss d long falling =
    let order = c.args.order.now.items in
    let n = c.args.last + 1 in
    let k = c.position_of.result in
    let p = c.args.place in
    let at : slice_get order k ≡ Some p = ap (λ xs. slice_get xs k) (sym c.deref.ensures.value) ∙ c.position_of.ensures in
    let freed : c.remove-freed.result ≡ p = c.remove-freed.ensures.value ∙ get_or_from_slice_get order k p c.remove-freed.result at in
    let last : c.args.last ≡ length ss - 1 = omega (arith, long) in
    let at_last : slice_get (remove order k) c.position_of-index.result ≡ Some (length ss - 1) =
    ap (λ xs. slice_get xs c.position_of-index.result) (sym (c.deref-then-place-last.ensures.value ∙ c.remove-freed.ensures.items)) ∙ c.position_of-index.ensures ∙ ap Some last in
    let within = c.requires.within in
    subst (λ xs. IsFallingAlong (swap_remove ss p d) (set xs c.position_of-index.result c.remove-freed.result)) (sym c.remove-freed.ensures.items)
    (subst (λ q. IsFallingAlong (swap_remove ss p d) (set (remove order k) c.position_of-index.result q)) (sym freed)
    (falling_swapped ss (remove order k) p d (omega (arith, within, long)) (left_gone n order c.requires.order k p at)
    (falling_removed ss order k p at (λ i at_i. once_in n order c.requires.order i k p at_i at) falling) c.position_of-index.result at_last))

pub returns-else-place-last-clause-order : goal.returns-else-place-last-clause-order
returns-else-place-last-clause-order c =
    let order = c.args.order.now.items in
    let k = c.position_of.result in
    let at : slice_get order k ≡ Some c.args.place = ap (λ xs. slice_get xs k) (sym c.deref.ensures.value) ∙ c.position_of.ensures in
    let within = c.requires.within in
    let not_less = c.if-place-last.false in
    subst (IsOrderOf c.args.last) (sym c.remove-freed.ensures.items)
    (order_popped c.args.last order c.requires.order k c.args.place at (omega (arith, within, not_less)))

pub returns-else-place-last-clause-falling : goal.returns-else-place-last-clause-falling
returns-else-place-last-clause-falling c ss d long falling =
    let order = c.args.order.now.items in
    let n = c.args.last + 1 in
    let k = c.position_of.result in
    let p = c.args.place in
    let at : slice_get order k ≡ Some p = ap (λ xs. slice_get xs k) (sym c.deref.ensures.value) ∙ c.position_of.ensures in
    let within = c.requires.within in
    let not_less = c.if-place-last.false in
    subst (IsFallingAlong (swap_remove ss p d)) (sym c.remove-freed.ensures.items)
    (falling_popped ss (remove order k) p d (omega (arith, within, long)) (left_gone n order c.requires.order k p at)
    (falling_removed ss order k p at (λ i at_i. once_in n order c.requires.order i k p at_i at) falling) (omega (arith, within, not_less, long)))
