use Rattle.std.proofs.Common.{◌≡◌, ◌<◌, Some, slice_get, sym, subst, ap, ◌∙◌, arith}
use Rattle.std.proofs.lemmas.Option.{get_or_from_slice_get, slice_get_within}
use Rattle.indexmap.specs.IndexMap.{values, index_map_len}
use Rattle.tuple_classifier.specs.Numbers.{times}
use Rattle.tuple_classifier.specs.Order.{IsFallingAlong, reaches_from}
use Rattle.tuple_classifier.specs.Placed.{AreWithin}
use Rattle.tuple_classifier.proofs.OrderLaws.{falling_removed}
use Rattle.tuple_classifier.proofs.PriorityLaws.{same_greatest}
use Rattle.tuple_classifier.proofs.PlacedLaws.{stands_in, once_in, left_within}
use Rattle.tuple_classifier.proofs.order.settle.Goals as goal

pub returns-then-eq-clause-falling : goal.returns-then-eq-clause-falling
returns-then-eq-clause-falling c falling same =
    same c.index.result.now c.index.ensures (λ floor. c.greatest.ensures floor ∙ ap (reaches_from floor) (same_greatest c.greatest.result c.args.before (sym c.eq.ensures ∙ c.if-eq.true)))

pub position_of-requires : goal.position_of-requires
position_of-requires c =
    subst (λ xs. 0 < times c.args.place xs) (sym c.deref.ensures.value) (stands_in (index_map_len c.args.by_mask.now) c.args.order.now.items c.requires.order c.args.place c.requires.within)

pub remove-moved-requires : goal.remove-moved-requires
remove-moved-requires c =
    let at : slice_get c.args.order.now.items c.position_of.result ≡ Some c.args.place = ap (λ xs. slice_get xs c.position_of.result) (sym c.deref.ensures.value) ∙ c.position_of.ensures in
    let within = slice_get_within c.args.order.now.items c.position_of.result c.args.place at in
    let l = c.args.order.now.ok.0 in
    omega (arith, within, l)

pub enter-requires-clause-places : goal.enter-requires-clause-places
enter-requires-clause-places c =
    let at : slice_get c.args.order.now.items c.position_of.result ≡ Some c.args.place = ap (λ xs. slice_get xs c.position_of.result) (sym c.deref.ensures.value) ∙ c.position_of.ensures in
    subst (AreWithin (index_map_len c.args.by_mask.now)) (sym c.remove-moved.ensures.items) (left_within (index_map_len c.args.by_mask.now) c.args.order.now.items c.requires.order c.position_of.result c.args.place at)

pub enter-requires-clause-within : goal.enter-requires-clause-within
enter-requires-clause-within c =
    let at : slice_get c.args.order.now.items c.position_of.result ≡ Some c.args.place = ap (λ xs. slice_get xs c.position_of.result) (sym c.deref.ensures.value) ∙ c.position_of.ensures in
    let moved : c.remove-moved.result ≡ c.args.place = c.remove-moved.ensures.value ∙ get_or_from_slice_get c.args.order.now.items c.position_of.result c.args.place c.remove-moved.result at in
    let within = c.requires.within in
    omega (arith, moved, within)

pub returns-clause-falling : goal.returns-clause-falling
returns-clause-falling c falling same =
    let ss = values c.args.by_mask.now in
    let order = c.args.order.now.items in
    let k = c.position_of.result in
    let p = c.args.place in
    let at : slice_get order k ≡ Some p = ap (λ xs. slice_get xs k) (sym c.deref.ensures.value) ∙ c.position_of.ensures in
    c.enter.ensures.falling
    (subst (IsFallingAlong ss) (sym c.remove-moved.ensures.items)
    (falling_removed ss order k p at (λ i at_i. once_in (index_map_len c.args.by_mask.now) order c.requires.order i k p at_i at) falling))
