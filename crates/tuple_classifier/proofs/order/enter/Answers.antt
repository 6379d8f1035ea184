use Rattle.std.proofs.Common.{sym, subst}
use Rattle.std.specs.List.{insert}
use Rattle.indexmap.specs.IndexMap.{values, index_map_len}
use Rattle.tuple_classifier.specs.Order.{IsFallingAlong}
use Rattle.tuple_classifier.specs.Placed.{AreWithin}
use Rattle.tuple_classifier.proofs.OrderLaws.{falling_inserted}
use Rattle.tuple_classifier.proofs.order.enter.Goals as goal

pub index_for-index-requires-clause-places : goal.index_for-index-requires-clause-places
index_for-index-requires-clause-places c = subst (AreWithin (index_map_len c.args.by_mask.now)) (sym c.deref.ensures.value) c.requires.places

pub returns-clause-falling : goal.returns-clause-falling
returns-clause-falling c falling =
    let ss = values c.args.by_mask.now in
    let lent = c.deref.ensures.value in
    let order = c.deref.result.now in
    let falls = subst (IsFallingAlong ss) (sym lent) falling in
    subst (IsFallingAlong ss) (sym c.in-Ok.ensures.items)
    (subst (λ xs. IsFallingAlong ss (insert xs c.index_for-index.result c.args.place)) lent
    (falling_inserted ss order c.index_for-index.result c.args.place c.index_for-index.ensures.bound falls
    (λ i p s t lt at_i at_p at. c.index_for-index.ensures.before falls i p s t lt at_i at_p at)
    (λ i p s t le at_i at_p at. c.index_for-index.ensures.behind falls i p s t le at_i at_p at)))
