use Rattle.std.proofs.Common.{◌≡◌, ◌<◌, ◌≤◌, ◌-◌, ℕ, length, slice_get, Some}
use Rattle.indexmap.specs.IndexMap.{values}
use Rattle.tuple_classifier.specs.Order.{IsNotBelow, IsFallingAlong}
use Rattle.tuple_classifier.specs.declared.subtable.Subtable.{Subtable}
use Rattle.tuple_classifier.proofs.order.index_for.Given as goal

abbrev pub invariant-halves : goal.invariant-halves
invariant-halves l = record {
  ordered : l.low ≤ l.high;
  within : l.high ≤ length l.order;
  before : IsFallingAlong (values l.by_mask) l.order → (i p : ℕ) (s t : Subtable) → i < l.low → slice_get l.order i ≡ Some p → slice_get (values l.by_mask) p ≡ Some s → slice_get (values l.by_mask) l.place ≡ Some t → IsNotBelow s.indexes t.indexes;
  behind : IsFallingAlong (values l.by_mask) l.order → (i p : ℕ) (s t : Subtable) → l.high ≤ i → slice_get l.order i ≡ Some p → slice_get (values l.by_mask) p ≡ Some s → slice_get (values l.by_mask) l.place ≡ Some t → IsNotBelow t.indexes s.indexes;
}

abbrev pub decreases-halves : goal.decreases-halves
decreases-halves l = l.high - l.low
