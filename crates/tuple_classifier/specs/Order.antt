-- The order of the subtables of a table: by falling greatest priority.
use Rattle.std.specs.Prelude.{◌≡◌, ℕ, ◌<◌, ◌≤◌, Bool, true, false, nat_le, List, slice_get, Option, Some, None}
use Rattle.std.specs.List.{list_any}
use Rattle.spec_tables.specs.Rules.{Rule}
use Rattle.tuple_classifier.specs.declared.indexes.Indexes.{Indexes}
use Rattle.tuple_classifier.specs.declared.subtable.Subtable.{Subtable}
use Rattle.tuple_classifier.specs.Numbers.{numbers_in}
use Rattle.tuple_classifier.specs.Parts.{AreSubtablesOf}

-- whether one of the priorities is at least this one
abbrev pub has_from : ℕ → Indexes → Bool
has_from floor x = list_any (λ n. nat_le floor n) (numbers_in x.priorities.items.items)

-- whether the greatest priority, if there is one, is
abbrev pub reaches_from : ℕ → Option ℕ → Bool
reaches_from floor None = false
reaches_from floor (Some greatest) = nat_le floor greatest

abbrev pub HasGreatest : Indexes → Option ℕ → Type 0
HasGreatest x greatest = (floor : ℕ) → has_from floor x ≡ reaches_from floor greatest

-- what the second has the first has too: its greatest priority isn't less
abbrev pub IsNotBelow : Indexes → Indexes → Type 0
IsNotBelow x y = (floor : ℕ) → has_from floor y ≡ true → has_from floor x ≡ true

-- no subtable has a greater priority than one before it
abbrev pub IsFalling : List Subtable → Type 0
IsFalling ss = (i j : ℕ) (s t : Subtable) → i < j → slice_get ss i ≡ Some s → slice_get ss j ≡ Some t → IsNotBelow s.indexes t.indexes

-- nor than one whose place stands before its own in an order
abbrev pub IsFallingAlong : List Subtable → List ℕ → Type 0
IsFallingAlong ss order = (i j p q : ℕ) (s t : Subtable) → i < j → slice_get order i ≡ Some p → slice_get order j ≡ Some q → slice_get ss p ≡ Some s → slice_get ss q ≡ Some t → IsNotBelow s.indexes t.indexes

-- but for the one at a place
abbrev pub IsFallingBut : ℕ → List Subtable → List ℕ → Type 0
IsFallingBut place ss order = (i j p q : ℕ) (s t : Subtable) → i < j → (p ≡ place → ⊥) → (q ≡ place → ⊥) → slice_get order i ≡ Some p → slice_get order j ≡ Some q → slice_get ss p ≡ Some s → slice_get ss q ≡ Some t
    → IsNotBelow s.indexes t.indexes

-- the subtables have these rules, and stand in this order
pub record AreRankedOf (ss : List Subtable) (rs : List Rule) : Type 0 where
  pub subtables : AreSubtablesOf ss rs
  pub falling : IsFalling ss

-- The second order is right, if the first is but for the subtable at a place, and with that one too where its greatest
-- priority is still the one before.
abbrev pub Settles : ℕ → Option ℕ → List Subtable → List ℕ → List ℕ → Type 0
Settles place before ss old new = IsFallingBut place ss old → ((s : Subtable) → slice_get ss place ≡ Some s → HasGreatest s.indexes before → IsFallingAlong ss old) → IsFallingAlong ss new

-- the subtable at one place isn't below that at another
abbrev pub IsNotBelowAt : List Subtable → ℕ → ℕ → Type 0
IsNotBelowAt ss p q = (s t : Subtable) → slice_get ss p ≡ Some s → slice_get ss q ≡ Some t → IsNotBelow s.indexes t.indexes

-- nor above it
abbrev pub IsNotAboveAt : List Subtable → ℕ → ℕ → Type 0
IsNotAboveAt ss p q = (s t : Subtable) → slice_get ss p ≡ Some s → slice_get ss q ≡ Some t → IsNotBelow t.indexes s.indexes

-- none of those before an index of an order is below the subtable at a place
abbrev pub BelongsBehind : ℕ → List Subtable → List ℕ → ℕ → Type 0
BelongsBehind index ss order place = (i p : ℕ) (s t : Subtable) → i < index → slice_get order i ≡ Some p → slice_get ss p ≡ Some s → slice_get ss place ≡ Some t → IsNotBelow s.indexes t.indexes

-- and none of those from the index on is above it
abbrev pub BelongsBefore : ℕ → List Subtable → List ℕ → ℕ → Type 0
BelongsBefore index ss order place = (i p : ℕ) (s t : Subtable) → index ≤ i → slice_get order i ≡ Some p → slice_get ss p ≡ Some s → slice_get ss place ≡ Some t → IsNotBelow t.indexes s.indexes
