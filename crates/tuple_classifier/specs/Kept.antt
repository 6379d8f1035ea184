-- The subtables of a table as they are kept: by their masks, with an order beside them.
use Rattle.std.specs.Prelude.{◌≡◌, ℕ, true, List, slice_get, Some}
use Rattle.indexmap.specs.IndexMap.{values}
use Rattle.spec_keys.specs.Keys.{same}
use Rattle.spec_tables.specs.Rules.{Rule}
use Rattle.table_laws.specs.Members.{Among}
use Rattle.ovs_fields.specs.Packed.{bits}
use Rattle.staged_lookup.specs.declared.rank.Rank.{Rank}
use Rattle.staged_lookup.specs.Numbered.{AreDistinct, without}
use Rattle.tuple_classifier.specs.declared.subtable.Subtable.{Subtable}
use Rattle.tuple_classifier.specs.declared.subtables.Subtables.{Subtables}
use Rattle.tuple_classifier.specs.Order.{IsFallingAlong}
use Rattle.tuple_classifier.specs.Parts.{AreSubtablesOf}
use Rattle.tuple_classifier.specs.Placed.{in_order}
use Rattle.tuple_classifier.specs.Ranks.{rank_of}

-- the subtables, each at its place
abbrev pub by_place : Subtables → List Subtable
by_place s = values s.by_mask

-- and as lookups come to them
abbrev pub ranked : Subtables → List Subtable
ranked s = in_order (values s.by_mask) s.order.items

-- they have these rules, and none has a greater priority than one that lookups come to before it
pub record AreKeptOf (s : Subtables) (rs : List Rule) : Type 0 where
  pub subtables : AreSubtablesOf (values s.by_mask) rs
  pub falling : IsFallingAlong (values s.by_mask) s.order.items

-- whatever rules they had, they have those but one of this rank, which is of the mask of the subtable at a place
abbrev pub TakesRuleAt : ℕ → Rank → Subtables → Subtables → Type 0
TakesRuleAt place rank old new =
    (rs : List Rule) (r : Rule) (s : Subtable) → AreKeptOf old rs → AreDistinct rs → Among r rs → rank_of r ≡ rank → slice_get (by_place old) place ≡ Some s → same (bits s.staged.mask) r.matching.mask ≡ true
    → AreKeptOf new (without r.number rs)
