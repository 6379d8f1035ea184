-- A subtable, and the rules of its mask.
use Rattle.std.specs.Prelude.{ℕ, List}
use Rattle.spec_tables.specs.Rules.{Rule}
use Rattle.ovs_fields.specs.Packed.{bits}
use Rattle.staged_lookup.specs.declared.rank.Rank.{Rank}
use Rattle.staged_lookup.specs.Subtables as lookup
use Rattle.staged_lookup.specs.Subtables.{HasRule}
use Rattle.tuple_classifier.specs.declared.subtable.Subtable.{Subtable}
use Rattle.tuple_classifier.specs.Indexes.{AreIndexes, HavePriority}

-- the subtable has these rules, which are all of its mask
pub record IsSubtableOf (s : Subtable) (rs : List Rule) : Type 0 where
  pub staged : lookup.IsSubtableOf s.staged rs
  pub indexed : AreIndexes s.indexes (bits s.staged.mask) rs

-- it has a rule of this rank and this key
pub record Holds (s : Subtable) (rank : Rank) (key : List ℕ) : Type 0 where
  pub staged : HasRule rank.number key s.staged
  pub indexed : HavePriority rank.priority s.indexes
