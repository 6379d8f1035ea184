-- The prefixes of two addresses, a source and a destination.
use Rattle.std.specs.Prelude.{◌≡◌, ℕ, ◌+◌, ◌<◌, ◌^◌, List, length, slice_get, unwrap_or}
use Rattle.spec_keys.specs.declared.field_id.FieldId.{FieldId}
use Rattle.spec_keys.specs.Fields.{width_of}
use Rattle.spec_tables.specs.Rules.{Rule}
use Rattle.ovs_fields.specs.Packed.{numbers}
use Rattle.ovs_fields.specs.declared.key.Key.{Key}
use Rattle.address_prefixes.specs.Prefixes.{Prefixes, no_prefixes}
use Rattle.address_prefixes.specs.declared.pair.PairPrefixes.{PairPrefixes}
use Rattle.address_prefixes.specs.declared.pair.PairLookups.{PairLookups}
use Rattle.address_prefixes.specs.OfField as one

-- the trie of the source, and then that of the destination
abbrev pub PairTries : Type 0
PairTries = List Prefixes

abbrev pub src_of : PairTries → Prefixes
src_of t = unwrap_or (slice_get t 0) (no_prefixes 0)

abbrev pub dst_of : PairTries → Prefixes
dst_of t = unwrap_or (slice_get t 1) (no_prefixes 0)

-- they are those that a mask has
pub record ArePrefixesOf (p : PairPrefixes) (source destination : FieldId) (mask : List ℕ) : Type 0 where
  pub src : one.IsPrefixOf p.src source mask
  pub dst : one.IsPrefixOf p.dst destination mask

-- they are of numbers as wide as two fields
pub record HaveWidths (t : PairTries) (source destination : FieldId) : Type 0 where
  pub src : (src_of t).width ≡ width_of source
  pub dst : (dst_of t).width ≡ width_of destination

-- they have the prefixes that these rules state
pub record AreTriesOf (t : PairTries) (source destination : FieldId) (rs : List Rule) : Type 0 where
  pub src : one.IsTrieOf (src_of t) source rs
  pub dst : one.IsTrieOf (dst_of t) destination rs

-- so few that each may have one more
pub record AreFew (t : PairTries) : Type 0 where
  pub src : length (src_of t).list + 1 < 2 ^ 32
  pub dst : length (dst_of t).list + 1 < 2 ^ 32

-- the second tries have the prefixes of a key once more than the first
pub record HaveOnceMore (p : PairPrefixes) (key : List ℕ) (old new : PairTries) : Type 0 where
  pub src : one.HasOnceMore p.src.field p.src.length key (src_of old) (src_of new)
  pub dst : one.HasOnceMore p.dst.field p.dst.length key (dst_of old) (dst_of new)

pub record AreAlike (old new : PairTries) : Type 0 where
  pub src : one.AreAlike (src_of old) (src_of new)
  pub dst : one.AreAlike (dst_of old) (dst_of new)

-- the prefixes of a key stand there
pub record AreThere (p : PairPrefixes) (key : List ℕ) (t : PairTries) : Type 0 where
  pub src : one.IsThere p.src.field p.src.length key (src_of t)
  pub dst : one.IsThere p.dst.field p.dst.length key (dst_of t)

-- what was found is what the prefixes tell of a key that these rules state
pub record AreKnown (known : PairLookups) (source destination : FieldId) (key : List ℕ) (rs : List Rule) : Type 0 where
  pub src : one.IsKnown known.src source key rs
  pub dst : one.IsKnown known.dst destination key rs

-- what was known of the rules of the tries is known of them still
abbrev pub StayKnown : PairTries → PairLookups → PairLookups → FieldId → FieldId → Key → Type 0
StayKnown t old new source destination key =
    (rs : List Rule) → AreTriesOf t source destination rs → AreKnown old source destination (numbers key) rs → AreKnown new source destination (numbers key) rs

-- it holds of all rules of the tries of which this is known, and of each mask with these prefixes
abbrev pub ForMasks : PairTries → PairLookups → PairPrefixes → FieldId → FieldId → Key → (List Rule → List ℕ → Type 0) → Type 0
ForMasks t known p source destination key Holds =
    (rs : List Rule) (mask : List ℕ) → AreTriesOf t source destination rs → AreKnown known source destination (numbers key) rs → ArePrefixesOf p source destination mask → Holds rs mask
