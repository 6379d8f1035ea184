-- The subtables of a table, and which of the table's rules each has.
use Rattle.std.specs.Prelude.{◌≡◌, ℕ, Bool, true, false, nat_le, if◌then◌else◌, List, [], ◌∷◌, filter, slice_get, Some}
use Rattle.std.specs.List.{list_any, flat_map}
use Rattle.spec_keys.specs.Keys.{same}
use Rattle.spec_tables.specs.Rules.{Rule}
use Rattle.spec_xlate.specs.Lookup.{probe}
use Rattle.table_laws.specs.Members.{Among}
use Rattle.ovs_fields.specs.Packed.{bits}
use Rattle.rule_tables.specs.declared.matching.Match.{Match}
use Rattle.rule_tables.specs.Views.{match_view}
use Rattle.staged_lookup.specs.declared.rank.Rank.{Rank}
use Rattle.tuple_classifier.specs.declared.subtable.Subtable.{Subtable}
use Rattle.tuple_classifier.specs.Ranks.{rank_of}
use Rattle.tuple_classifier.specs.Subtables.{IsSubtableOf}

-- no two of the subtables have the same mask
abbrev pub AreApart : List Subtable → Type 0
AreApart ss = (i j : ℕ) (s t : Subtable) → slice_get ss i ≡ Some s → slice_get ss j ≡ Some t → same (bits s.staged.mask) (bits t.staged.mask) ≡ true → i ≡ j

-- the rules of a mask
abbrev pub of_mask : List ℕ → List Rule → List Rule
of_mask mask rs = filter (λ r. same r.matching.mask mask) rs

-- one of the subtables has this mask
abbrev pub HasMask : List Subtable → List ℕ → Type 0
HasMask ss mask = (i : ℕ) × (s : Subtable) × (slice_get ss i ≡ Some s) × (same mask (bits s.staged.mask) ≡ true)

-- the one at a place has it
abbrev pub HasMaskAt : ℕ → List Subtable → List ℕ → Type 0
HasMaskAt place ss mask = (s : Subtable) → slice_get ss place ≡ Some s → same (bits s.staged.mask) mask ≡ true

-- none has it
abbrev pub LacksMask : List Subtable → List ℕ → Type 0
LacksMask ss mask = (i : ℕ) (s : Subtable) → slice_get ss i ≡ Some s → same (bits s.staged.mask) mask ≡ false

-- none of the rules is of the mask of the subtable at a place
abbrev pub IsEmptyAt : ℕ → List Subtable → List Rule → Type 0
IsEmptyAt place ss rs = (s : Subtable) → slice_get ss place ≡ Some s → of_mask (bits s.staged.mask) rs ≡ []

-- the subtables have these rules: each those of its mask
pub record AreSubtablesOf (ss : List Subtable) (rs : List Rule) : Type 0 where
  pub apart : AreApart ss
  pub each : (i : ℕ) (s : Subtable) → slice_get ss i ≡ Some s → IsSubtableOf s (of_mask (bits s.staged.mask) rs)
  pub covered : (r : Rule) → Among r rs → HasMask ss r.matching.mask

-- the rules of all the masks, mask by mask
abbrev pub by_masks : List Rule → List Subtable → List Rule
by_masks rs ss = flat_map (λ s. of_mask (bits s.staged.mask) rs) ss

-- whether one of the rules has at least this priority
abbrev pub reaches : ℕ → List Rule → Bool
reaches floor rs = list_any (λ r. nat_le floor r.priority) rs

-- what the masks consult that have a rule of at least this priority
abbrev pub gathered : List ℕ → ℕ → List Rule → List Subtable → List (List ℕ)
gathered key floor rs ss = flat_map (λ s. if reaches floor (of_mask (bits s.staged.mask) rs) then probe rs key (bits s.staged.mask) else []) ss

-- the subtable of a mask with one rule
pub record IsSubtableOfOne (s : Subtable) (m : Match) (rank : Rank) : Type 0 where
  pub mask_is : bits s.staged.mask ≡ bits m.mask
  pub has_one : (r : Rule) → r.matching ≡ match_view m → rank_of r ≡ rank → IsSubtableOf s (r ∷ [])
