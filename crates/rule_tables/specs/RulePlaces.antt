-- The index of the live rules: the places of those that edits name.
use Rattle.std.specs.Prelude.{◌≡◌, ℕ, ◌-◌, ◌⊎◌, min, nat_eq, List, [], ◌∷◌, ◌++◌, length, slice_get, Option, Some, None, true, false, vec_len, vec_capacity}
use Rattle.std.specs.List.{fold}
use Rattle.std.specs.Hash.{u8, u16}
use Rattle.std.specs.Hash.FoldHasher.{initial, write, finish}
use Rattle.std.specs.HashMap.{get, spare}
use Rattle.spec_tables.specs.Rules as tables
use Rattle.spec_tables.specs.Edits.{Edit, table_of}
use Rattle.ovs_fields.specs.Feeding.{list_writes}
use Rattle.rule_tables.specs.declared.places.RulePlaces.{RulePlaces}
use Rattle.rule_tables.specs.declared.rule.Rule.{Rule}
use Rattle.rule_tables.specs.declared.stored.StoredRule.{StoredRule}
use Rattle.rule_tables.specs.Stored.{ended, names}
use Rattle.rule_tables.specs.Views.{match_view}

-- the hash of a table, a priority and a match
unfoldable pub identity_hash : ℕ → ℕ → tables.Match → ℕ
identity_hash table priority m =
    finish (fold write (fold write (fold write (fold write initial (u8 table)) (u16 priority)) (list_writes m.key)) (list_writes m.mask))

-- that of what edits name a rule by, and of what an edit names one by
abbrev pub rule_hash : Rule → ℕ
rule_hash r = identity_hash r.table r.priority (match_view r.matching)

abbrev pub edit_hash : Edit → ℕ
edit_hash e = identity_hash (table_of e) e.priority e.matching

-- A live rule stands at this place.
pub record IsLiveAt (stored : List StoredRule) (place : ℕ) : Type 0 where
  pub rule : StoredRule
  pub at : slice_get stored place ≡ Some rule
  pub on : rule.gone ≡ None

-- From its hash each live rule is found, by the last one that came or among the others; and no rule that is gone is kept.
pub record IsIndex (by_hash : ℕ → Option ℕ) (others : List ℕ) (stored : List StoredRule) : Type 0 where
  pub live : (i : ℕ) (s : StoredRule) → slice_get stored i ≡ Some s → s.gone ≡ None
      → (by_hash (rule_hash s.rule) ≡ Some i) ⊎ ((k : ℕ) × (slice_get others k ≡ Some i))
  pub first : (hash i : ℕ) → by_hash hash ≡ Some i → (it : IsLiveAt stored i) × (rule_hash it.rule.rule ≡ hash)
  pub other : (k i : ℕ) → slice_get others k ≡ Some i → IsLiveAt stored i

abbrev pub ArePlaced : RulePlaces → List StoredRule → Type 0
ArePlaced places stored = IsIndex (λ hash. get nat_eq places.by_hash hash) places.others.items stored

-- for how many more rules there is memory
abbrev pub room_in : RulePlaces → ℕ
room_in places = min (spare places.by_hash) (vec_capacity places.others - vec_len places.others)

-- Here stands the live rule that an edit names, or there is none.
abbrev pub IsNamedPlace : List StoredRule → Edit → Option ℕ → Type 0
IsNamedPlace stored e None = (i : ℕ) (s : StoredRule) → slice_get stored i ≡ Some s → names e s ≡ false
IsNamedPlace stored e (Some place) = (s : StoredRule) × (slice_get stored place ≡ Some s) × (names e s ≡ true)

-- ---- what is made of it

-- Whatever rules it was the index of, it is that of one more, which comes at this place.
abbrev pub IsPlacedNext : RulePlaces → RulePlaces → Rule → ℕ → Type 0
IsPlacedNext places new r place =
    (stored : List StoredRule) (s : StoredRule) → ArePlaced places stored → place ≡ length stored → s.rule ≡ r → s.gone ≡ None → ArePlaced new (stored ++ s ∷ [])

-- The same, once the life of the rule at this place ended.
abbrev pub IsPlacedNoMore : RulePlaces → RulePlaces → Rule → ℕ → Type 0
IsPlacedNoMore places new r place =
    (stored : List StoredRule) (s : StoredRule) (gone : ℕ) → ArePlaced places stored → slice_get stored place ≡ Some s → s.rule ≡ r → ArePlaced new (ended place gone stored)
