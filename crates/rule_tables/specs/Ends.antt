-- The log of the ends of lives.
use Rattle.std.specs.Prelude.{◌≡◌, ℕ, ◌<◌, ◌≤◌, Bool, List, [], ◌∷◌, ◌++◌, length, slice_get, count_by, is_some, Option, Some, None}
use Rattle.rule_tables.specs.declared.ending.Ending.{Ending}
use Rattle.rule_tables.specs.declared.stored.StoredRule.{StoredRule}

abbrev pub has_ended : StoredRule → Bool
has_ended s = is_some s.gone

-- The life of the rule at the place of an end ended by the edit of the end.
pub record IsEnd (stored : List StoredRule) (e : Ending) : Type 0 where
  pub rule : StoredRule
  pub at : slice_get stored e.place ≡ Some rule
  pub gone : rule.gone ≡ Some e.edit

-- The log tells of all lives that ended, of each once, in the order of the edits, of which none is past the last.
pub record AreEnds (log : List Ending) (stored : List StoredRule) (last : ℕ) : Type 0 where
  pub own : (k : ℕ) (e : Ending) → slice_get log k ≡ Some e → IsEnd stored e
  pub whole : (i gone : ℕ) (s : StoredRule) → slice_get stored i ≡ Some s → s.gone ≡ Some gone
      → (k : ℕ) × (slice_get log k ≡ Some (record { place = i; edit = gone }))
  pub rising : (k l : ℕ) (d e : Ending) → slice_get log k ≡ Some d → slice_get log l ≡ Some e → k < l → d.edit ≤ e.edit
  pub once : (k l : ℕ) (d e : Ending) → slice_get log k ≡ Some d → slice_get log l ≡ Some e → k < l → d.place ≡ e.place → ⊥
  pub latest : (k : ℕ) (e : Ending) → slice_get log k ≡ Some e → e.edit ≤ last
  pub count : length log ≡ count_by has_ended stored

-- the log, once the life of the rule at a place ended too, if there is a place
abbrev pub with_ending : Option ℕ → ℕ → List Ending → List Ending
with_ending None gone log = log
with_ending (Some place) gone log = log ++ (record { place = place; edit = gone }) ∷ []

-- A part of a list whose keys rise: those of the keys past one number, up to another.
pub record IsBetween {X : Type 0} (key : X → ℕ) (before after : ℕ) (xs part : List X) : Type 0 where
  pub earlier : List X
  pub later : List X
  pub whole : xs ≡ earlier ++ (part ++ later)
  pub up_to : (i : ℕ) (x : X) → slice_get earlier i ≡ Some x → key x ≤ before
  pub past : (i : ℕ) (x : X) → slice_get part i ≡ Some x → before < key x
  pub within : (i : ℕ) (x : X) → slice_get part i ≡ Some x → key x ≤ after
  pub beyond : (i : ℕ) (x : X) → slice_get later i ≡ Some x → after < key x
