-- The log of what rules were given: each giving tells a modification, and where the one before it of the same rule stands.
use Rattle.std.specs.Prelude.{◌≡◌, ℕ, zero, suc, ◌+◌, ◌<◌, ◌≤◌, Bool, ◌&&◌, ◌==◌, true, false, nat_lt, List, length, take, slice_get, Option, Some, None, vec_len, ◌⊎◌}
use Rattle.std.specs.Option.{option_map_or, ForSome}
use Rattle.spec_tables.specs.Edits.{Edit}
use Rattle.rule_tables.specs.declared.givings.Giving.{Giving}
use Rattle.rule_tables.specs.declared.givings.GivingLog.{GivingLog}
use Rattle.rule_tables.specs.declared.stored.Modification.{Modification}
use Rattle.rule_tables.specs.declared.stored.StoredRule.{StoredRule}
use Rattle.rule_tables.specs.Stored.{picks, acts_on, is_before}

-- whether a rule was given a modification: it was there before, was not gone, and is picked
abbrev pub was_given : StoredRule → Modification → Bool
was_given s m = nat_lt s.rule.number m.number && (is_before m.number s.gone && picks m.edit s.rule)

-- the same of the modification at a place
abbrev pub was_given_at : List Modification → StoredRule → ℕ → Bool
was_given_at made s n = option_map_or (was_given s) (slice_get made n) false

-- Here stands the giving of modification n, and what holds of the place before it is Rest.
pub record IsGivingOf (log : List Giving) (n : ℕ) (here : Option ℕ) (Rest : Option ℕ → Type 0) : Type 0 where
  pub place : ℕ
  pub before : Option ℕ
  pub is : here ≡ Some place
  pub at : slice_get log place ≡ Some (record { modification = n; before = before })
  pub back : ForSome before (λ b. b < place)
  pub rest : Rest before

-- From here on stand the givings of those of the first n modifications that were given, the newest first.
abbrev pub Leads : List Giving → (ℕ → Bool) → ℕ → Option ℕ → Type 0
Leads log given zero here = here ≡ None
Leads log given (suc n) here =
    ((given n ≡ false) × Leads log given n here) ⊎ ((given n ≡ true) × IsGivingOf log n here (λ before. Leads log given n before))

-- The log leads from a rule to all that it was given.
abbrev pub IsLedTo : List Giving → List Modification → StoredRule → Type 0
IsLedTo log made s = Leads log (was_given_at made s) (length made) s.given

abbrev pub AreLedTo : List Giving → List Modification → List StoredRule → Type 0
AreLedTo log made stored = (i : ℕ) (s : StoredRule) → slice_get stored i ≡ Some s → IsLedTo log made s

-- ---- of how many modifications the log tells

-- those of which the log tells: the first ones
abbrev pub logged : GivingLog → List Modification → List Modification
logged log made = take log.modifications made

-- the most givings of a log
abbrev pub most_givings : ℕ
most_givings = 1048576

-- The log tells of no more modifications than there are, and leads from a rule to what it was given of these.
pub record IsLogOf (log : GivingLog) (made : List Modification) (s : StoredRule) : Type 0 where
  pub within : log.modifications ≤ length made
  pub led : IsLedTo log.givings.items (logged log made) s

-- The same of all stored rules; and the log has no more givings than it may.
pub record IsLog (log : GivingLog) (made : List Modification) (stored : List StoredRule) : Type 0 where
  pub few : vec_len log.givings ≤ most_givings
  pub within : log.modifications ≤ length made
  pub led : AreLedTo log.givings.items (logged log made) stored

-- ---- what is given

-- one log begins as another
abbrev pub Extends : List Giving → List Giving → Type 0
Extends log new = (place : ℕ) (g : Giving) → slice_get log place ≡ Some g → slice_get new place ≡ Some g

-- A stored rule once modification n was given to it: it leads to a giving past the first ones, and that to what came before.
pub record IsGiven (n first : ℕ) (log : List Giving) (s t : StoredRule) : Type 0 where
  pub place : ℕ
  pub becomes : t ≡ record s { given = Some place }
  pub at : slice_get log place ≡ Some (record { modification = n; before = s.given })
  pub past : first ≤ place

-- Where the rule s is picked it was given modification n, and is t now; else it stayed.
abbrev pub Becomes : Bool → ℕ → ℕ → List Giving → StoredRule → StoredRule → Type 0
Becomes picked n first log s t = ((picked ≡ false) × (t ≡ s)) ⊎ ((picked ≡ true) × IsGiven n first log s t)

-- Modification n was given to those of the stored rules that a test picks, by their places.
pub record AreGiven (picked : ℕ → StoredRule → Bool) (n : ℕ) (log new : List Giving) (stored now : List StoredRule) : Type 0 where
  pub grows : Extends log new
  pub count : length now ≡ length stored
  pub each : (i : ℕ) (s t : StoredRule) → slice_get stored i ≡ Some s → slice_get now i ≡ Some t
      → Becomes (picked i s) n (length log) new s t

-- whether a rule stands at a place, if there is one
abbrev pub is_place : Option ℕ → ℕ → Bool
is_place o i = option_map_or (λ place. place == i) o false

-- What a modification by an edit makes of the log and the stored rules, where it comes next to n others: it is given to those
-- on which the edit acts, if the log tells of the others and may have as many givings more; or the log stays behind, and all
-- stays.
abbrev pub IsLogged : Edit → ℕ → GivingLog → GivingLog → List StoredRule → List StoredRule → Type 0
IsLogged e n log new stored now =
    ((log.modifications ≡ n) × (new.modifications ≡ n + 1) × (vec_len new.givings ≤ most_givings)
    × AreGiven (λ i. acts_on e) n log.givings.items new.givings.items stored now)
    ⊎ ((new.modifications ≡ log.modifications) × (vec_len new.givings ≡ vec_len log.givings) × (new.givings.items ≡ log.givings.items)
    × (now ≡ stored))
