-- Stored rules: after how many edits they are live, and what they are then.
use Rattle.std.specs.Prelude.{◌≡◌, ℕ, zero, suc, ◌*◌, ◌<◌, ◌≤◌, ◌^◌, Bool, ◌&&◌, ◌==◌, true, false, not, nat_lt, nat_le, is_some, if◌then◌else◌, List, [], ◌∷◌, map, slice_get, Option, Some, None, unwrap_or}
use Rattle.std.specs.List.{find, filter_map, fold}
use Rattle.std.specs.Option.{option_map_or}
use Rattle.spec_actions.specs.declared.action.OfAction.{OfAction}
use Rattle.spec_tables.specs.declared.edit_word.EditWord.{EditWord}
use Rattle.spec_tables.specs.declared.edit_word.EditWord.TheVariants.{Add, Modify, ModifyStrict, Delete, DeleteStrict}
use Rattle.spec_tables.specs.Rules as tables
use Rattle.spec_tables.specs.Edits.{Edit, is_named_by, is_reached_by}
use Rattle.rule_tables.specs.declared.rule.Rule.{Rule}
use Rattle.rule_tables.specs.declared.stored.Modification.{Modification}
use Rattle.rule_tables.specs.declared.stored.StoredRule.{StoredRule}
use Rattle.rule_tables.specs.declared.signatures.signature.Signature.{Signature}
use Rattle.rule_tables.specs.Signatures.{includes}
use Rattle.rule_tables.specs.Signed.{signature_in}
use Rattle.rule_tables.specs.Views.{match_view, rule_view}

-- ---- what an edit acts on

-- whether edits of this kind give actions to rules that are there
abbrev pub is_modify : EditWord → Bool
is_modify Modify = true
is_modify ModifyStrict = true
is_modify Add = false
is_modify Delete = false
is_modify DeleteStrict = false

-- whether an edit of this kind acts on a rule: a loose one on each that it reaches, another on the one that it names
abbrev pub is_picked_by : EditWord → Edit → tables.Rule → Bool
is_picked_by Add e r = is_named_by e r
is_picked_by Modify e r = is_reached_by e r
is_picked_by ModifyStrict e r = is_named_by e r
is_picked_by Delete e r = is_reached_by e r
is_picked_by DeleteStrict e r = is_named_by e r

-- whether an edit picks a rule, whose actions don't count for that
abbrev pub picks : Edit → Rule → Bool
picks e r = is_picked_by e.word e (rule_view r [])

-- the signature of each rule that the edit picks includes this one
abbrev pub IsWanted : Signature → Edit → Type 0
IsWanted wanted e = (r : Rule) → picks e r ≡ true → includes (signature_in r) wanted ≡ true

-- whether an edit acts on a stored rule: one that is live after the last edit so far, and that it picks
abbrev pub acts_on : Edit → StoredRule → Bool
acts_on e s = not (is_some s.gone) && picks e s.rule

-- whether an edit names a rule that is live then: one of exactly its table, priority and match
abbrev pub names : Edit → StoredRule → Bool
names e s = not (is_some s.gone) && is_named_by e (rule_view s.rule [])

-- ---- modifications

-- whether a rule has been given the cookie and the actions of a modification by v edits: it was there before, and is picked
abbrev pub is_given : ℕ → StoredRule → Modification → Bool
is_given v s m = nat_lt s.rule.number m.number && (nat_le m.number v && picks m.edit s.rule)

abbrev pub given_cookie : ℕ → StoredRule → ℕ → Modification → ℕ
given_cookie v s cookie m = if is_given v s m then unwrap_or m.edit.cookie cookie else cookie

abbrev pub later_given : ℕ → StoredRule → Option Modification → Modification → Option Modification
later_given v s last m = if is_given v s m then Some m else last

-- the cookie of a rule after v edits: the last one that it was given by then
abbrev pub cookie_in : List Modification → ℕ → StoredRule → ℕ
cookie_in modifications v s = fold (given_cookie v s) s.rule.cookie modifications

-- the last modification that a rule was given by v edits, if there is one
abbrev pub last_given : List Modification → ℕ → StoredRule → Option Modification
last_given modifications v s = fold (later_given v s) None modifications

abbrev pub actions_in : List Modification → ℕ → StoredRule → List OfAction
actions_in modifications v s = option_map_or (λ (m : Modification). m.edit.actions) (last_given modifications v s) s.actions

-- a stored rule with this cookie, and the actions of this modification if there is one
abbrev pub with_given : StoredRule → ℕ → Option Modification → tables.Rule
with_given s cookie o = record {
  number = s.rule.number;
  table = s.rule.table;
  priority = s.rule.priority;
  cookie = cookie;
  matching = match_view s.rule.matching;
  actions = option_map_or (λ (m : Modification). m.edit.actions) o s.actions;
}

-- a stored rule as it is after v edits
abbrev pub stored_in : List Modification → ℕ → StoredRule → tables.Rule
stored_in modifications v s = with_given s (cookie_in modifications v s) (last_given modifications v s)

-- ---- lives

-- whether v edits are fewer than those after which a rule is gone
abbrev pub is_before : ℕ → Option ℕ → Bool
is_before v None = true
is_before v (Some gone) = nat_lt v gone

-- whether a stored rule is live after v edits
abbrev pub is_alive : ℕ → StoredRule → Bool
is_alive v s = nat_le s.rule.number v && is_before v s.gone

-- the rule after v edits, where it is live then
abbrev pub rule_at : List Modification → ℕ → StoredRule → Option tables.Rule
rule_at modifications v s = if is_alive v s then Some (stored_in modifications v s) else None

abbrev pub rules_at : List Modification → ℕ → List StoredRule → List tables.Rule
rules_at modifications v stored = filter_map (rule_at modifications v) stored

-- the stored rule of this number
abbrev pub stored_numbered : ℕ → List StoredRule → Option StoredRule
stored_numbered number stored = find (λ (s : StoredRule). s.rule.number == number) stored

-- the stored rules, of which the one at this place is gone from an edit on
abbrev pub ended : ℕ → ℕ → List StoredRule → List StoredRule
ended place gone [] = []
ended zero gone (s ∷ rest) = record s { gone = Some gone } ∷ rest
ended (suc place) gone (s ∷ rest) = s ∷ ended place gone rest

-- the same, if there is a place
abbrev pub with_end : Option ℕ → ℕ → List StoredRule → List StoredRule
with_end None gone stored = stored
with_end (Some place) gone stored = ended place gone stored

-- a stored rule, which is gone from an edit on if that acts on it
abbrev pub ended_by : Edit → ℕ → StoredRule → StoredRule
ended_by e gone s = if acts_on e s then record s { gone = Some gone } else s

-- ---- the store

-- the signatures of stored rules, in their order
abbrev pub signatures_in : List StoredRule → List Signature
signatures_in stored = map (λ (s : StoredRule). signature_in s.rule) stored

-- Stored rules stand in the order of their numbers.
abbrev pub AreInOrder : List StoredRule → Type 0
AreInOrder stored =
    (i j : ℕ) (s t : StoredRule) → slice_get stored i ≡ Some s → slice_get stored j ≡ Some t → i < j → s.rule.number < t.rule.number

-- Their numbers are those of edits from 1 to the last.
abbrev pub AreNumbered : List StoredRule → ℕ → Type 0
AreNumbered stored last = (i : ℕ) (s : StoredRule) → slice_get stored i ≡ Some s → (i < s.rule.number) × (s.rule.number ≤ last)

-- A rule is live after the edit that added it, and its life doesn't end after the last edit.
pub record AreLives (stored : List StoredRule) (last : ℕ) : Type 0 where
  pub begun : (i gone : ℕ) (s : StoredRule) → slice_get stored i ≡ Some s → s.gone ≡ Some gone → s.rule.number < gone
  pub ended : (i gone : ℕ) (s : StoredRule) → slice_get stored i ≡ Some s → s.gone ≡ Some gone → gone ≤ last

-- No modification is of an edit after the last.
abbrev pub AreMade : List Modification → ℕ → Type 0
AreMade modifications last = (i : ℕ) (m : Modification) → slice_get modifications i ≡ Some m → m.number ≤ last

-- No edit names two rules that are live.
abbrev pub AreApart : List StoredRule → Type 0
AreApart stored =
    (e : Edit) (i j : ℕ) (s t : StoredRule) → slice_get stored i ≡ Some s → slice_get stored j ≡ Some t → names e s ≡ true → names e t ≡ true → i ≡ j

-- The modifications, the stored rules, the last edit and the count of changes are consistent: an edit changes no more rules
-- than there are numbers.
pub record AreConsistent (modifications : List Modification) (stored : List StoredRule) (last changes : ℕ) : Type 0 where
  pub fits : last < 2 ^ 32
  pub in_order : AreInOrder stored
  pub numbered : AreNumbered stored last
  pub lives : AreLives stored last
  pub made : AreMade modifications last
  pub apart : AreApart stored
  pub few_changes : changes ≤ 2 ^ 32 * last
