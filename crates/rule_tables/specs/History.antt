-- What edits made of the flow tables, edit by edit, and the versions that bundles of them made.
use Rattle.std.specs.Prelude.{ℕ, ◌+◌, ◌-◌, List, [], ◌∷◌, ◌++◌, length, map, get_or, Option}
use Rattle.std.specs.List.{fold, range_with_len}
use Rattle.spec_tables.specs.Rules.{Rule}
use Rattle.spec_tables.specs.Edits.{Edit, edited, after_edits}
use Rattle.spec_tables.specs.Bundles.{edits_through}
use Rattle.spec_tables.specs.Live.{rule_numbered}
use Rattle.spec_tables.specs.Changes.{changes_by, changes_to}

-- ---- edit by edit

-- the rules after each edit, those before the first edit at the front, and how many rules the edits changed
pub record EditHistory : Type 0 where
  pub states : List (List Rule)
  pub changes : ℕ

-- before the first edit
abbrev pub no_edits : EditHistory
no_edits = record { states = [] ∷ []; changes = 0 }

-- how many edits were applied
abbrev pub applied : EditHistory → ℕ
applied h = length h.states - 1

-- the rules after so many edits
abbrev pub rules_after : EditHistory → ℕ → List Rule
rules_after h n = get_or h.states n []

-- one more edit
abbrev pub edited_by : Edit → EditHistory → EditHistory
edited_by e h = record {
  states = h.states ++ edited e.word (length h.states) e (rules_after h (applied h)) ∷ [];
  changes = h.changes + changes_by e.word e (rules_after h (applied h));
}

-- more edits, one after the other
abbrev pub edited_by_all : List Edit → EditHistory → EditHistory
edited_by_all edits h = fold (λ h e. edited_by e h) h edits

-- the rule of a number as its edit added it: a rule has the number of the edit after which it first stands
abbrev pub added_as : EditHistory → ℕ → Option Rule
added_as h number = rule_numbered number (rules_after h number)

-- these rules after each number of edits from 0 to n
abbrev pub states_to : ℕ → (ℕ → List Rule) → List (List Rule)
states_to n rules = map rules (range_with_len 0 (n + 1))

-- the history of these edits
unfoldable pub edit_history : List Edit → EditHistory
edit_history edits = record { states = states_to (length edits) (after_edits edits); changes = changes_to edits (length edits) }

-- ---- version by version

-- what the edits made, and how many of them stand through each bundle
pub record History : Type 0 where
  pub edits : EditHistory
  pub bundles : List ℕ

-- before the first bundle
abbrev pub no_bundles : History
no_bundles = record { edits = no_edits; bundles = [] }

-- the number of the last version
abbrev pub newest : History → ℕ
newest h = length h.bundles

-- the rules of a version
abbrev pub rules_of : History → ℕ → List Rule
rules_of h v = rules_after h.edits (edits_through h.bundles v)

-- one more bundle, of these edits, makes one more version
abbrev pub bundled_by : List Edit → History → History
bundled_by list h = record { edits = edited_by_all list h.edits; bundles = h.bundles ++ (applied h.edits + length list) ∷ [] }

-- the history of these edits in these bundles
abbrev pub history_of : List Edit → List ℕ → History
history_of edits bundles = record { edits = edit_history edits; bundles = bundles }
