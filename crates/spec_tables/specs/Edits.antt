-- What edits do to the rules.
use Rattle.std.specs.Prelude.{ℕ, zero, suc, Bool, ◌&&◌, not, ◌==◌, if◌then◌else◌, true, List, [], ◌∷◌, ◌++◌, map, filter, slice_get, Option, Some, None, unwrap_or}
use Rattle.std.specs.List.{list_all}
use Rattle.spec_actions.specs.declared.action.OfAction.{OfAction}
use Rattle.spec_actions.specs.Sound.{is_sound}
use Rattle.spec_tables.specs.declared.edit_word.EditWord.{EditWord}
use Rattle.spec_tables.specs.declared.edit_word.EditWord.TheVariants.{Add, Modify, ModifyStrict, Delete, DeleteStrict}
use Rattle.spec_tables.specs.Rules.{Match, Rule, is_same_match, is_within}

pub record Edit : Type 0 where
  pub word : EditWord
  pub table : Option ℕ
  pub priority : ℕ
  pub cookie : Option ℕ
  pub matching : Match
  pub actions : List OfAction

-- whether the actions of an edit are sound
abbrev pub has_sound_actions : Edit → Bool
has_sound_actions e = list_all is_sound e.actions

-- the table of an edit that acts on one alone; without a word it is table 0
abbrev pub table_of : Edit → ℕ
table_of e = unwrap_or e.table 0

-- whether a rule has exactly the table, priority and match of an edit
abbrev pub is_named_by : Edit → Rule → Bool
is_named_by e r = (r.table == table_of e) && ((r.priority == e.priority) && is_same_match r.matching e.matching)

-- whether a rule stands in the table of an edit, or in any where it names none
abbrev pub is_in_table : Option ℕ → Rule → Bool
is_in_table None r = true
is_in_table (Some table) r = r.table == table

-- whether a rule is one of those that a loose edit acts on; priorities don't count
abbrev pub is_reached_by : Edit → Rule → Bool
is_reached_by e r = is_in_table e.table r && is_within r.matching e.matching

-- the rule that an edit adds
abbrev pub rule_of : ℕ → Edit → Rule
rule_of number e =
    record { number = number; table = table_of e; priority = e.priority; cookie = unwrap_or e.cookie 0; matching = e.matching; actions = e.actions }

-- a rule with the actions of an edit, and its cookie where that has one; number and the rest stay
abbrev pub with_actions : Edit → Rule → Rule
with_actions e r = record r { cookie = unwrap_or e.cookie r.cookie; actions = e.actions }

-- the rules with those changed that the test picks
abbrev pub modified : (Rule → Bool) → Edit → List Rule → List Rule
modified picked e rules = map (λ r. if picked r then with_actions e r else r) rules

-- the rules without those that the test picks
abbrev pub without : (Rule → Bool) → List Rule → List Rule
without picked rules = filter (λ r. not (picked r)) rules

-- the rules after an edit of this kind and number
abbrev pub edited : EditWord → ℕ → Edit → List Rule → List Rule
edited Add number e rules = without (is_named_by e) rules ++ rule_of number e ∷ []
edited Modify number e rules = modified (is_reached_by e) e rules
edited ModifyStrict number e rules = modified (is_named_by e) e rules
edited Delete number e rules = without (is_reached_by e) rules
edited DeleteStrict number e rules = without (is_named_by e) rules

abbrev pub after_edit : ℕ → Option Edit → List Rule → List Rule
after_edit number None rules = rules
after_edit number (Some e) rules = edited e.word number e rules

-- the rules after the first n edits: none at first, and then each edit changes those that the ones before it made
unfoldable pub after_edits : List Edit → ℕ → List Rule
after_edits edits zero = []
after_edits edits (suc n) = after_edit (suc n) (slice_get edits n) (after_edits edits n)
