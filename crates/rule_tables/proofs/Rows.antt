-- Rows: what edits make of the rules, and how many rules they change.
use Rattle.std.proofs.Common.{◌≡◌, ℕ, List, [], ◌∷◌, map, Some, None, refl}
use Rattle.spec_keys.specs.declared.field_id.FieldId.TheVariants as field
use Rattle.spec_keys.specs.Keys.{none, masked, same, joined}
use Rattle.spec_actions.specs.declared.action.OfAction.{OfAction}
use Rattle.spec_actions.specs.declared.action.OfAction.TheVariants.{Output}
use Rattle.spec_tables.specs.declared.edit_word.EditWord.{EditWord}
use Rattle.spec_tables.specs.declared.edit_word.EditWord.TheVariants.{Add, Modify, ModifyStrict, Delete, DeleteStrict}
use Rattle.spec_tables.specs.Rules.{Rule}
use Rattle.spec_tables.specs.Edits.{Edit, after_edits}
use Rattle.spec_tables.proofs.Packets.{Stated, is, key_of, mask_of, match_of}
use Rattle.spec_tables.specs.Changes.{changes_to}
use Rattle.rule_tables.specs.History.{rules_after, edit_history}

abbrev edit : EditWord → List Stated → ℕ → Edit
edit word stated port = record { word = word; table = None; priority = 32768; cookie = None; matching = match_of stated; actions = Output port ∷ [] }

abbrev in_table : ℕ → Edit → Edit
in_table t e = record e { table = Some t }

abbrev with_cookie : ℕ → Edit → Edit
with_cookie c e = record e { cookie = Some c }

-- a rule as rows show it
record Live : Type 0 where
  number : ℕ
  table : ℕ
  cookie : ℕ
  actions : List OfAction

abbrev shown : Rule → Live
shown r = record { number = r.number; table = r.table; cookie = r.cookie; actions = r.actions }

abbrev sends : ℕ → ℕ → ℕ → ℕ → Live
sends number table cookie port = record { number = number; table = table; cookie = cookie; actions = Output port ∷ [] }

-- the rules after so many edits, and how many rules the edits up to it change
unfoldable live : List Edit → ℕ → List Live
unfolding none masked same joined key_of mask_of after_edits edit_history
live edits v = map shown (rules_after (edit_history edits) v)

unfoldable changed : List Edit → ℕ → ℕ
unfolding none masked same joined key_of mask_of after_edits changes_to
changed edits v = changes_to edits v

abbrev port_1 : List Stated
port_1 = is field.InPort 1 ∷ []

abbrev port_1_to_2 : List Stated
port_1_to_2 = is field.InPort 1 ∷ is field.DlDst 2 ∷ []

abbrev five_edits : List Edit
five_edits = edit Add port_1 2 ∷ edit Add port_1_to_2 3 ∷ edit Modify port_1 4 ∷ edit DeleteStrict port_1 0 ∷ edit Add port_1_to_2 5 ∷ []

five_edits_of_four_words :
    (live five_edits 3 ≡ sends 1 0 0 4 ∷ sends 2 0 0 4 ∷ [])
    × ((live five_edits 5 ≡ sends 5 0 0 5 ∷ [])
    × (map (changed five_edits) (0 ∷ 1 ∷ 2 ∷ 3 ∷ 4 ∷ 5 ∷ []) ≡ 0 ∷ 1 ∷ 2 ∷ 4 ∷ 5 ∷ 7 ∷ []))
unfolding live changed
five_edits_of_four_words = (refl, (refl, refl))

-- a rule in each of two tables
abbrev two_tables : Edit → List Edit
two_tables e = edit Add port_1 2 ∷ in_table 3 (edit Add port_1 2) ∷ e ∷ []

a_loose_word_without_a_table_reaches_both_tables :
    (live (two_tables (edit Delete port_1 0)) 3 ≡ []) × ((changed (two_tables (edit Delete port_1 0)) 3 ≡ 4)
    × ((live (two_tables (edit Modify port_1 4)) 3 ≡ sends 1 0 0 4 ∷ sends 2 3 0 4 ∷ []) × (changed (two_tables (edit Modify port_1 4)) 3 ≡ 4)))
unfolding live changed
a_loose_word_without_a_table_reaches_both_tables = (refl, (refl, (refl, refl)))

a_strict_word_without_a_table_acts_on_table_0 :
    (live (two_tables (edit DeleteStrict port_1 0)) 3 ≡ sends 2 3 0 2 ∷ []) × ((changed (two_tables (edit DeleteStrict port_1 0)) 3 ≡ 3)
    × ((live (two_tables (edit ModifyStrict port_1 4)) 3 ≡ sends 1 0 0 4 ∷ sends 2 3 0 2 ∷ []) × (changed (two_tables (edit ModifyStrict port_1 4)) 3 ≡ 3)))
unfolding live changed
a_strict_word_without_a_table_acts_on_table_0 = (refl, (refl, (refl, refl)))

a_modify_gives_its_cookie_where_it_has_one :
    (live (with_cookie 9 (edit Add port_1 2) ∷ edit Modify port_1 4 ∷ []) 2 ≡ sends 1 0 9 4 ∷ [])
    × (live (with_cookie 9 (edit Add port_1 2) ∷ with_cookie 8 (edit ModifyStrict port_1 4) ∷ []) 2 ≡ sends 1 0 8 4 ∷ [])
unfolding live
a_modify_gives_its_cookie_where_it_has_one = (refl, refl)

an_edit_that_fits_no_rule_changes_none :
    (map (λ word. live (edit Add port_1 2 ∷ edit word port_1_to_2 4 ∷ []) 2) (Modify ∷ ModifyStrict ∷ Delete ∷ DeleteStrict ∷ [])
    ≡ (sends 1 0 0 2 ∷ []) ∷ (sends 1 0 0 2 ∷ []) ∷ (sends 1 0 0 2 ∷ []) ∷ (sends 1 0 0 2 ∷ []) ∷ [])
    × (map (λ word. changed (edit Add port_1 2 ∷ edit word port_1_to_2 4 ∷ []) 2) (Modify ∷ ModifyStrict ∷ Delete ∷ DeleteStrict ∷ [])
    ≡ 1 ∷ 1 ∷ 1 ∷ 1 ∷ [])
unfolding live changed
an_edit_that_fits_no_rule_changes_none = (refl, refl)
