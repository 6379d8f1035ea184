-- Rows: winners, what edits do, and the versions that bundles of them make.
use Rattle.std.proofs.Common.{◌≡◌, ℕ, true, false, List, [], ◌∷◌, map, Option, Some, None, refl}
use Rattle.std.specs.Option.{option_map}
use Rattle.spec_keys.specs.declared.field_id.FieldId.TheVariants as field
use Rattle.spec_keys.specs.Keys.{none, masked, same, joined}
use Rattle.spec_actions.specs.declared.action.OfAction.{OfAction}
use Rattle.spec_actions.specs.declared.action.OfAction.TheVariants.{Output}
use Rattle.spec_tables.specs.declared.edit_word.EditWord.{EditWord}
use Rattle.spec_tables.specs.declared.edit_word.EditWord.TheVariants.{Add, Modify, ModifyStrict, Delete, DeleteStrict}
use Rattle.spec_tables.specs.Rules.{Rule, rules_in, winner}
use Rattle.spec_tables.specs.Edits.{Edit, after_edits}
use Rattle.spec_tables.specs.Bundles.{bundle, each_alone, version}
use Rattle.spec_tables.specs.Changes.{changes_to}
use Rattle.spec_tables.specs.Live.{rule_added, rule_numbered, is_live}
use Rattle.spec_tables.proofs.Packets.{Stated, is, begins, key_of, mask_of, match_of}

-- ---- winners

abbrev frame : List ℕ
frame = key_of (is field.InPort 1 ∷ is field.DlSrc 1 ∷ is field.DlDst 2 ∷ is field.DlType 0x88b5 ∷ [])

abbrev rule : ℕ → ℕ → List Stated → Rule
rule number priority stated = record { number = number; table = 0; priority = priority; cookie = 0; matching = match_of stated; actions = Output number ∷ [] }

-- the number of the rule that wins
unfoldable won : List Rule → Option ℕ
unfolding none masked same key_of mask_of winner
won rules = number (winner rules frame)
  where
    number : Option Rule → Option ℕ
    number None = None
    number (Some r) = Some r.number

abbrev at_port_1 : ℕ → ℕ → Rule
at_port_1 number priority = rule number priority (is field.InPort 1 ∷ [])

abbrev to_address_2 : ℕ → ℕ → Rule
to_address_2 number priority = rule number priority (is field.DlDst 2 ∷ [])

of_equal_priorities_the_least_number_wins :
    (won (at_port_1 1 5 ∷ to_address_2 2 5 ∷ []) ≡ Some 1) × (won (to_address_2 2 5 ∷ at_port_1 1 5 ∷ []) ≡ Some 1)
unfolding won
of_equal_priorities_the_least_number_wins = (refl, refl)

the_greatest_priority_wins :
    (won (at_port_1 1 5 ∷ to_address_2 2 6 ∷ []) ≡ Some 2) × (won (to_address_2 2 6 ∷ at_port_1 1 5 ∷ []) ≡ Some 2)
unfolding won
the_greatest_priority_wins = (refl, refl)

a_rule_that_does_not_match_wins_at_no_priority : won (rule 1 65535 (is field.InPort 2 ∷ []) ∷ at_port_1 2 0 ∷ []) ≡ Some 2
unfolding won
a_rule_that_does_not_match_wins_at_no_priority = refl

a_match_tests_the_bits_of_its_mask_alone : won (rule 1 0 (begins field.DlType 0x8800 8 ∷ []) ∷ []) ≡ Some 1
unfolding won
a_match_tests_the_bits_of_its_mask_alone = refl

where_none_matches_none_wins : (won (rule 1 5 (is field.InPort 2 ∷ []) ∷ []) ≡ None) × (won [] ≡ None)
unfolding won
where_none_matches_none_wins = (refl, refl)

-- ---- edits

abbrev edit : EditWord → List Stated → ℕ → Edit
edit word stated port = record { word = word; table = None; priority = 32768; cookie = None; matching = match_of stated; actions = Output port ∷ [] }

-- a rule as rows show it
record Live : Type 0 where
  number : ℕ
  table : ℕ
  priority : ℕ
  cookie : ℕ
  actions : List OfAction

abbrev shown : Rule → Live
shown r = record { number = r.number; table = r.table; priority = r.priority; cookie = r.cookie; actions = r.actions }

unfoldable live : List Edit → ℕ → List Live
unfolding none masked same joined key_of mask_of after_edits
live edits n = map shown (after_edits edits n)

-- a rule of table 0, the usual priority and no cookie, with one output
abbrev sends : ℕ → ℕ → Live
sends number port = record { number = number; table = 0; priority = 32768; cookie = 0; actions = Output port ∷ [] }

abbrev port_1 : List Stated
port_1 = is field.InPort 1 ∷ []

abbrev port_1_to_2 : List Stated
port_1_to_2 = is field.InPort 1 ∷ is field.DlDst 2 ∷ []

abbrev five_edits : List Edit
five_edits = edit Add port_1 2 ∷ edit Add port_1_to_2 3 ∷ edit Modify port_1 4 ∷ edit DeleteStrict port_1 0
    ∷ edit Add port_1_to_2 5 ∷ []

before_the_first_edit_there_are_no_rules : live five_edits 0 ≡ []
unfolding live
before_the_first_edit_there_are_no_rules = refl

a_rule_has_the_number_of_the_edit_that_added_it : live five_edits 2 ≡ sends 1 2 ∷ sends 2 3 ∷ []
unfolding live
a_rule_has_the_number_of_the_edit_that_added_it = refl

a_loose_modify_reaches_more_specific_rules_and_keeps_their_numbers : live five_edits 3 ≡ sends 1 4 ∷ sends 2 4 ∷ []
unfolding live
a_loose_modify_reaches_more_specific_rules_and_keeps_their_numbers = refl

a_strict_delete_takes_the_rule_of_its_match_alone : live five_edits 4 ≡ sends 2 4 ∷ []
unfolding live
a_strict_delete_takes_the_rule_of_its_match_alone = refl

an_add_of_the_same_match_and_priority_replaces : live five_edits 5 ≡ sends 5 5 ∷ []
unfolding live
an_add_of_the_same_match_and_priority_replaces = refl

a_strict_modify_changes_the_rule_of_its_match_alone :
    live (edit Add port_1 2 ∷ edit Add port_1_to_2 3 ∷ edit ModifyStrict port_1 4 ∷ []) 3 ≡ sends 1 4 ∷ sends 2 3 ∷ []
unfolding live
a_strict_modify_changes_the_rule_of_its_match_alone = refl

a_loose_delete_reaches_more_specific_rules_and_no_wider_ones :
    (live (edit Add port_1 2 ∷ edit Add port_1_to_2 3 ∷ edit Delete port_1 0 ∷ []) 3 ≡ [])
    × (live (edit Add port_1 2 ∷ edit Add port_1_to_2 3 ∷ edit Delete port_1_to_2 0 ∷ []) 3 ≡ sends 1 2 ∷ [])
unfolding live
a_loose_delete_reaches_more_specific_rules_and_no_wider_ones = (refl, refl)

no_edit_comes_after_the_last : live five_edits 9 ≡ sends 5 5 ∷ []
unfolding live
no_edit_comes_after_the_last = refl

a_modify_that_reaches_no_rule_adds_none :
    (live (edit Modify port_1 4 ∷ []) 1 ≡ []) × (live (edit ModifyStrict port_1 4 ∷ []) 1 ≡ [])
unfolding live
a_modify_that_reaches_no_rule_adds_none = (refl, refl)

-- two networks whose addresses are the same number
abbrev slash_8 : List Stated
slash_8 = begins field.NwDst 0x0a000000 8 ∷ []

abbrev slash_16 : List Stated
slash_16 = begins field.NwDst 0x0a000000 16 ∷ []

matches_of_the_same_number_under_other_masks_are_two :
    (live (edit Add slash_8 2 ∷ edit Add slash_16 3 ∷ []) 2 ≡ sends 1 2 ∷ sends 2 3 ∷ [])
    × (live (edit Add slash_8 2 ∷ edit Add slash_16 3 ∷ edit DeleteStrict slash_16 0 ∷ []) 3 ≡ sends 1 2 ∷ [])
unfolding live
matches_of_the_same_number_under_other_masks_are_two = (refl, refl)

-- of another number under the same mask, and of the same number without a mask
a_loose_word_reaches_no_rule_of_another_number_or_of_fewer_bits :
    (live (edit Add port_1 2 ∷ edit Modify (is field.InPort 2 ∷ []) 4 ∷ []) 2 ≡ sends 1 2 ∷ [])
    × (live (edit Add [] 2 ∷ edit Delete (is field.InPort 0 ∷ []) 0 ∷ []) 2 ≡ sends 1 2 ∷ [])
unfolding live
a_loose_word_reaches_no_rule_of_another_number_or_of_fewer_bits = (refl, refl)

-- the same edit at another priority, in another table, or with a cookie
abbrev at_priority : ℕ → Edit → Edit
at_priority p e = record e { priority = p }

abbrev in_table : ℕ → Edit → Edit
in_table t e = record e { table = Some t }

abbrev with_cookie : ℕ → Edit → Edit
with_cookie c e = record e { cookie = Some c }

an_add_of_another_priority_replaces_nothing :
    live (edit Add port_1 2 ∷ at_priority 7 (edit Add port_1 3) ∷ []) 2 ≡ sends 1 2
    ∷ record { number = 2; table = 0; priority = 7; cookie = 0; actions = Output 3 ∷ [] } ∷ []
unfolding live
an_add_of_another_priority_replaces_nothing = refl

the_loose_words_do_not_mind_priorities_and_the_strict_ones_do :
    (live (edit Add port_1 2 ∷ at_priority 7 (edit Modify port_1 4) ∷ []) 2 ≡ sends 1 4 ∷ [])
    × ((live (edit Add port_1 2 ∷ at_priority 7 (edit ModifyStrict port_1 4) ∷ []) 2 ≡ sends 1 2 ∷ [])
    × ((live (edit Add port_1 2 ∷ at_priority 7 (edit Delete port_1 0) ∷ []) 2 ≡ [])
    × (live (edit Add port_1 2 ∷ at_priority 7 (edit DeleteStrict port_1 0) ∷ []) 2 ≡ sends 1 2 ∷ [])))
unfolding live
the_loose_words_do_not_mind_priorities_and_the_strict_ones_do = (refl, (refl, (refl, refl)))

abbrev in_table_3 : Live
in_table_3 = record { number = 1; table = 3; priority = 32768; cookie = 0; actions = Output 2 ∷ [] }

a_loose_word_without_a_table_reaches_all_tables_and_a_strict_one_table_0 :
    (live (in_table 3 (edit Add port_1 2) ∷ edit Delete port_1 0 ∷ []) 2 ≡ [])
    × (live (in_table 3 (edit Add port_1 2) ∷ edit DeleteStrict port_1 0 ∷ []) 2 ≡ in_table_3 ∷ [])
unfolding live
a_loose_word_without_a_table_reaches_all_tables_and_a_strict_one_table_0 = (refl, refl)

a_word_with_a_table_reaches_that_table_alone :
    live (in_table 3 (edit Add port_1 2) ∷ in_table 2 (edit Delete port_1 0) ∷ []) 2 ≡ in_table_3 ∷ []
unfolding live
a_word_with_a_table_reaches_that_table_alone = refl

abbrev cookie_9 : ℕ → Live
cookie_9 port = record { number = 1; table = 0; priority = 32768; cookie = 9; actions = Output port ∷ [] }

a_modify_without_a_cookie_keeps_that_of_the_rule :
    (live (with_cookie 9 (edit Add port_1 2) ∷ edit Modify port_1 4 ∷ []) 2 ≡ cookie_9 4 ∷ [])
    × (live (edit Add port_1 2 ∷ with_cookie 9 (edit Modify port_1 4) ∷ []) 2 ≡ cookie_9 4 ∷ [])
unfolding live
a_modify_without_a_cookie_keeps_that_of_the_rule = (refl, refl)

no_delete_minds_a_cookie :
    (live (edit Add port_1 2 ∷ with_cookie 9 (edit Delete port_1 0) ∷ []) 2 ≡ [])
    × (live (edit Add port_1 2 ∷ with_cookie 9 (edit DeleteStrict port_1 0) ∷ []) 2 ≡ [])
unfolding live
no_delete_minds_a_cookie = (refl, refl)

-- ---- bundles

unfoldable live_in : List Edit → List ℕ → ℕ → List Live
unfolding none masked same joined key_of mask_of after_edits
live_in edits bundles v = map shown (version edits bundles v)

-- a rule, and in its place another, which is added after the first is gone
abbrev replaced : List Edit
replaced = edit Add port_1 2 ∷ edit Delete port_1 0 ∷ edit Add port_1 3 ∷ []

version_0_has_no_rules : live_in replaced (1 ∷ 3 ∷ []) 0 ≡ []
unfolding live_in
version_0_has_no_rules = refl

edits_of_one_bundle_are_seen_together_and_a_rule_has_the_number_of_its_edit :
    map (live_in replaced (1 ∷ 3 ∷ [])) (1 ∷ 2 ∷ []) ≡ (sends 1 2 ∷ []) ∷ (sends 3 3 ∷ []) ∷ []
unfolding live_in
edits_of_one_bundle_are_seen_together_and_a_rule_has_the_number_of_its_edit = refl

an_edit_by_itself_is_a_bundle :
    map (live_in replaced (each_alone replaced)) (1 ∷ 2 ∷ 3 ∷ []) ≡ (sends 1 2 ∷ []) ∷ [] ∷ (sends 3 3 ∷ []) ∷ []
unfolding live_in
an_edit_by_itself_is_a_bundle = refl

a_rule_that_comes_and_goes_within_a_bundle_stands_in_no_version : map (live_in replaced (2 ∷ 3 ∷ [])) (1 ∷ 2 ∷ []) ≡ [] ∷ (sends 3 3 ∷ []) ∷ []
unfolding live_in
a_rule_that_comes_and_goes_within_a_bundle_stands_in_no_version = refl

a_bundle_has_the_edits_after_those_of_the_one_before :
    (bundle replaced (1 ∷ 3 ∷ []) 1 ≡ edit Add port_1 2 ∷ []) × (bundle replaced (1 ∷ 3 ∷ []) 2 ≡ edit Delete port_1 0 ∷ edit Add port_1 3 ∷ [])
a_bundle_has_the_edits_after_those_of_the_one_before = (refl, refl)

-- ---- how many rules are changed

unfoldable changes : List Edit → List ℕ → List ℕ
unfolding none masked same joined key_of mask_of after_edits changes_to
changes edits counts = map (changes_to edits) counts

-- adds, a loose modify of both rules, a strict delete of one, and an add that replaces the other; beyond the last edit
-- nothing changes
each_edit_counts_the_rules_that_it_adds_gives_actions_to_or_removes :
    changes five_edits (0 ∷ 1 ∷ 2 ∷ 3 ∷ 4 ∷ 5 ∷ 6 ∷ []) ≡ 0 ∷ 1 ∷ 2 ∷ 4 ∷ 5 ∷ 7 ∷ 7 ∷ []
unfolding changes
each_edit_counts_the_rules_that_it_adds_gives_actions_to_or_removes = refl

-- of two rules, the match of one of which is more specific than that of the other
a_loose_word_counts_both_rules_and_a_strict_one_its_own :
    map (λ word. changes (edit Add port_1 2 ∷ edit Add port_1_to_2 3 ∷ edit word port_1 4 ∷ []) (3 ∷ []))
    (Add ∷ Modify ∷ ModifyStrict ∷ Delete ∷ DeleteStrict ∷ [])
    ≡ (4 ∷ []) ∷ (4 ∷ []) ∷ (3 ∷ []) ∷ (4 ∷ []) ∷ (3 ∷ []) ∷ []
unfolding changes
a_loose_word_counts_both_rules_and_a_strict_one_its_own = refl

an_edit_that_reaches_no_rule_changes_none :
    map (λ word. changes (edit Add port_1 2 ∷ edit word (is field.InPort 2 ∷ []) 4 ∷ []) (2 ∷ []))
    (Add ∷ Modify ∷ ModifyStrict ∷ Delete ∷ DeleteStrict ∷ [])
    ≡ (2 ∷ []) ∷ (1 ∷ []) ∷ (1 ∷ []) ∷ (1 ∷ []) ∷ (1 ∷ []) ∷ []
unfolding changes
an_edit_that_reaches_no_rule_changes_none = refl

-- ---- rules by their numbers

-- one edit of each kind, after two rules; the fifth edit leaves the first of them
abbrev each_word : List Edit
each_word = edit Add port_1 2 ∷ edit Add port_1_to_2 3 ∷ edit Modify port_1 4 ∷ edit ModifyStrict port_1 5
    ∷ edit DeleteStrict port_1_to_2 0 ∷ edit Delete port_1 0 ∷ []

abbrev added : ℕ → Option Live
added number = option_map shown (rule_added each_word number)

adds_alone_add_a_rule_of_their_number_and_it_is_shown_as_it_was_added :
    map added (0 ∷ 1 ∷ 2 ∷ 3 ∷ 4 ∷ 5 ∷ 6 ∷ 7 ∷ [])
    ≡ None ∷ Some (sends 1 2) ∷ Some (sends 2 3) ∷ None ∷ None ∷ None ∷ None ∷ None ∷ []
unfolding live
adds_alone_add_a_rule_of_their_number_and_it_is_shown_as_it_was_added = refl

a_rule_among_rules_is_found_by_its_number_as_it_is_there :
    map (λ number. option_map shown (rule_numbered number (after_edits each_word 5))) (0 ∷ 1 ∷ 2 ∷ 4 ∷ [])
    ≡ None ∷ Some (sends 1 5) ∷ None ∷ None ∷ []
unfolding live
a_rule_among_rules_is_found_by_its_number_as_it_is_there = refl

a_rule_is_live_from_its_add_to_its_delete :
    (map (λ v. is_live 2 (after_edits each_word v)) (1 ∷ 2 ∷ 4 ∷ 5 ∷ []) ≡ false ∷ true ∷ true ∷ false ∷ [])
    × (map (λ v. is_live 0 (after_edits each_word v)) (2 ∷ []) ≡ false ∷ [])
unfolding live
a_rule_is_live_from_its_add_to_its_delete = (refl, refl)

-- ---- tables

a_table_has_its_own_rules :
    map (λ r. r.number) (rules_in 1 (at_port_1 1 5 ∷ record (at_port_1 2 5) { table = 1 } ∷ at_port_1 3 5 ∷ [])) ≡ 2 ∷ []
a_table_has_its_own_rules = refl
