-- Worked rows: files of edits, and sync lines.
use Rattle.std.specs.Prelude.{◌≡◌, ℕ, List, [], ◌∷◌, ◌++◌, map, replicate, Some, None, Ok, Err, codes, refl}
use Rattle.std.specs.Result.{result_err}
use Rattle.spec_keys.specs.Keys.{none, joined, only_at}
use Rattle.spec_actions.specs.declared.action.OfAction.TheVariants.{Output}
use Rattle.spec_tables.specs.declared.edit_word.EditWord.TheVariants.{Add}
use Rattle.spec_tables.specs.declared.sync_point.SyncPoint.{SyncPoint}
use Rattle.spec_tables.specs.Edits.{Edit}
use Rattle.spec_tables.specs.Bundles.{each_alone}
use Rattle.spec_flow_text.specs.Numbers.{digits_upto, decimal_upto, number_upto}
use Rattle.spec_flow_text.specs.declared.fault.TextFault.TheVariants.{Syntax, UnknownName, BadValue, Repeated}
use Rattle.spec_flow_text.specs.Names.{field_named, is_field_left_out, shorthand_named, keyword_named, item_named, reserved_port_named, is_action_left_out, action_named}
use Rattle.spec_flow_text.specs.Values.{value_in, whole_value, value_of, bits_stated, field_stated}
use Rattle.spec_flow_text.specs.Items as items
use Rattle.spec_flow_text.specs.Items.{words, with_part, with_shorthand, number_once, with_valued, with_bare, with_item}
use Rattle.spec_flow_text.specs.Matches.{default_priority, kept, match_of, read_match}
use Rattle.spec_flow_text.specs.Actions.{up_to_end, items, is_closed, argument_of, port_of, output, actions_of_item, read_items, read_actions}
use Rattle.spec_flow_text.specs.Lines.{edit_from, edit_in}
use Rattle.spec_input.specs.declared.fault.FileFault.{FileFault}
use Rattle.spec_input.specs.declared.fault.FileFault.TheVariants.{Line, SyncOrder, LineTooLong, TooManyEdits, TooManySyncs}
use Rattle.spec_input.specs.Lines.{with_next, with_lines}
use Rattle.spec_input.specs.Script.{Script, seconds_of, fraction_of, seconds_with_fraction, time_of, sync_time, nothing_read, Reading, word_alone, with_begin, with_commit, with_edit, with_sync, with_line, script_of}

-- ---- files

abbrev to_port : ℕ → Edit
to_port port = record { word = Add; table = None; priority = default_priority; cookie = None; matching = match_of []; actions = Output port ∷ [] }

abbrev says : List ℕ → List Edit → List SyncPoint → Type 0
says bytes edits syncs = script_of bytes ≡ Ok (record { edits = edits; bundles = each_alone edits; syncs = syncs })

abbrev fails : List ℕ → FileFault → Type 0
fails bytes fault = script_of bytes ≡ Err fault

lines_may_be_blank_and_the_last_may_lack_its_line_feed :
    says (codes "actions=2" ++ 10 ∷ 32 ∷ 9 ∷ 13 ∷ 10 ∷ 10 ∷ codes " # 5" ++ 10 ∷ codes "actions=3#4") (to_port 2 ∷ to_port 3 ∷ []) []
unfolding script_of with_lines with_line with_edit with_sync sync_time time_of seconds_with_fraction seconds_of fraction_of field_named is_field_left_out shorthand_named keyword_named item_named reserved_port_named is_action_left_out action_named value_in whole_value value_of bits_stated field_stated number_upto decimal_upto digits_upto words with_part with_shorthand number_once with_valued with_bare with_item items.read_items kept match_of none joined only_at read_match up_to_end items is_closed argument_of port_of output actions_of_item read_items read_actions edit_from edit_in
lines_may_be_blank_and_the_last_may_lack_its_line_feed = refl

the_first_line_with_a_fault_decides :
    (fails (codes "actions=2" ++ 10 ∷ 10 ∷ codes "actions" ++ 10 ∷ codes "foo") (Line 3 (Syntax 1)))
    × (fails (codes "sync 1" ++ 10 ∷ codes "in_port=1,in_port=1,actions=2") (Line 2 (Repeated 11)))
unfolding script_of with_lines with_line with_edit with_sync sync_time time_of seconds_with_fraction seconds_of fraction_of field_named is_field_left_out shorthand_named keyword_named item_named reserved_port_named is_action_left_out action_named value_in whole_value value_of bits_stated field_stated number_upto decimal_upto digits_upto words with_part with_shorthand number_once with_valued with_bare with_item items.read_items kept match_of none joined only_at read_match up_to_end items is_closed argument_of port_of output actions_of_item read_items read_actions edit_from edit_in
the_first_line_with_a_fault_decides = (refl, refl)

a_line_has_at_most_4096_bytes :
    (with_next with_line 1 (replicate 4096 32) nothing_read ≡ Ok nothing_read)
    × ((with_next with_line 1 (replicate 4097 32) nothing_read ≡ Err LineTooLong)
    × (with_next with_line 1 (replicate 4097 35) nothing_read ≡ Err LineTooLong))
unfolding with_line
a_line_has_at_most_4096_bytes = (refl, (refl, refl))

-- ---- sync lines

-- a sync point of a time in nanoseconds, after so many edits
abbrev sync : ℕ → ℕ → SyncPoint
sync time after = record { time = time; after = after }

abbrev times_of_sync_lines : List (List ℕ × ℕ)
times_of_sync_lines =
    (codes "sync 2", 2000000000) ∷ (codes "sync 0", 0) ∷ (codes "sync 2.5", 2500000000) ∷ (codes "sync 1.000000001", 1000000001) ∷
    (codes "sync 4294967295.999999999", 4294967295999999999) ∷ (32 ∷ 9 ∷ codes "sync" ++ 9 ∷ 32 ∷ codes "2" ++ 32 ∷ 13 ∷ [], 2000000000) ∷
    (codes "sync 2#3", 2000000000) ∷ []

a_sync_time_is_in_seconds :
    map (λ row. script_of row.0) times_of_sync_lines ≡ map (λ row. Ok (record { edits = []; bundles = []; syncs = sync row.1 0 ∷ [] })) times_of_sync_lines
unfolding script_of with_lines with_line with_sync sync_time time_of seconds_with_fraction seconds_of fraction_of words decimal_upto digits_upto
a_sync_time_is_in_seconds = refl

abbrev faults_of_sync_lines : List (List ℕ × FileFault)
faults_of_sync_lines =
    (codes " sync", Line 1 (Syntax 2)) ∷ (codes "sync 1 2", Line 1 (Syntax 1)) ∷ (codes "sync 5. 3", Line 1 (Syntax 1)) ∷
    (codes "sync 01", Line 1 (BadValue 6)) ∷ (codes "sync 1.", Line 1 (BadValue 6)) ∷ (codes "sync  .5", Line 1 (BadValue 7)) ∷
    (codes "sync 1.0123456789", Line 1 (BadValue 6)) ∷ (codes "sync 4294967296", Line 1 (BadValue 6)) ∷ (codes "sync 1.2.3", Line 1 (BadValue 6)) ∷
    (codes "sync 5,", Line 1 (BadValue 6)) ∷ (codes "sync 5" ++ 128 ∷ [], Line 1 (Syntax 7)) ∷
    (codes "sync 2" ++ 10 ∷ codes "sync 1.9", SyncOrder 2) ∷ []

a_faulty_sync_line : map (λ row. result_err (script_of row.0)) faults_of_sync_lines ≡ map (λ row. Some row.1) faults_of_sync_lines
unfolding script_of with_lines with_line with_sync sync_time time_of seconds_with_fraction seconds_of fraction_of words decimal_upto digits_upto
a_faulty_sync_line = refl

a_longer_word_is_no_sync : (fails (codes "sync2 3") (Line 1 (UnknownName 1))) × (fails (codes "sync,5") (Line 1 (UnknownName 1)))
unfolding script_of with_lines with_line with_edit with_sync sync_time time_of seconds_with_fraction seconds_of fraction_of field_named is_field_left_out shorthand_named keyword_named item_named reserved_port_named is_action_left_out action_named value_in whole_value value_of bits_stated field_stated number_upto decimal_upto digits_upto words with_part with_shorthand number_once with_valued with_bare with_item items.read_items kept match_of none joined only_at read_match up_to_end items is_closed argument_of port_of output actions_of_item read_items read_actions edit_from edit_in
a_longer_word_is_no_sync = (refl, refl)

sync_times_may_be_equal : says (codes "sync 2" ++ 10 ∷ codes "sync 2") [] (sync 2000000000 0 ∷ sync 2000000000 0 ∷ [])
unfolding script_of with_lines with_line with_sync sync_time time_of seconds_with_fraction seconds_of fraction_of words decimal_upto digits_upto
sync_times_may_be_equal = refl

edits_are_counted_before_a_sync_point :
    says (codes "sync 1" ++ 10 ∷ codes "actions=2" ++ 10 ∷ codes "sync 2" ++ 10 ∷ codes "actions=3")
    (to_port 2 ∷ to_port 3 ∷ []) (sync 1000000000 0 ∷ sync 2000000000 1 ∷ [])
unfolding script_of with_lines with_line with_edit with_sync sync_time time_of seconds_with_fraction seconds_of fraction_of field_named is_field_left_out shorthand_named keyword_named item_named reserved_port_named is_action_left_out action_named value_in whole_value value_of bits_stated field_stated number_upto decimal_upto digits_upto words with_part with_shorthand number_once with_valued with_bare with_item items.read_items kept match_of none joined only_at read_match up_to_end items is_closed argument_of port_of output actions_of_item read_items read_actions edit_from edit_in
edits_are_counted_before_a_sync_point = refl

-- so many sync points at time 0
abbrev syncs_at_0 : ℕ → Reading
syncs_at_0 n = record { said = record { edits = []; bundles = []; syncs = replicate n (sync 0 0) }; begun = None }

a_file_has_at_most_63_sync_lines :
    (with_sync 64 (codes "sync 0") (syncs_at_0 62) ≡ Ok (syncs_at_0 63)) × (with_sync 64 (codes "sync") (syncs_at_0 63) ≡ Err TooManySyncs)
unfolding with_sync sync_time time_of seconds_with_fraction seconds_of fraction_of words decimal_upto digits_upto
a_file_has_at_most_63_sync_lines = (refl, refl)

a_file_has_at_most_32768_edits :
    with_edit 1 (codes "foo") (record { said = record { edits = replicate 32768 (to_port 1); bundles = []; syncs = [] }; begun = None }) ≡ Err TooManyEdits
unfolding with_edit
a_file_has_at_most_32768_edits = refl

-- ---- bundles

abbrev lines : List (List ℕ) → List ℕ
lines [] = []
lines (line ∷ rest) = line ++ 10 ∷ lines rest

a_bundle_has_the_edits_between_its_lines_and_a_sync_point_counts_bundles :
    script_of (lines (codes "actions=1" ∷ codes "begin" ∷ codes "actions=2" ∷ codes "actions=3" ∷ codes "commit" ∷ codes "sync 1" ∷ codes "actions=4" ∷ []))
    ≡ Ok (record { edits = map to_port (1 ∷ 2 ∷ 3 ∷ 4 ∷ []); bundles = 1 ∷ 3 ∷ 4 ∷ []; syncs = sync 1000000000 2 ∷ [] })
unfolding script_of with_lines with_line with_edit with_sync sync_time time_of seconds_with_fraction seconds_of fraction_of field_named is_field_left_out shorthand_named keyword_named item_named reserved_port_named is_action_left_out action_named value_in whole_value value_of bits_stated field_stated number_upto decimal_upto digits_upto words with_part with_shorthand number_once with_valued with_bare with_item items.read_items kept match_of none joined only_at read_match up_to_end items is_closed argument_of port_of output actions_of_item read_items read_actions edit_from edit_in with_begin with_commit word_alone
a_bundle_has_the_edits_between_its_lines_and_a_sync_point_counts_bundles = refl

a_bundle_without_an_edit_is_none :
    script_of (lines (codes "begin" ∷ codes " # nothing" ∷ codes "commit" ∷ codes "actions=1" ∷ codes "begin" ∷ codes "commit" ∷ []))
    ≡ Ok (record { edits = to_port 1 ∷ []; bundles = 1 ∷ []; syncs = [] })
unfolding script_of with_lines with_line with_edit with_sync sync_time time_of seconds_with_fraction seconds_of fraction_of field_named is_field_left_out shorthand_named keyword_named item_named reserved_port_named is_action_left_out action_named value_in whole_value value_of bits_stated field_stated number_upto decimal_upto digits_upto words with_part with_shorthand number_once with_valued with_bare with_item items.read_items kept match_of none joined only_at read_match up_to_end items is_closed argument_of port_of output actions_of_item read_items read_actions edit_from edit_in with_begin with_commit word_alone
a_bundle_without_an_edit_is_none = refl

abbrev faults_of_bundles : List (List ℕ × FileFault)
faults_of_bundles =
    (lines (codes "begin" ∷ codes "sync 1" ∷ []), Line 2 (Syntax 1)) ∷ (codes " begin", Line 1 (Syntax 2)) ∷ (codes "commit", Line 1 (Syntax 1)) ∷
    (lines (codes "begin" ∷ codes "  begin" ∷ []), Line 2 (Syntax 3)) ∷ (codes "begin x", Line 1 (Syntax 7)) ∷
    (lines (codes "begin" ∷ codes "begin x" ∷ []), Line 2 (Syntax 1)) ∷ (codes " commit x", Line 1 (Syntax 2)) ∷
    (lines (codes "begin" ∷ codes "commit x" ∷ []), Line 2 (Syntax 8)) ∷ (lines (codes "begin" ∷ codes "commit" ∷ codes "commit" ∷ []), Line 3 (Syntax 1)) ∷
    (codes "begin" ++ 128 ∷ [], Line 1 (Syntax 6)) ∷ (lines (codes "begin" ∷ codes "foo" ∷ []), Line 2 (UnknownName 1)) ∷
    (codes "begins", Line 1 (UnknownName 1)) ∷ []

a_faulty_line_of_a_bundle : map (λ row. result_err (script_of row.0)) faults_of_bundles ≡ map (λ row. Some row.1) faults_of_bundles
unfolding script_of with_lines with_line with_edit with_sync sync_time time_of seconds_with_fraction seconds_of fraction_of field_named is_field_left_out shorthand_named keyword_named item_named reserved_port_named is_action_left_out action_named value_in whole_value value_of bits_stated field_stated number_upto decimal_upto digits_upto words with_part with_shorthand number_once with_valued with_bare with_item items.read_items kept match_of none joined only_at read_match up_to_end items is_closed argument_of port_of output actions_of_item read_items read_actions edit_from edit_in with_begin with_commit word_alone
a_faulty_line_of_a_bundle = refl
