-- Worked rows: words, edits and flows, and what is printed for them.
use Rattle.std.specs.Prelude.{◌≡◌, ℕ, ◌==◌, nat_eq, count_by, if◌then◌else◌, List, [], ◌∷◌, ◌++◌, replicate, Some, None, Result, Ok, Err, codes, refl}
use Rattle.std.specs.Cmp.Lexicographic.{pointwise}
use Rattle.std.specs.Fmt.{decimal, digits}
use Rattle.std.specs.List.{flat_map, range_with_len, join_with_byte}
use Rattle.spec_keys.specs.Fields.{widths, stages}
use Rattle.spec_keys.specs.Keys.{none, masked, same, joined, only_at}
use Rattle.spec_keys.specs.Stages.{through}
use Rattle.spec_tables.specs.Rules.{winner}
use Rattle.spec_tables.specs.Edits.{after_edits}
use Rattle.spec_tables.specs.Changes.{changes_to}
use Rattle.spec_flow_text.specs.Characters.{comma, line_feed}
use Rattle.spec_flow_text.specs.Numbers.{digits_upto, decimal_upto, number_upto, octet, octet_before_colon, mac}
use Rattle.spec_flow_text.specs.NumbersPrinted.{hexadecimal, hexadecimal4, mac_text}
use Rattle.spec_input.specs.Words.{port_number}
use Rattle.spec_xlate.specs.Needs.{is_met, fields_needed}
use Rattle.spec_xlate.specs.Tags.{outer_tags, commit_tags}
use Rattle.spec_xlate.specs.Commit.{commit, commit_field, commit_fields}
use Rattle.spec_base.specs.Sorting.{insert_by, sort_by}
use Rattle.spec_xlate.specs.Translation.{pipe, act, run, look, last_state, write, output, output_all, emit, emit_all, committed}
use Rattle.spec_xlate.specs.Lookup.{length_up_to, common_length, deciding, probe, consults}
use Rattle.spec_xlate.specs.Consulted.{act_bits, run_bits, look_bits, consulted}
use Rattle.spec_flow_text.specs.Names.{field_named, is_field_left_out, shorthand_named, keyword_named, item_named, reserved_port_named, is_action_left_out, action_named}
use Rattle.spec_flow_text.specs.Values.{value_in, whole_value, value_of, bits_stated, field_stated}
use Rattle.spec_flow_text.specs.Items as items_read
use Rattle.spec_flow_text.specs.Items.{words, with_part, with_shorthand, number_once, with_valued, with_bare, with_item}
use Rattle.spec_flow_text.specs.Matches.{kept, match_of, read_match}
use Rattle.spec_flow_text.specs.Actions as actions_read
use Rattle.spec_flow_text.specs.Actions.{up_to_end, items, is_closed, argument_of, arrow_place, ends_of_arrow, arrow_argument, field_in, written_field, bits_between, bits_in, slice_after, slice_of, port_of, load, set_field, modify, inside_brackets, resubmit, drop_item, actions_of_item, read_actions}
use Rattle.spec_flow_text.specs.Lines.{edit_from, edit_in}
use Rattle.spec_flow_text.specs.Printed.{value_in_text, shorthand_of, shown, match_printed, actions_printed}
use Rattle.spec_flow_text.specs.DpTextPrinted.{dp_actions_printed}
use Rattle.spec_run.specs.Megaflows.{megaflow_match_text}
use Rattle.spec_input.specs.Lines.{with_lines}
use Rattle.spec_input.specs.Script.{with_line, script_of, with_edit, with_sync, with_begin, with_commit, word_alone, sync_time, time_of, seconds_with_fraction, seconds_of, fraction_of}
use Rattle.spec_run.specs.Verdict.{Files, script_in}
use Rattle.spec_tools.specs.Paths.{act_path, run_path, look_path, path_of, last_of}
use Rattle.spec_tools.specs.TraceTexts.{carried, traced_text}
use Rattle.spec_tools.specs.TraceWords.{new_port, ports_within, command_from, command_of}
use Rattle.spec_tools.specs.TraceVerdict.{Refusal, Accepted, command_in, match_in, key_of, case_of, verdict_of, verdict}
use Rattle.spec_tools.specs.TraceStatuses.{text_of}

-- a file `edits`
abbrev files : List ℕ → Files
files edits name = if pointwise nat_eq name (codes "edits") then Some edits else None

-- what is printed for words and this file
unfoldable printed : List (List ℕ) → List ℕ → List ℕ
unfolding verdict verdict_of case_of key_of command_in command_of command_from ports_within new_port match_in script_in port_number with_line with_lines script_of with_edit with_sync with_begin with_commit word_alone sync_time time_of seconds_with_fraction seconds_of fraction_of changes_to digits_upto decimal_upto number_upto octet octet_before_colon mac field_named is_field_left_out shorthand_named keyword_named item_named reserved_port_named is_action_left_out action_named value_in whole_value value_of bits_stated field_stated words with_part with_shorthand number_once with_valued with_bare with_item items_read.read_items kept match_of read_match up_to_end items is_closed argument_of arrow_place ends_of_arrow arrow_argument field_in written_field bits_between bits_in slice_after slice_of port_of load set_field modify actions_read.output inside_brackets resubmit drop_item actions_of_item actions_read.read_items read_actions edit_from edit_in after_edits winner none masked same joined only_at widths stages through is_met fields_needed outer_tags commit_tags commit commit_field commit_fields pipe act run look last_state write output output_all emit emit_all committed insert_by sort_by length_up_to common_length deciding probe consults act_bits run_bits look_bits consulted act_path run_path look_path path_of last_of carried traced_text digits hexadecimal hexadecimal4 mac_text value_in_text shorthand_of shown match_printed actions_printed megaflow_match_text dp_actions_printed
printed said edits = text_in (verdict said (files edits))
  where
    text_in : Result Accepted Refusal → List ℕ
    text_in (Ok a) = traced_text a.rules a.ports a.key
    text_in (Err r) = text_of r

-- for a flow on a switch of two ports
abbrev traced : List ℕ → List ℕ → List ℕ
traced edits flow = printed (codes "edits" ∷ flow ∷ codes "1,2" ∷ []) edits

-- ---- traces

a_register_and_an_address_are_written :
    traced (codes "actions=load:7->reg0[],resubmit(,1)\ntable=1,reg0=7,actions=mod_dl_src:00:00:00:00:00:05,2\n")
    (codes "in_port=1,dl_type=0x88b5")
    ≡ codes "flow: in_port=1,dl_type=0x88b5\n"
    ++ (codes "0 table=0 rule=1 priority=32768 actions=set_field:0x7->reg0,resubmit(,1)\n"
    ++ (codes "1 table=1 rule=2 priority=32768 reg0=0x7 actions=set_field:00:00:00:00:00:05->dl_src,output:2\n"
    ++ (codes "last: in_port=1,reg0=0x7,dl_src=00:00:00:00:00:05,dl_type=0x88b5\n"
    ++ (codes "megaflow: in_port=1,dl_src=00:00:00:00:00:00,dl_type=0x88b5\n"
    ++ codes "datapath: set(dl_src=00:00:00:00:00:05/00:00:00:00:00:05),2\n"))))
unfolding printed
a_register_and_an_address_are_written = refl

abbrev to_an_empty_table : List ℕ
to_an_empty_table = codes "actions=resubmit(,9)\n"

a_lookup_without_a_winner_is_told :
    traced to_an_empty_table (codes "in_port=2")
    ≡ codes "flow: in_port=2\n"
    ++ (codes "0 table=0 rule=1 priority=32768 actions=resubmit(,9)\n"
    ++ (codes "1 table=9 no match\n"
    ++ (codes "last: in_port=2\n"
    ++ (codes "megaflow: in_port=2,dl_type=0x0000\n"
    ++ codes "datapath: drop\n"))))
unfolding printed
a_lookup_without_a_winner_is_told = refl

-- what follows a resubmit is as deep as that was before it
lookups_are_in_their_order_and_at_their_depth :
    traced (codes "actions=resubmit(,1),resubmit(,3)\ntable=1,actions=resubmit(,2)\n") (codes "in_port=1")
    ≡ codes "flow: in_port=1\n"
    ++ (codes "0 table=0 rule=1 priority=32768 actions=resubmit(,1),resubmit(,3)\n"
    ++ (codes "1 table=1 rule=2 priority=32768 actions=resubmit(,2)\n"
    ++ (codes "2 table=2 no match\n"
    ++ (codes "1 table=3 no match\n"
    ++ (codes "last: in_port=1\n"
    ++ (codes "megaflow: in_port=1,dl_type=0x0000\n"
    ++ codes "datapath: drop\n"))))))
unfolding printed
lookups_are_in_their_order_and_at_their_depth = refl

-- all bundles are applied, and edits are counted over the whole file
rules_are_those_of_all_bundles :
    traced (codes "actions=1\nbegin\ndelete\nactions=2\ncommit\n") (codes "in_port=1")
    ≡ codes "flow: in_port=1\n"
    ++ (codes "0 table=0 rule=3 priority=32768 actions=output:2\n"
    ++ (codes "last: in_port=1\n"
    ++ (codes "megaflow: in_port=1,dl_type=0x0000\n"
    ++ codes "datapath: 2\n")))
unfolding printed
rules_are_those_of_all_bundles = refl

-- ended by a limit, a lookup isn't made, and so no line tells of it
lookups_end_at_depth_64 :
    traced (codes "actions=resubmit(,0)\n") (codes "in_port=1")
    ≡ codes "flow: in_port=1\n"
    ++ (flat_map (λ depth. decimal depth ++ codes " table=0 rule=1 priority=32768 actions=resubmit(,0)\n") (range_with_len 0 65)
    ++ (codes "last: in_port=1\n"
    ++ (codes "megaflow: in_port=1,dl_type=0x0000\n"
    ++ codes "datapath: drop\n")))
unfolding printed
lookups_end_at_depth_64 = refl

-- Of lookups 1 is in table 0, 7 in table 1, 7 * 8 in table 2 and 7 * 8 * 8 in table 3; the next would be the 513th.
abbrev eight_times : List ℕ → List ℕ
eight_times action = join_with_byte comma (replicate 8 action)

abbrev lookups_past_the_limit : List ℕ
lookups_past_the_limit =
    codes "actions=" ++ (eight_times (codes "resubmit(,1)")
    ++ (codes "\ntable=1,actions=" ++ (eight_times (codes "resubmit(,2)")
    ++ (codes "\ntable=2,actions=" ++ eight_times (codes "resubmit(,3)")))))

-- a line for each of 512 lookups, and four others
the_513th_lookup_is_not_made : count_by (λ c. c == line_feed) (traced lookups_past_the_limit (codes "in_port=1")) ≡ 516
unfolding printed
the_513th_lookup_is_not_made = refl

-- the packet of a flow comes in without metadata and registers
a_flow_has_no_registers :
    traced (codes "reg0=7,actions=2\n") (codes "in_port=1,metadata=5,reg0=7")
    ≡ codes "flow: in_port=1\n"
    ++ (codes "0 table=0 no match\n"
    ++ (codes "last: in_port=1\n"
    ++ (codes "megaflow: in_port=1,dl_type=0x0000\n"
    ++ codes "datapath: drop\n")))
unfolding printed
a_flow_has_no_registers = refl

-- the last key has what was written after the last output, which no frame is sent with
what_is_written_last_is_in_the_last_key :
    traced (codes "actions=2,load:7->reg0[],mod_dl_src:00:00:00:00:00:05\n") (codes "in_port=1,dl_type=0x88b5")
    ≡ codes "flow: in_port=1,dl_type=0x88b5\n"
    ++ (codes "0 table=0 rule=1 priority=32768 actions=output:2,set_field:0x7->reg0,set_field:00:00:00:00:00:05->dl_src\n"
    ++ (codes "last: in_port=1,reg0=0x7,dl_src=00:00:00:00:00:05,dl_type=0x88b5\n"
    ++ (codes "megaflow: in_port=1,dl_src=00:00:00:00:00:00,dl_type=0x88b5\n"
    ++ codes "datapath: 2\n")))
unfolding printed
what_is_written_last_is_in_the_last_key = refl

-- ---- what is refused

the_port_of_the_flow_is_one_of_the_switch : traced to_an_empty_table (codes "in_port=3") ≡ codes "no such port: 3\n"
unfolding printed
the_port_of_the_flow_is_one_of_the_switch = refl

a_flow_without_a_port_has_port_0 : traced to_an_empty_table (codes "arp") ≡ codes "no such port: 0\n"
unfolding printed
a_flow_without_a_port_has_port_0 = refl

the_edits_come_before_the_flow_and_the_flow_before_its_port :
    (traced (codes "in_port=1\n") (codes "foo=1") ≡ codes "edits:1:10: syntax\n")
    × ((traced to_an_empty_table (codes "foo=1") ≡ codes "flow:1:1: unknown name\n")
    × ((traced to_an_empty_table (codes "in_port=3,in_port=3") ≡ codes "flow:1:11: repeated\n")
    × (traced to_an_empty_table (codes "in_port=1,actions=2") ≡ codes "flow:1:11: syntax\n")))
unfolding printed
the_edits_come_before_the_flow_and_the_flow_before_its_port = (refl, (refl, (refl, refl)))

a_flow_is_no_longer_than_a_line : traced [] (replicate 4097 32) ≡ codes "limit: line 4096\n"
unfolding printed
a_flow_is_no_longer_than_a_line = refl

abbrev usage : List ℕ
usage = codes "usage: megatrace EDITS FLOW PORTS\n"

words_of_another_form_are_refused :
    (printed [] [] ≡ usage)
    × ((printed (codes "edits" ∷ codes "in_port=1" ∷ []) [] ≡ usage)
    × ((printed (codes "edits" ∷ codes "in_port=1" ∷ codes "1" ∷ codes "2" ∷ []) [] ≡ usage)
    × ((printed ([] ∷ codes "in_port=1" ∷ codes "1" ∷ []) [] ≡ usage)
    × ((printed (codes "edits" ∷ [] ∷ codes "1" ∷ []) [] ≡ usage)
    × ((traced [] (codes "in_port=1\n") ≡ usage)
    × ((printed (codes "edits" ∷ codes "in_port=1" ∷ codes "1,1" ∷ []) [] ≡ usage)
    × (printed (codes "edits" ∷ codes "in_port=1" ∷ codes "1," ∷ []) [] ≡ usage)))))))
unfolding printed
words_of_another_form_are_refused = (refl, (refl, (refl, (refl, (refl, (refl, (refl, refl)))))))

-- 32 ports at most
ports_are_few_and_in_form :
    (ports_within 2 [] (codes "1,2") ≡ Some (1 ∷ 2 ∷ []))
    × ((ports_within 2 [] (codes "1,2,3") ≡ None)
    × ((ports_within 2 [] (codes "0") ≡ None)
    × ((ports_within 2 [] (codes "65280") ≡ None)
    × (ports_within 2 [] (codes "01") ≡ None))))
unfolding ports_within new_port port_number decimal_upto digits_upto
ports_are_few_and_in_form = (refl, (refl, (refl, (refl, refl))))
