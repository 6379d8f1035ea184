-- Worked rows: dumps and summaries of small runs.
use Rattle.std.specs.Prelude.{◌≡◌, ℕ, List, [], ◌∷◌, ◌++◌, replicate, Some, None, codes, refl}
use Rattle.std.specs.Fmt.{digits}
use Rattle.spec_keys.specs.declared.field_id.FieldId.TheVariants as field
use Rattle.spec_keys.specs.Keys.{none, masked, same, joined, only_at}
use Rattle.spec_keys.specs.Fields.{widths}
use Rattle.spec_actions.specs.declared.action.OfAction.TheVariants.{Output}
use Rattle.spec_flow_text.specs.NumbersPrinted.{hexadecimal, hexadecimal4, mac_text, ipv4_text, ipv6_text}
use Rattle.spec_tables.specs.declared.edit_word.EditWord.TheVariants.{Delete, DeleteStrict}
use Rattle.spec_tables.specs.Edits.{after_edits}
use Rattle.spec_tables.proofs.Packets.{is, key_of, mask_of, match_of}
use Rattle.spec_flow_text.specs.Printed.{value_in_text, shorthand_of, shown as items_shown, match_printed, actions_printed}
use Rattle.spec_flow_text.specs.DpTextPrinted.{dp_actions_printed}
use Rattle.spec_case.specs.declared.run_step.RunStep.TheVariants as given
use Rattle.spec_case.specs.Run.{Run}
use Rattle.spec_exec.specs.Sent.{sent}
use Rattle.spec_board.proofs.Shown.{shown, run_of, flow_limit, edit, add, in_port_1, dl_dst, sync, frame}
use Rattle.spec_board.proofs.Runs.{replaced, two_blocks}
use Rattle.spec_base.specs.Sorting.{insert_by, sort_by}
use Rattle.spec_run.specs.Rules.{rules_text}
use Rattle.spec_run.specs.Megaflows.{time_text, together, visits_text, megaflow_match_text, megaflows_text}
use Rattle.spec_run.specs.declared.ran.Ran.{Ran}
use Rattle.spec_run.specs.Summary.{summary}

-- a rule that sends what comes in at port 1 to port 2
abbrev to_port_2 : Run
to_port_2 = run_of flow_limit (2 ∷ []) (add 32768 in_port_1 (Output 2 ∷ []) ∷ []) [] (frame 1 2 ∷ []) []

-- no rule at all
abbrev without_rules : Run
without_rules = run_of flow_limit (2 ∷ []) [] [] (frame 1 2 ∷ []) []

-- ---- rules

unfoldable rules_of : Run → List ℕ
unfolding shown sort_by insert_by after_edits digits hexadecimal hexadecimal4 mac_text ipv4_text ipv6_text value_in_text shorthand_of items_shown match_printed actions_printed
rules_of run = rules_text run (shown run).journals

a_line_can_be_read_again :
    rules_of to_port_2 ≡ codes "cookie=0x0, table=0, n_packets=1, n_bytes=60, priority=32768,in_port=1 actions=output:2 # rule=1\n"
unfolding rules_of
a_line_can_be_read_again = refl

rules_that_are_gone_are_comments :
    rules_of two_blocks
    ≡ codes "cookie=0x0, table=0, n_packets=1, n_bytes=60, priority=5,dl_dst=00:00:00:00:00:02 actions=output:3 # rule=2\n"
    ++ codes "# gone rule=1 n_packets=1 n_bytes=60\n"
unfolding rules_of
rules_that_are_gone_are_comments = refl

what_a_megaflow_owes_is_counted :
    rules_of replaced ≡ codes "cookie=0x0, table=0, n_packets=3, n_bytes=180, priority=32768,in_port=1 actions=output:3 # rule=1\n"
unfolding rules_of
what_a_megaflow_owes_is_counted = refl

-- rules in no order; the fourth has no match and a cookie, the last is put where an equal one was
abbrev several : Run
several =
    run_of flow_limit [] (
    record (add 5 in_port_1 []) { table = Some 1 } ∷ add 5 (dl_dst 2) [] ∷ add 7 in_port_1 []
    ∷ record (add 5 [] []) { cookie = Some 31 } ∷ add 7 in_port_1 [] ∷ []) [] [] []

rules_stand_by_table_falling_priority_and_number :
    rules_of several
    ≡ codes "cookie=0x0, table=0, n_packets=0, n_bytes=0, priority=7,in_port=1 actions=drop # rule=5\n"
    ++ (codes "cookie=0x0, table=0, n_packets=0, n_bytes=0, priority=5,dl_dst=00:00:00:00:00:02 actions=drop # rule=2\n"
    ++ (codes "cookie=0x1f, table=0, n_packets=0, n_bytes=0, priority=5 actions=drop # rule=4\n"
    ++ (codes "cookie=0x0, table=1, n_packets=0, n_bytes=0, priority=5,in_port=1 actions=drop # rule=1\n"
    ++ codes "# gone rule=3 n_packets=0 n_bytes=0\n")))
unfolding rules_of
rules_stand_by_table_falling_priority_and_number = refl

-- an edit that adds no rule leaves no line, nor does its number
abbrev deleted : Run
deleted = run_of flow_limit [] (edit Delete 0 [] [] ∷ add 5 in_port_1 [] ∷ edit Delete 0 [] [] ∷ []) [] [] []

only_rules_that_were_added_are_gone : rules_of deleted ≡ codes "# gone rule=2 n_packets=0 n_bytes=0\n"
unfolding rules_of
only_rules_that_were_added_are_gone = refl

-- ---- megaflows

unfoldable megaflows_of : Run → List ℕ
unfolding shown together digits hexadecimal hexadecimal4 mac_text ipv4_text ipv6_text value_in_text megaflow_match_text dp_actions_printed
megaflows_of run = megaflows_text run (shown run).journals

the_frame_of_the_upcall_is_not_counted :
    megaflows_of to_port_2
    ≡ codes "port=1 entry=1 version=1 packets=0 bytes=0 owed_packets=0 owed_bytes=0 used=1.000000000 visits=1 match=in_port=1,dl_type=0x88b5 actions=2\n"
unfolding megaflows_of
the_frame_of_the_upcall_is_not_counted = refl

what_no_rule_matches_is_dropped :
    megaflows_of without_rules
    ≡ codes "port=1 entry=1 version=0 packets=0 bytes=0 owed_packets=0 owed_bytes=0 used=1.000000000 visits=- match=in_port=1,dl_type=0x88b5 actions=drop\n"
unfolding megaflows_of
what_no_rule_matches_is_dropped = refl

a_replaced_entry_has_its_counts :
    megaflows_of replaced
    ≡ codes "port=1 entry=1 version=2 packets=2 bytes=120 owed_packets=1 owed_bytes=60 used=3.000000000 visits=1 match=in_port=1,dl_type=0x88b5 actions=drop\n"
unfolding megaflows_of
a_replaced_entry_has_its_counts = refl

visits_in_a_row_are_counted :
    (visits_text (replicate 65 1) ≡ codes "1x65") × ((visits_text (2 ∷ 6 ∷ 8 ∷ []) ≡ codes "2+6+8")
    × ((visits_text (1 ∷ 1 ∷ 2 ∷ 1 ∷ 2 ∷ 2 ∷ 2 ∷ []) ≡ codes "1x2+2+1+2x3") × (visits_text [] ≡ codes "-")))
unfolding together digits
visits_in_a_row_are_counted = (refl, (refl, (refl, refl)))

times_have_nine_digits :
    (time_text 0 ≡ codes "0.000000000") × ((time_text 1000000005 ≡ codes "1.000000005") × (time_text 21123456789 ≡ codes "21.123456789"))
unfolding digits
times_have_nine_digits = (refl, (refl, refl))

-- a rule of TCP to an address and a port, as the megaflow of a packet is stated: no word stands for a type or a protocol
fields_stand_by_their_own_names :
    megaflow_match_text (match_of (is field.InPort 1 ∷ is field.DlType 0x0800 ∷ is field.NwDst 0x0a000001 ∷ is field.NwProto 6 ∷ is field.TpDst 80 ∷ []))
    ≡ codes "in_port=1,dl_type=0x0800,nw_dst=10.0.0.1,nw_proto=6,tp_dst=80"
unfolding megaflow_match_text none masked same joined only_at widths key_of mask_of digits hexadecimal hexadecimal4 ipv4_text value_in_text
fields_stand_by_their_own_names = refl

-- ---- the summary

unfoldable summary_of : Run → List ℕ
unfolding shown sent digits
summary_of run = summary run (shown run).journals None

one_frame_is_sent :
    summary_of to_port_2
    ≡ codes "ports=2 frames=1 edits=1 blocks=1\nexact=0 mega=0 miss=1\ninstalled=1 present=0 full=0\nsent=1 dropped=0 entries=1\n"
unfolding summary_of
one_frame_is_sent = refl

a_frame_that_goes_nowhere_is_dropped :
    summary_of without_rules
    ≡ codes "ports=2 frames=1 edits=0 blocks=1\nexact=0 mega=0 miss=1\ninstalled=1 present=0 full=0\nsent=0 dropped=1 entries=1\n"
unfolding summary_of
a_frame_that_goes_nowhere_is_dropped = refl

-- of one entry at most, two frames that no entry covers are settled all the same
abbrev full_cache : Run
full_cache =
    run_of 1 (2 ∷ []) (add 32768 (in_port_1 ++ dl_dst 2) (Output 2 ∷ []) ∷ []) [] (frame 1 2 ∷ frame 2 6 ∷ frame 3 6 ∷ []) []

settles_are_counted_by_their_results :
    summary_of full_cache
    ≡ codes "ports=2 frames=3 edits=1 blocks=1\nexact=0 mega=0 miss=3\ninstalled=1 present=0 full=2\nsent=1 dropped=2 entries=1\n"
unfolding summary_of
settles_are_counted_by_their_results = refl

-- both edits are of one bundle
abbrev in_one_bundle : Run
in_one_bundle =
    record (run_of flow_limit (2 ∷ []) (add 32768 in_port_1 (Output 2 ∷ []) ∷ add 5 [] [] ∷ []) [] (frame 1 2 ∷ []) []) { bundles = 2 ∷ [] }

edits_are_counted_and_not_bundles :
    summary_of in_one_bundle
    ≡ codes "ports=2 frames=1 edits=2 blocks=1\nexact=0 mega=0 miss=1\ninstalled=1 present=0 full=0\nsent=1 dropped=0 entries=1\n"
unfolding summary_of
edits_are_counted_and_not_bundles = refl

-- The entry of the first frame looks at the address, for rule 2. That of the second, once rule 2 is gone, doesn't, and
-- takes its place.
abbrev widened : Run
widened =
    run_of flow_limit (2 ∷ 3 ∷ [])
    (add 1 [] (Output 2 ∷ []) ∷ add 10 (dl_dst 9) (Output 3 ∷ []) ∷ edit DeleteStrict 10 (dl_dst 9) [] ∷ [])
    (sync 2 2 ∷ []) (frame 1 2 ∷ frame 2 6 ∷ []) []

an_entry_that_drops_others_is_installed :
    summary_of widened
    ≡ codes "ports=3 frames=2 edits=3 blocks=2\nexact=0 mega=0 miss=2\ninstalled=2 present=0 full=0\nsent=2 dropped=0 entries=1\n"
unfolding summary_of
an_entry_that_drops_others_is_installed = refl

-- two frames of one key are looked up before the first of them is settled
abbrev looked_up_before : Run
looked_up_before =
    run_of flow_limit (2 ∷ []) (add 32768 in_port_1 (Output 2 ∷ []) ∷ []) [] (frame 1 2 ∷ frame 2 2 ∷ [])
    (given.Edit ∷ given.Rx 1 ∷ given.Rx 1 ∷ given.Snap 1 1 ∷ given.Settle 1 1 ∷ given.Snap 1 2 ∷ given.Settle 1 2 ∷ [])

a_settle_under_an_entry_is_counted_apart :
    summary_of looked_up_before
    ≡ codes "ports=2 frames=2 edits=1 blocks=1\nexact=0 mega=0 miss=2\ninstalled=1 present=1 full=0\nsent=2 dropped=0 entries=1\n"
unfolding summary_of
a_settle_under_an_entry_is_counted_apart = refl

-- with a line for the steps of the schedule that was given: all 11 are met
unfoldable summary_with_steps : Run → Ran → List ℕ
unfolding shown sent digits
summary_with_steps run ran = summary run (shown run).journals (Some ran)

given_steps_have_a_line :
    summary_with_steps replaced (record { steps = 11; unmet = (shown replaced).unmet })
    ≡ codes "ports=2 frames=3 edits=2 blocks=1\nexact=1 mega=1 miss=1\ninstalled=1 present=0 full=0\nsent=2 dropped=1 entries=1\nsteps=11 unmet=0\n"
unfolding summary_with_steps shown
given_steps_have_a_line = refl
