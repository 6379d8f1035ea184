-- Worked rows: words and small files, the verdict on them, what is opened, and the files that come out.
use Rattle.std.specs.Prelude.{◌≡◌, ℕ, zero, suc, true, false, nat_eq, if◌then◌else◌, List, [], ◌∷◌, ◌++◌, take, drop, map, replicate, slice_get, slice_index, Option, Some, None, Result, Ok, Err, codes, refl}
use Rattle.std.proofs.Common.{ap, inl, inr, arith}
use Rattle.std.specs.Cmp.Lexicographic.{pointwise}
use Rattle.std.specs.Fmt.{digits}
use Rattle.spec_base.specs.Bytes.{big_endian_at, little_endian_at}
use Rattle.spec_keys.specs.Keys.{none, masked, same, joined, only_at}
use Rattle.spec_pcap.specs.declared.fault.PcapFault.TheVariants.{ShortHeader, Magic, Version, LinkType, ShortRecord, TooLong, Fraction}
use Rattle.spec_pcap.specs.Pcap.{Frame, format_of, record_fault, capture_of, frames_from, header, record_header, file_of}
use Rattle.spec_tables.specs.Rules.{winner}
use Rattle.spec_tables.specs.Edits.{after_edits}
use Rattle.spec_tables.specs.Changes.{changes_to}
use Rattle.spec_flow_text.specs.Numbers.{digits_upto, decimal_upto, number_upto, octet, octet_before_colon, mac}
use Rattle.clap.proofs.OnLiterals.{clap_on_literals}
use Rattle.spec_input.specs.Words as command_line
use Rattle.spec_input.specs.Words.{port_number, port_word, new_port, port_words, command_of}
use Rattle.spec_flow_text.specs.declared.fault.TextFault.TheVariants as text
use Rattle.spec_flow_text.specs.Names.{field_named, is_field_left_out, shorthand_named, keyword_named, item_named, reserved_port_named, is_action_left_out, action_named}
use Rattle.spec_flow_text.specs.Values.{value_in, whole_value, value_of, bits_stated, field_stated}
use Rattle.spec_flow_text.specs.Items as items
use Rattle.spec_flow_text.specs.Items.{words, with_part, with_shorthand, number_once, with_valued, with_bare, with_item}
use Rattle.spec_flow_text.specs.Matches.{kept, match_of, read_match}
use Rattle.spec_flow_text.specs.Actions as actions
use Rattle.spec_flow_text.specs.Actions.{up_to_end, items, is_closed, argument_of, port_of, drop_item, actions_of_item, read_items, read_actions}
use Rattle.spec_flow_text.specs.Lines.{edit_from, edit_in}
use Rattle.spec_input.specs.declared.fault.FileFault.TheVariants as fault
use Rattle.spec_input.specs.Lines.{with_lines}
use Rattle.spec_input.specs.Script.{with_line, script_of, with_edit, with_sync, sync_time, time_of, seconds_with_fraction, seconds_of, fraction_of}
use Rattle.spec_frames.specs.Ethernet.{is_tag_at, tag_count, tci_at, carried, carried_by}
use Rattle.spec_frames.specs.Network.{network_at}
use Rattle.spec_frames.specs.Key.{with_network, key_of}
use Rattle.spec_frames.specs.Layout.{layout_of}
use Rattle.spec_case.specs.Run.{frames_in}
use Rattle.spec_base.specs.Sorting.{insert_by, sort_by}
use Rattle.spec_case.specs.Arrivals.{arrivals_at, arrivals_in}
use Rattle.spec_xlate.specs.Commit.{commit, commit_fields, commit_field}
use Rattle.spec_xlate.specs.Tags.{commit_tags, outer_tags}
use Rattle.spec_keys.specs.Fields.{stages}
use Rattle.spec_keys.specs.Stages.{through}
use Rattle.spec_xlate.specs.Lookup.{length_up_to, common_length, deciding, probe, consults}
use Rattle.spec_xlate.specs.Consulted.{act_bits, run_bits, look_bits, consulted}
use Rattle.spec_xlate.specs.Translation.{emit, emit_all, committed, output, act, run, look, last_state, pipe}
use Rattle.spec_exec.specs.Sent.{sent}
use Rattle.spec_case.specs.Blocks.{ends_after}
use Rattle.spec_board.specs.Results.{are_same_actions}
use Rattle.spec_board.specs.Effects.{credited_by}
use Rattle.spec_board.specs.Decisions.{decisions_from}
use Rattle.spec_board.specs.Schedules.{finish, finish_board, least_block}
use Rattle.spec_board.specs.GivenSteps.{with_given_steps}
use Rattle.spec_case.specs.declared.run_step.RunStep.{RunStep}
use Rattle.spec_case.specs.declared.run_step.RunStep.TheVariants as step
use Rattle.spec_run.specs.declared.ran.Ran.{Ran}
use Rattle.spec_input.specs.Steps as steps_file
use Rattle.spec_input.specs.Steps.{number_in, port_in, step_in, with_words, steps_of}
use Rattle.spec_input.specs.Mirrors as mirrors_file
use Rattle.spec_run.specs.declared.quantity.Quantity.{Quantity}
use Rattle.spec_run.specs.declared.quantity.Quantity.TheVariants.{EditsBytes, StepsBytes, MirrorsBytes, Line, Edits, Syncs, Actions, Steps, Mirrors, Changes, TraceBytes, Frames}
use Rattle.spec_run.specs.Verdict.{Files, Refusal, Usage, Missing, Text, Trace, Limit, TraceFile, Accepted, command_in, script_in, file_in, traces_after, run_in, verdict, refused_text, traces_opened, last_opened, later_opened, sources_opened, files_opened}
use Rattle.spec_base.specs.Files.{File, IsPrefixOf}
use Rattle.spec_run.specs.Journals.{scheduled_journals}
use Rattle.spec_run.specs.Outputs.{outlets_of, output_of, has_steps, ran_of}
use Rattle.spec_run.specs.CutShort.{IsCutShort}
use Rattle.spec_run.specs.Statuses.{status_of, text_of, read_fault_text, file_text, trace_text, limit_text, Prints}

abbrev said : List (List ℕ)
said = codes "e" ∷ codes "o" ∷ codes "1=a" ∷ codes "2=" ∷ []

-- 60 bytes from 00:00:00:00:00:01 to 00:00:00:00:00:02, of the type 0x88b5 for local experiments (IEEE 802)
abbrev frame : Frame
frame = record { time = 1000000000; bytes = 0 ∷ 0 ∷ 0 ∷ 0 ∷ 0 ∷ 2 ∷ 0 ∷ 0 ∷ 0 ∷ 0 ∷ 0 ∷ 1 ∷ 0x88 ∷ 0xb5 ∷ replicate 46 0 }

abbrev trace : List ℕ
trace = file_of false (frame ∷ [])

-- a file `e` and a file `a`, where they are there
abbrev files : Option (List ℕ) → Option (List ℕ) → Files
files e a name = if pointwise nat_eq name (codes "e") then e else (if pointwise nat_eq name (codes "a") then a else None)

-- what becomes of a run with such files
unfoldable outcome : List (List ℕ) → Option (List ℕ) → Option (List ℕ) → Result (List File) Refusal
unfolding command_in script_in file_in traces_after run_in verdict capture_of format_of record_fault frames_from little_endian_at digits_upto decimal_upto number_upto octet octet_before_colon mac port_number port_word new_port port_words command_of command_line.command_in command_line.files_in clap_on_literals field_named is_field_left_out shorthand_named keyword_named item_named reserved_port_named is_action_left_out action_named value_in whole_value value_of bits_stated field_stated words with_part with_shorthand number_once with_valued with_bare with_item items.read_items kept match_of read_match up_to_end items is_closed argument_of port_of actions.output drop_item actions_of_item read_items read_actions edit_from edit_in changes_to with_line with_lines script_of with_edit with_sync sync_time time_of seconds_with_fraction seconds_of fraction_of after_edits winner none masked same joined big_endian_at key_of is_tag_at tag_count tci_at carried carried_by network_at with_network frames_in arrivals_at arrivals_in insert_by sort_by sent pipe last_state look run act output committed emit emit_all commit commit_fields commit_field commit_tags outer_tags header record_header only_at digits finish finish_board least_block with_given_steps decisions_from ends_after through length_up_to common_length deciding probe consults act_bits run_bits look_bits consulted are_same_actions credited_by stages
outcome command e a = files_in (verdict command (files e a))
  where
    files_in : Result Accepted Refusal → Result (List File) Refusal
    files_in (Ok accepted) = Ok (output_of (outlets_of accepted.command.input accepted.mirrors) accepted.run (scheduled_journals accepted.run))
    files_in (Err refusal) = Err refusal

-- the files of the two ports
abbrev port_files : Result (List File) Refusal → Result (List File) Refusal
port_files (Ok files) = Ok (take 2 files)
port_files (Err refusal) = Err refusal

-- what becomes of a run with that frame and these edits
abbrev done_or_refused : Option (List ℕ) → Result (List File) Refusal
done_or_refused e = outcome said e (Some trace)

-- what the edits `e` make of that frame
abbrev done_with : List ℕ → Result (List File) Refusal
done_with e = port_files (outcome said (Some e) (Some trace))

-- the files of the two ports
abbrev sends : List Frame → List Frame → Result (List File) Refusal
sends at_1 at_2 = Ok ((codes "o.p1.pcap", file_of false at_1) ∷ (codes "o.p2.pcap", file_of false at_2) ∷ [])

-- ---- what is sent

a_frame_goes_out_at_the_port_of_its_rule : done_with (codes "in_port=1,actions=2") ≡ sends [] (frame ∷ [])
unfolding outcome
a_frame_goes_out_at_the_port_of_its_rule = refl

each_output_sends_the_frame : done_with (codes "actions=2,2") ≡ sends [] (frame ∷ frame ∷ [])
unfolding outcome
each_output_sends_the_frame = refl

a_frame_never_goes_out_where_it_came_in : done_with (codes "actions=1") ≡ sends [] []
unfolding outcome
a_frame_never_goes_out_where_it_came_in = refl

a_port_that_the_switch_lacks_sends_nothing : done_with (codes "actions=3") ≡ sends [] []
unfolding outcome
a_port_that_the_switch_lacks_sends_nothing = refl

where_no_rule_matches_nothing_is_sent : done_with (codes "in_port=2,actions=2") ≡ sends [] []
unfolding outcome
where_no_rule_matches_nothing_is_sent = refl

the_greatest_priority_wins : done_with (codes "priority=1,actions=2" ++ 10 ∷ codes "priority=2,actions=drop") ≡ sends [] []
unfolding outcome
the_greatest_priority_wins = refl

of_equal_priorities_the_rule_added_first_wins :
    done_with (codes "in_port=1,actions=2" ++ 10 ∷ codes "dl_dst=0:0:0:0:0:2,actions=drop") ≡ sends [] (frame ∷ [])
unfolding outcome
of_equal_priorities_the_rule_added_first_wins = refl

an_add_replaces_the_rule_of_its_match_and_priority : done_with (codes "actions=drop" ++ 10 ∷ codes "actions=2") ≡ sends [] (frame ∷ [])
unfolding outcome
an_add_replaces_the_rule_of_its_match_and_priority = refl

-- the files of the two ports, and the journal
abbrev without_dumps : Result (List File) Refusal → Result (List File) Refusal
without_dumps (Ok files) = Ok (take 2 files ++ drop 4 files)
without_dumps (Err refusal) = Err refusal

abbrev changing : Result (List File) Refusal
changing =
    outcome said (Some (codes "in_port=1,actions=2\nsync 2\npriority=40000,actions=drop\n")) (Some (file_of false (frame ∷ record frame { time = 2000000000 } ∷ [])))

a_rule_changes_between_two_frames :
    without_dumps changing
    ≡ Ok ((codes "o.p1.pcap", file_of false []) ∷ (codes "o.p2.pcap", file_of false (frame ∷ []))
    ∷ (codes "o.journal", codes "port 1\nbegin 1\nend\nlook 1 miss\nsettle 1 1 installed 1\nopen 1\nbegin 2\nput 1 2 replaced\nend\nlook 2 mega 1\nport 2\nbegin 1\nend\nopen 1\nbegin 2\nend\n") ∷ [])
unfolding outcome
a_rule_changes_between_two_frames = refl

abbrev names_in : Result (List File) Refusal → List (List ℕ)
names_in (Ok files) = map (λ file. file.0) files
names_in (Err refusal) = []

the_dumps_stand_between_the_port_files_and_the_journal :
    names_in (done_or_refused (Some [])) ≡ codes "o.p1.pcap" ∷ codes "o.p2.pcap" ∷ codes "o.rules" ∷ codes "o.megaflows" ∷ codes "o.journal" ∷ []
unfolding outcome
the_dumps_stand_between_the_port_files_and_the_journal = refl

-- a run whose mirrors file is `a`, without a trace
abbrev mirrored : List (List ℕ)
mirrored = codes "--mirrors=a" ∷ codes "e" ∷ codes "o" ∷ codes "1=" ∷ []

the_flows_and_then_the_copies_stand_after_the_journal :
    (names_in (outcome (codes "--netflow" ∷ mirrored) (Some []) (Some (codes "select_all\n\nselect_src_port=1\n")))
    ≡ codes "o.p1.pcap" ∷ codes "o.rules" ∷ codes "o.megaflows" ∷ codes "o.journal" ∷ codes "o.netflow" ∷ codes "o.m1.pcap" ∷ codes "o.m2.pcap" ∷ [])
    × (names_in (outcome mirrored (Some []) (Some [])) ≡ codes "o.p1.pcap" ∷ codes "o.rules" ∷ codes "o.megaflows" ∷ codes "o.journal" ∷ [])
unfolding outcome mirrors_file.port_in mirrors_file.with_port mirrors_file.with_valued mirrors_file.with_bare mirrors_file.with_item mirrors_file.with_items mirrors_file.mirror_in mirrors_file.with_line with_lines mirrors_file.mirrors_in
the_flows_and_then_the_copies_stand_after_the_journal = (refl, refl)

-- the file after the five of a run with two ports, where there is one
abbrev sixth : Result (List File) Refusal → Option File
sixth (Ok files) = slice_get files 5
sixth (Err refusal) = None

what_is_no_ipv4_is_in_no_flow : sixth (outcome (codes "--netflow" ∷ said) (Some (codes "actions=2")) (Some trace)) ≡ Some (codes "o.netflow", [])
unfolding outcome layout_of
what_is_no_ipv4_is_in_no_flow = refl

-- ---- what is refused

refused_words_come_first : outcome (codes "e" ∷ []) None None ≡ Err Usage
unfolding outcome
refused_words_come_first = refl

-- a run whose steps file is `a`
abbrev stepped : List (List ℕ)
stepped = codes "--steps=a" ∷ codes "e" ∷ codes "o" ∷ codes "1=b" ∷ []

workers_are_taken_but_not_with_steps :
    (outcome (codes "--workers=1" ∷ said) None None ≡ Err (Missing (codes "e")))
    × (outcome (codes "--workers=1" ∷ stepped) None None ≡ Err Usage)
unfolding outcome
workers_are_taken_but_not_with_steps = (refl, refl)

the_steps_come_after_the_edits_and_before_the_traces :
    (outcome stepped (Some (codes "actions")) None ≡ Err (Text (codes "e") (fault.Line 1 (text.Syntax 1))))
    × ((outcome stepped (Some []) None ≡ Err (Missing (codes "a")))
    × ((outcome stepped (Some []) (Some (codes "edit\nrx 2")) ≡ Err (Text (codes "a") (fault.Line 2 (text.BadValue 4))))
    × (outcome stepped (Some []) (Some (codes "edit\nrx 1")) ≡ Err (Missing (codes "b")))))
unfolding outcome number_in port_in step_in with_words steps_file.with_line with_lines steps_of
the_steps_come_after_the_edits_and_before_the_traces = (refl, (refl, (refl, refl)))

-- a run whose steps file is `a`, and its mirrors file `m`
abbrev stepped_and_mirrored : List (List ℕ)
stepped_and_mirrored = codes "--mirrors=m" ∷ codes "--steps=a" ∷ codes "e" ∷ codes "o" ∷ codes "1=b" ∷ []

-- a run whose mirrors file is `a`, and the trace of port 1 `b`
abbrev mirrored_trace : List (List ℕ)
mirrored_trace = codes "--mirrors=a" ∷ codes "e" ∷ codes "o" ∷ codes "1=b" ∷ []

the_mirrors_come_after_the_steps_and_before_the_traces :
    (outcome mirrored_trace (Some (codes "actions")) None ≡ Err (Text (codes "e") (fault.Line 1 (text.Syntax 1))))
    × ((outcome stepped_and_mirrored (Some []) (Some (codes "rx 2")) ≡ Err (Text (codes "a") (fault.Line 1 (text.BadValue 4))))
    × ((outcome stepped_and_mirrored (Some []) (Some (codes "rx 1")) ≡ Err (Missing (codes "m")))
    × ((outcome mirrored_trace (Some []) None ≡ Err (Missing (codes "a")))
    × ((outcome mirrored_trace (Some []) (Some (codes "select_all\nselect_src_port=2")) ≡ Err (Text (codes "a") (fault.Line 2 (text.BadValue 17))))
    × (outcome mirrored_trace (Some []) (Some (codes "select_all\nselect_src_port=1")) ≡ Err (Missing (codes "b")))))))
unfolding outcome number_in port_in step_in with_words steps_file.with_line with_lines steps_of mirrors_file.port_in mirrors_file.with_port mirrors_file.with_valued mirrors_file.with_bare mirrors_file.with_item mirrors_file.with_items mirrors_file.mirror_in mirrors_file.with_line mirrors_file.mirrors_in
the_mirrors_come_after_the_steps_and_before_the_traces = (refl, (refl, (refl, (refl, (refl, refl)))))

a_mirrors_file_has_at_most_65536_bytes :
    (outcome mirrored_trace (Some []) (Some (replicate 65537 10)) ≡ Err (Limit MirrorsBytes))
    × (map (refused_text (codes "a")) (fault.LineTooLong ∷ fault.TooManyMirrors ∷ []) ≡ Limit Line ∷ Limit Mirrors ∷ [])
unfolding outcome
a_mirrors_file_has_at_most_65536_bytes = (refl, refl)

-- the steps of a run, and what is told of them
abbrev steps_and_ran : Result Accepted Refusal → Option (List RunStep × Option Ran)
steps_and_ran (Ok accepted) = Some (accepted.run.steps, ran_of (has_steps accepted.command.input) accepted.run)
steps_and_ran (Err refusal) = None

abbrev run_by : List (List ℕ) → Option (List RunStep × Option Ran)
run_by options = steps_and_ran (verdict (options ++ codes "e" ∷ codes "o" ∷ codes "1=" ∷ []) (files (Some []) (Some (codes "edit\nrx 1"))))

steps_are_told_where_a_file_gives_them :
    (run_by [] ≡ Some ([], None)) × (run_by (codes "--steps=a" ∷ []) ≡ Some (step.Edit ∷ step.Rx 1 ∷ [], Some (record { steps = 2; unmet = 2 })))
unfolding run_in verdict command_in script_in traces_after digits_upto decimal_upto port_number port_word new_port port_words command_of command_line.command_in command_line.files_in clap_on_literals words changes_to with_line with_lines script_of number_in port_in step_in with_words steps_file.with_line steps_of finish finish_board least_block with_given_steps frames_in ends_after
steps_are_told_where_a_file_gives_them = (refl, refl)

the_edits_come_before_the_traces :
    (outcome said None None ≡ Err (Missing (codes "e"))) × (outcome said (Some (codes "actions")) None ≡ Err (Text (codes "e") (fault.Line 1 (text.Syntax 1))))
unfolding outcome
the_edits_come_before_the_traces = (refl, refl)

a_trace_that_is_missing_or_cut_is_refused :
    (outcome said (Some []) None ≡ Err (Missing (codes "a"))) × (outcome said (Some []) (Some (take 99 trace)) ≡ Err (Trace (codes "a") (ShortRecord 24)))
unfolding outcome
a_trace_that_is_missing_or_cut_is_refused = (refl, refl)

-- a trace for which there is room for so many bytes and frames
abbrev within : ℕ → ℕ → Result TraceFile Refusal
within bytes_left frames_left = file_in (files None (Some trace)) bytes_left frames_left (codes "a")

there_is_room_for_100_bytes_and_a_frame : within 100 1 ≡ Ok (record { size = 100; capture = record { nanos = false; frames = frame ∷ [] } })
unfolding file_in capture_of format_of record_fault frames_from little_endian_at header record_header
there_is_room_for_100_bytes_and_a_frame = refl

bytes_above_the_limit_come_before_frames : (within 99 0 ≡ Err (Limit TraceBytes)) × (within 100 0 ≡ Err (Limit Frames))
unfolding file_in capture_of format_of record_fault frames_from little_endian_at header record_header
bytes_above_the_limit_come_before_frames = (refl, refl)

-- ---- what is opened

unfoldable opened : Option (List ℕ) → Option (List ℕ) → List (List ℕ)
unfolding files_opened sources_opened later_opened last_opened traces_opened command_in script_in file_in traces_after run_in verdict capture_of format_of record_fault frames_from little_endian_at digits_upto decimal_upto number_upto octet octet_before_colon mac port_number port_word new_port port_words command_of command_line.command_in command_line.files_in clap_on_literals field_named is_field_left_out shorthand_named keyword_named item_named reserved_port_named is_action_left_out action_named value_in whole_value value_of bits_stated field_stated words with_part with_shorthand number_once with_valued with_bare with_item items.read_items kept match_of read_match up_to_end items is_closed argument_of port_of actions.output drop_item actions_of_item read_items read_actions edit_from edit_in changes_to with_line with_lines script_of with_edit with_sync sync_time time_of seconds_with_fraction seconds_of fraction_of
opened e a = files_opened said (files e a)

nothing_is_opened_after_a_refusal :
    (opened None (Some trace) ≡ codes "e" ∷ []) × ((opened (Some (codes "actions")) (Some trace) ≡ codes "e" ∷ [])
    × (opened (Some []) None ≡ codes "e" ∷ codes "a" ∷ []))
unfolding opened
nothing_is_opened_after_a_refusal = (refl, (refl, refl))

-- what is opened where the steps file and the mirrors file are `a`
abbrev opened_twice : List ℕ → List (List ℕ)
opened_twice a = files_opened (codes "--steps=a" ∷ codes "--mirrors=a" ∷ codes "e" ∷ codes "o" ∷ codes "1=b" ∷ []) (files (Some []) (Some a))

the_mirrors_are_opened_after_the_steps_and_before_the_traces :
    (opened_twice [] ≡ codes "e" ∷ codes "a" ∷ codes "a" ∷ codes "b" ∷ [])
    × ((opened_twice (codes "rx 1") ≡ codes "e" ∷ codes "a" ∷ codes "a" ∷ [])
    × (opened_twice (codes "select_all") ≡ codes "e" ∷ codes "a" ∷ []))
unfolding files_opened sources_opened later_opened last_opened traces_opened command_in script_in file_in digits_upto decimal_upto port_number port_word new_port port_words command_of command_line.command_in command_line.files_in clap_on_literals words changes_to with_line with_lines script_of number_in port_in step_in with_words steps_file.with_line steps_of mirrors_file.port_in mirrors_file.with_port mirrors_file.with_valued mirrors_file.with_bare mirrors_file.with_item mirrors_file.with_items mirrors_file.mirror_in mirrors_file.with_line mirrors_file.mirrors_in
the_mirrors_are_opened_after_the_steps_and_before_the_traces = (refl, (refl, refl))

nothing_is_opened_for_what_a_number_makes : files_opened (codes "--generate=7" ∷ []) (files None None) ≡ []
unfolding files_opened command_in digits_upto decimal_upto command_of command_line.command_in command_line.files_in clap_on_literals
nothing_is_opened_for_what_a_number_makes = refl

-- ---- what is printed

-- the words that the program takes are told
abbrev usage : List ℕ
usage = codes "usage: megaswitch [--workers N] [--steps FILE] [--flow-limit N] [--netflow] [--mirrors FILE] EDITS OUT PORT=FILE...\n"

other_words_end_with_2 : (status_of Usage ≡ 2) × (text_of Usage ≡ usage)
other_words_end_with_2 = (refl, refl)

the_text_of_a_read_fault : read_fault_text (codes "a") ≡ codes "read fault: a" ++ 10 ∷ []
the_text_of_a_read_fault = refl

the_texts_of_faulty_traces :
    (trace_text (codes "a.pcap") (ShortRecord 24) ≡ codes "a.pcap: short record at 24\n")
    × ((trace_text (codes "a") ShortHeader ≡ codes "a: short header\n")
    × ((trace_text (codes "a") Magic ≡ codes "a: magic\n")
    × ((trace_text (codes "a") (Version 2 10) ≡ codes "a: version 2.10\n")
    × ((trace_text (codes "a") (LinkType 101) ≡ codes "a: link type 101\n")
    × ((trace_text (codes "a") (TooLong 40 262145) ≡ codes "a: too long at 40\n")
    × (trace_text (codes "a") (Fraction 40) ≡ codes "a: fraction at 40\n"))))))
unfolding digits
the_texts_of_faulty_traces = (refl, (refl, (refl, (refl, (refl, (refl, refl))))))

abbrev limits_and_their_texts : List (Quantity × List ℕ)
limits_and_their_texts =
    (EditsBytes, codes "limit: edits-bytes 33554432\n") ∷ (StepsBytes, codes "limit: steps-bytes 4194304\n") ∷
    (MirrorsBytes, codes "limit: mirrors-bytes 65536\n") ∷ (Mirrors, codes "limit: mirrors 16\n") ∷
    (Steps, codes "limit: steps 131072\n") ∷ (Line, codes "limit: line 4096\n") ∷ (Edits, codes "limit: edits 32768\n") ∷
    (Syncs, codes "limit: syncs 63\n") ∷ (Actions, codes "limit: actions 64\n") ∷ (Changes, codes "limit: changes 1048576\n") ∷
    (TraceBytes, codes "limit: trace-bytes 268435456\n") ∷ (Frames, codes "limit: frames 131072\n") ∷ []

the_texts_of_limits : map (λ row. limit_text row.0) limits_and_their_texts ≡ map (λ row. row.1) limits_and_their_texts
unfolding digits
the_texts_of_limits = refl

the_texts_of_faulty_edits :
    (file_text (codes "edits") (fault.Line 3 (text.BadValue 11)) ≡ codes "edits:3:11: bad value\n")
    × ((file_text (codes "edits") (fault.Line 1 (text.UnknownName 1)) ≡ codes "edits:1:1: unknown name\n")
    × ((file_text (codes "edits") (fault.Line 1 (text.Unsupported 9)) ≡ codes "edits:1:9: unsupported\n")
    × ((file_text (codes "edits") (fault.Line 1 (text.Repeated 11)) ≡ codes "edits:1:11: repeated\n")
    × ((file_text (codes "edits") (fault.Line 1 (text.Syntax 10)) ≡ codes "edits:1:10: syntax\n")
    × (file_text (codes "edits") (fault.SyncOrder 2) ≡ codes "edits:2:1: sync order\n")))))
unfolding digits
the_texts_of_faulty_edits = (refl, (refl, (refl, (refl, (refl, refl)))))

a_faulty_mirrors_file_ends_with_3 :
    (status_of (Text (codes "mirrors") (fault.Line 1 (text.BadValue 17))) ≡ 3)
    × ((file_text (codes "mirrors") (fault.Line 1 (text.BadValue 17)) ≡ codes "mirrors:1:17: bad value\n")
    × ((file_text (codes "m") (fault.Line 2 (text.Syntax 1)) ≡ codes "m:2:1: syntax\n")
    × ((file_text (codes "m") (fault.Line 3 (text.UnknownName 4)) ≡ codes "m:3:4: unknown name\n")
    × (file_text (codes "m") (fault.Line 16 (text.Repeated 19)) ≡ codes "m:16:19: repeated\n"))))
unfolding digits
a_faulty_mirrors_file_ends_with_3 = (refl, (refl, (refl, (refl, refl))))

-- ---- what is cut short

abbrev a_and_b : List File
a_and_b = (codes "a", codes "xy") ∷ (codes "b", codes "z") ∷ []

the_files_before_the_cut_one_are_whole : IsCutShort a_and_b (codes "b", codes "z") [] ((codes "a", codes "xy") ∷ (codes "b", []) ∷ [])
the_files_before_the_cut_one_are_whole = record { whole = 1; next = refl; prefix = inr (0, refl) }

no_file_stands_after_the_cut_one : IsCutShort a_and_b (codes "a", codes "xy") [] ((codes "a", codes "x") ∷ (codes "b", codes "z") ∷ []) → ⊥
no_file_stands_after_the_cut_one cut = at cut.whole cut.next cut.prefix
  where
    first_letter : Option File → ℕ
    first_letter None = 0
    first_letter (Some file) = slice_index file.0 0

    at : (whole : ℕ) → slice_get a_and_b whole ≡ Some (codes "a", codes "xy") → IsPrefixOf (take whole a_and_b) (codes "a", codes "xy") ((codes "a", codes "x") ∷ (codes "b", codes "z") ∷ []) → ⊥
    at zero is (inl e) = cc e
    at zero is (inr e) = cc (e.1)
    at (suc zero) is prefix = let other : 98 ≡ 97 = ap first_letter is in omega (arith, other)
    at (suc (suc n)) is prefix = cc is

-- ---- what was printed

a_text_may_be_cut_where_the_sink_failed : Prints false 0 1 [] (codes "a") (codes "ab")
a_text_may_be_cut_where_the_sink_failed = record { prefix = (1, refl); whole = λ _ stood. absurd (stood (omega arith)) }

a_text_may_be_cut_where_the_sink_needs_memory : Prints true 0 0 [] (codes "a") (codes "ab")
a_text_may_be_cut_where_the_sink_needs_memory = record { prefix = (1, refl); whole = λ enough _. absurd (enough refl) }

a_text_is_whole_otherwise : Prints false 0 0 [] (codes "a") (codes "ab") → ⊥
a_text_is_whole_otherwise printed = cc (printed.whole (λ t. cc t) (λ rose. omega (arith, rose)))
