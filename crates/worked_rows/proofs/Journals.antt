-- Journals of whole runs, from small tables and few frames, and steps that are refused.
use Rattle.std.specs.Prelude.{◌≡◌, List, [], ◌∷◌, ◌++◌, map, Some, None, refl}
use Rattle.spec_actions.specs.declared.action.OfAction.TheVariants.{Output}
use Rattle.spec_tables.specs.declared.edit_word.EditWord.TheVariants.{Modify, DeleteStrict}
use Rattle.spec_tables.specs.Edits.{Edit}
use Rattle.spec_tables.proofs.Packets.{Stated}
use Rattle.spec_case.specs.declared.run_step.RunStep.TheVariants as given
use Rattle.spec_case.specs.Run.{Run}
use Rattle.spec_case.specs.Blocks.{block_of}
use Rattle.spec_board.specs.declared.looked.Looked.TheVariants.{Mega, Miss}
use Rattle.spec_board.specs.declared.put_done.PutDone.TheVariants.{Idle, Kept, Replaced}
use Rattle.spec_board.specs.declared.faults.OpenFault.TheVariants as open_faults
use Rattle.spec_board.specs.declared.faults.LookFault.TheVariants as look_faults
use Rattle.spec_board.specs.declared.faults.SettleFault.TheVariants as settle_faults
use Rattle.spec_board.specs.declared.faults.BeginFault.TheVariants as begin_faults
use Rattle.spec_board.specs.declared.faults.PutFault.TheVariants as put_faults
use Rattle.spec_board.specs.declared.faults.EndFault.TheVariants as end_faults
use Rattle.spec_board.specs.Steps.{Step, Open, Look, Settle, Begin, Put, End, Present, Full, Installed}
use Rattle.spec_board.specs.State.{State}
use Rattle.spec_board.specs.Refusals.{open_fault, look_fault, settle_fault, begin_fault, put_fault, end_fault}
use Rattle.spec_board.specs.Journals.{IsLegal, IsComplete, after}
use Rattle.spec_board.specs.Decisions.{due_packets, due_bytes}
use Rattle.spec_board.proofs.Shown.{run_of, flow_limit, add, edit, in_port_1, dl_dst, sync, frame, shown, journal, entry, unused_entry, total, sent}

-- the rule of port 1, which sends to port 2
abbrev in_port_rule : Edit
in_port_rule = add 32768 in_port_1 (Output 2 ∷ [])

-- a rule of port 1 and of a destination, which sends to port 2
abbrev in_port_and_dl_dst : List Stated
in_port_and_dl_dst = in_port_1 ++ dl_dst 2

-- ---- upcalls

a_frame_that_no_entry_covers_makes_one :
    shown (run_of flow_limit (2 ∷ []) (in_port_rule ∷ []) [] (frame 1 2 ∷ []) [])
    ≡ record {
      unmet = 0;
      journals = journal 1 (Begin 1 ∷ End ∷ Look 1 Miss ∷ Settle 1 1 (Installed 1 []) ∷ []) ∷ journal 2 (Begin 1 ∷ End ∷ []) ∷ [];
      places = sent 1 (2 ∷ []) ∷ [];
      entries = unused_entry 1 1 ∷ [];
      totals = total 1 ∷ [];
    }
unfolding shown
a_frame_that_no_entry_covers_makes_one = refl

without_edits_nothing_is_swept :
    shown (run_of flow_limit (2 ∷ []) [] [] (frame 1 2 ∷ []) [])
    ≡ record {
      unmet = 0;
      journals = journal 1 (Look 1 Miss ∷ Settle 1 0 (Installed 1 []) ∷ []) ∷ journal 2 [] ∷ [];
      places = sent 0 [] ∷ [];
      entries = unused_entry 1 0 ∷ [];
      totals = [];
    }
unfolding shown
without_edits_nothing_is_swept = refl

two_upcalls_of_one_key_make_one_entry :
    shown
    (run_of flow_limit (2 ∷ []) (in_port_rule ∷ []) [] (frame 1 2 ∷ frame 2 2 ∷ [])
    (given.Edit ∷ given.Rx 1 ∷ given.Rx 1 ∷ given.Snap 1 1 ∷ given.Snap 1 2 ∷ given.Settle 1 1 ∷ given.Settle 1 2 ∷ []))
    ≡ record {
      unmet = 0;
      journals =
          journal 1 (Look 1 Miss ∷ Look 2 Miss ∷ Settle 1 1 (Installed 1 []) ∷ Settle 2 1 (Present 1) ∷ Begin 1 ∷ Put 1 1 Kept ∷ End ∷ [])
          ∷ journal 2 (Begin 1 ∷ End ∷ []) ∷ [];
      places = sent 1 (2 ∷ []) ∷ sent 1 (2 ∷ []) ∷ [];
      entries = unused_entry 1 1 ∷ [];
      totals = total 2 ∷ [];
    }
unfolding shown
two_upcalls_of_one_key_make_one_entry = refl

a_full_board_makes_no_more_entries :
    shown
    (run_of 1 (2 ∷ []) (add 32768 in_port_and_dl_dst (Output 2 ∷ []) ∷ []) [] (frame 1 2 ∷ frame 2 6 ∷ frame 3 6 ∷ []) [])
    ≡ record {
      unmet = 0;
      journals =
          journal 1 (Begin 1 ∷ End ∷ Look 1 Miss ∷ Settle 1 1 (Installed 1 []) ∷ Look 2 Miss ∷ Settle 2 1 Full ∷ Look 3 Miss
          ∷ Settle 3 1 Full ∷ [])
          ∷ journal 2 (Begin 1 ∷ End ∷ []) ∷ [];
      places = sent 1 (2 ∷ []) ∷ sent 1 [] ∷ sent 1 [] ∷ [];
      entries = unused_entry 1 1 ∷ [];
      totals = total 1 ∷ [];
    }
unfolding shown
a_full_board_makes_no_more_entries = refl

-- ---- sweeps

-- the sweep has begun under version 2 before the translation of version 1 comes in, which is not used
a_translation_older_than_the_sweep_is_given_up :
    shown
    (run_of flow_limit (2 ∷ []) (in_port_rule ∷ edit Modify 32768 in_port_1 (Output 3 ∷ []) ∷ []) [] (frame 1 2 ∷ [])
    (given.Edit ∷ given.Rx 1 ∷ given.Snap 1 1 ∷ given.Edit ∷ given.Sweep 1 ∷ given.Swept 1 ∷ given.Settle 1 1 ∷ given.Snap 1 1
    ∷ given.Settle 1 1 ∷ []))
    ≡ record {
      unmet = 1;
      journals =
          journal 1 (Look 1 Miss ∷ Begin 2 ∷ End ∷ Settle 1 2 (Installed 1 []) ∷ []) ∷ journal 2 (Begin 2 ∷ End ∷ []) ∷ [];
      places = sent 2 [] ∷ [];
      entries = unused_entry 1 2 ∷ [];
      totals = total 1 ∷ total 0 ∷ [];
    }
unfolding shown
a_translation_older_than_the_sweep_is_given_up = refl

-- Rule 1 ties with rule 2, and is deleted at 2 seconds. The entry was made by an upcall, so no slot names it before the
-- second frame.
abbrev tied : Run
tied =
    run_of flow_limit (2 ∷ 3 ∷ [])
    (add 5 in_port_1 (Output 2 ∷ []) ∷ add 5 (dl_dst 2) (Output 3 ∷ []) ∷ edit DeleteStrict 5 in_port_1 [] ∷ [])
    (sync 2 2 ∷ []) (frame 1 2 ∷ frame 2 2 ∷ []) []

abbrev tied_steps : List Step
tied_steps =
    Begin 2 ∷ End ∷ Look 1 Miss ∷ Settle 1 2 (Installed 1 []) ∷ Open 1 ∷ Begin 3 ∷ Put 1 3 Replaced ∷ End ∷ Look 2 (Mega 1) ∷ []

abbrev swept_twice : List Step
swept_twice = Begin 2 ∷ End ∷ Open 1 ∷ Begin 3 ∷ End ∷ []

a_deleted_rule_gives_way_at_the_sync_point :
    shown tied
    ≡ record {
      unmet = 0;
      journals = journal 1 tied_steps ∷ journal 2 swept_twice ∷ journal 3 swept_twice ∷ [];
      places = sent 2 (2 ∷ []) ∷ sent 3 (3 ∷ []) ∷ [];
      entries = entry 1 3 1 60 1 60 ∷ [];
      totals = total 1 ∷ total 0 ∷ total 0 ∷ [];
    }
unfolding shown
a_deleted_rule_gives_way_at_the_sync_point = refl

the_journal_of_two_blocks_is_legal : IsLegal tied 1 tied.flow_limit tied_steps
unfolding shown
the_journal_of_two_blocks_is_legal =
    (refl, (refl, ((refl, refl), ((refl, refl), (refl, (refl, ((refl, refl), (refl, ((refl, refl), tt)))))))))

the_journal_of_two_blocks_is_complete : IsComplete tied 1 tied_steps
unfolding shown
the_journal_of_two_blocks_is_complete = record { in_last_block = refl; all_decided = refl; no_sweep = refl; swept = refl }

each_rule_is_due_one_frame : map (due_packets tied 1 tied_steps) (1 ∷ 2 ∷ 3 ∷ []) ≡ 1 ∷ 1 ∷ 0 ∷ []
unfolding shown
each_rule_is_due_one_frame = refl

-- Rule 2 is deleted, and the last frame, which its entry doesn't cover, makes a wider one.
abbrev widened : Run
widened =
    run_of flow_limit (2 ∷ 3 ∷ [])
    (add 1 [] (Output 2 ∷ []) ∷ add 10 (dl_dst 9) (Output 3 ∷ []) ∷ edit DeleteStrict 10 (dl_dst 9) [] ∷ [])
    [] (frame 1 2 ∷ frame 2 2 ∷ frame 3 6 ∷ [])
    (given.Edit ∷ given.Edit ∷ given.Rx 1 ∷ given.Snap 1 1 ∷ given.Settle 1 1 ∷ given.Edit ∷ given.Sweep 1 ∷ given.Check 1 1
    ∷ given.Put 1 1 ∷ given.Swept 1 ∷ given.Rx 1 ∷ given.Rx 1 ∷ given.Snap 1 3 ∷ given.Settle 1 3 ∷ [])

abbrev widened_steps : List Step
widened_steps =
    Look 1 Miss ∷ Settle 1 2 (Installed 1 []) ∷ Begin 3 ∷ Put 1 3 Kept ∷ End ∷ Look 2 (Mega 1) ∷ Look 3 Miss
    ∷ Settle 3 3 (Installed 2 (1 ∷ [])) ∷ []

a_dropped_entry_pays_what_it_owes :
    shown widened
    ≡ record {
      unmet = 0;
      journals = journal 1 widened_steps ∷ journal 2 (Begin 3 ∷ End ∷ []) ∷ journal 3 (Begin 3 ∷ End ∷ []) ∷ [];
      places = sent 2 (2 ∷ []) ∷ sent 3 (2 ∷ []) ∷ sent 3 (2 ∷ []) ∷ [];
      entries = unused_entry 2 3 ∷ [];
      totals = total 3 ∷ total 0 ∷ total 0 ∷ [];
    }
unfolding shown
a_dropped_entry_pays_what_it_owes = refl

the_journal_of_a_wider_entry_is_legal : IsLegal widened 1 widened.flow_limit widened_steps
unfolding shown
the_journal_of_a_wider_entry_is_legal =
    ((refl, refl), ((refl, refl), (refl, ((refl, refl), (refl, ((refl, refl), ((refl, refl), ((refl, refl), tt))))))))

its_rule_is_due_all_frames :
    (due_packets widened 1 widened_steps 1 ≡ 3) × (due_bytes widened 1 widened_steps 1 ≡ 180)
unfolding shown
its_rule_is_due_all_frames = (refl, refl)

-- The entry decided no frame, and the sweep begins 19 seconds after the frame that it was made for.
abbrev idle : Run
idle =
    run_of flow_limit (2 ∷ []) (add 32768 in_port_and_dl_dst (Output 2 ∷ []) ∷ []) [] (frame 1 2 ∷ frame 20 6 ∷ [])
    (given.Edit ∷ given.Rx 1 ∷ given.Snap 1 1 ∷ given.Settle 1 1 ∷ given.Rx 1 ∷ given.Sweep 1 ∷ given.Check 1 1 ∷ given.Put 1 1
    ∷ given.Swept 1 ∷ [])

abbrev idle_steps : List Step
idle_steps =
    Look 1 Miss ∷ Settle 1 1 (Installed 1 []) ∷ Look 2 Miss ∷ Begin 1 ∷ Put 1 1 Idle ∷ End ∷ Settle 2 1 (Installed 2 []) ∷ []

an_entry_unused_for_long_is_dropped :
    shown idle
    ≡ record {
      unmet = 0;
      journals = journal 1 idle_steps ∷ journal 2 (Begin 1 ∷ End ∷ []) ∷ [];
      places = sent 1 (2 ∷ []) ∷ sent 1 [] ∷ [];
      entries = unused_entry 2 1 ∷ [];
      totals = total 1 ∷ [];
    }
unfolding shown
an_entry_unused_for_long_is_dropped = refl

the_journal_of_an_idle_entry_is_legal : IsLegal idle 1 idle.flow_limit idle_steps
unfolding shown
the_journal_of_an_idle_entry_is_legal =
    ((refl, refl), ((refl, refl), ((refl, refl), (refl, ((refl, refl), (refl, ((refl, refl), tt)))))))

-- The sweep has listed entry 1 when a wider one takes its place.
a_sweep_forgets_an_entry_that_is_dropped_meanwhile :
    shown
    (run_of flow_limit (2 ∷ 3 ∷ [])
    (add 1 [] (Output 2 ∷ []) ∷ add 10 (dl_dst 9) (Output 3 ∷ []) ∷ edit DeleteStrict 10 (dl_dst 9) [] ∷ [])
    [] (frame 1 2 ∷ frame 2 6 ∷ [])
    (given.Edit ∷ given.Edit ∷ given.Rx 1 ∷ given.Snap 1 1 ∷ given.Settle 1 1 ∷ given.Edit ∷ given.Sweep 1 ∷ given.Check 1 1
    ∷ given.Rx 1 ∷ given.Snap 1 2 ∷ given.Settle 1 2 ∷ given.Put 1 1 ∷ []))
    ≡ record {
      unmet = 1;
      journals =
          journal 1 (Look 1 Miss ∷ Settle 1 2 (Installed 1 []) ∷ Begin 3 ∷ Look 2 Miss ∷ Settle 2 3 (Installed 2 (1 ∷ [])) ∷ End ∷ [])
          ∷ journal 2 (Begin 3 ∷ End ∷ []) ∷ journal 3 (Begin 3 ∷ End ∷ []) ∷ [];
      places = sent 2 (2 ∷ []) ∷ sent 3 (2 ∷ []) ∷ [];
      entries = unused_entry 2 3 ∷ [];
      totals = total 2 ∷ total 0 ∷ total 0 ∷ [];
    }
unfolding shown
a_sweep_forgets_an_entry_that_is_dropped_meanwhile = refl

-- ---- given steps

-- After the first edit and look there is no second one, no port 9, no sweep, no further block, and nothing kept.
steps_that_are_refused_are_counted_and_nothing_else :
    shown
    (run_of flow_limit (2 ∷ []) (in_port_rule ∷ []) [] (frame 1 2 ∷ [])
    (given.Edit ∷ given.Edit ∷ given.Rx 9 ∷ given.Rx 1 ∷ given.Rx 1 ∷ given.Snap 1 2 ∷ given.Settle 1 1 ∷ given.Check 1 1
    ∷ given.Put 1 1 ∷ given.Swept 1 ∷ given.Open 1 ∷ []))
    ≡ record {
      unmet = 9;
      journals = journal 1 (Look 1 Miss ∷ Settle 1 1 (Installed 1 []) ∷ Begin 1 ∷ Put 1 1 Kept ∷ End ∷ []) ∷ journal 2 (Begin 1 ∷ End ∷ []) ∷ [];
      places = sent 1 (2 ∷ []) ∷ [];
      entries = unused_entry 1 1 ∷ [];
      totals = total 1 ∷ [];
    }
unfolding shown
steps_that_are_refused_are_counted_and_nothing_else = refl

-- Port 1 has opened the second block, whose edit waits for ports 2 and 3.
no_edit_is_published_before_every_port_is_in_its_block :
    shown
    (record tied {
      steps =
          given.Edit ∷ given.Edit ∷ given.Sweep 1 ∷ given.Swept 1 ∷ given.Rx 1 ∷ given.Snap 1 1 ∷ given.Settle 1 1 ∷ given.Open 1
          ∷ given.Edit ∷ [];
    })
    ≡ record {
      unmet = 1;
      journals = journal 1 tied_steps ∷ journal 2 swept_twice ∷ journal 3 swept_twice ∷ [];
      places = sent 2 (2 ∷ []) ∷ sent 3 (3 ∷ []) ∷ [];
      entries = entry 1 3 1 60 1 60 ∷ [];
      totals = total 1 ∷ total 0 ∷ total 0 ∷ [];
    }
unfolding shown
no_edit_is_published_before_every_port_is_in_its_block = refl

-- ---- refusals

abbrev two_frames : Run
two_frames = run_of flow_limit (2 ∷ []) (in_port_rule ∷ []) [] (frame 1 2 ∷ frame 2 2 ∷ []) []

-- a board of port 1 after these steps
abbrev led_to : List Step → State
led_to steps = after two_frames 1 steps

a_new_board_refuses_all_but_its_first_look_and_a_sweep :
    (open_fault two_frames 1 (led_to []) 1 ≡ Some (open_faults.Order 0 0))
    × ((look_fault two_frames 1 (led_to []) 2 ≡ Some (look_faults.OutOfTurn 1))
    × ((settle_fault two_frames (led_to []) 1 1 ≡ Some settle_faults.NotPending)
    × ((begin_fault two_frames (led_to []) 5 ≡ Some (begin_faults.Ahead 1))
    × ((put_fault two_frames (led_to []) 1 1 ≡ Some put_faults.NotListed)
    × ((end_fault (led_to []) ≡ Some end_faults.NotSweeping)
    × ((look_fault two_frames 1 (led_to []) 1 ≡ None)
    × (begin_fault two_frames (led_to []) 1 ≡ None)))))))
unfolding shown
a_new_board_refuses_all_but_its_first_look_and_a_sweep = (refl, (refl, (refl, (refl, (refl, (refl, (refl, refl)))))))

a_sweep_without_entries_puts_none_and_may_end :
    (begin_fault two_frames (led_to (Begin 1 ∷ [])) 1 ≡ Some (begin_faults.Sweeping 1))
    × ((put_fault two_frames (led_to (Begin 1 ∷ [])) 1 1 ≡ Some put_faults.NotListed)
    × (end_fault (led_to (Begin 1 ∷ [])) ≡ None))
unfolding shown
a_sweep_without_entries_puts_none_and_may_end = (refl, (refl, refl))

-- a version beyond the edits, and an entry that isn't there
what_stands_first_is_said_where_several_causes_stand :
    (settle_fault two_frames (led_to []) 1 9 ≡ Some settle_faults.NotPending)
    × ((begin_fault two_frames (led_to (Begin 1 ∷ [])) 9 ≡ Some (begin_faults.Sweeping 1))
    × (put_fault two_frames (led_to (Begin 1 ∷ [])) 1 9 ≡ Some put_faults.NotListed))
unfolding shown
what_stands_first_is_said_where_several_causes_stand = (refl, (refl, refl))

-- ---- blocks

a_frame_after_a_later_one_stays_in_its_block :
    map (block_of (run_of flow_limit [] [] (sync 2 0 ∷ []) (frame 1 2 ∷ frame 3 2 ∷ frame 2 2 ∷ []) []) 1) (1 ∷ 2 ∷ 3 ∷ []) ≡ 0 ∷ 1 ∷ 1 ∷ []
unfolding shown
a_frame_after_a_later_one_stays_in_its_block = refl
