-- Worked rows: journals from small tables and few frames, their decisions and texts, and slots of the cache.
use Rattle.std.proofs.Common.{lit≤}
use Rattle.std.specs.Prelude.{◌≡◌, ℕ, ◌==◌, true, false, map, filter, List, [], ◌∷◌, ◌++◌, codes, Some, None, refl}
use Rattle.std.specs.Fmt.{digits}
use Rattle.spec_keys.specs.declared.field_id.FieldId.TheVariants as field
use Rattle.spec_keys.specs.Keys.{none}
use Rattle.spec_actions.specs.declared.action.OfAction.TheVariants.{Output, Resubmit}
use Rattle.spec_actions.specs.declared.action.DpAction.{DpAction}
use Rattle.spec_actions.specs.declared.action.DpAction.TheVariants.{Output as Sent, PopVlan, PushVlan, Set}
use Rattle.spec_tables.specs.declared.edit_word.EditWord.TheVariants.{DeleteStrict}
use Rattle.spec_tables.proofs.Packets.{is}
use Rattle.spec_case.specs.declared.run_step.RunStep.{RunStep}
use Rattle.spec_case.specs.declared.run_step.RunStep.TheVariants as given
use Rattle.spec_case.specs.Run.{Run}
use Rattle.spec_board.specs.declared.looked.Looked.TheVariants.{Exact, Mega, Miss}
use Rattle.spec_board.specs.declared.put_done.PutDone.TheVariants.{Idle, Removed, Kept, Replaced}
use Rattle.spec_board.specs.Steps.{Step, Open, Look, Settle, Begin, Put, End, Present, Full, Installed}
use Rattle.spec_board.specs.State.{Entry, Slot, State}
use Rattle.spec_board.specs.Cache.{first_slot, second_slot, slot_for, cached, with_cached}
use Rattle.spec_board.specs.Results.{is_same_action, are_same_actions}
use Rattle.spec_board.specs.Journals.{IsLegal, IsComplete, after}
use Rattle.spec_board.specs.Decisions.{Decision, decisions, times_decided, IsInWindow, due_packets, due_bytes}
use Rattle.spec_board.specs.Counts.{owed_packets, owed_bytes}
use Rattle.spec_board.specs.Texts.{journals_text}
use Rattle.spec_board.proofs.Shown.{Shown, run_of, flow_limit, add, edit, in_port_1, dl_dst, sync, frame, trace, shown, journal, entry, total, sent}
use Rattle.spec_board.proofs.Runs.{replaced, replaced_steps, led_to}

-- ---- texts

a_journal_as_text :
    journals_text
    (record { port = 7; steps = Begin 2 ∷ End ∷ Look 1 Miss ∷ Settle 1 2 (Installed 3 (1 ∷ 2 ∷ [])) ∷ Open 1 ∷ Look 2 (Mega 3) ∷ Look 4 (Exact 5) ∷ [] }
    ∷ record { port = 8; steps = Settle 6 7 (Installed 8 []) ∷ Settle 9 10 (Present 11) ∷ Settle 12 13 Full ∷ [] }
    ∷ record { port = 9; steps = Put 14 15 Idle ∷ Put 16 17 Removed ∷ Put 18 19 Kept ∷ Put 20 21 Replaced ∷ [] } ∷ [])
    ≡ codes "port 7\nbegin 2\nend\nlook 1 miss\nsettle 1 2 installed 3 drop 1 2\nopen 1\nlook 2 mega 3\nlook 4 exact 5\n"
    ++ (codes "port 8\nsettle 6 7 installed 8\nsettle 9 10 present 11\nsettle 12 13 full\n"
    ++ codes "port 9\nput 14 15 idle\nput 16 17 removed\nput 18 19 kept\nput 20 21 replaced\n")
unfolding digits
a_journal_as_text = refl

the_line_feed : codes "\n" ≡ 10 ∷ []
the_line_feed = refl

-- ---- runs

a_frame_before_the_put_has_the_old_actions_and_one_after_it_the_new_ones :
    shown replaced
    ≡ record {
      unmet = 0;
      journals = journal 1 replaced_steps ∷ journal 2 (Begin 2 ∷ End ∷ []) ∷ [];
      places = sent 1 (2 ∷ []) ∷ sent 1 (2 ∷ []) ∷ sent 2 [] ∷ [];
      entries = entry 1 2 2 120 1 60 ∷ [];
      totals = total 2 ∷ total 0 ∷ [];
    }
unfolding shown
a_frame_before_the_put_has_the_old_actions_and_one_after_it_the_new_ones = refl

its_journal_is_legal : IsLegal replaced 1 replaced.flow_limit replaced_steps
unfolding shown
its_journal_is_legal =
    ((refl, refl), ((refl, refl), ((refl, refl), (refl, ((refl, refl), (refl, ((refl, refl), tt)))))))

its_journal_is_complete : IsComplete replaced 1 replaced_steps
unfolding shown
its_journal_is_complete = record { in_last_block = refl; all_decided = refl; no_sweep = refl; swept = refl }

-- ---- decisions

each_frame_is_decided_once : map (times_decided replaced_steps) (1 ∷ 2 ∷ 3 ∷ []) ≡ 1 ∷ 1 ∷ 1 ∷ []
each_frame_is_decided_once = refl

the_versions_of_the_frames : map (λ (d : Decision). d.version) (decisions replaced 1 replaced_steps) ≡ 1 ∷ 1 ∷ 2 ∷ []
unfolding shown
the_versions_of_the_frames = refl

abbrev AreInWindow : Run → List Decision → Type 0
AreInWindow run [] = Unit {0}
AreInWindow run (d ∷ ds) = IsInWindow run 1 d × AreInWindow run ds

each_version_is_in_its_window : AreInWindow replaced (decisions replaced 1 replaced_steps)
unfolding shown
each_version_is_in_its_window = (
  record { not_older = lit≤ tt; not_newer = lit≤ tt; from_block = lit≤ tt; within_block = lit≤ tt },
  (
    record { not_older = lit≤ tt; not_newer = lit≤ tt; from_block = lit≤ tt; within_block = lit≤ tt },
    (record { not_older = lit≤ tt; not_newer = lit≤ tt; from_block = lit≤ tt; within_block = lit≤ tt }, tt),
  ),
)

-- two packets of its total and one that the entry owes
a_rule_is_due_each_frame_that_visits_it :
    (due_packets replaced 1 replaced_steps 1 ≡ 3) × ((due_bytes replaced 1 replaced_steps 1 ≡ 180) × (due_packets replaced 1 replaced_steps 2 ≡ 0))
unfolding shown
a_rule_is_due_each_frame_that_visits_it = (refl, (refl, refl))

-- ---- further runs

-- A second rule wins over the first one, by the same bits.
abbrev outbid : Run
outbid =
    run_of flow_limit (2 ∷ 3 ∷ []) (add 5 in_port_1 (Output 2 ∷ []) ∷ add 10 in_port_1 (Output 3 ∷ []) ∷ [])
    [] (frame 1 2 ∷ frame 2 2 ∷ [])
    (given.Edit ∷ given.Rx 1 ∷ given.Snap 1 1 ∷ given.Settle 1 1 ∷ given.Rx 1 ∷ given.Edit ∷ given.Sweep 1 ∷ given.Check 1 1
    ∷ given.Put 1 1 ∷ given.Swept 1 ∷ [])

what_an_entry_owes_is_paid_by_its_old_visits :
    shown outbid
    ≡ record {
      unmet = 0;
      journals =
          journal 1 (Look 1 Miss ∷ Settle 1 1 (Installed 1 []) ∷ Look 2 (Mega 1) ∷ Begin 2 ∷ Put 1 2 Replaced ∷ End ∷ [])
          ∷ journal 2 (Begin 2 ∷ End ∷ []) ∷ journal 3 (Begin 2 ∷ End ∷ []) ∷ [];
      places = sent 1 (2 ∷ []) ∷ sent 1 (2 ∷ []) ∷ [];
      entries = entry 1 2 1 60 0 0 ∷ [];
      totals = total 2 ∷ total 0 ∷ [];
    }
unfolding shown
what_an_entry_owes_is_paid_by_its_old_visits = refl

an_entry_with_other_visits_is_replaced_though_it_sends_the_same :
    (shown (record outbid { edits = add 5 in_port_1 (Output 2 ∷ []) ∷ add 10 in_port_1 (Output 2 ∷ []) ∷ [] })).journals
    ≡ journal 1 (Look 1 Miss ∷ Settle 1 1 (Installed 1 []) ∷ Look 2 (Mega 1) ∷ Begin 2 ∷ Put 1 2 Replaced ∷ End ∷ [])
    ∷ journal 2 (Begin 2 ∷ End ∷ []) ∷ journal 3 (Begin 2 ∷ End ∷ []) ∷ []
unfolding shown
an_entry_with_other_visits_is_replaced_though_it_sends_the_same = refl

-- Rule 2 is deleted before the sweep, so that the entry consults more than its rules do then; a frame that it doesn't
-- cover makes a wider one in its place.
abbrev widened : Run
widened =
    run_of flow_limit (2 ∷ 3 ∷ [])
    (add 1 [] (Output 2 ∷ []) ∷ add 10 (dl_dst 9) (Output 3 ∷ []) ∷ edit DeleteStrict 10 (dl_dst 9) [] ∷ [])
    [] (frame 1 2 ∷ frame 2 2 ∷ frame 3 6 ∷ frame 4 2 ∷ frame 5 2 ∷ [])
    (given.Edit ∷ given.Edit ∷ given.Rx 1 ∷ given.Snap 1 1 ∷ given.Settle 1 1 ∷ given.Edit ∷ given.Sweep 1 ∷ given.Check 1 1
    ∷ given.Put 1 1 ∷ given.Swept 1 ∷ given.Rx 1 ∷ given.Rx 1 ∷ given.Snap 1 3 ∷ given.Settle 1 3 ∷ [])

a_wider_entry_drops_those_that_it_overlaps_and_their_slots_name_none :
    shown widened
    ≡ record {
      unmet = 0;
      journals =
          journal 1 (Look 1 Miss ∷ Settle 1 2 (Installed 1 []) ∷ Begin 3 ∷ Put 1 3 Kept ∷ End ∷ Look 2 (Mega 1) ∷ Look 3 Miss
          ∷ Settle 3 3 (Installed 2 (1 ∷ [])) ∷ Look 4 (Mega 2) ∷ Look 5 (Exact 2) ∷ [])
          ∷ journal 2 (Begin 3 ∷ End ∷ []) ∷ journal 3 (Begin 3 ∷ End ∷ []) ∷ [];
      places = sent 2 (2 ∷ []) ∷ sent 3 (2 ∷ []) ∷ sent 3 (2 ∷ []) ∷ sent 3 (2 ∷ []) ∷ sent 3 (2 ∷ []) ∷ [];
      entries = entry 2 3 2 120 2 120 ∷ [];
      totals = total 3 ∷ total 0 ∷ total 0 ∷ [];
    }
unfolding shown
a_wider_entry_drops_those_that_it_overlaps_and_their_slots_name_none = refl

entries_that_are_dropped_do_not_count_against_the_limit :
    (shown (record widened { flow_limit = 1 })).journals
    ≡ journal 1 (Look 1 Miss ∷ Settle 1 2 (Installed 1 []) ∷ Begin 3 ∷ Put 1 3 Kept ∷ End ∷ Look 2 (Mega 1) ∷ Look 3 Miss
    ∷ Settle 3 3 (Installed 2 (1 ∷ [])) ∷ Look 4 (Mega 2) ∷ Look 5 (Exact 2) ∷ [])
    ∷ journal 2 (Begin 3 ∷ End ∷ []) ∷ journal 3 (Begin 3 ∷ End ∷ []) ∷ []
unfolding shown
entries_that_are_dropped_do_not_count_against_the_limit = refl

-- The third frame makes a wider entry while a sweep lists the first one.
abbrev listed_after : List Step → List ℕ
listed_after steps = (after widened 1 (Look 1 Miss ∷ Settle 1 2 (Installed 1 []) ∷ Look 2 (Mega 1) ∷ Begin 3 ∷ steps)).listed

a_sweep_lists_an_entry_no_more_that_is_dropped_meanwhile :
    (listed_after [] ≡ 1 ∷ []) × (listed_after (Look 3 Miss ∷ Settle 3 3 (Installed 2 (1 ∷ [])) ∷ []) ≡ [])
unfolding shown
a_sweep_lists_an_entry_no_more_that_is_dropped_meanwhile = (refl, refl)

-- Where no entry may be made, each frame has an upcall; the frame at the sync point is decided after it.
abbrev without_entries : Run
without_entries =
    run_of 0 (2 ∷ 3 ∷ []) (add 32768 in_port_1 (Output 2 ∷ []) ∷ add 40000 in_port_1 (Output 3 ∷ []) ∷ [])
    (sync 2 1 ∷ []) (frame 1 2 ∷ frame 2 2 ∷ []) []

a_block_is_finished_before_the_next_one_is_opened :
    shown without_entries
    ≡ record {
      unmet = 0;
      journals =
          journal 1 (Begin 1 ∷ End ∷ Look 1 Miss ∷ Settle 1 1 Full ∷ Open 1 ∷ Begin 2 ∷ End ∷ Look 2 Miss ∷ Settle 2 2 Full ∷ [])
          ∷ journal 2 (Begin 1 ∷ End ∷ Open 1 ∷ Begin 2 ∷ End ∷ []) ∷ journal 3 (Begin 1 ∷ End ∷ Open 1 ∷ Begin 2 ∷ End ∷ []) ∷ [];
      places = sent 1 (2 ∷ []) ∷ sent 2 (3 ∷ []) ∷ [];
      entries = [];
      totals = total 1 ∷ total 1 ∷ [];
    }
unfolding shown
a_block_is_finished_before_the_next_one_is_opened = refl

-- An entry that stood unused for ten seconds is dropped by a sweep.
abbrev idle : Run
idle =
    run_of flow_limit (2 ∷ []) (add 32768 (dl_dst 2) (Output 2 ∷ []) ∷ [])
    [] (frame 1 2 ∷ frame 11 6 ∷ [])
    (given.Edit ∷ given.Rx 1 ∷ given.Snap 1 1 ∷ given.Settle 1 1 ∷ given.Rx 1 ∷ given.Sweep 1 ∷ given.Check 1 1 ∷ given.Put 1 1
    ∷ given.Swept 1 ∷ [])

an_entry_unused_for_ten_seconds_is_idle :
    (shown idle).journals
    ≡ journal 1 (Look 1 Miss ∷ Settle 1 1 (Installed 1 []) ∷ Look 2 Miss ∷ Begin 1 ∷ Put 1 1 Idle ∷ End ∷ Settle 2 1 (Installed 2 []) ∷ [])
    ∷ journal 2 (Begin 1 ∷ End ∷ []) ∷ []
unfolding shown
an_entry_unused_for_ten_seconds_is_idle = refl

-- The mask of the entry lacks the bits of the new rule's match.
abbrev outside : Run
outside =
    run_of flow_limit (2 ∷ 3 ∷ []) (add 1 [] (Output 2 ∷ []) ∷ add 5 (dl_dst 9) (Output 3 ∷ []) ∷ [])
    [] (frame 1 2 ∷ [])
    (given.Edit ∷ given.Rx 1 ∷ given.Snap 1 1 ∷ given.Settle 1 1 ∷ given.Edit ∷ given.Sweep 1 ∷ given.Check 1 1 ∷ given.Put 1 1
    ∷ given.Swept 1 ∷ [])

an_entry_whose_mask_is_too_wide_is_removed :
    shown outside
    ≡ record {
      unmet = 0;
      journals =
          journal 1 (Look 1 Miss ∷ Settle 1 1 (Installed 1 []) ∷ Begin 2 ∷ Put 1 2 Removed ∷ End ∷ [])
          ∷ journal 2 (Begin 2 ∷ End ∷ []) ∷ journal 3 (Begin 2 ∷ End ∷ []) ∷ [];
      places = sent 1 (2 ∷ []) ∷ [];
      entries = [];
      totals = total 1 ∷ total 0 ∷ [];
    }
unfolding shown
an_entry_whose_mask_is_too_wide_is_removed = refl

-- The new rule needs a bit that the mask of the entry lacks, which stood unused for long besides.
an_entry_that_is_idle_and_too_wide_is_idle :
    (shown
    (run_of flow_limit (2 ∷ []) (add 5 (dl_dst 2) (Output 2 ∷ []) ∷ add 10 (is field.DlSrc 9 ∷ []) (Output 2 ∷ []) ∷ [])
    [] (frame 1 2 ∷ frame 20 6 ∷ [])
    (given.Edit ∷ given.Rx 1 ∷ given.Snap 1 1 ∷ given.Settle 1 1 ∷ given.Rx 1 ∷ given.Edit ∷ given.Sweep 1 ∷ given.Check 1 1
    ∷ given.Put 1 1 ∷ given.Swept 1 ∷ []))).journals
    ≡ journal 1 (Look 1 Miss ∷ Settle 1 1 (Installed 1 []) ∷ Look 2 Miss ∷ Begin 2 ∷ Put 1 2 Idle ∷ End ∷ Settle 2 2 (Installed 2 []) ∷ [])
    ∷ journal 2 (Begin 2 ∷ End ∷ []) ∷ []
unfolding shown
an_entry_that_is_idle_and_too_wide_is_idle = refl

-- Frames of 5, 20 and 1 seconds, of one entry.
abbrev out_of_order : Run
out_of_order = run_of flow_limit (2 ∷ []) (add 32768 in_port_1 (Output 2 ∷ []) ∷ []) [] (frame 5 2 ∷ frame 20 2 ∷ frame 1 2 ∷ []) []

abbrev two_looked_up : List Step
two_looked_up = Look 1 Miss ∷ Look 2 Miss ∷ Settle 1 1 (Installed 1 []) ∷ []

-- the times of use of the entries after steps, and the newest time
abbrev times_of_use : List Step → List ℕ
times_of_use steps = map (λ (e : Entry). e.used) (after out_of_order 1 steps).entries

a_new_entry_has_the_time_of_its_frame_and_not_the_newest :
    (times_of_use two_looked_up ≡ 5000000000 ∷ []) × ((after out_of_order 1 two_looked_up).clock ≡ 20000000000)
unfolding shown
a_new_entry_has_the_time_of_its_frame_and_not_the_newest = (refl, refl)

a_hit_has_the_time_of_its_frame_though_it_is_earlier :
    (times_of_use (two_looked_up ++ Look 3 (Mega 1) ∷ []) ≡ 1000000000 ∷ [])
    × ((after out_of_order 1 (two_looked_up ++ Look 3 (Mega 1) ∷ [])).clock ≡ 20000000000)
unfolding shown
a_hit_has_the_time_of_its_frame_though_it_is_earlier = (refl, refl)

-- Two entries, of which each decided one frame more, and a sweep that has put the first.
abbrev one_of_two_put : State
one_of_two_put =
    after (run_of flow_limit (2 ∷ []) (add 5 (dl_dst 2) (Output 2 ∷ []) ∷ []) [] (frame 1 2 ∷ frame 2 6 ∷ frame 3 2 ∷ frame 4 6 ∷ []) []) 1
    (Look 1 Miss ∷ Settle 1 1 (Installed 1 []) ∷ Look 2 Miss ∷ Settle 2 1 (Installed 2 []) ∷ Look 3 (Mega 1) ∷ Look 4 (Mega 2) ∷ Begin 1
    ∷ Put 1 1 Kept ∷ [])

a_put_is_of_its_entry_alone :
    (map (λ (e : Entry). e.owed_packets) one_of_two_put.entries ≡ 0 ∷ 1 ∷ []) × (one_of_two_put.listed ≡ 2 ∷ [])
unfolding shown
a_put_is_of_its_entry_alone = (refl, refl)

-- Table 0 goes to table 1 twice. The first frame credits at once, and the second one when the sweep pays.
abbrev twice : Run
twice =
    run_of flow_limit (2 ∷ [])
    (add 32768 in_port_1 (Resubmit 1 ∷ Resubmit 1 ∷ []) ∷ record (add 32768 in_port_1 (Output 2 ∷ [])) { table = Some 1 } ∷ [])
    [] (frame 1 2 ∷ frame 2 2 ∷ [])
    (given.Edit ∷ given.Edit ∷ given.Rx 1 ∷ given.Snap 1 1 ∷ given.Settle 1 1 ∷ given.Rx 1 ∷ [])

abbrev twice_steps : List Step
twice_steps = Look 1 Miss ∷ Settle 1 2 (Installed 1 []) ∷ Look 2 (Mega 1) ∷ Begin 2 ∷ Put 1 2 Kept ∷ End ∷ []

a_rule_is_credited_with_each_visit :
    shown twice
    ≡ record {
      unmet = 0;
      journals = journal 1 twice_steps ∷ journal 2 (Begin 2 ∷ End ∷ []) ∷ [];
      places = sent 2 (2 ∷ 2 ∷ []) ∷ sent 2 (2 ∷ 2 ∷ []) ∷ [];
      entries = entry 1 2 1 60 0 0 ∷ [];
      totals = total 2 ∷ total 4 ∷ [];
    }
unfolding shown
a_rule_is_credited_with_each_visit = refl

a_rule_is_due_each_visit : (due_packets twice 1 twice_steps 2 ≡ 4) × (due_bytes twice 1 twice_steps 2 ≡ 240)
unfolding shown
a_rule_is_due_each_visit = (refl, refl)

-- before the sweep pays, and after it
abbrev twice_hit : List Entry
twice_hit = (after twice 1 (Look 1 Miss ∷ Settle 1 2 (Installed 1 []) ∷ Look 2 (Mega 1) ∷ [])).entries

abbrev twice_paid : List Entry
twice_paid = (after twice 1 twice_steps).entries

an_entry_owes_each_visit :
    (map (λ rule. owed_packets rule twice_hit) (1 ∷ 2 ∷ 3 ∷ []) ≡ 1 ∷ 2 ∷ 0 ∷ [])
    × (map (λ rule. owed_bytes rule twice_hit) (1 ∷ 2 ∷ 3 ∷ []) ≡ 60 ∷ 120 ∷ 0 ∷ [])
unfolding shown
an_entry_owes_each_visit = (refl, refl)

an_entry_that_is_paid_owes_nothing : (owed_packets 2 twice_paid ≡ 0) × (owed_bytes 2 twice_paid ≡ 0)
unfolding shown
an_entry_that_is_paid_owes_nothing = (refl, refl)

-- ---- versions

-- the newest version that a step carried, that of the last sweep that began, and that of the last that ended
abbrev versions_after : List Step → List ℕ
versions_after steps = let s = led_to steps in s.newest ∷ s.floor ∷ s.done ∷ []

-- the entry is of version 0, and of 2 after the put
sweeps_and_translations_carry_their_versions :
    (versions_after (Begin 1 ∷ []) ≡ 1 ∷ 1 ∷ 0 ∷ []) × ((versions_after (Begin 1 ∷ Look 1 Miss ∷ Settle 1 2 (Installed 1 []) ∷ []) ≡ 2 ∷ 1 ∷ 0 ∷ [])
    × ((versions_after (Begin 1 ∷ Look 1 Miss ∷ Settle 1 2 (Installed 1 []) ∷ End ∷ []) ≡ 2 ∷ 1 ∷ 1 ∷ [])
    × (versions_after (Look 1 Miss ∷ Settle 1 0 (Installed 1 []) ∷ Begin 1 ∷ Put 1 2 Replaced ∷ []) ≡ 2 ∷ 1 ∷ 0 ∷ [])))
unfolding shown
sweeps_and_translations_carry_their_versions = (refl, (refl, (refl, refl)))

a_sweep_of_an_older_version_leaves_the_floor :
    (versions_after (Begin 2 ∷ End ∷ Begin 1 ∷ []) ≡ 2 ∷ 2 ∷ 2 ∷ []) × (versions_after (Begin 2 ∷ End ∷ Begin 1 ∷ End ∷ []) ≡ 2 ∷ 2 ∷ 2 ∷ [])
unfolding shown
a_sweep_of_an_older_version_leaves_the_floor = (refl, refl)

-- ---- given steps

-- what one frame of port 1 and these steps come to; the rule of port 1 is modified by the second edit
abbrev one_frame : List RunStep → Shown
one_frame steps = shown (record replaced { traces = trace (frame 1 2 ∷ []) ∷ trace [] ∷ []; steps = steps })

-- how many steps were not met, and the journal of port 1
abbrev IsMet : Shown → ℕ → List Step → Type 0
IsMet s unmet steps = (s.unmet ≡ unmet) × (s.journals ≡ journal 1 steps ∷ journal 2 (Begin 2 ∷ End ∷ []) ∷ [])

a_sweep_that_runs_is_ended_before_pending_frames_are_settled :
    IsMet (one_frame (given.Edit ∷ given.Rx 1 ∷ given.Sweep 1 ∷ [])) 0
    (Look 1 Miss ∷ Begin 1 ∷ End ∷ Settle 1 2 (Installed 1 []) ∷ Begin 2 ∷ Put 1 2 Kept ∷ End ∷ [])
unfolding shown
a_sweep_that_runs_is_ended_before_pending_frames_are_settled = (refl, refl)

-- two pending frames, of which each makes an entry
what_is_left_is_done_in_rising_order :
    (shown
    (run_of flow_limit (2 ∷ []) (add 32768 (dl_dst 2) (Output 2 ∷ []) ∷ []) [] (frame 1 2 ∷ frame 2 6 ∷ [])
    (given.Edit ∷ given.Rx 1 ∷ given.Rx 1 ∷ []))).journals
    ≡ journal 1 (Look 1 Miss ∷ Look 2 Miss ∷ Settle 1 1 (Installed 1 []) ∷ Settle 2 1 (Installed 2 []) ∷ Begin 1 ∷ Put 1 1 Kept ∷ Put 2 1 Kept ∷ End ∷ [])
    ∷ journal 2 (Begin 1 ∷ End ∷ []) ∷ []
unfolding shown
what_is_left_is_done_in_rising_order = refl

an_entry_is_present_though_no_more_may_be_made :
    (shown
    (run_of 1 (2 ∷ []) (add 32768 in_port_1 (Output 2 ∷ []) ∷ []) [] (frame 1 2 ∷ frame 2 2 ∷ [])
    (given.Edit ∷ given.Rx 1 ∷ given.Rx 1 ∷ []))).journals
    ≡ journal 1 (Look 1 Miss ∷ Look 2 Miss ∷ Settle 1 1 (Installed 1 []) ∷ Settle 2 1 (Present 1) ∷ Begin 1 ∷ Put 1 1 Kept ∷ End ∷ [])
    ∷ journal 2 (Begin 1 ∷ End ∷ []) ∷ []
unfolding shown
an_entry_is_present_though_no_more_may_be_made = refl

a_second_snap_replaces_the_first :
    IsMet (one_frame (given.Edit ∷ given.Rx 1 ∷ given.Snap 1 1 ∷ given.Edit ∷ given.Snap 1 1 ∷ given.Settle 1 1 ∷ [])) 0
    (Look 1 Miss ∷ Settle 1 2 (Installed 1 []) ∷ Begin 2 ∷ Put 1 2 Kept ∷ End ∷ [])
unfolding shown
a_second_snap_replaces_the_first = (refl, refl)

-- the second put has no translation, and the entry is put at the end of the run
a_put_gives_its_translation_up :
    IsMet
    (one_frame (given.Edit ∷ given.Edit ∷ given.Rx 1 ∷ given.Snap 1 1 ∷ given.Settle 1 1 ∷ given.Sweep 1 ∷ given.Check 1 1
    ∷ given.Put 1 1 ∷ given.Swept 1 ∷ given.Sweep 1 ∷ given.Put 1 1 ∷ [])) 1
    (Look 1 Miss ∷ Settle 1 2 (Installed 1 []) ∷ Begin 2 ∷ Put 1 2 Kept ∷ End ∷ Begin 2 ∷ Put 1 2 Kept ∷ End ∷ [])
unfolding shown
a_put_gives_its_translation_up = (refl, refl)

an_edit_of_the_next_block_is_published_once_it_is_open :
    (shown
    (run_of flow_limit [] (add 32768 in_port_1 [] ∷ add 40000 in_port_1 [] ∷ []) (sync 2 1 ∷ []) []
    (given.Edit ∷ given.Sweep 1 ∷ given.Swept 1 ∷ given.Edit ∷ given.Open 1 ∷ given.Edit ∷ given.Sweep 1 ∷ []))).unmet ≡ 1
unfolding shown
an_edit_of_the_next_block_is_published_once_it_is_open = refl

-- ---- the same actions

abbrev actions : List DpAction
actions =
    Sent 1 ∷ Sent 2 ∷ PopVlan ∷ PushVlan 0x8100 0x1001 ∷ PushVlan 0x8100 0x1002 ∷ PushVlan 0x88a8 0x1001 ∷ Set field.NwSrc 1 1 ∷ Set field.NwSrc 0 1 ∷ Set field.NwSrc 1 3
    ∷ Set field.NwDst 1 1 ∷ []

an_action_is_the_same_as_itself_alone : map (λ a. filter (is_same_action a) actions) actions ≡ map (λ a. a ∷ []) actions
an_action_is_the_same_as_itself_alone = refl

lists_of_actions_are_the_same_where_they_end_together :
    (are_same_actions (Sent 1 ∷ PopVlan ∷ []) (Sent 1 ∷ PopVlan ∷ []) ≡ true) × ((are_same_actions (Sent 1 ∷ []) (Sent 1 ∷ PopVlan ∷ []) ≡ false)
    × (are_same_actions (Sent 1 ∷ PopVlan ∷ []) (Sent 1 ∷ []) ≡ false))
unfolding shown
lists_of_actions_are_the_same_where_they_end_together = (refl, (refl, refl))

-- ---- the exact cache

-- the slot that the second frame wrote stays
a_frame_after_an_exact_hit_is_an_exact_hit :
    (shown (run_of flow_limit (2 ∷ []) (add 32768 in_port_1 (Output 2 ∷ []) ∷ []) [] (frame 1 2 ∷ frame 2 2 ∷ frame 3 2 ∷ frame 4 2 ∷ []) [])).journals
    ≡ journal 1 (Begin 1 ∷ End ∷ Look 1 Miss ∷ Settle 1 1 (Installed 1 []) ∷ Look 2 (Mega 1) ∷ Look 3 (Exact 1) ∷ Look 4 (Exact 1) ∷ [])
    ∷ journal 2 (Begin 1 ∷ End ∷ []) ∷ []
unfolding shown
a_frame_after_an_exact_hit_is_an_exact_hit = refl

abbrev a_key : List ℕ
a_key = 1 ∷ []

abbrev other_key : List ℕ
other_key = 2 ∷ []

abbrev slot : ℕ → List ℕ → ℕ → Slot
slot number key entry = record { number = number; key = key; entry = entry }

-- another key stands in the first slot, and in both
abbrev first_taken : List Slot
first_taken = slot (first_slot a_key) other_key 1 ∷ []

abbrev both_taken : List Slot
both_taken = slot (second_slot a_key) other_key 2 ∷ first_taken

-- its hash is 0xeb4f61260020abd5
the_slots_of_the_zero_key_are_13_bits_of_each_half_of_its_hash : (first_slot none ≡ 0xbd5) × (second_slot none ≡ 0x126)
unfolding shown
the_slots_of_the_zero_key_are_13_bits_of_each_half_of_its_hash = (refl, refl)

a_key_has_two_slots : (first_slot a_key == second_slot a_key) ≡ false
unfolding shown
a_key_has_two_slots = refl

a_key_is_put_into_an_empty_slot_and_else_into_its_first :
    (slot_for [] a_key ≡ first_slot a_key) × ((slot_for first_taken a_key ≡ second_slot a_key)
    × (slot_for both_taken a_key ≡ first_slot a_key))
unfolding shown
a_key_is_put_into_an_empty_slot_and_else_into_its_first = (refl, (refl, refl))

a_key_stays_in_the_slot_that_holds_it :
    (slot_for (slot (second_slot a_key) a_key 3 ∷ []) a_key ≡ second_slot a_key)
    × (slot_for (slot (second_slot a_key) a_key 3 ∷ first_taken) a_key ≡ second_slot a_key)
unfolding shown
a_key_stays_in_the_slot_that_holds_it = (refl, refl)

the_cache_names_the_entry_that_was_put_last :
    (cached (with_cached a_key 5 (with_cached a_key 4 first_taken)) a_key ≡ Some 5)
    × ((cached both_taken a_key ≡ None) × (cached (with_cached a_key 6 both_taken) a_key ≡ Some 6))
unfolding shown
the_cache_names_the_entry_that_was_put_last = (refl, (refl, refl))
