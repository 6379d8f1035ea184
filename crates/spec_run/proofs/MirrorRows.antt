-- Worked rows: what mirrors copy, and the files of the copies.
use Rattle.std.specs.Prelude.{◌≡◌, ℕ, Bool, true, false, List, [], ◌∷◌, replicate, Option, Some, None, codes, refl}
use Rattle.std.specs.Fmt.{digits}
use Rattle.spec_base.specs.Bytes.{big_endian_at}
use Rattle.spec_keys.specs.Fields.{stages}
use Rattle.spec_keys.specs.Keys.{none, masked, same, joined, only_at}
use Rattle.spec_keys.specs.Stages.{through}
use Rattle.spec_pcap.specs.Pcap.{Frame, Capture, header, record_header, file_of}
use Rattle.spec_actions.specs.declared.named_field.NamedField.TheVariants.{DlDst}
use Rattle.spec_actions.specs.declared.action.OfAction.TheVariants as flow
use Rattle.spec_tables.specs.declared.edit_word.EditWord.TheVariants.{Add}
use Rattle.spec_tables.specs.Rules.{winner}
use Rattle.spec_tables.specs.Edits.{Edit, after_edits}
use Rattle.spec_frames.specs.Ethernet.{is_tag_at, tag_count, tci_at, carried, carried_by}
use Rattle.spec_frames.specs.Network.{network_at}
use Rattle.spec_frames.specs.Key.{with_network, key_of}
use Rattle.spec_case.specs.Run.{Run, frames_in}
use Rattle.spec_base.specs.Sorting.{insert_by, sort_by}
use Rattle.spec_case.specs.Arrivals.{arrivals_at, arrivals_in}
use Rattle.spec_case.specs.Blocks.{ends_after}
use Rattle.spec_xlate.specs.Commit.{commit, commit_fields, commit_field}
use Rattle.spec_xlate.specs.Tags.{commit_tags, outer_tags}
use Rattle.spec_xlate.specs.Lookup.{length_up_to, common_length, deciding, probe, consults}
use Rattle.spec_xlate.specs.Consulted.{act_bits, run_bits, look_bits, consulted}
use Rattle.spec_xlate.specs.Needs.{fields_needed, is_met}
use Rattle.spec_xlate.specs.Translation.{emit, emit_all, committed, output, write, act, run, look, last_state, pipe}
use Rattle.spec_exec.specs.Sent.{Piece, sent}
use Rattle.spec_board.specs.Results.{are_same_actions}
use Rattle.spec_board.specs.Effects.{credited_by}
use Rattle.spec_board.specs.Decisions.{decisions_from}
use Rattle.spec_board.specs.Schedules.{finish, finish_board, least_block}
use Rattle.spec_board.specs.GivenSteps.{with_given_steps}
use Rattle.spec_input.specs.Mirrors.{Mirror}
use Rattle.spec_run.specs.Journals.{scheduled_journals}
use Rattle.spec_run.specs.Mirrored.{copy_of, copies, mirror_files}

abbrev mirror : List ℕ → List ℕ → Bool → Mirror
mirror src dst all = record { src = src; dst = dst; all = all }

-- ---- one frame

abbrev came : Frame
came = record { time = 5; bytes = 10 ∷ 11 ∷ [] }

abbrev piece : ℕ → List ℕ → Piece
piece port bytes = record { port = port; bytes = bytes }

-- what a mirror copies of that frame, which came in at port 1 and was sent three times, each time otherwise
abbrev copy_by : Mirror → Option Frame
copy_by m = copy_of m 1 came (piece 2 (20 ∷ []) ∷ piece 3 (30 ∷ []) ∷ piece 2 (40 ∷ []) ∷ [])

a_source_is_copied_as_it_came_in : (copy_by (mirror (1 ∷ []) [] false) ≡ Some came) × (copy_by (mirror (4 ∷ 1 ∷ []) [] false) ≡ Some came)
a_source_is_copied_as_it_came_in = (refl, refl)

all_sources_may_be_copied : copy_by (mirror [] [] true) ≡ Some came
all_sources_may_be_copied = refl

the_first_piece_to_a_destination_is_copied_with_the_time_of_its_frame :
    (copy_by (mirror [] (2 ∷ []) false) ≡ Some (record { time = 5; bytes = 20 ∷ [] }))
    × ((copy_by (mirror [] (3 ∷ []) false) ≡ Some (record { time = 5; bytes = 30 ∷ [] }))
    × (copy_by (mirror [] (3 ∷ 2 ∷ []) false) ≡ Some (record { time = 5; bytes = 20 ∷ [] })))
the_first_piece_to_a_destination_is_copied_with_the_time_of_its_frame = (refl, (refl, refl))

other_frames_are_not_copied :
    (copy_by (mirror [] [] false) ≡ None) × ((copy_by (mirror (2 ∷ 3 ∷ []) [] false) ≡ None)
    × (copy_by (mirror [] (1 ∷ 4 ∷ []) false) ≡ None))
other_frames_are_not_copied = (refl, (refl, refl))

a_source_comes_before_a_destination : copy_by (mirror (1 ∷ []) (2 ∷ 3 ∷ []) false) ≡ Some came
a_source_comes_before_a_destination = refl

-- ---- a run

-- 60 bytes from 00:00:00:00:00:01, of the type 0x88b5 for local experiments (IEEE 802)
abbrev frame : ℕ → ℕ → Frame
frame time last = record { time = time; bytes = 0 ∷ 0 ∷ 0 ∷ 0 ∷ 0 ∷ last ∷ 0 ∷ 0 ∷ 0 ∷ 0 ∷ 0 ∷ 1 ∷ 0x88 ∷ 0xb5 ∷ replicate 46 0 }

-- every frame is sent to port 2, and again with another Ethernet destination
abbrev twice : Edit
twice = record {
  word = Add;
  table = None;
  priority = 1;
  cookie = None;
  matching = record { key = none; mask = none };
  actions = flow.Output 2 ∷ flow.Set DlDst 7 0xffffffffffff ∷ flow.Output 2 ∷ [];
}

abbrev trace : List Frame → Capture
trace frames = record { nanos = false; frames = frames }

abbrev of_ports_1_and_2 : Run
of_ports_1_and_2 = record {
  ports = 1 ∷ 2 ∷ [];
  edits = twice ∷ [];
  bundles = 1 ∷ [];
  syncs = [];
  traces = trace (frame 1000 2 ∷ frame 3000 3 ∷ []) ∷ record { nanos = true; frames = frame 2000 4 ∷ [] } ∷ [];
  flow_limit = 8192;
  steps = [];
}

unfoldable copies_by : Mirror → List Frame
unfolding digits big_endian_at stages none masked same joined only_at through header record_header winner after_edits is_tag_at tag_count tci_at carried carried_by network_at with_network key_of frames_in arrivals_at arrivals_in insert_by sort_by ends_after commit commit_fields commit_field commit_tags outer_tags length_up_to common_length deciding probe consults act_bits run_bits look_bits consulted emit emit_all committed output fields_needed is_met write act run look last_state pipe sent are_same_actions credited_by decisions_from finish finish_board least_block with_given_steps
copies_by m = copies of_ports_1_and_2 (scheduled_journals of_ports_1_and_2) m

what_comes_in_is_copied_in_the_order_of_arrivals :
    (copies_by (mirror [] [] true) ≡ frame 1000 2 ∷ frame 2000 4 ∷ frame 3000 3 ∷ [])
    × (copies_by (mirror (1 ∷ []) [] false) ≡ frame 1000 2 ∷ frame 3000 3 ∷ [])
unfolding copies_by
what_comes_in_is_copied_in_the_order_of_arrivals = (refl, refl)

-- frames that come in at port 2 don't go out there
what_goes_out_is_copied_once_for_each_frame : copies_by (mirror [] (2 ∷ []) false) ≡ frame 1000 2 ∷ frame 3000 3 ∷ []
unfolding copies_by
what_goes_out_is_copied_once_for_each_frame = refl

a_mirror_may_copy_both : copies_by (mirror (2 ∷ []) (2 ∷ []) false) ≡ frame 1000 2 ∷ frame 2000 4 ∷ frame 3000 3 ∷ []
unfolding copies_by
a_mirror_may_copy_both = refl

-- ---- files

the_files_are_numbered_from_1 :
    mirror_files (codes "o") of_ports_1_and_2 [] (mirror (9 ∷ []) [] false ∷ mirror [] [] true ∷ [])
    ≡ (codes "o.m1.pcap", file_of true []) ∷ (codes "o.m2.pcap", file_of true (frame 1000 2 ∷ frame 2000 4 ∷ frame 3000 3 ∷ [])) ∷ []
unfolding copies_by
the_files_are_numbered_from_1 = refl
