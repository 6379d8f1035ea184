-- Worked rows: a few arrivals and their order, and the frames of ports.
use Rattle.std.specs.Prelude.{◌≡◌, ℕ, Bool, true, false, List, [], ◌∷◌, map, replicate, None, refl}
use Rattle.spec_pcap.specs.Pcap.{Frame, Capture}
use Rattle.spec_tables.specs.declared.edit_word.EditWord.TheVariants.{Add}
use Rattle.spec_tables.specs.Edits.{Edit}
use Rattle.spec_case.specs.declared.arrival.Arrival.{Arrival}
use Rattle.spec_case.specs.Run.{Run, last_version, edit_count, frames_in, frame_at, is_nanos}
use Rattle.spec_tables.specs.declared.sync_point.SyncPoint.{SyncPoint}
use Rattle.spec_case.specs.Blocks.{hi, lo, ends_after, block_ends, last_place, block_of}
use Rattle.spec_base.specs.Sorting.{insert_by, sort_by}
use Rattle.spec_case.specs.Arrivals.{arrivals_at, arrivals_in, arrivals, in_order}

abbrev at : ℕ → ℕ → ℕ → Arrival
at time port place = record { time = time; port = port; place = place }

abbrev frame : ℕ → ℕ → Frame
frame time byte = record { time = time; bytes = byte ∷ [] }

abbrev trace : Bool → List Frame → Capture
trace nanos frames = record { nanos = nanos; frames = frames }

-- Port 7 comes first in the words, and port 2 after it. The times of port 7 fall and rise.
abbrev run : Run
run = record {
  ports = 7 ∷ 2 ∷ 9 ∷ [];
  edits = [];
  bundles = [];
  syncs = [];
  traces = trace false (frame 3 0xa ∷ frame 1 0xb ∷ frame 2 0xc ∷ []) ∷ trace true (frame 2 0xd ∷ []) ∷ trace false [] ∷ [];
  flow_limit = 0;
  steps = [];
}

places_are_counted_from_1 : arrivals run ≡ at 3 7 1 ∷ at 1 7 2 ∷ at 2 7 3 ∷ at 2 2 1 ∷ []
unfolding arrivals_in arrivals_at
places_are_counted_from_1 = refl

the_frame_of_a_place : (frame_at run 7 2 ≡ frame 1 0xb) × (frame_at run 2 1 ≡ frame 2 0xd)
unfolding frames_in
the_frame_of_a_place = (refl, refl)

arrivals_come_by_time_and_then_by_port : in_order (arrivals run) ≡ at 1 7 2 ∷ at 2 2 1 ∷ at 2 7 3 ∷ at 3 7 1 ∷ []
unfolding sort_by insert_by arrivals_in arrivals_at
arrivals_come_by_time_and_then_by_port = refl

arrivals_of_one_time_come_by_port : in_order (at 5 2 1 ∷ at 5 1 2 ∷ []) ≡ at 5 1 2 ∷ at 5 2 1 ∷ []
unfolding sort_by insert_by
arrivals_of_one_time_come_by_port = refl

arrivals_of_one_port_and_time_come_by_place : in_order (at 5 1 2 ∷ at 5 1 1 ∷ []) ≡ at 5 1 1 ∷ at 5 1 2 ∷ []
unfolding sort_by insert_by
arrivals_of_one_port_and_time_come_by_place = refl

one_trace_in_nanoseconds_is_enough : is_nanos run ≡ true
one_trace_in_nanoseconds_is_enough = refl

-- ---- blocks

abbrev sync : ℕ → ℕ → SyncPoint
sync time after = record { time = time; after = after }

-- One port, whose frames have these times.
abbrev timed : List ℕ → List SyncPoint → Run
timed times syncs = record {
  ports = 1 ∷ [];
  edits = [];
  bundles = [];
  syncs = syncs;
  traces = trace false (map (λ time. frame time 0) times) ∷ [];
  flow_limit = 0;
  steps = [];
}

abbrev blocks : List ℕ → List SyncPoint → List ℕ → List ℕ
blocks times syncs places = map (block_of (timed times syncs) 1) places

a_block_ends_before_the_first_frame_that_is_not_before_the_next_sync_point :
    (blocks (1 ∷ 3 ∷ 2 ∷ []) (sync 2 0 ∷ []) (1 ∷ 2 ∷ 3 ∷ []) ≡ 0 ∷ 1 ∷ 1 ∷ [])
    × (last_place (timed (1 ∷ 3 ∷ 2 ∷ []) (sync 2 0 ∷ [])) 1 0 ≡ 1)
unfolding ends_after frames_in
a_block_ends_before_the_first_frame_that_is_not_before_the_next_sync_point = (refl, refl)

a_frame_of_the_time_of_a_sync_point_is_after_it : blocks (1 ∷ 2 ∷ []) (sync 2 0 ∷ []) (1 ∷ 2 ∷ []) ≡ 0 ∷ 1 ∷ []
unfolding ends_after frames_in
a_frame_of_the_time_of_a_sync_point_is_after_it = refl

a_sync_point_at_0_leaves_block_0_without_frames : blocks (0 ∷ 5 ∷ []) (sync 0 0 ∷ []) (1 ∷ 2 ∷ []) ≡ 1 ∷ 1 ∷ []
unfolding ends_after frames_in
a_sync_point_at_0_leaves_block_0_without_frames = refl

between_sync_points_of_one_time_no_frame_stands :
    blocks (1 ∷ 2 ∷ 3 ∷ []) (sync 2 0 ∷ sync 2 0 ∷ sync 3 0 ∷ []) (1 ∷ 2 ∷ 3 ∷ []) ≡ 0 ∷ 2 ∷ 3 ∷ []
unfolding ends_after frames_in
between_sync_points_of_one_time_no_frame_stands = refl

a_port_without_frames_has_empty_blocks : block_ends (timed [] (sync 2 0 ∷ sync 3 0 ∷ [])) 1 ≡ 0 ∷ 0 ∷ 0 ∷ []
unfolding ends_after frames_in
a_port_without_frames_has_empty_blocks = refl

abbrev edit : Edit
edit = record { word = Add; table = None; priority = 0; cookie = None; matching = record { key = []; mask = [] }; actions = [] }

-- Three bundles of four edits, with a sync point after the first bundle and another after the second.
abbrev edited : Run
edited = record (timed [] (sync 2 1 ∷ sync 2 2 ∷ [])) { edits = replicate 4 edit; bundles = 1 ∷ 3 ∷ 4 ∷ [] }

the_bundles_before_a_block_and_through_it :
    (map (lo edited) (0 ∷ 1 ∷ 2 ∷ []) ≡ 0 ∷ 1 ∷ 2 ∷ []) × (map (hi edited) (0 ∷ 1 ∷ 2 ∷ []) ≡ 1 ∷ 2 ∷ 3 ∷ [])
the_bundles_before_a_block_and_through_it = (refl, refl)

bundles_make_versions_and_edits_are_counted_beside_them : (last_version edited ≡ 3) × (edit_count edited ≡ 4)
bundles_make_versions_and_edits_are_counted_beside_them = (refl, refl)
