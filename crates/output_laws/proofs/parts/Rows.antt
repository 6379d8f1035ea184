-- Worked rows: the parts of a run, and a run that may not be cut.
use Rattle.std.proofs.Common.{◌≡◌, ℕ, true, List, [], ◌∷◌, ◌++◌, map, refl, arith}
use Rattle.spec_pcap.specs.Pcap.{Frame, Capture, header, record_header, file_of}
use Rattle.spec_tables.specs.declared.sync_point.SyncPoint.{SyncPoint}
use Rattle.spec_case.specs.declared.arrival.Arrival.{Arrival}
use Rattle.spec_case.specs.Run.{Run, frames_in, frames_of}
use Rattle.spec_case.specs.Blocks.{lo, hi, ends_after, block_of}
use Rattle.spec_base.specs.Sorting.{insert_by, sort_by}
use Rattle.spec_case.specs.Arrivals.{arrivals_at, arrivals_in, arrivals, in_order}
use Rattle.spec_tables.specs.Edits.{Edit}
use Rattle.output_laws.specs.Parts.{before, since, parts, IsCutIn}
use Rattle.output_laws.specs.Laws.{joined}

abbrev frame : ℕ → Frame
frame time = record { time = time; bytes = time ∷ [] }

abbrev sync : ℕ → ℕ → SyncPoint
sync time after = record { time = time; after = after }

abbrev trace : List ℕ → Capture
trace times = record { nanos = true; frames = map frame times }

-- A run of two ports, whose frames have these times. Bundles are of one edit.
abbrev run_of : List ℕ → List ℕ → List SyncPoint → List Edit → Run
run_of first second syncs edits = record {
  ports = 1 ∷ 2 ∷ [];
  edits = edits;
  bundles = 1 ∷ 2 ∷ 3 ∷ [];
  syncs = syncs;
  traces = trace first ∷ trace second ∷ [];
  flow_limit = 8;
  steps = [];
}

-- A bundle stands before each of the sync points at 0, 4 and 8.
abbrev run : List Edit → Run
run edits = run_of (1 ∷ 3 ∷ 5 ∷ 9 ∷ []) (4 ∷ 6 ∷ []) (sync 0 1 ∷ sync 4 2 ∷ sync 8 3 ∷ []) edits

module _ (edits : List Edit) where
  frames_of_the_time_are_in_the_later_part :
      (frames_of (before 5 (run edits)) 1 ≡ map frame (1 ∷ 3 ∷ [])) × (frames_of (since 5 (run edits)) 1 ≡ map frame (5 ∷ 9 ∷ []))
      × (frames_of (before 5 (run edits)) 2 ≡ map frame (4 ∷ [])) × (frames_of (since 5 (run edits)) 2 ≡ map frame (6 ∷ []))
  unfolding frames_in
  frames_of_the_time_are_in_the_later_part = (refl, refl, refl, refl)

  -- the last sync point up to the time is put at the beginning, and that of the time is one of them
  sync_points_up_to_the_time_become_one :
      ((since 5 (run edits)).syncs ≡ sync 0 2 ∷ sync 8 3 ∷ []) × ((since 8 (run edits)).syncs ≡ sync 0 3 ∷ [])
      × ((before 5 (run edits)).syncs ≡ (run edits).syncs)
  sync_points_up_to_the_time_become_one = (refl, refl, refl)

  without_one_none_is_put : (since 5 (run_of (1 ∷ []) (7 ∷ []) (sync 6 3 ∷ []) edits)).syncs ≡ sync 6 3 ∷ []
  without_one_none_is_put = refl

  -- the frame of port 1 at 9 is in block 3 of the whole and in block 2 of the part, after all bundles in both
  blocks_are_counted_anew_and_versions_are_not :
      (block_of (run edits) 1 4 ≡ 3) × (block_of (since 5 (run edits)) 1 2 ≡ 2)
      × (map (lo (since 5 (run edits))) (1 ∷ 2 ∷ []) ≡ map (lo (run edits)) (2 ∷ 3 ∷ []))
      × (map (hi (since 5 (run edits))) (1 ∷ 2 ∷ []) ≡ map (hi (run edits)) (2 ∷ 3 ∷ []))
  unfolding ends_after frames_in
  blocks_are_counted_anew_and_versions_are_not = (refl, refl, refl, refl)

  edits_stay : map (λ (r : Run). r.edits) (parts (4 ∷ 5 ∷ []) (run edits)) ≡ edits ∷ edits ∷ edits ∷ []
  edits_stay = refl

  three_parts : map (λ (r : Run). frames_of r 1) (parts (4 ∷ 9 ∷ []) (run edits))
      ≡ map frame (1 ∷ 3 ∷ []) ∷ map frame (5 ∷ []) ∷ map frame (9 ∷ []) ∷ []
  unfolding frames_in
  three_parts = refl

  -- ---- a run that may not be cut at 4: its frame at 2 stands after the one at 5

  abbrev falling : Run
  falling = run_of (1 ∷ 5 ∷ 2 ∷ []) (3 ∷ []) [] edits

  it_may_not_be_cut : IsCutIn 4 (trace (1 ∷ 5 ∷ 2 ∷ [])) → ⊥
  it_may_not_be_cut cut = let late = cut 1 (frame 0) (omega arith) in omega (arith, late)

  abbrev times_in_order : Run → List ℕ
  times_in_order r = map (λ (a : Arrival). a.time) (in_order (arrivals r))

  -- what would follow is in another order
  its_parts_are_in_another_order :
      (times_in_order falling ≡ 1 ∷ 2 ∷ 3 ∷ 5 ∷ []) × (times_in_order (before 4 falling) ++ times_in_order (since 4 falling) ≡ 1 ∷ 3 ∷ 2 ∷ 5 ∷ [])
  unfolding sort_by insert_by arrivals_in arrivals_at
  its_parts_are_in_another_order = (refl, refl)

-- ---- files

a_file_has_one_header : joined (file_of true [] ∷ file_of true (frame 5 ∷ []) ∷ file_of true (frame 9 ∷ []) ∷ [])
    ≡ file_of true (frame 5 ∷ frame 9 ∷ [])
unfolding header record_header
a_file_has_one_header = refl
