-- A run in which edits and frames are apart, and one in which they aren't.
use Rattle.spec_run.specs.Journals.{HasEditsApart}
use Rattle.std.proofs.Common.{◌≡◌, ◌⊎◌, inl, inr, ℕ, ◌==◌, ◌≤◌, true, List, [], ◌∷◌, length, refl, sym, ap, subst, arith}
use Rattle.std.proofs.lemmas.Bool.{cases_eq, ne_eqb, cond-false}
use Rattle.spec_pcap.specs.Pcap.{Frame}
use Rattle.spec_tables.specs.Edits.{Edit}
use Rattle.spec_tables.specs.declared.sync_point.SyncPoint.{SyncPoint}
use Rattle.spec_case.specs.Run.{Run, frames_in, frames_of}
use Rattle.spec_case.specs.Blocks.{ends_after, lo, hi, block_of}

abbrev frame_at_7 : List ℕ → Frame
frame_at_7 bytes = record { time = 7; bytes = bytes }

-- one edit, one frame at the time 7, and these sync points
abbrev run_with : Edit → List ℕ → List SyncPoint → Run
run_with edit bytes syncs = record {
  ports = 1 ∷ [];
  edits = edit ∷ [];
  bundles = 1 ∷ [];
  syncs = syncs;
  traces = record { nanos = true; frames = frame_at_7 bytes ∷ [] } ∷ [];
  flow_limit = 1;
  steps = [];
}

-- A sync point stands after the edit, at the time of the frame.
abbrev apart : Edit → List ℕ → Run
apart edit bytes = run_with edit bytes (record { time = 7; after = 1 } ∷ [])

module _ (edit : Edit) (bytes : List ℕ) where
  abbrev HasOneVersion : ℕ → ℕ → Type 0
  HasOneVersion port place = lo (apart edit bytes) (block_of (apart edit bytes) port place) ≡ hi (apart edit bytes) (block_of (apart edit bytes) port place)

  -- the frame is in the block after the sync point
  its_version : HasOneVersion 1 1
  unfolding ends_after frames_in
  its_version = refl

  edits_are_apart : HasEditsApart (apart edit bytes)
  unfolding frames_in
  edits_are_apart port place first last = by_port (cases_eq port 1)
    where
      by_port : (port ≡ 1) ⊎ (port ≡ 1 → ⊥) → HasOneVersion port place
      by_port (inl e) =
          let within : place ≤ 1 = subst (λ p. place ≤ length (frames_of (apart edit bytes) p)) e last in
          let one : place ≡ 1 = omega (arith, first, within) in
          subst (λ p. HasOneVersion p place) (sym e) (subst (HasOneVersion 1) (sym one) its_version)
      by_port (inr n) =
          let none : length (frames_of (apart edit bytes) port) ≡ 0 = ap length (cond-false (1 == port) (frame_at_7 bytes ∷ []) [] (ne_eqb 1 port (λ e. n (sym e)))) in
          absurd (omega (arith, first, last, none))

-- Without it the frame is in the block of the edit.
edits_are_not_apart : (edit : Edit) (bytes : List ℕ) → HasEditsApart (run_with edit bytes []) → ⊥
unfolding ends_after frames_in
edits_are_not_apart edit bytes h = let e = h 1 1 (omega arith) (omega arith) in absurd (cc e)
