-- A place of a block of the run is one of its trace.
use Rattle.std.proofs.Common.{◌≡◌, ℕ, ◌+◌, ◌<◌, ◌≤◌, nat_lt, Bool, if◌then◌else◌, List, [], ◌∷◌, length, drop, count_by, ◌⊎◌, inl, inr, refl, ap, ◌∙◌, arith, length-drop}
use Rattle.std.proofs.lemmas.Bool.{lt-ltb, cases_lt}
use Rattle.std.proofs.lemmas.List.Sums.{sum_by-cons, prefix_len-le-length}
use Rattle.spec_pcap.specs.Pcap.{Frame}
use Rattle.spec_tables.specs.declared.sync_point.SyncPoint.{SyncPoint}
use Rattle.spec_case.specs.Run.{Run, frames_of}
use Rattle.spec_case.specs.Blocks.{last_block, frames_before, ends_after, block_of}

counted : (place end : ℕ) (ends : List ℕ) → end < place → count_by (λ e. nat_lt e place) (end ∷ ends) ≡ 1 + count_by (λ e. nat_lt e place) ends
counted place end ends l =
    sum_by-cons (λ (e : ℕ). if nat_lt e place then 1 else 0) end ends
    ∙ ap (λ (b : Bool). (if b then 1 else 0) + count_by (λ e. nat_lt e place) ends) (lt-ltb end place l)

all_end_before : (places : ℕ) (syncs : List SyncPoint) (frames : List Frame) (place : ℕ) → places + length frames < place
    → count_by (λ e. nat_lt e place) (ends_after places syncs frames) ≡ length syncs + 1
unfolding ends_after
all_end_before places [] frames place l = counted place (places + length frames) [] l ∙ refl
all_end_before places (s ∷ syncs) frames place l =
    let n = frames_before s.time frames in
    let le : n ≤ length frames = prefix_len-le-length (λ (f : Frame). nat_lt f.time s.time) frames in
    let d = length-drop n frames in
    let ih = all_end_before (places + n) syncs (drop n frames) place (omega (arith, le, d, l)) in
    counted place (places + n) (ends_after (places + n) syncs (drop n frames)) (omega (arith, le, l)) ∙ (omega (arith, ih))

pub place_there : (run : Run) (port place : ℕ) → block_of run port place ≤ last_block run → place ≤ length (frames_of run port)
place_there run port place h = at (cases_lt (length (frames_of run port)) place)
  where
    at : (length (frames_of run port) < place) ⊎ (place ≤ length (frames_of run port)) → place ≤ length (frames_of run port)
    at (inl l) = let e = all_end_before 0 run.syncs (frames_of run port) place (omega (arith, l)) in absurd (omega (arith, e, h))
    at (inr l) = l
