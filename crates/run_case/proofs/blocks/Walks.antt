-- The walk along a trace that finds where its blocks end.
use Rattle.std.proofs.Common.{◌≡◌, ℕ, ◌+◌, ◌-◌, ◌<◌, ◌≤◌, Bool, List, [], ◌∷◌, ◌++◌, length, drop, refl, ap, append_assoc, arith}
use Rattle.std.specs.Prelude.{nat_lt}
use Rattle.std.proofs.lemmas.Bool.{lt-ltb, le-ltb}
use Rattle.std.proofs.lemmas.List.{length-drop, drop-drop}
use Rattle.std.proofs.lemmas.List.Sums.{prefix_len-drop_all, prefix_len-drop_no, prefix_len-drop_yes}
use Rattle.spec_pcap.specs.Pcap.{Frame, frame_number}
use Rattle.spec_tables.specs.declared.sync_point.SyncPoint.{SyncPoint}
use Rattle.spec_case.specs.Blocks.{frames_before, ends_after}

module _ (time : ℕ) (frames : List Frame) (place : ℕ) where
  abbrev none : Frame
  none = record { time = 0; bytes = [] }

  abbrev is_before : Frame → Bool
  is_before f = nat_lt f.time time

  -- the frame at the next place is before the time, or is not
  pub frames_before-step : place < length frames → (frame_number frames (place + 1)).time < time
      → frames_before time (drop place frames) ≡ 1 + frames_before time (drop (place + 1) frames)
  frames_before-step within before =
      let back : place + 1 - 1 ≡ place = omega arith in
      prefix_len-drop_yes is_before frames place none within (lt-ltb _ _ (rw back at before))

  pub frames_before-stop : place < length frames → time ≤ (frame_number frames (place + 1)).time → frames_before time (drop place frames) ≡ 0
  frames_before-stop within late =
      let back : place + 1 - 1 ≡ place = omega arith in
      prefix_len-drop_no is_before frames place none within (le-ltb _ _ (rw back at late))

  pub frames_before-end : length frames ≤ place → frames_before time (drop place frames) ≡ 0
  frames_before-end after = prefix_len-drop_all is_before frames place after

-- one more end after those that were found
pub ends_after-step : (found : List ℕ) (place next : ℕ) (s : SyncPoint) (syncs : List SyncPoint) (frames : List Frame)
    → next ≡ place + frames_before s.time (drop place frames)
    → (found ++ next ∷ []) ++ ends_after next syncs (drop next frames) ≡ found ++ ends_after place (s ∷ syncs) (drop place frames)
unfolding ends_after
ends_after-step found place next s syncs frames is =
    let n = frames_before s.time (drop place frames) in
    let dropped : drop n (drop place frames) ≡ drop (place + n) frames = drop-drop n place frames in
    rw (append_assoc found (next ∷ []) (ends_after next syncs (drop next frames)), is, dropped) refl

-- the last block has all that is left
pub ends_after-last : (found : List ℕ) (place : ℕ) (frames : List Frame) → place ≤ length frames
    → found ++ length frames ∷ [] ≡ found ++ ends_after place [] (drop place frames)
unfolding ends_after
ends_after-last found place frames within =
    let all : length frames ≡ place + length (drop place frames) = omega (arith, length-drop place frames) in
    ap (λ (n : ℕ). found ++ n ∷ []) all
