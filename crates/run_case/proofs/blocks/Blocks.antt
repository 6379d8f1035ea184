-- The laws of blocks: where they end, and which places are in them.
use Rattle.std.proofs.Common.{◌≡◌, ℕ, zero, suc, ◌+◌, ◌<◌, ◌≤◌, inl, inr, List, [], ◌∷◌, length, drop, get_or, refl, ◌∙◌, arith}
use Rattle.std.specs.Prelude.{nat_lt, count_by, ◌↔◌, cond}
use Rattle.std.specs.List.Sorted.{IsNonDecreasing}
use Rattle.std.proofs.lemmas.Bool.{lt-ltb, le-ltb, cases_lt, cond-true, cond-false}
use Rattle.std.proofs.lemmas.List.{length-drop}
use Rattle.std.proofs.lemmas.List.Sums.{prefix_len-le-length, count_by-le-length, sum_by-cons}
use Rattle.spec_pcap.specs.Pcap.{Frame}
use Rattle.spec_tables.specs.declared.sync_point.SyncPoint.{SyncPoint}
use Rattle.spec_case.specs.Run.{Run, last_version, frames_of}
use Rattle.run_case.specs.Places.{IsInBlock}
use Rattle.spec_case.specs.Blocks.{last_block, frames_before, ends_after, block_ends, last_place, block_of, hi, lo, AreInOrder}

-- ---- numbers that don't fall

-- The numbers don't fall, from a number on.
abbrev RisesFrom : ℕ → List ℕ → Type 0
RisesFrom low [] = Unit {0}
RisesFrom low (x ∷ xs) = (low ≤ x) × RisesFrom x xs

at_least : (low : ℕ) (xs : List ℕ) (j d : ℕ) → RisesFrom low xs → j < length xs → low ≤ get_or xs j d
at_least low [] j d rises within = absurd (omega arith)
at_least low (x ∷ xs) zero d rises within = rises.0
at_least low (x ∷ xs) (suc j) d rises within = omega (arith, rises.0, at_least x xs j d rises.1 (omega arith))

no_falls : (low : ℕ) (xs : List ℕ) → RisesFrom low xs → (i j d : ℕ) → i ≤ j → j < length xs → get_or xs i d ≤ get_or xs j d
no_falls low [] rises i j d order within = absurd (omega arith)
no_falls low (x ∷ xs) rises zero zero d order within = omega arith
no_falls low (x ∷ xs) rises zero (suc j) d order within = at_least x xs j d rises.1 (omega arith)
no_falls low (x ∷ xs) rises (suc i) zero d order within = absurd (omega arith)
no_falls low (x ∷ xs) rises (suc i) (suc j) d order within = no_falls x xs rises.1 i j d (omega arith) (omega arith)

-- how many of the numbers are below a place
abbrev below : ℕ → List ℕ → ℕ
below place xs = count_by (λ x. nat_lt x place) xs

below-yes : (place x : ℕ) (xs : List ℕ) → x < place → below place (x ∷ xs) ≡ 1 + below place xs
below-yes place x xs less =
    let one = cond-true {A = ℕ} (nat_lt x place) 1 0 (lt-ltb x place less) in
    omega (arith, sum_by-cons (λ (x : ℕ). cond (nat_lt x place) 1 0) x xs, one)

below-no : (place x : ℕ) (xs : List ℕ) → place ≤ x → below place (x ∷ xs) ≡ below place xs
below-no place x xs less =
    let none = cond-false {A = ℕ} (nat_lt x place) 1 0 (le-ltb x place less) in
    omega (arith, sum_by-cons (λ (x : ℕ). cond (nat_lt x place) 1 0) x xs, none)

below-none : (place low : ℕ) (xs : List ℕ) → RisesFrom low xs → place ≤ low → below place xs ≡ 0
below-none place low [] rises less = refl
below-none place low (x ∷ xs) rises less =
    below-no place x xs (omega (arith, rises.0)) ∙ below-none place x xs rises.1 (omega (arith, rises.0))

below-le : (place low : ℕ) (xs : List ℕ) (j : ℕ) → RisesFrom low xs → j < length xs → place ≤ get_or xs j 0 → below place xs ≤ j
below-le place low [] j rises within order = absurd (omega arith)
below-le place low (x ∷ xs) zero rises within order =
    omega (arith, below-no place x xs order, below-none place x xs rises.1 order)
below-le place low (x ∷ xs) (suc j) rises within order =
    elim (cases_lt x place) [
      | inl less ↦ omega (arith, below-yes place x xs less, below-le place x xs j rises.1 (omega arith) order)
      | inr more ↦ omega (arith, below-no place x xs more, below-none place x xs rises.1 more)
    ]

below-gt : (place low : ℕ) (xs : List ℕ) (j : ℕ) → RisesFrom low xs → j < length xs → get_or xs j 0 < place → j < below place xs
below-gt place low [] j rises within order = absurd (omega arith)
below-gt place low (x ∷ xs) zero rises within order = omega (arith, below-yes place x xs order)
below-gt place low (x ∷ xs) (suc j) rises within order =
    let first : x ≤ get_or xs j 0 = at_least x xs j 0 rises.1 (omega arith) in
    omega (arith, below-yes place x xs (omega arith), below-gt place x xs j rises.1 (omega arith) order)

-- ---- the ends of blocks

length-ends_after : (places : ℕ) (syncs : List SyncPoint) (frames : List Frame) → length (ends_after places syncs frames) ≡ length syncs + 1
unfolding ends_after
length-ends_after places [] frames = refl
length-ends_after places (s ∷ syncs) frames =
    let n = frames_before s.time frames in
    omega (arith, length-ends_after (places + n) syncs (drop n frames))

ends_after-rises : (places : ℕ) (syncs : List SyncPoint) (frames : List Frame) → RisesFrom places (ends_after places syncs frames)
unfolding ends_after
ends_after-rises places [] frames = (omega arith, tt)
ends_after-rises places (s ∷ syncs) frames =
    let n = frames_before s.time frames in
    (omega arith, ends_after-rises (places + n) syncs (drop n frames))

ends_after-last : (places : ℕ) (syncs : List SyncPoint) (frames : List Frame)
    → get_or (ends_after places syncs frames) (length syncs) 0 ≡ places + length frames
unfolding ends_after
ends_after-last places [] frames = refl
ends_after-last places (s ∷ syncs) frames =
    let n = frames_before s.time frames in
    let some : n ≤ length frames = prefix_len-le-length (λ (f : Frame). nat_lt f.time s.time) frames in
    omega (arith, ends_after-last (places + n) syncs (drop n frames), length-drop n frames)

module _ (run : Run) (port : ℕ) where
  abbrev ends : List ℕ
  ends = block_ends run port

  abbrev frames : ℕ
  frames = length (frames_of run port)

  rises : RisesFrom 0 ends
  rises = ends_after-rises 0 run.syncs (frames_of run port)

  pub length-block_ends : length (block_ends run port) ≡ last_block run + 1
  length-block_ends = length-ends_after 0 run.syncs (frames_of run port)

  inside : (block : ℕ) → block ≤ last_block run → block < length ends
  inside block here = omega (arith, length-block_ends)

  -- where the last block ends, all frames do
  pub last_place-last : last_place run port (last_block run) ≡ length (frames_of run port)
  last_place-last = omega (arith, ends_after-last 0 run.syncs (frames_of run port))

  -- ends don't fall
  pub last_place-le : (i j : ℕ) → i ≤ j → j ≤ last_block run → last_place run port i ≤ last_place run port j
  last_place-le i j order here = no_falls 0 ends rises i j 0 order (inside j here)

  pub block_ends-no_falls : IsNonDecreasing (block_ends run port)
  block_ends-no_falls = no_falls 0 ends rises

  pub last_place-le-frames : (block : ℕ) → block ≤ last_block run → last_place run port block ≤ length (frames_of run port)
  last_place-le-frames block here = omega (arith, last_place-le block (last_block run) here (omega arith), last_place-last)

  -- a place is in a block or before it exactly where it is no later than the block's last place
  pub block_of-le : (block place : ℕ) → block ≤ last_block run → place ≤ last_place run port block → block_of run port place ≤ block
  block_of-le block place here order = below-le place 0 ends block rises (inside block here) order

  pub block_of-gt : (block place : ℕ) → block ≤ last_block run → last_place run port block < place → block < block_of run port place
  block_of-gt block place here order = below-gt place 0 ends block rises (inside block here) order

  pub place-le-last_place : (block place : ℕ) → block ≤ last_block run → block_of run port place ≤ block → place ≤ last_place run port block
  place-le-last_place block place here order =
      elim (cases_lt (last_place run port block) place) [ inl less ↦ absurd (omega (arith, block_of-gt block place here less)) | inr more ↦ more ]

  -- a frame is in a block that there is, and a place after the frames is after the last block
  pub block_of-le-last_block : (place : ℕ) → place ≤ length (frames_of run port) → block_of run port place ≤ last_block run
  block_of-le-last_block place there = block_of-le (last_block run) place (omega arith) (omega (arith, last_place-last))

  pub block_of-after : (place : ℕ) → length (frames_of run port) < place → block_of run port place ≡ last_block run + 1
  block_of-after place after =
      let more : last_block run < block_of run port place = block_of-gt (last_block run) place (omega arith) (omega (arith, last_place-last)) in
      let most : block_of run port place ≤ length ends = count_by-le-length (λ end. nat_lt end place) ends in
      omega (arith, length-block_ends)

  -- the block of a place is the one that the place is in
  pub block_of-from_in : (block place : ℕ) → block ≤ last_block run → IsInBlock run port block place → block_of run port place ≡ block
  block_of-from_in zero place here is = omega (arith, block_of-le zero place here is.within)
  block_of-from_in (suc block) place here is =
      omega (arith, block_of-le (suc block) place here is.within, block_of-gt block place (omega arith) is.after)

  pub in_block_of : (block place : ℕ) → block ≤ last_block run → 1 ≤ place → block_of run port place ≡ block → IsInBlock run port block place
  in_block_of zero place here first is = record { after = omega arith; within = place-le-last_place zero place here (omega arith) }
  in_block_of (suc block) place here first is = record {
    after = elim (cases_lt (last_place run port block) place) [
      | inl less ↦ less
      | inr more ↦ absurd (omega (arith, block_of-le block place (omega arith) more))
    ];
    within = place-le-last_place (suc block) place here (omega arith);
  }

  pub block_of-iff : (block place : ℕ) → block ≤ last_block run → 1 ≤ place → (block_of run port place ≡ block) ↔ IsInBlock run port block place
  block_of-iff block place here first = (in_block_of block place here first, block_of-from_in block place here)

-- ---- the edits of blocks

-- a block has no fewer edits than those before it
pub lo-le-hi : (run : Run) (block : ℕ) → AreInOrder run.syncs (last_version run) → lo run block ≤ hi run block
lo-le-hi run zero in_order = omega arith
lo-le-hi run (suc block) in_order = let next : block + 1 ≡ suc block = omega arith in rw next at ((in_order block).0)

pub hi-le-last : (run : Run) (block : ℕ) → AreInOrder run.syncs (last_version run) → hi run block ≤ last_version run
hi-le-last run block in_order = (in_order block).1
