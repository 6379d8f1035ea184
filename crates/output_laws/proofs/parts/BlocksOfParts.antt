-- The blocks of the parts of a run: the frames of a part are decided under the same versions as in the whole.
use Rattle.std.proofs.Common.{◌≡◌, ℕ, zero, suc, ◌+◌, ◌-◌, ◌<◌, ◌≤◌, ◌⊎◌, Bool, true, false, if◌then◌else◌, List, [], ◌∷◌, ◌++◌, length, map, take, drop, count_by, refl, sym, ap, ◌∙◌, arith, inl, inr}
use Rattle.std.specs.Prelude.{All, nat_lt, nat_le, slice_index_or}
use Rattle.std.specs.List.{prefix_len}
use Rattle.std.proofs.lemmas.Bool.{cases_Bool, cases_lt, ltb-true, ltb-false, leb-true, leb-false, lt-ltb, le-ltb, cond-true, cond-false}
use Rattle.std.proofs.lemmas.List.{take-append-drop, length-append, length-take-le, length-drop, get_or-drop, drop-append-le, map-append}
use Rattle.std.proofs.lemmas.List.Elements.{All-head, All-tail, All-drop, All-weaker}
use Rattle.std.proofs.lemmas.List.Sums.{sum_by-cons}
use Rattle.spec_pcap.specs.Pcap.{Frame}
use Rattle.spec_tables.specs.declared.sync_point.SyncPoint.{SyncPoint}
use Rattle.spec_case.specs.Run.{Run, last_version, frames_of}
use Rattle.spec_case.specs.Blocks.{bundles_through, hi, frames_before, ends_after, block_of}
use Rattle.output_laws.specs.Parts.{frames_until, frames_since, syncs_through, begun, syncs_since, before, since}
use Rattle.output_laws.proofs.parts.Frames.{prefix-within, prefix-passes, frames_of-before, frames_of-since, count_before}

-- ---- how many blocks end before a place

abbrev ended : ℕ → List ℕ → ℕ
ended place ends = count_by (λ end. nat_lt end place) ends

ended-more : (place end : ℕ) (ends : List ℕ) → end < place → ended place (end ∷ ends) ≡ 1 + ended place ends
ended-more place end ends l =
    sum_by-cons (λ e. if nat_lt e place then 1 else 0) end ends ∙ ap (λ (t : Bool). (if t then 1 else 0) + ended place ends) (lt-ltb end place l)

ended-same : (place end : ℕ) (ends : List ℕ) → place ≤ end → ended place (end ∷ ends) ≡ ended place ends
ended-same place end ends l = sum_by-cons (λ e. if nat_lt e place then 1 else 0) end ends ∙ (let no = le-ltb end place l in rw no (omega arith))

-- none of the blocks that end later on
none_ended : (place n : ℕ) (syncs : List SyncPoint) (frames : List Frame) → place ≤ n → ended place (ends_after n syncs frames) ≡ 0
unfolding ends_after
none_ended place n [] frames l = ended-same place (n + length frames) [] (omega (arith, l))
none_ended place n (s ∷ syncs) frames l =
    let k = frames_before s.time frames in
    ended-same place (n + k) (ends_after (n + k) syncs (drop k frames)) (omega (arith, l))
    ∙ none_ended place (n + k) syncs (drop k frames) (omega (arith, l))

-- one more block that ends in both before a place, or in neither
ended-alike : (place end place' end' : ℕ) (ends ends' : List ℕ) → nat_lt end place ≡ nat_lt end' place' → ended place ends ≡ ended place' ends'
    → ended place (end ∷ ends) ≡ ended place' (end' ∷ ends')
ended-alike place end place' end' ends ends' first rest =
    sum_by-cons (λ e. if nat_lt e place then 1 else 0) end ends
    ∙ ap (λ (t : Bool). (if t then 1 else 0) + ended place ends) first ∙ ap (λ n. (if nat_lt end' place' then 1 else 0) + n) rest
    ∙ sym (sum_by-cons (λ e. if nat_lt e place' then 1 else 0) end' ends')

lt-moved : (c m n : ℕ) → nat_lt (c + m) (c + n) ≡ nat_lt m n
lt-moved c m n = at (cases_lt m n)
  where
    at : (m < n) ⊎ (n ≤ m) → nat_lt (c + m) (c + n) ≡ nat_lt m n
    at (inl l) = lt-ltb (c + m) (c + n) (omega (arith, l)) ∙ sym (lt-ltb m n l)
    at (inr l) = le-ltb (c + m) (c + n) (omega (arith, l)) ∙ sym (le-ltb m n l)

-- places are counted from later on
ended-moved : (c place n m : ℕ) (syncs : List SyncPoint) (frames : List Frame) → m ≡ c + n
    → ended (c + place) (ends_after m syncs frames) ≡ ended place (ends_after n syncs frames)
unfolding ends_after
ended-moved c place n m [] frames e =
    let end : m + length frames ≡ c + (n + length frames) = omega (arith, e) in
    ended-alike (c + place) (m + length frames) place (n + length frames) [] [] (ap (λ i. nat_lt i (c + place)) end ∙ lt-moved c (n + length frames) place) refl
ended-moved c place n m (s ∷ syncs) frames e =
    let k = frames_before s.time frames in
    let end : m + k ≡ c + (n + k) = omega (arith, e) in
    ended-alike (c + place) (m + k) place (n + k) (ends_after (m + k) syncs (drop k frames)) (ends_after (n + k) syncs (drop k frames))
    (ap (λ i. nat_lt i (c + place)) end ∙ lt-moved c (n + k) place) (ended-moved c place (n + k) (m + k) syncs (drop k frames) end)

-- ---- how many pass in front, of lists one after the other

module _ {X : Type 0} (p : X → Bool) where
  prefix-yes : (x : X) (xs : List X) → p x ≡ true → prefix_len p (x ∷ xs) ≡ 1 + prefix_len p xs
  prefix-yes x xs is = cond-true (p x) _ _ is

  prefix-no : (x : X) (xs : List X) → p x ≡ false → prefix_len p (x ∷ xs) ≡ 0
  prefix-no x xs is = cond-false (p x) _ _ is

  -- all of the first list pass, or as many as of it alone
  prefix-append : (xs ys : List X)
      → ((prefix_len p xs ≡ length xs) × (prefix_len p (xs ++ ys) ≡ length xs + prefix_len p ys)) ⊎ (prefix_len p (xs ++ ys) ≡ prefix_len p xs)
  prefix-append [] ys = inl (refl, let e : prefix_len p ys ≡ 0 + prefix_len p ys = omega arith in e)
  prefix-append (x ∷ xs) ys = at (p x) refl (prefix-append xs ys)
    where
      at : (t : Bool) → p x ≡ t
          → ((prefix_len p xs ≡ length xs) × (prefix_len p (xs ++ ys) ≡ length xs + prefix_len p ys)) ⊎ (prefix_len p (xs ++ ys) ≡ prefix_len p xs)
          → ((prefix_len p (x ∷ xs) ≡ length (x ∷ xs)) × (prefix_len p (x ∷ xs ++ ys) ≡ length (x ∷ xs) + prefix_len p ys)) ⊎ (prefix_len p (x ∷ xs ++ ys) ≡ prefix_len p (x ∷ xs))
      at true is (inl all) =
          let a = prefix-yes x xs is in let b = prefix-yes x (xs ++ ys) is in
          inl (omega (arith, a, all.0), omega (arith, b, all.1))
      at true is (inr some) = inr (prefix-yes x (xs ++ ys) is ∙ ap (λ n. 1 + n) some ∙ sym (prefix-yes x xs is))
      at false is so = inr (prefix-no x (xs ++ ys) is ∙ sym (prefix-no x xs is))

  -- where all of the first list pass
  prefix-all : (xs ys : List X) → All (λ x. p x ≡ true) xs → prefix_len p (xs ++ ys) ≡ length xs + prefix_len p ys
  prefix-all [] ys all = let e : prefix_len p ys ≡ 0 + prefix_len p ys = omega arith in e
  prefix-all (x ∷ xs) ys all =
      let first = prefix-yes x (xs ++ ys) (All-head (λ x. p x ≡ true) x xs all) in
      let rest = prefix-all xs ys (All-tail (λ x. p x ≡ true) x xs all) in
      omega (arith, first, rest)

-- ---- the part before a time

drop-append : {X : Type 0} (n m : ℕ) (xs ys : List X) → n ≡ length xs + m → drop n (xs ++ ys) ≡ drop m ys
drop-append n m [] ys e = let same : n ≡ m = omega (arith, e) in ap (λ i. drop i ys) same
drop-append zero m (x ∷ xs) ys e = absurd (omega (arith, e))
drop-append (suc n) m (x ∷ xs) ys e = drop-append n m xs ys (omega (arith, e))

-- what stands later in a trace changes no block of a place
as_alone : (place n : ℕ) (syncs : List SyncPoint) (xs ys : List Frame) → place ≤ n + length xs
    → ended place (ends_after n syncs (xs ++ ys)) ≡ ended place (ends_after n syncs xs)
unfolding ends_after
as_alone place n [] xs ys l =
    let sum = length-append xs ys in
    ended-same place (n + length (xs ++ ys)) [] (omega (arith, l, sum)) ∙ sym (ended-same place (n + length xs) [] l)
as_alone place n (s ∷ syncs) xs ys l =
    let p : Frame → Bool = λ f. nat_lt f.time s.time in
    at (prefix-append p xs ys)
    (let left = length-drop (prefix_len p xs) xs in as_alone place (n + prefix_len p xs) syncs (drop (prefix_len p xs) xs) ys (omega (arith, l, left, prefix-within p xs)))
  where
    k : ℕ
    k = frames_before s.time xs

    many : ℕ
    many = frames_before s.time (xs ++ ys)

    at : ((k ≡ length xs) × (many ≡ length xs + frames_before s.time ys)) ⊎ (many ≡ k)
        → ended place (ends_after (n + k) syncs (drop k xs ++ ys)) ≡ ended place (ends_after (n + k) syncs (drop k xs))
        → ended place ((n + many) ∷ ends_after (n + many) syncs (drop many (xs ++ ys))) ≡ ended place ((n + k) ∷ ends_after (n + k) syncs (drop k xs))
    at (inl (all, more)) later =
        let one : place ≤ n + many = omega (arith, l, more) in
        let other : place ≤ n + k = omega (arith, l, all) in
        ended-same place (n + many) (ends_after (n + many) syncs (drop many (xs ++ ys))) one
        ∙ none_ended place (n + many) syncs (drop many (xs ++ ys)) one
        ∙ sym (ended-same place (n + k) (ends_after (n + k) syncs (drop k xs)) other ∙ none_ended place (n + k) syncs (drop k xs) other)
    at (inr same) later =
        let within : k ≤ length xs = prefix-within (λ (f : Frame). nat_lt f.time s.time) xs in
        ap (λ m. ended place ((n + m) ∷ ends_after (n + m) syncs (drop m (xs ++ ys)))) same
        ∙ ended-alike place (n + k) place (n + k) (ends_after (n + k) syncs (drop k (xs ++ ys))) (ends_after (n + k) syncs (drop k xs)) refl
        (ap (λ fs. ended place (ends_after (n + k) syncs fs)) (drop-append-le k xs ys within) ∙ later)

-- ---- the part from a time on

-- no frame stands in front that is before an earlier time
none_sooner : (sooner time : ℕ) (frames : List Frame) → sooner ≤ time → frames_before time frames ≡ 0 → frames_before sooner frames ≡ 0
none_sooner sooner time [] le none = refl
none_sooner sooner time (f ∷ frames) le none = at (cases_Bool (nat_lt f.time time))
  where
    at : (nat_lt f.time time ≡ true) ⊎ (nat_lt f.time time ≡ false) → frames_before sooner (f ∷ frames) ≡ 0
    at (inl is) = absurd (let one = prefix-yes (λ (f : Frame). nat_lt f.time time) f frames is in omega (arith, one, none))
    at (inr not) =
        prefix-no (λ (f : Frame). nat_lt f.time sooner) f frames (le-ltb f.time sooner (let l = ltb-false f.time time not in omega (arith, l, le)))

module _ (time : ℕ) where
  -- sync points up to the time end their blocks before a place that is later
  ended-through : (place n c : ℕ) (syncs : List SyncPoint) (xs ys : List Frame) → c ≡ n + length xs → 1 ≤ place
      → All (λ (f : Frame). nat_lt f.time time ≡ true) xs → frames_before time ys ≡ 0
      → ended (c + place) (ends_after n syncs (xs ++ ys)) ≡ syncs_through time syncs + ended place (ends_after 0 (drop (syncs_through time syncs) syncs) ys)
  unfolding ends_after
  ended-through place n c [] xs ys e first early none =
      let sum = length-append xs ys in
      ended-alike (c + place) (n + length (xs ++ ys)) place (0 + length ys) [] []
      (let end : n + length (xs ++ ys) ≡ c + (0 + length ys) = omega (arith, e, sum) in ap (λ i. nat_lt i (c + place)) end ∙ lt-moved c (0 + length ys) place) refl
      ∙ (let zero_more : ended place ((0 + length ys) ∷ []) ≡ 0 + ended place ((0 + length ys) ∷ []) = omega arith in zero_more)
  ended-through place n c (s ∷ syncs) xs ys e first early none =
      at (nat_le s.time time) refl
      (let left = length-drop (frames_before s.time xs) xs in
      ended-through place (n + frames_before s.time xs) c syncs (drop (frames_before s.time xs) xs) ys
      (omega (arith, e, left, prefix-within (λ (f : Frame). nat_lt f.time s.time) xs)) first (All-drop (λ (f : Frame). nat_lt f.time time ≡ true) (frames_before s.time xs) xs early) none)
    where
      k : ℕ
      k = frames_before s.time xs

      many : ℕ
      many = frames_before s.time (xs ++ ys)

      later : ℕ
      later = frames_before s.time ys

      within : k ≤ length xs
      within = prefix-within (λ (f : Frame). nat_lt f.time s.time) xs

      at : (t : Bool) → nat_le s.time time ≡ t
          → ended (c + place) (ends_after (n + k) syncs (drop k xs ++ ys)) ≡ syncs_through time syncs + ended place (ends_after 0 (drop (syncs_through time syncs) syncs) ys)
          → ended (c + place) ((n + many) ∷ ends_after (n + many) syncs (drop many (xs ++ ys)))
          ≡ (if t then 1 + syncs_through time syncs else 0) + ended place (ends_after 0 (drop (if t then 1 + syncs_through time syncs else 0) (s ∷ syncs)) ys)
      at true le so =
          let same : many ≡ k = as_few (prefix-append (λ (f : Frame). nat_lt f.time s.time) xs ys) (none_sooner s.time time ys (leb-true s.time time le) none) in
          let one_more : 1 + syncs_through time syncs ≡ suc (syncs_through time syncs) = omega arith in
          let one : 1 + (syncs_through time syncs + ended place (ends_after 0 (drop (syncs_through time syncs) syncs) ys))
          ≡ 1 + syncs_through time syncs + ended place (ends_after 0 (drop (syncs_through time syncs) syncs) ys) = omega arith in
          ap (λ m. ended (c + place) ((n + m) ∷ ends_after (n + m) syncs (drop m (xs ++ ys)))) same
          ∙ ended-more (c + place) (n + k) (ends_after (n + k) syncs (drop k (xs ++ ys))) (omega (arith, e, within, first))
          ∙ ap (λ fs. 1 + ended (c + place) (ends_after (n + k) syncs fs)) (drop-append-le k xs ys within)
          ∙ ap (λ m. 1 + m) so
          ∙ one
          ∙ ap (λ i. 1 + syncs_through time syncs + ended place (ends_after 0 (drop i (s ∷ syncs)) ys)) (sym one_more)
        where
          as_few : ((k ≡ length xs) × (many ≡ length xs + later)) ⊎ (many ≡ k) → later ≡ 0 → many ≡ k
          as_few (inl (all, more)) gone = omega (arith, all, more, gone)
          as_few (inr same) gone = same
      at false gt so =
          let sooner = All-weaker (λ (f : Frame). nat_lt f.time time ≡ true) (λ (f : Frame). nat_lt f.time s.time ≡ true)
          (λ f l. lt-ltb f.time s.time (let a = ltb-true f.time time l in let b = leb-false s.time time gt in omega (arith, a, b))) xs early in
          let all : many ≡ length xs + later = prefix-all (λ (f : Frame). nat_lt f.time s.time) xs ys sooner in
          let end : n + many ≡ c + (0 + later) = omega (arith, e, all) in
          let nothing : ended place (ends_after 0 (s ∷ syncs) ys) ≡ 0 + ended place (ends_after 0 (s ∷ syncs) ys) = omega arith in
          ended-alike (c + place) (n + many) place (0 + later) (ends_after (n + many) syncs (drop many (xs ++ ys))) (ends_after (0 + later) syncs (drop later ys))
          (ap (λ i. nat_lt i (c + place)) end ∙ lt-moved c (0 + later) place)
          (ap (λ fs. ended (c + place) (ends_after (n + many) syncs fs)) (drop-append many later xs ys all)
          ∙ ended-moved c place (0 + later) (n + many) syncs (drop later ys) end)
          ∙ nothing

  none_before_zero : (frames : List Frame) → frames_before 0 frames ≡ 0
  none_before_zero [] = refl
  none_before_zero (f ∷ frames) = prefix-no (λ (f : Frame). nat_lt f.time 0) f frames (le-ltb f.time 0 (omega arith))

  last_one : (n : ℕ) (syncs : List SyncPoint) → n < length syncs → (s : SyncPoint) × (drop n (take (suc n) syncs) ≡ s ∷ [])
  last_one n [] l = absurd (omega (arith, l))
  last_one zero (s ∷ syncs) l = (s, refl)
  last_one (suc n) (s ∷ syncs) l = last_one n syncs (omega (arith, l))

  -- the first sync point of the later part, if it has one from before, is at the beginning
  ended-first : (n place : ℕ) (syncs : List SyncPoint) (ys : List Frame) → n ≤ length syncs → 1 ≤ place
      → ended place (ends_after 0 (map begun (drop (n - 1) (take n syncs)) ++ drop n syncs) ys) ≡ (if nat_lt 0 n then 1 else 0) + ended place (ends_after 0 (drop n syncs) ys)
  unfolding ends_after
  ended-first zero place syncs ys within first =
      let nothing : ended place (ends_after 0 syncs ys) ≡ 0 + ended place (ends_after 0 syncs ys) = omega arith in
      nothing ∙ ap (λ (t : Bool). (if t then 1 else 0) + ended place (ends_after 0 syncs ys)) (sym (le-ltb 0 0 (omega arith)))
  ended-first (suc n) place syncs ys within first =
      let less : suc n - 1 ≡ n = omega arith in
      let it = last_one n syncs (omega (arith, within)) in
      ap (λ i. ended place (ends_after 0 (map begun (drop i (take (suc n) syncs)) ++ drop (suc n) syncs) ys)) less
      ∙ ap (λ l. ended place (ends_after 0 (map begun l ++ drop (suc n) syncs) ys)) it.1
      ∙ ap (λ k. ended place ((0 + k) ∷ ends_after (0 + k) (drop (suc n) syncs) (drop k ys))) (none_before_zero ys)
      ∙ ended-more place 0 (ends_after 0 (drop (suc n) syncs) ys) (omega (arith, first))
      ∙ ap (λ (t : Bool). (if t then 1 else 0) + ended place (ends_after 0 (drop (suc n) syncs) ys)) (sym (lt-ltb 0 (suc n) (omega arith)))

-- ---- runs

module _ (time : ℕ) (run : Run) where
  -- how many blocks of the whole are before the first one of the later part
  abbrev pub blocks_before : ℕ
  blocks_before = syncs_through time run.syncs - 1

  pub block_of-before : (port place : ℕ) → place ≤ count_before time run port → block_of (before time run) port place ≡ block_of run port place
  block_of-before port place last =
      let frames = frames_of run port in
      let c = count_before time run port in
      let count = length-take-le c frames (prefix-within (λ (f : Frame). nat_lt f.time time) frames) in
      ap (λ fs. ended place (ends_after 0 run.syncs fs)) (frames_of-before time run port)
      ∙ sym (as_alone place 0 run.syncs (frames_until time frames) (frames_since time frames) (omega (arith, last, count)))
      ∙ ap (λ fs. ended place (ends_after 0 run.syncs fs)) (take-append-drop c frames)

  -- no frame of the later part is before the time
  none_early : (frames : List Frame) → frames_before time (frames_since time frames) ≡ 0
  none_early [] = refl
  none_early (f ∷ frames) = at (nat_lt f.time time) refl (none_early frames)
    where
      at : (t : Bool) → nat_lt f.time time ≡ t → frames_before time (frames_since time frames) ≡ 0
          → frames_before time (drop (if t then 1 + frames_before time frames else 0) (f ∷ frames)) ≡ 0
      at true is so = let more : 1 + frames_before time frames ≡ suc (frames_before time frames) = omega arith in rw more so
      at false is so = prefix-no (λ (f : Frame). nat_lt f.time time) f frames is

  module _ (port place : ℕ) (first : 1 ≤ place) where
    in_whole : block_of run port (count_before time run port + place)
        ≡ syncs_through time run.syncs + ended place (ends_after 0 (drop (syncs_through time run.syncs) run.syncs) (frames_since time (frames_of run port)))
    in_whole =
        let frames = frames_of run port in
        let c = count_before time run port in
        let count = length-take-le c frames (prefix-within (λ (f : Frame). nat_lt f.time time) frames) in
        ap (λ fs. ended (c + place) (ends_after 0 run.syncs fs)) (sym (take-append-drop c frames))
        ∙ ended-through time place 0 c run.syncs (frames_until time frames) (frames_since time frames) (omega (arith, count)) first
        (prefix-passes (λ (f : Frame). nat_lt f.time time) frames) (none_early frames)

    in_part : block_of (since time run) port place
        ≡ (if nat_lt 0 (syncs_through time run.syncs) then 1 else 0) + ended place (ends_after 0 (drop (syncs_through time run.syncs) run.syncs) (frames_since time (frames_of run port)))
    in_part =
        ap (λ fs. ended place (ends_after 0 (syncs_since time run.syncs) fs)) (frames_of-since time run port)
        ∙ ended-first time (syncs_through time run.syncs) place run.syncs (frames_since time (frames_of run port)) (prefix-within (λ (s : SyncPoint). nat_le s.time time) run.syncs) first

    pub block_of-since : block_of run port (count_before time run port + place) ≡ blocks_before + block_of (since time run) port place
    block_of-since = at (cases_lt 0 (syncs_through time run.syncs))
      where
        at : (0 < syncs_through time run.syncs) ⊎ (syncs_through time run.syncs ≤ 0)
            → block_of run port (count_before time run port + place) ≡ blocks_before + block_of (since time run) port place
        at (inl some) =
            let one : (if nat_lt 0 (syncs_through time run.syncs) then 1 else 0) ≡ 1 = ap {B = ℕ} (λ (t : Bool). if t then 1 else 0) (lt-ltb 0 (syncs_through time run.syncs) some) in
            omega (arith, in_whole, in_part, one, some)
        at (inr none) =
            let nothing : (if nat_lt 0 (syncs_through time run.syncs) then 1 else 0) ≡ 0 = ap {B = ℕ} (λ (t : Bool). if t then 1 else 0) (le-ltb 0 (syncs_through time run.syncs) none) in
            omega (arith, in_whole, in_part, nothing, none)

    -- it isn't in block 0, where that is no block of the whole
    pub past_first : 0 < syncs_through time run.syncs → 1 ≤ block_of (since time run) port place
    past_first some =
        let one : (if nat_lt 0 (syncs_through time run.syncs) then 1 else 0) ≡ 1 = ap {B = ℕ} (λ (t : Bool). if t then 1 else 0) (lt-ltb 0 (syncs_through time run.syncs) some) in
        omega (arith, in_part, one)

-- ---- versions

abbrev afters : List SyncPoint → List ℕ
afters syncs = map (λ (s : SyncPoint). s.after) syncs

through-afters : (syncs : List SyncPoint) (bundles block : ℕ) → bundles_through syncs bundles block ≡ slice_index_or (afters syncs) block bundles
through-afters [] bundles block = refl
through-afters (s ∷ syncs) bundles zero = refl
through-afters (s ∷ syncs) bundles (suc block) = through-afters syncs bundles block

afters-begun : (syncs : List SyncPoint) → afters (map begun syncs) ≡ afters syncs
afters-begun [] = refl
afters-begun (s ∷ syncs) = ap (λ l. s.after ∷ l) (afters-begun syncs)

afters-drop : (n : ℕ) (syncs : List SyncPoint) → afters (drop n syncs) ≡ drop n (afters syncs)
afters-drop zero syncs = refl
afters-drop (suc n) [] = refl
afters-drop (suc n) (s ∷ syncs) = afters-drop n syncs

module _ (time : ℕ) (run : Run) where
  through : ℕ
  through = syncs_through time run.syncs

  afters-since : afters (syncs_since time run.syncs) ≡ drop (blocks_before time run) (afters run.syncs)
  afters-since =
      let n = syncs_through time run.syncs in
      let within = prefix-within (λ (s : SyncPoint). nat_le s.time time) run.syncs in
      let count = length-take-le n run.syncs within in
      map-append (λ (s : SyncPoint). s.after) (map begun (drop (n - 1) (take n run.syncs))) (drop n run.syncs)
      ∙ ap (λ l. l ++ afters (drop n run.syncs)) (afters-begun (drop (n - 1) (take n run.syncs)))
      ∙ sym (map-append (λ (s : SyncPoint). s.after) (drop (n - 1) (take n run.syncs)) (drop n run.syncs))
      ∙ ap afters (sym (drop-append-le (n - 1) (take n run.syncs) (drop n run.syncs) (omega (arith, count))) ∙ ap (drop (n - 1)) (take-append-drop n run.syncs))
      ∙ afters-drop (n - 1) run.syncs

  -- a block of the later part is so many blocks later in the whole
  pub hi-since : (block : ℕ) → hi (since time run) block ≡ hi run (blocks_before time run + block)
  hi-since block =
      through-afters (syncs_since time run.syncs) (last_version run) block
      ∙ ap (λ l. slice_index_or l block (last_version run)) afters-since
      ∙ get_or-drop (blocks_before time run) (afters run.syncs) block (last_version run)
      ∙ sym (through-afters run.syncs (last_version run) (blocks_before time run + block))
