-- The frames of the parts of a run, and their arrivals in order.
use Rattle.std.proofs.Common.{◌≡◌, ℕ, suc, ◌+◌, ◌-◌, ◌<◌, ◌≤◌, ◌==◌, Bool, true, false, if◌then◌else◌, List, [], ◌∷◌, ◌++◌, length, map, take, drop, refl, sym, ap, ◌∙◌, subst, arith}
use Rattle.std.specs.Prelude.{All, nat_lt, nat_eq, slice_index_or}
use Rattle.std.specs.List.{prefix_len, IsDistinct, AllByRecursion}
use Rattle.std.proofs.lemmas.Bool.{ltb-true, lt-ltb, eq-eqb, cond-true, cond-false}
use Rattle.std.proofs.lemmas.List.{take-append-drop, length-take-le, length-drop, get_or-take, get_or-drop}
use Rattle.std.proofs.lemmas.List.Elements.{All-nil, All-cons, All-head, All-tail, All-append, All-map, All-weaker}
use Rattle.spec_pcap.specs.Pcap.{Frame, Capture, frame_number}
use Rattle.spec_case.specs.declared.arrival.Arrival.{Arrival}
use Rattle.spec_case.specs.Run.{Run, frames_in, frames_of, frame_at}
use Rattle.spec_case.specs.Blocks.{frames_before}
use Rattle.spec_base.specs.Sorting.{sort_by}
use Rattle.spec_base.proofs.SortLaws.{All-sort_by}
use Rattle.spec_case.specs.Arrivals.{arrivals_at, arrivals_in, arrivals, comes_before, in_order}
use Rattle.output_laws.specs.Parts.{frames_until, frames_since, trace_until, trace_since, before, since, IsCutIn, MayBeCutAt}
use Rattle.output_laws.proofs.parts.Sorted.{IsEarly, IsLate, moved, one_port_more}

-- A run that may be cut at one time.
pub record IsCutAt (time : ℕ) (run : Run) : Type 0 where
  pub ports : IsDistinct nat_eq run.ports
  pub traces : All (IsCutIn time) run.traces

-- ---- prefixes by a test

module _ {X : Type 0} (p : X → Bool) where
  pub prefix-within : (xs : List X) → prefix_len p xs ≤ length xs
  prefix-within [] = omega arith
  prefix-within (x ∷ xs) = at (p x) (prefix-within xs)
    where
      at : (t : Bool) → prefix_len p xs ≤ length xs → (if t then 1 + prefix_len p xs else 0) ≤ length (x ∷ xs)
      at true so = omega (arith, so)
      at false so = omega arith

  pub prefix-passes : (xs : List X) → All (λ x. p x ≡ true) (take (prefix_len p xs) xs)
  prefix-passes [] = All-nil (λ y. p y ≡ true)
  prefix-passes (x ∷ xs) = at (p x) refl (prefix-passes xs)
    where
      at : (t : Bool) → p x ≡ t → All (λ x. p x ≡ true) (take (prefix_len p xs) xs)
          → All (λ x. p x ≡ true) (take (if t then 1 + prefix_len p xs else 0) (x ∷ xs))
      at true e so =
          let more : 1 + prefix_len p xs ≡ suc (prefix_len p xs) = omega arith in rw more (All-cons (λ y. p y ≡ true) x (take (prefix_len p xs) xs) e so)
      at false e so = All-nil (λ y. p y ≡ true)

-- ---- the frames of a port

abbrev no_frame : Frame
no_frame = record { time = 0; bytes = [] }

module _ (time : ℕ) where
  frames_in-until : (ports : List ℕ) (traces : List Capture) (port : ℕ)
      → frames_in ports (map (trace_until time) traces) port ≡ frames_until time (frames_in ports traces port)
  unfolding frames_in
  frames_in-until [] traces port = refl
  frames_in-until (p ∷ ps) [] port = refl
  frames_in-until (p ∷ ps) (t ∷ ts) port = at (p == port) (frames_in-until ps ts port)
    where
      at : (is : Bool) → frames_in ps (map (trace_until time) ts) port ≡ frames_until time (frames_in ps ts port)
          → (if is then frames_until time t.frames else frames_in ps (map (trace_until time) ts) port) ≡ frames_until time (if is then t.frames else frames_in ps ts port)
      at true so = refl
      at false so = so

  frames_in-since : (ports : List ℕ) (traces : List Capture) (port : ℕ)
      → frames_in ports (map (trace_since time) traces) port ≡ frames_since time (frames_in ports traces port)
  unfolding frames_in
  frames_in-since [] traces port = refl
  frames_in-since (p ∷ ps) [] port = refl
  frames_in-since (p ∷ ps) (t ∷ ts) port = at (p == port) (frames_in-since ps ts port)
    where
      at : (is : Bool) → frames_in ps (map (trace_since time) ts) port ≡ frames_since time (frames_in ps ts port)
          → (if is then frames_since time t.frames else frames_in ps (map (trace_since time) ts) port) ≡ frames_since time (if is then t.frames else frames_in ps ts port)
      at true so = refl
      at false so = so

  module _ (run : Run) where
    -- how many frames of a port stand before the time
    abbrev pub count_before : ℕ → ℕ
    count_before port = frames_before time (frames_of run port)

    pub frames_of-before : (port : ℕ) → frames_of (before time run) port ≡ frames_until time (frames_of run port)
    frames_of-before port = frames_in-until run.ports run.traces port

    pub frames_of-since : (port : ℕ) → frames_of (since time run) port ≡ frames_since time (frames_of run port)
    frames_of-since port = frames_in-since run.ports run.traces port

    pub length-before : (port : ℕ) → length (frames_of (before time run) port) ≡ count_before port
    length-before port =
        ap length (frames_of-before port) ∙ length-take-le (count_before port) (frames_of run port) (prefix-within _ (frames_of run port))

    pub length-since : (port : ℕ) → count_before port + length (frames_of (since time run) port) ≡ length (frames_of run port)
    length-since port =
        let same = ap length (frames_of-since port) in
        let dropped = length-drop (count_before port) (frames_of run port) in
        omega (arith, same, dropped, prefix-within (λ (f : Frame). nat_lt f.time time) (frames_of run port))

    pub frame_at-before : (port place : ℕ) → 1 ≤ place → place ≤ count_before port → frame_at (before time run) port place ≡ frame_at run port place
    frame_at-before port place first last =
        ap (λ frames. frame_number frames place) (frames_of-before port)
        ∙ get_or-take (count_before port) (frames_of run port) (place - 1) no_frame (omega (arith, first, last))

    pub frame_at-since : (port place : ℕ) → 1 ≤ place → frame_at (since time run) port place ≡ frame_at run port (count_before port + place)
    frame_at-since port place first =
        let same : count_before port + (place - 1) ≡ count_before port + place - 1 = omega (arith, first) in
        ap (λ frames. frame_number frames place) (frames_of-since port)
        ∙ get_or-drop (count_before port) (frames_of run port) (place - 1) no_frame
        ∙ ap (λ i. slice_index_or (frames_of run port) i no_frame) same

-- ---- the trace of each port

-- What a port's frames are, by these traces.
abbrev pub AreOf : (ℕ → List Frame) → List ℕ → List Capture → Type 0
AreOf frames [] traces = Unit {0}
AreOf frames (p ∷ ps) [] = Unit {0}
AreOf frames (p ∷ ps) (t ∷ ts) = (frames p ≡ t.frames) × AreOf frames ps ts

other_first : (p : ℕ) (t : Capture) (ports : List ℕ) (traces : List Capture) (ps : List ℕ) (ts : List Capture)
    → AllByRecursion (λ q. nat_eq p q ≡ false) ps
    → AreOf (frames_in ports traces) ps ts → AreOf (frames_in (p ∷ ports) (t ∷ traces)) ps ts
unfolding frames_in
other_first p t ports traces [] ts differ are = tt
other_first p t ports traces (q ∷ ps) [] differ are = tt
other_first p t ports traces (q ∷ ps) (u ∷ ts) differ are = (first ∙ are.0, other_first p t ports traces ps ts differ.1 are.1)
  where
    first : frames_in (p ∷ ports) (t ∷ traces) q ≡ frames_in ports traces q
    first = cond-false (p == q) _ _ differ.0

pub are_of : (ports : List ℕ) (traces : List Capture) → IsDistinct nat_eq ports → AreOf (frames_in ports traces) ports traces
unfolding IsDistinct frames_in
are_of [] traces distinct = tt
are_of (p ∷ ps) [] distinct = tt
are_of (p ∷ ps) (t ∷ ts) distinct = (first, other_first p t ps ts ps ts distinct.0 (are_of ps ts distinct.1))
  where
    first : frames_in (p ∷ ps) (t ∷ ts) p ≡ t.frames
    first = cond-true (p == p) _ _ (eq-eqb p p refl)

-- ---- arrivals

arrivals_at-append : (port n : ℕ) (xs ys : List Frame) → arrivals_at port n (xs ++ ys) ≡ arrivals_at port n xs ++ arrivals_at port (n + length xs) ys
unfolding arrivals_at
arrivals_at-append port n [] ys = let same : n ≡ n + 0 = omega arith in ap (λ i. arrivals_at port i ys) same
arrivals_at-append port n (x ∷ xs) ys =
    let same : n + 1 + length xs ≡ n + length (x ∷ xs) = omega arith in
    ap (λ l. record { time = x.time; port = port; place = n } ∷ l) (arrivals_at-append port (n + 1) xs ys ∙ ap (λ i. arrivals_at port (n + 1) xs ++ arrivals_at port i ys) same)

arrivals_at-moved : (from : ℕ → ℕ) (port n m : ℕ) (xs : List Frame) → m ≡ from port + n
    → arrivals_at port m xs ≡ map (moved from) (arrivals_at port n xs)
unfolding arrivals_at
arrivals_at-moved from port n m [] e = refl
arrivals_at-moved from port n m (x ∷ xs) e =
    let more : m + 1 ≡ from port + (n + 1) = omega (arith, e) in
    ap (λ i. record { time = x.time; port = port; place = i } ∷ arrivals_at port (m + 1) xs) e
    ∙ ap (λ l. record { time = x.time; port = port; place = from port + n } ∷ l) (arrivals_at-moved from port (n + 1) (m + 1) xs more)

module _ (P : ℕ → Type 0) where
  -- what the times of frames are, the times of their arrivals are
  of_times : (port n : ℕ) (xs : List Frame) → All (λ (f : Frame). P f.time) xs → All (λ (a : Arrival). P a.time) (arrivals_at port n xs)
  unfolding arrivals_at
  of_times port n [] all = All-nil _
  of_times port n (x ∷ xs) all =
      All-cons (λ (a : Arrival). P a.time) (record { time = x.time; port = port; place = n }) (arrivals_at port (n + 1) xs)
      (All-head (λ (f : Frame). P f.time) x xs all) (of_times port (n + 1) xs (All-tail (λ (f : Frame). P f.time) x xs all))

-- An arrival is of a frame of its port.
abbrev pub IsIn : (ℕ → List Frame) → Arrival → Type 0
IsIn frames a = (1 ≤ a.place) × (a.place ≤ length (frames a.port))

module _ (frames : ℕ → List Frame) where
  are_in_at : (port n : ℕ) (xs : List Frame) → 1 ≤ n → n + length xs ≤ length (frames port) + 1 → All (IsIn frames) (arrivals_at port n xs)
  unfolding arrivals_at
  are_in_at port n [] first last = All-nil _
  are_in_at port n (x ∷ xs) first last =
      All-cons (IsIn frames) (record { time = x.time; port = port; place = n }) _ (first, omega (arith, last)) (are_in_at port (n + 1) xs (omega arith) (omega (arith, last)))

  pub are_in : (ports : List ℕ) (traces : List Capture) → AreOf frames ports traces → All (IsIn frames) (arrivals_in ports traces)
  unfolding arrivals_in
  are_in [] traces are = All-nil _
  are_in (p ∷ ps) [] are = All-nil _
  are_in (p ∷ ps) (t ∷ ts) are =
      All-append (IsIn frames) (arrivals_at p 1 t.frames) (arrivals_in ps ts)
      (are_in_at p 1 t.frames (omega arith) (let same = ap length are.0 in omega (arith, same))) (are_in ps ts are.1)

-- ---- the arrivals of the parts, in order

module _ (time : ℕ) where
  early_frames : (frames : List Frame) → All (λ (f : Frame). f.time < time) (frames_until time frames)
  early_frames frames =
      All-weaker (λ (f : Frame). nat_lt f.time time ≡ true) (λ f. f.time < time) (λ f is. ltb-true f.time time is) _ (prefix-passes _ frames)

  early_all : (ports : List ℕ) (traces : List Capture) → All (IsEarly time) (arrivals_in ports (map (trace_until time) traces))
  unfolding arrivals_in
  early_all [] traces = All-nil _
  early_all (p ∷ ps) [] = All-nil _
  early_all (p ∷ ps) (t ∷ ts) =
      All-append (IsEarly time) (arrivals_at p 1 (frames_until time t.frames)) (arrivals_in ps (map (trace_until time) ts))
      (of_times (λ at. at < time) p 1 (frames_until time t.frames) (early_frames t.frames)) (early_all ps ts)

  late_all : (ports : List ℕ) (traces : List Capture) → All (IsCutIn time) traces
      → All (IsLate time) (arrivals_in ports (map (trace_since time) traces))
  unfolding arrivals_in
  late_all [] traces cut = All-nil _
  late_all (p ∷ ps) [] cut = All-nil _
  late_all (p ∷ ps) (t ∷ ts) cut =
      All-append (IsLate time) (arrivals_at p 1 (frames_since time t.frames)) (arrivals_in ps (map (trace_since time) ts))
      (of_times (λ at. time ≤ at) p 1 (frames_since time t.frames) (All-head (IsCutIn time) t ts cut)) (late_all ps ts (All-tail (IsCutIn time) t ts cut))

  module _ (frames : ℕ → List Frame) where
    abbrev from : ℕ → ℕ
    from port = frames_before time (frames port)

    arrivals_split : (ports : List ℕ) (traces : List Capture) → AreOf frames ports traces → All (IsCutIn time) traces
        → in_order (arrivals_in ports traces)
        ≡ in_order (arrivals_in ports (map (trace_until time) traces)) ++ map (moved from) (in_order (arrivals_in ports (map (trace_since time) traces)))
    unfolding arrivals_in sort_by
    arrivals_split [] traces are cut = refl
    arrivals_split (p ∷ ps) [] are cut = refl
    arrivals_split (p ∷ ps) (t ∷ ts) are cut =
        ap (λ l. in_order (l ++ arrivals_in ps ts)) apart
        ∙ one_port_more from time (arrivals_at p 1 (frames_until time t.frames)) (arrivals_at p 1 (frames_since time t.frames)) (arrivals_in ps ts)
        (arrivals_in ps (map (trace_until time) ts)) (arrivals_in ps (map (trace_since time) ts))
        (of_times (λ at. at < time) p 1 (frames_until time t.frames) (early_frames t.frames))
        (of_times (λ at. time ≤ at) p 1 (frames_since time t.frames) (All-head (IsCutIn time) t ts cut))
        (early_all ps ts) (late_all ps ts (All-tail (IsCutIn time) t ts cut))
        (arrivals_split ps ts are.1 (All-tail (IsCutIn time) t ts cut))
      where
        apart : arrivals_at p 1 t.frames
            ≡ arrivals_at p 1 (frames_until time t.frames) ++ map (moved from) (arrivals_at p 1 (frames_since time t.frames))
        apart =
            let count = length-take-le (frames_before time t.frames) t.frames (prefix-within _ t.frames) in
            let before_p : from p ≡ frames_before time t.frames = ap (frames_before time) are.0 in
            ap (arrivals_at p 1) (sym (take-append-drop (frames_before time t.frames) t.frames))
            ∙ arrivals_at-append p 1 (frames_until time t.frames) (frames_since time t.frames)
            ∙ ap (λ l. arrivals_at p 1 (frames_until time t.frames) ++ l)
            (arrivals_at-moved from p 1 (1 + length (frames_until time t.frames)) (frames_since time t.frames) (omega (arith, count, before_p)))

-- the arrivals of a run are those of its part before a time and then those of its part from there on
module _ (time : ℕ) (run : Run) (cut : IsCutAt time run) where
  pub arrivals_of_parts : in_order (arrivals run)
      ≡ in_order (arrivals (before time run)) ++ map (moved (count_before time run)) (in_order (arrivals (since time run)))
  arrivals_of_parts = arrivals_split time (frames_of run) run.ports run.traces (are_of run.ports run.traces cut.ports) cut.traces

-- an arrival of a run is of a frame of it
pub all_in : (run : Run) → IsDistinct nat_eq run.ports → All (IsIn (frames_of run)) (in_order (arrivals run))
all_in run distinct =
    All-sort_by comes_before (IsIn (frames_of run)) (arrivals run) (are_in (frames_of run) run.ports run.traces (are_of run.ports run.traces distinct))

-- ---- cut more than once

module _ (earlier time : ℕ) where
  -- what comes from a later time on comes after what is cut off
  since_later : earlier ≤ time → (frames : List Frame) → frames_since time (frames_since earlier frames) ≡ frames_since time frames
  since_later rises [] = refl
  since_later rises (f ∷ frames) = at (nat_lt f.time earlier) refl (since_later rises frames)
    where
      at : (t : Bool) → nat_lt f.time earlier ≡ t → frames_since time (frames_since earlier frames) ≡ frames_since time frames
          → frames_since time (drop (if t then 1 + frames_before earlier frames else 0) (f ∷ frames)) ≡ frames_since time (f ∷ frames)
      at true is so =
          let here : nat_lt f.time time ≡ true = lt-ltb f.time time (let l = ltb-true f.time earlier is in omega (arith, l, rises)) in
          let more : 1 + frames_before earlier frames ≡ suc (frames_before earlier frames) = omega arith in
          let again : 1 + frames_before time frames ≡ suc (frames_before time frames) = omega arith in
          ap (λ n. frames_since time (drop n (f ∷ frames))) more ∙ so
          ∙ ap (λ n. drop n (f ∷ frames)) (sym again)
          ∙ ap (λ (t : Bool). drop (if t then 1 + frames_before time frames else 0) (f ∷ frames)) (sym here)
      at false is so = refl

  cut_later : (traces : List Capture) → earlier ≤ time → All (IsCutIn time) traces → All (IsCutIn time) (map (trace_since earlier) traces)
  cut_later traces rises cut =
      All-map (IsCutIn time) (trace_since earlier) traces
      (All-weaker (IsCutIn time) (λ t. IsCutIn time (trace_since earlier t))
      (λ t is. subst (All (λ (f : Frame). time ≤ f.time)) (sym (since_later rises t.frames)) is) traces cut)

module _ (time : ℕ) (times : List ℕ) (run : Run) (cut : MayBeCutAt (time ∷ times) run) where
  pub first_cut : IsCutAt time run
  first_cut = record { ports = cut.ports; traces = All-head (λ t. All (IsCutIn t) run.traces) time times cut.traces }

  pub later_cuts : MayBeCutAt times (since time run)
  later_cuts = record {
    rising = λ i j d lt within. cut.rising (suc i) (suc j) d (omega (arith, lt)) (omega (arith, within));
    ports = cut.ports;
    traces = λ k d within.
        cut_later time (slice_index_or times k d) run.traces (cut.rising 0 (suc k) d (omega arith) (omega (arith, within)))
        (All-tail (λ t. All (IsCutIn t) run.traces) time times cut.traces k d within);
  }
