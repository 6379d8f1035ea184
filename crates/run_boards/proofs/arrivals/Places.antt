-- The places of traces, one after the other, as loops walk over them.
use Rattle.std.proofs.Common.{◌≡◌, ℕ, ◌+◌, ◌-◌, ◌≤◌, ◌<◌, false, List, [], ◌∷◌, ◌++◌, length, length-append, get_or, drop, All, refl, sym, ap, ap₂, ◌∙◌, append_assoc, arith}
use Rattle.std.specs.Prelude.{◌==◌, nat_eq}
use Rattle.std.specs.List.{flat_map, IsDistinct, AllByRecursion}
use Rattle.std.proofs.lemmas.Bool.{eq-eqb}
use Rattle.std.proofs.lemmas.List.{drop_more, drop_all, append-nil}
use Rattle.std.proofs.lemmas.List.Elements.{All-nil, All-cons, All-head, All-tail, All-append}
use Rattle.std.proofs.lemmas.List.Folds.{list_any_at}
use Rattle.spec_base.proofs.SortLaws.{All-sort_by}
use Rattle.spec_pcap.specs.Pcap.{Frame, Capture, frame_number}
use Rattle.spec_case.specs.declared.arrival.Arrival.{Arrival}
use Rattle.spec_case.specs.Run.{Run, frames_in, frames_of}
use Rattle.spec_case.specs.Arrivals.{arrivals_at, arrivals_in, arrivals, comes_before, in_order}
use Rattle.run_case.specs.Places.{HasPort}
use Rattle.run_boards.specs.Arrivals.{IsArrival}

-- ---- at one port

-- one more arrival at a port
pub next_arrival : (port : ℕ) (frames : List Frame) (i time : ℕ) (before now all : List Arrival) → i < length frames → time ≡ (frame_number frames (i + 1)).time
    → now ≡ before ++ record { time = time; port = port; place = i + 1 } ∷ []
    → before ++ arrivals_at port (i + 1) (drop i frames) ≡ all → now ++ arrivals_at port (i + 1 + 1) (drop (i + 1) frames) ≡ all
unfolding arrivals_at
next_arrival port frames i time before now all lt is grown so_far =
    let place : i + 1 - 1 ≡ i = omega arith in
    let more : drop i frames ≡ frame_number frames (i + 1) ∷ drop (i + 1) frames = rw place (drop_more frames i _ lt) in
    let step : before ++ arrivals_at port (i + 1) (drop i frames) ≡ before ++ (record { time = time; port = port; place = i + 1 } ∷ arrivals_at port (i + 1 + 1) (drop (i + 1) frames)) = rw (more, is) refl in
    rw (grown, append_assoc before (record { time = time; port = port; place = i + 1 } ∷ []) (arrivals_at port (i + 1 + 1) (drop (i + 1) frames))) (sym step ∙ so_far)

pub last_arrival : (port i : ℕ) (frames : List Frame) (now all : List Arrival) → length frames ≤ i
    → now ++ arrivals_at port (i + 1) (drop i frames) ≡ all → now ≡ all
unfolding arrivals_at
last_arrival port i frames now all le so_far =
    let none : now ++ arrivals_at port (i + 1) (drop i frames) ≡ now = rw (drop_all i frames le) (append-nil now) in
    sym none ∙ so_far

-- ---- at all ports

-- the arrivals at these ports, each with its own trace
abbrev pub arrivals_to : List ℕ → List Capture → List ℕ → List Arrival
arrivals_to ports traces these = flat_map (λ port. arrivals_at port 1 (frames_in ports traces port)) these

-- without traces none arrives
none_arrives : (ports these : List ℕ) → arrivals_to ports [] these ≡ []
unfolding frames_in arrivals_at
none_arrives [] [] = refl
none_arrives [] (port ∷ these) = none_arrives [] these
none_arrives (p ∷ ps) [] = refl
none_arrives (p ∷ ps) (port ∷ these) = none_arrives (p ∷ ps) these

-- other ports have other traces than the first
after_first : (p : ℕ) (ps : List ℕ) (t : Capture) (ts : List Capture) (these : List ℕ) → AllByRecursion (λ q. nat_eq p q ≡ false) these
    → arrivals_to (p ∷ ps) (t ∷ ts) these ≡ arrivals_to ps ts these
unfolding frames_in
after_first p ps t ts [] differ = refl
after_first p ps t ts (q ∷ these) differ =
    let here : frames_in (p ∷ ps) (t ∷ ts) q ≡ frames_in ps ts q = rw (differ.0) refl in
    ap₂ (λ xs ys. xs ++ ys) (ap (arrivals_at q 1) here) (after_first p ps t ts these differ.1)

-- the arrivals of different ports, port by port
pub arrivals-by_port : (ports : List ℕ) (traces : List Capture) → IsDistinct nat_eq ports → arrivals_in ports traces ≡ arrivals_to ports traces ports
unfolding frames_in arrivals_in IsDistinct
arrivals-by_port [] traces distinct = refl
arrivals-by_port (p ∷ ps) [] distinct = sym (none_arrives (p ∷ ps) (p ∷ ps))
arrivals-by_port (p ∷ ps) (t ∷ ts) distinct =
    let here : frames_in (p ∷ ps) (t ∷ ts) p ≡ t.frames = rw (eq-eqb p p refl) refl in
    ap₂ (λ xs ys. xs ++ ys) (ap (arrivals_at p 1) (sym here))
    (arrivals-by_port ps ts distinct.1 ∙ sym (after_first p ps t ts ps distinct.0))

-- ---- each is a frame of the run

module _ (run : Run) where
  module _ (port : ℕ) (there : HasPort run.ports port) where
    are_arrivals_at : (before rest : List Frame) → before ++ rest ≡ frames_of run port
        → All (IsArrival run) (arrivals_at port (length before + 1) rest)
    unfolding arrivals_at
    are_arrivals_at before [] all = All-nil (IsArrival run)
    are_arrivals_at before (f ∷ rest) all =
        let a : Arrival = record { time = f.time; port = port; place = length before + 1 } in
        let count : length (frames_of run port) ≡ length before + length (f ∷ rest) = ap length (sym all) ∙ length-append before (f ∷ rest) in
        let place : length before + 1 ≤ length (frames_of run port) = omega (arith, count) in
        let here : IsArrival run a = record { port = there; place = (omega arith, place) } in
        let longer : length (before ++ f ∷ []) ≡ length before + 1 = length-append before (f ∷ []) in
        let others = are_arrivals_at (before ++ f ∷ []) rest (append_assoc before (f ∷ []) rest ∙ all) in
        All-cons (IsArrival run) a _ here (rw longer at others)

  are_arrivals_to : (these : List ℕ) → All (HasPort run.ports) these → All (IsArrival run) (arrivals_to run.ports run.traces these)
  are_arrivals_to [] there = All-nil (IsArrival run)
  are_arrivals_to (p ∷ these) there =
      All-append (IsArrival run) (arrivals_at p 1 (frames_of run p)) (arrivals_to run.ports run.traces these)
      (are_arrivals_at p (All-head (HasPort run.ports) p these there) [] (frames_of run p) refl)
      (are_arrivals_to these (All-tail (HasPort run.ports) p these there))

  all_there : All (HasPort run.ports) run.ports
  all_there = λ k d within. list_any_at (λ p. p == get_or run.ports k d) run.ports k d within (eq-eqb _ _ refl)

  pub are_arrivals : IsDistinct nat_eq run.ports → All (IsArrival run) (in_order (arrivals run))
  are_arrivals distinct =
      All-sort_by comes_before (IsArrival run) (arrivals run) (rw (arrivals-by_port run.ports run.traces distinct) (are_arrivals_to run.ports all_there))
