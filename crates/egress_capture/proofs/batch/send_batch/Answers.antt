use Rattle.std.proofs.Common.{◌≡◌, ℕ, zero, suc, ◌+◌, ◌-◌, ◌≤◌, ◌<◌, false, List, [], ◌∷◌, ◌++◌, length, get_or, take, drop, subst, sym, ap, ap₂, ◌∙◌, inl, inr, arith}
use Rattle.std.specs.List.{flat_map}
use Rattle.std.proofs.lemmas.List.{append-nil, flat_map_more, get_or-drop, length-drop}
use Rattle.std.proofs.Math.Seq.{take-suc}
use Rattle.spec_pcap.specs.Pcap.{Frame}
use Rattle.spec_case.specs.declared.arrival.Arrival.{Arrival}
use Rattle.spec_case.specs.Run.{Run, frames_of, frame_at}
use Rattle.spec_board.specs.Texts.{Journal}
use Rattle.spec_run.specs.Outputs.{sent_to}
use Rattle.run_boards.specs.Arrivals.{IsArrival}
use Rattle.egress_capture.specs.declared.port_filter.PortFilter.{PortFilter}
use Rattle.egress_capture.specs.Filters.{AreFilters}
use Rattle.egress_capture.specs.Batches.{IsNext, IsBatch, no_arrival}
use Rattle.egress_capture.proofs.Batches.{sent_once}
use Rattle.egress_capture.proofs.Skipped.{unsent}
use Rattle.egress_capture.proofs.batch.send_batch.Goals as goal

abbrev no_filter : PortFilter
no_filter = record { bits = 0; port = 0; single = false }

abbrev no_frame : Frame
no_frame = record { time = 0; bytes = [] }

module _ (run : Run) (came : List Arrival) (filters : List PortFilter) (port at : ℕ)
    (arrived : (k : ℕ) (d : Arrival) → k < length came → IsArrival run (get_or came k d)) where
  abbrev first : Arrival
  first = get_or came at no_arrival

  abbrev frames : List Frame
  frames = frames_of run first.port

  -- the trace has all frames of a batch
  there : (n count : ℕ) → 1 ≤ count → at + n ≤ length came → IsBatch came filters port at n count
      → first.place + count ≤ length frames + 1
  unfolding IsBatch
  there zero count some within none = absurd (omega (arith, some, none))
  there (suc n) count some within batch =
      elim batch [
        | inl others ↦ there n count some (omega (arith, within)) others.1
        | inr next ↦
            let last = get_or came (at + n) no_arrival in
            let is = next.1.0 in
            let in_trace = arrived (at + n) no_arrival (omega (arith, within)) in
            let same : last.place ≤ length frames =
            subst (λ (p : ℕ). last.place ≤ length (frames_of run p)) is.follows.port in_trace.place.1 in
            omega (arith, same, is.follows.place, some)
      ]

  module _ (journals : List Journal) (are : AreFilters run journals came filters) (some : at < length came) where
    abbrev pieces : Arrival → List Frame
    pieces = sent_to run journals port

    from : 1 ≤ first.place
    from = (arrived at no_arrival some).place.0

    -- one of them is sent as it came in
    one_sent : (place count : ℕ) → place < length came → IsNext came filters port at place count
        → pieces (get_or came place no_arrival) ≡ get_or (drop (first.place - 1) frames) count no_frame ∷ []
    one_sent place count within next =
        let a = get_or came place no_arrival in
        let only = next.only_sent no_filter in
        let actions = rw only.port_is at (are.single place no_arrival no_filter within only.single) in
        let less : (first.place + count) - 1 ≡ (first.place - 1) + count = omega (arith, from) in
        sent_once run journals port a actions
        ∙ ap (λ (p : ℕ). frame_at run p a.place ∷ []) next.follows.port
        ∙ ap (λ (p : ℕ). frame_at run first.port p ∷ []) next.follows.place
        ∙ ap (λ (p : ℕ). get_or frames p no_frame ∷ []) less
        ∙ ap (λ (f : Frame). f ∷ []) (sym (get_or-drop (first.place - 1) frames count no_frame))

    -- and so are all, and nothing is sent of those between them
    sent_on : (n count : ℕ) → at + n ≤ length came → IsBatch came filters port at n count
        → flat_map pieces (take n (drop at came)) ≡ take count (drop (first.place - 1) frames)
    unfolding IsBatch
    sent_on zero count within none = ap (λ (k : ℕ). take k (drop (first.place - 1) frames)) (sym none)
    sent_on (suc n) count within batch =
        let left = length-drop at came in
        let before = flat_map pieces (take n (drop at came)) in
        let this = get_or came (at + n) no_arrival in
        let all : flat_map pieces (take (suc n) (drop at came)) ≡ before ++ pieces this =
        ap (flat_map pieces) (take-suc (drop at came) n no_arrival (omega (arith, left, within)))
        ∙ sym (flat_map_more pieces [] (take n (drop at came)) (get_or (drop at came) n no_arrival))
        ∙ ap (λ (a : Arrival). before ++ pieces a) (get_or-drop at came n no_arrival) in
        elim batch [
          | inl others ↦
              let nothing = unsent run journals filters port came (at + n) no_arrival no_filter are (omega (arith, within)) (others.0 no_filter) in
              all ∙ ap (λ (fs : List Frame). before ++ fs) nothing ∙ append-nil before ∙ sent_on n count (omega (arith, within)) others.1
          | inr next ↦
              let long = length-drop (first.place - 1) frames in
              let few = there (suc n) count next.0 within (inr next) in
              let more : suc (count - 1) ≡ count = omega (arith, next.0) in
              all
              ∙ ap₂ (λ (xs ys : List Frame). xs ++ ys) (sent_on n (count - 1) (omega (arith, within)) next.1.1)
              (one_sent (at + n) (count - 1) (omega (arith, within)) next.1.0)
              ∙ sym (take-suc (drop (first.place - 1) frames) (count - 1) no_frame (omega (arith, long, few, from, next.0)))
              ∙ ap (λ (k : ℕ). take k (drop (first.place - 1) frames)) more
        ]

pub write_frames-requires-clause-last : goal.write_frames-requires-clause-last
write_frames-requires-clause-last g c =
    let came = c.arrivals.result.now in
    let within = rw (← c.arrivals.ensures.list) at c.requires.within in
    let batch = rw (← c.arrivals.ensures.list) at c.requires.batch in
    let size : c.args.at + (c.args.batch.end - c.args.at) ≤ length came = omega (arith, within, c.requires.few) in
    there g.C.Case.run came c.args.filters.now c.args.port c.args.at c.arrivals.ensures.each (c.args.batch.end - c.args.at) c.args.batch.count c.requires.some
    size batch

pub returns-clause-writes : goal.returns-clause-writes
returns-clause-writes g c =
    let came = c.arrivals.result.now in
    let within = rw (← c.arrivals.ensures.list) at c.requires.within in
    let batch = rw (← c.arrivals.ensures.list) at c.requires.batch in
    let filters = rw (← c.arrivals.ensures.list) at c.requires.filters in
    let size : c.args.at + (c.args.batch.end - c.args.at) ≤ length came = omega (arith, within, c.requires.few) in
    let some : c.args.at < length came = omega (arith, within, c.requires.few, c.requires.some) in
    let sent =
    sent_on g.C.Case.run came c.args.filters.now c.args.port c.args.at c.arrivals.ensures.each c.args.finished.now filters some
    (c.args.batch.end - c.args.at) c.args.batch.count size batch in
    rw (← c.arrivals.ensures.list, sent) c.write_frames.ensures.writes
