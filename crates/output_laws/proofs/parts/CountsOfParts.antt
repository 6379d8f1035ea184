-- The packets and bytes of a rule are the sums of those in the parts.
use Rattle.std.proofs.Common.{◌≡◌, ℕ, zero, suc, ◌+◌, ◌*◌, ◌≤◌, ◌==◌, if◌then◌else◌, List, [], ◌∷◌, length, map, All, Option, Some, None, refl, sym, ap, ◌∙◌, arith}
use Rattle.std.specs.List.{sum_by, range_with_len}
use Rattle.std.proofs.lemmas.List.Elements.{All-head, All-tail}
use Rattle.std.proofs.lemmas.List.Sums.{sum_by-cons}
use Rattle.spec_pcap.specs.Pcap.{Frame}
use Rattle.spec_actions.specs.declared.action.DpAction.{DpAction}
use Rattle.spec_xlate.specs.Translation.{Translation}
use Rattle.spec_case.specs.Run.{Run, frame_at, frames_of}
use Rattle.spec_board.specs.Decisions.{Decision, decision_of}
use Rattle.spec_exec.specs.Sent.{Piece, sent}
use Rattle.spec_run.specs.Summary.{places_of, decided, pieces_of, sent_by, dropped_by, sent_count, dropped_count, frame_count}
use Rattle.spec_board.specs.Counts.{times_visited, owed_packets, owed_bytes}
use Rattle.spec_board.specs.Texts.{Journal}
use Rattle.spec_run.specs.Rules.{end_of, packets_of, bytes_of}
use Rattle.spec_run.specs.Journals.{HasEditsApart, IsWhole, AreWhole, actions_in}
use Rattle.output_laws.specs.Parts.{before, since}
use Rattle.output_laws.proofs.parts.Frames.{count_before, length-before, length-since, frame_at-before, frame_at-since}
use Rattle.output_laws.proofs.parts.ByLast.{decides}
use Rattle.output_laws.proofs.parts.Apart.{by_last, by_last-before, by_last-since}
use Rattle.output_laws.proofs.parts.EachOnce.{sum_alike, sum_both, sum_range, packets_due, bytes_due}

-- ---- sums over ranges

range_split : (f : ℕ → ℕ) (from n m : ℕ)
    → sum_by f (range_with_len from (n + m)) ≡ sum_by f (range_with_len from n) + sum_by f (range_with_len (from + n) m)
range_split f from zero m =
    let none : 0 + m ≡ m = omega arith in
    let here : from + 0 ≡ from = omega arith in
    let nothing : sum_by f (range_with_len from m) ≡ 0 + sum_by f (range_with_len from m) = omega arith in
    ap (λ k. sum_by f (range_with_len from k)) none ∙ nothing ∙ ap (λ a. 0 + sum_by f (range_with_len a m)) (sym here)
range_split f from (suc n) m =
    let more : suc n + m ≡ suc (n + m) = omega arith in
    let here : from + 1 + n ≡ from + suc n = omega arith in
    let a = sum_by-cons f from (range_with_len (from + 1) (n + m)) in
    let b = sum_by-cons f from (range_with_len (from + 1) n) in
    let rest = range_split f (from + 1) n m in
    let same = ap (λ i. sum_by f (range_with_len i m)) here in
    ap (λ k. sum_by f (range_with_len from k)) more ∙ (omega (arith, a, b, rest, same))

range_moved : (f : ℕ → ℕ) (by from n : ℕ) → sum_by f (range_with_len (from + by) n) ≡ sum_by (λ k. f (by + k)) (range_with_len from n)
range_moved f by from zero = refl
range_moved f by from (suc n) =
    let here : from + by ≡ by + from = omega arith in
    let next : from + by + 1 ≡ from + 1 + by = omega arith in
    let a = sum_by-cons f (from + by) (range_with_len (from + by + 1) n) in
    let b = sum_by-cons (λ k. f (by + k)) from (range_with_len (from + 1) n) in
    let first = ap f here in
    let same = ap (λ i. sum_by f (range_with_len i n)) next in
    let rest = range_moved f by (from + 1) n in
    omega (arith, a, b, first, same, rest)

-- ---- a sum over the places of all ports

module _ (value : Translation → Frame → ℕ) where
  -- what the frame of a place has, by its translation under the last version of its block
  abbrev pub at_place : Run → ℕ → ℕ → ℕ
  at_place run port place = value (by_last run port place) (frame_at run port place)

  abbrev pub over_places : Run → ℕ → ℕ
  over_places run port = sum_by (at_place run port) (range_with_len 1 (length (frames_of run port)))

  abbrev pub over_run : Run → ℕ
  over_run run = sum_by (over_places run) run.ports

  alike : (t u : Translation) (f g : Frame) → t ≡ u → f ≡ g → value t f ≡ value u g
  alike t u f g translation frame = ap (λ x. value x f) translation ∙ ap (value u) frame

  module _ (time : ℕ) (run : Run) where
    of_first : (port place : ℕ) → 1 ≤ place → place ≤ count_before time run port → at_place run port place ≡ at_place (before time run) port place
    of_first port place first last =
        alike (by_last run port place) (by_last (before time run) port place) (frame_at run port place) (frame_at (before time run) port place)
        (sym (by_last-before time run port place first last)) (sym (frame_at-before time run port place first last))

    of_second : (port place : ℕ) → 1 ≤ place → at_place run port (count_before time run port + place) ≡ at_place (since time run) port place
    of_second port place first =
        let later = count_before time run port + place in
        alike (by_last run port later) (by_last (since time run) port place) (frame_at run port later) (frame_at (since time run) port place)
        (sym (by_last-since time run port place first)) (sym (frame_at-since time run port place first))

    at_port : (port : ℕ) → over_places run port ≡ over_places (before time run) port + over_places (since time run) port
    at_port port =
        let c = count_before time run port in
        let n = length (frames_of (since time run) port) in
        let all = at_place run port in
        let first = at_place (before time run) port in
        let second = at_place (since time run) port in
        ap (λ k. sum_by all (range_with_len 1 k)) (sym (length-since time run port))
        ∙ range_split all 1 c n
        ∙ ap (λ k. k + sum_by all (range_with_len (1 + c) n))
        (sum_range all first 1 c (λ k low high. of_first port k low (omega (arith, high)))
        ∙ ap (λ k. sum_by first (range_with_len 1 k)) (sym (length-before time run port)))
        ∙ ap (λ k. over_places (before time run) port + k)
        (range_moved all c 1 n ∙ sum_range (λ k. all (c + k)) second 1 n (λ k low high. of_second port k low))

    pub over_parts : over_run run ≡ over_run (before time run) + over_run (since time run)
    over_parts =
        sum_alike (over_places run) (λ port. over_places (before time run) port + over_places (since time run) port) run.ports at_port
        ∙ sum_both (over_places (before time run)) (over_places (since time run)) run.ports

  -- a sum over journals of what the port of each has
  sum_of_ports : (by_journal : Journal → ℕ) (run : Run) (journals : List Journal) → All (IsWhole run) journals
      → ((j : Journal) → IsWhole run j → by_journal j ≡ over_places run j.port)
      → sum_by by_journal journals ≡ sum_by (over_places run) (map (λ (j : Journal). j.port) journals)
  sum_of_ports by_journal run [] all same = refl
  sum_of_ports by_journal run (j ∷ journals) all same =
      let a = sum_by-cons by_journal j journals in
      let b = sum_by-cons (over_places run) j.port (map (λ (j : Journal). j.port) journals) in
      let here = same j (All-head (IsWhole run) j journals all) in
      let rest = sum_of_ports by_journal run journals (All-tail (IsWhole run) j journals all) same in
      omega (arith, a, b, here, rest)

  pub by_journals : (by_journal : Journal → ℕ) (run : Run) (journals : List Journal) → AreWhole run journals
      → ((j : Journal) → IsWhole run j → by_journal j ≡ over_places run j.port) → sum_by by_journal journals ≡ over_run run
  by_journals by_journal run journals whole same =
      sum_of_ports by_journal run journals whole.each same ∙ ap (sum_by (over_places run)) whole.of_ports

-- ---- what a rule counts

abbrev pub packets_at : ℕ → Translation → Frame → ℕ
packets_at rule t f = times_visited rule t.visits

abbrev pub bytes_at : ℕ → Translation → Frame → ℕ
bytes_at rule t f = times_visited rule t.visits * length f.bytes

module _ (run : Run) (journals : List Journal) (apart : HasEditsApart run) (whole : AreWhole run journals) where
  pub packets_are : (rule : ℕ) → packets_of run journals rule ≡ over_run (packets_at rule) run
  packets_are rule =
      by_journals (packets_at rule) (λ (j : Journal). ((end_of run j).totals rule).packets + owed_packets rule (end_of run j).entries) run journals whole
      (λ j is. (is.accounted rule).packets ∙ packets_due run j apart is rule)

  pub bytes_are : (rule : ℕ) → bytes_of run journals rule ≡ over_run (bytes_at rule) run
  bytes_are rule =
      by_journals (bytes_at rule) (λ (j : Journal). ((end_of run j).totals rule).bytes + owed_bytes rule (end_of run j).entries) run journals whole
      (λ j is. (is.accounted rule).bytes ∙ bytes_due run j apart is rule)

-- ---- what a summary counts

abbrev pub sent_at : Translation → Frame → ℕ
sent_at t f = length (sent t.actions f.bytes)

abbrev pub dropped_at : Translation → Frame → ℕ
dropped_at t f = if length (sent t.actions f.bytes) == 0 then 1 else 0

abbrev pub one : Translation → Frame → ℕ
one t f = 1

decided_is : (o : Option Decision) → decided o ≡ actions_in o
decided_is None = refl
decided_is (Some d) = refl

module _ (run : Run) (journals : List Journal) (apart : HasEditsApart run) (whole : AreWhole run journals) where
  -- what is made of the pieces of each frame
  module _ (made : List Piece → ℕ) where
    of_pieces : (j : Journal) → IsWhole run j
        → sum_by (λ place. made (pieces_of run j place)) (places_of run j) ≡ over_places (λ t f. made (sent t.actions f.bytes)) run j.port
    of_pieces j is =
        sum_range (λ place. made (pieces_of run j place)) (at_place (λ t f. made (sent t.actions f.bytes)) run j.port) 1 (length (frames_of run j.port))
        (λ place first last. ap (λ (actions : List DpAction). made (sent actions (frame_at run j.port place).bytes))
        (decided_is (decision_of run j.port j.steps place) ∙ decides run j apart is place first (omega (arith, last))))

  pub sent_are : sent_count run journals ≡ over_run sent_at run
  sent_are = by_journals sent_at (sent_by run) run journals whole (of_pieces length)

  pub dropped_are : dropped_count run journals ≡ over_run dropped_at run
  dropped_are = by_journals dropped_at (dropped_by run) run journals whole (of_pieces (λ pieces. if length pieces == 0 then 1 else 0))

-- each frame counts once
ones : (from n : ℕ) → sum_by (λ (place : ℕ). 1) (range_with_len from n) ≡ n
ones from zero = refl
ones from (suc n) =
    let a = sum_by-cons (λ (place : ℕ). 1) from (range_with_len (from + 1) n) in let rest = ones (from + 1) n in omega (arith, a, rest)

pub frames_are : (run : Run) → frame_count run ≡ over_run one run
frames_are run = sum_alike (λ port. length (frames_of run port)) (over_places one run) run.ports (λ port. sym (ones 1 (length (frames_of run port))))
