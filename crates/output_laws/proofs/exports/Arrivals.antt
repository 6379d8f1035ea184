-- The frames that came in at a run's ports, and what its journals make of them.
use Rattle.std.proofs.Common.{◌≡◌, ℕ, ◌+◌, Bool, true, false, if◌then◌else◌, List, [], ◌∷◌, ◌⊎◌, inl, inr, ap}
use Rattle.spec_pcap.specs.Pcap.{Frame, Capture}
use Rattle.spec_case.specs.declared.arrival.Arrival.{Arrival}
use Rattle.spec_case.specs.Run.{Run}
use Rattle.spec_case.specs.Arrivals.{arrivals_at, arrivals_in, comes_before}
use Rattle.spec_board.specs.Texts.{Journal}
use Rattle.spec_netflow.specs.Flows.{came_in}
use Rattle.spec_run.specs.Journals.{AreWhole, actions_for}
use Rattle.table_laws.proofs.MemberLaws.{Among, Among-append, Among-sort_by, All-Among, All_from-Among}
use Rattle.board_laws.specs.Entries.{AreOfBytes}
use Rattle.netflow_laws.specs.Widths.{IsOfWidths, AreOfWidths}
use Rattle.output_laws.specs.Widths.{HasWidths}
use Rattle.output_laws.proofs.exports.Decided.{frame_bytes, actions_first}

-- ---- where they came in

at_port : (port place : ℕ) (frames : List Frame) (a : Arrival) → Among a (arrivals_at port place frames) → a.port ≡ port
unfolding arrivals_at
at_port port place [] a there = absurd there
at_port port place (f ∷ fs) a (inl is) = ap (λ (x : Arrival). x.port) is
at_port port place (f ∷ fs) a (inr more) = at_port port (place + 1) fs a more

at_some_port : (ports : List ℕ) (traces : List Capture) (a : Arrival) → Among a (arrivals_in ports traces) → Among a.port ports
unfolding arrivals_in
at_some_port [] traces a there = absurd there
at_some_port (p ∷ ps) [] a there = absurd there
at_some_port (p ∷ ps) (t ∷ ts) a there = at (Among-append a (arrivals_at p 1 t.frames) (arrivals_in ps ts) there) (at_some_port ps ts a)
  where
    at : Among a (arrivals_at p 1 t.frames) ⊎ Among a (arrivals_in ps ts) → (Among a (arrivals_in ps ts) → Among a.port ps) → Among a.port (p ∷ ps)
    at (inl here) others = inl (at_port p 1 t.frames a here)
    at (inr later) others = inr (others later)

-- ---- what is told of each

pub of_widths : (run : Run) (journals : List Journal) → HasWidths run → AreWhole run journals → AreOfWidths run (actions_for run journals)
of_widths run journals w whole = record { each = All_from-Among (IsOfWidths run (actions_for run journals)) (came_in run) each; few = w.few }
  where
    each : (a : Arrival) → Among a (came_in run) → IsOfWidths run (actions_for run journals) a
    each a there =
        let port = at_some_port run.ports run.traces a (Among-sort_by comes_before a _ there) in
        let of_port = All-Among (AreOfBytes run) run.ports w.each a.port port in
        record { bytes = frame_bytes run a.port a.place of_port; input = of_port.of_16_bits; output = actions_first run w journals whole a.port a.place }
