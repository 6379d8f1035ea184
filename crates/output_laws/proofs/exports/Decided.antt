-- What whole journals decide of a frame is sent first to a port of 16 bits.
use Rattle.std.proofs.Common.{◌≡◌, ℕ, zero, suc, ◌-◌, ◌<◌, ◌^◌, ◌==◌, List, [], ◌∷◌, slice_index_or, All, Option, Some, None, refl, sym, ap, ◌∙◌, subst, arith}
use Rattle.std.specs.List.{find}
use Rattle.std.proofs.lemmas.Bool.{eqb-true}
use Rattle.spec_pcap.specs.Pcap.{Frame}
use Rattle.spec_actions.specs.declared.action.DpAction.{DpAction}
use Rattle.spec_case.specs.Run.{Run, frames_of, frame_at}
use Rattle.spec_board.specs.Results.{switch_at}
use Rattle.spec_board.specs.Journals.{opened}
use Rattle.spec_board.specs.Decisions.{Decision, decisions, decisions_from, decision_of, is_of}
use Rattle.spec_board.specs.Texts.{Journal}
use Rattle.spec_netflow.specs.Flows.{first_output}
use Rattle.spec_run.specs.Journals.{IsWhole, AreWhole, steps_in, actions_in, actions_for}
use Rattle.table_laws.proofs.MemberLaws.{Among, All-Among, Among_in-map}
use Rattle.board_laws.specs.Entries.{AreOfBytes}
use Rattle.board_laws.proofs.ListLaws.{find-some}
use Rattle.board_laws.proofs.ByLastVersions.{decisions_within}
use Rattle.output_laws.specs.Widths.{HasWidths}
use Rattle.output_laws.proofs.exports.Outputs.{first_small}

bytes_of_frame : (frames : List Frame) (i : ℕ) → All (λ (f : Frame). All (λ byte. byte < 256) f.bytes) frames
    → All (λ byte. byte < 256) (slice_index_or frames i (record { time = 0; bytes = [] })).bytes
bytes_of_frame [] i h = λ k d l. absurd (omega (arith, l))
bytes_of_frame (f ∷ fs) zero h = h 0 f (omega arith)
bytes_of_frame (f ∷ fs) (suc i) h = bytes_of_frame fs i (λ k d l. h (suc k) d (omega (arith, l)))

pub frame_bytes : (run : Run) (port place : ℕ) → AreOfBytes run port → All (λ byte. byte < 256) (frame_at run port place).bytes
frame_bytes run port place h = bytes_of_frame (frames_of run port) (place - 1) h.of_bytes

none_decided : (run : Run) (port place : ℕ) → decision_of run port [] place ≡ None
unfolding decisions_from
none_decided run port place = refl

module _ (run : Run) (w : HasWidths run) where
  ports_small : All (λ p. p < 2 ^ 16) run.ports
  ports_small k d within = (w.each k d within).of_16_bits

  -- nothing decided sends nothing
  nothing_first : (o : Option Decision) → o ≡ None → first_output (actions_in o) < 2 ^ 16
  unfolding first_output
  nothing_first o is = rw is (omega arith)

  decided_first : (j : Journal) → AreOfBytes run j.port → IsWhole run j → (place : ℕ) → first_output (actions_in (decision_of run j.port j.steps place)) < 2 ^ 16
  decided_first j of_port whole place = at (decision_of run j.port j.steps place) refl
    where
      at : (o : Option Decision) → decision_of run j.port j.steps place ≡ o → first_output (actions_in (decision_of run j.port j.steps place)) < 2 ^ 16
      at None is = nothing_first (decision_of run j.port j.steps place) is
      at (Some d) is =
          let found = find-some (is_of place) (decisions run j.port j.steps) d is in
          let same = eqb-true d.place place found.1 in
          let within = decisions_within run j.port [] j.steps (opened run j.port) d refl found.0 in
          let decided = whole.decided place (omega (arith, same, within.0)) (omega (arith, same, within.1)) in
          let plain = ap actions_in decided.is_decision ∙ decided.plain in
          subst (λ (actions : List DpAction). first_output actions < 2 ^ 16) (sym plain)
          (first_small (switch_at run decided.decision.version) j.port (frame_at run j.port place).bytes ports_small of_port.of_16_bits (frame_bytes run j.port place of_port))

  pub actions_first : (journals : List Journal) → AreWhole run journals → (port place : ℕ) → first_output (actions_for run journals port place) < 2 ^ 16
  actions_first journals whole port place = at (find (λ (j : Journal). j.port == port) journals) refl
    where
      at : (o : Option Journal) → find (λ (j : Journal). j.port == port) journals ≡ o → first_output (actions_in (decision_of run port (steps_in o) place)) < 2 ^ 16
      at None is = nothing_first (decision_of run port [] place) (none_decided run port place)
      at (Some j) is =
          let found = find-some (λ (x : Journal). x.port == port) journals j is in
          let same = eqb-true j.port port found.1 in
          let there : Among j.port run.ports = subst (λ (ps : List ℕ). Among j.port ps) whole.of_ports (Among_in-map (λ (x : Journal). x.port) j journals found.0) in
          let of_port = All-Among (AreOfBytes run) run.ports w.each j.port there in
          subst (λ (p : ℕ). first_output (actions_in (decision_of run p j.steps place)) < 2 ^ 16) same
          (decided_first j of_port (All-Among (IsWhole run) journals whole.each j found.0) place)
