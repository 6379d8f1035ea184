-- What whole journals decide of the frame of a place, where no block has both edits and frames.
use Rattle.std.proofs.Common.{◌≡◌, ℕ, ◌≤◌, ◌==◌, Bool, true, false, if◌then◌else◌, List, [], ◌∷◌, length, map, All, Some, refl, sym, ap, ◌∙◌, subst, arith}
use Rattle.std.specs.Prelude.{◌||◌}
use Rattle.std.specs.List.{find, list_any}
use Rattle.std.specs.Option.{option_map}
use Rattle.std.proofs.lemmas.Bool.{eqb-true}
use Rattle.std.proofs.lemmas.List.Elements.{All-head, All-tail}
use Rattle.spec_pcap.specs.Pcap.{Capture}
use Rattle.spec_case.specs.Run.{Run, frames_in, frames_of}
use Rattle.spec_case.specs.Blocks.{hi, block_of}
use Rattle.spec_board.specs.Results.{key_at, translated}
use Rattle.spec_board.specs.Decisions.{Decision, decision_of}
use Rattle.spec_board.specs.Texts.{Journal}
use Rattle.spec_run.specs.Journals.{HasEditsApart, IsWhole, AreWhole, steps_in, actions_in, actions_for}
use Rattle.board_laws.proofs.ByLastVersions.{by_last_version}
use Rattle.output_laws.proofs.parts.Apart.{by_last}

-- a port with a frame is among the ports
has_port : (ports : List ℕ) (traces : List Capture) (port : ℕ) → 1 ≤ length (frames_in ports traces port) → list_any (λ p. p == port) ports ≡ true
unfolding frames_in
has_port [] traces port some = absurd (omega (arith, some))
has_port (p ∷ ps) [] port some = absurd (omega (arith, some))
has_port (p ∷ ps) (t ∷ ts) port some = at (p == port) some (has_port ps ts port)
  where
    at : (is : Bool) → 1 ≤ length (if is then t.frames else frames_in ps ts port)
        → (1 ≤ length (frames_in ps ts port) → list_any (λ p. p == port) ps ≡ true)
        → (is || list_any (λ p. p == port) ps) ≡ true
    at true some others = refl
    at false some others = others some

-- the journal of a port
record Found (run : Run) (journals : List Journal) (port : ℕ) : Type 0 where
  journal : Journal
  is : find (λ (j : Journal). j.port == port) journals ≡ Some journal
  of_port : journal.port ≡ port
  whole : IsWhole run journal

found : (run : Run) (journals : List Journal) (port : ℕ) → All (IsWhole run) journals
    → list_any (λ p. p == port) (map (λ (j : Journal). j.port) journals) ≡ true → Found run journals port
found run [] port whole there = absurd (cc there)
found run (j ∷ journals) port whole there = at (j.port == port) refl there (found run journals port (All-tail (IsWhole run) j journals whole))
  where
    at : (t : Bool) → (j.port == port) ≡ t → (t || list_any (λ p. p == port) (map (λ (j : Journal). j.port) journals)) ≡ true
        → (list_any (λ p. p == port) (map (λ (j : Journal). j.port) journals) ≡ true → Found run journals port) → Found run (j ∷ journals) port
    at true e there others = record {
      journal = j;
      is = rw e refl;
      of_port = eqb-true j.port port e;
      whole = All-head (IsWhole run) j journals whole;
    }
    at false e there others = let o = others there in record { journal = o.journal; is = rw e o.is; of_port = o.of_port; whole = o.whole }

-- a whole journal
pub decides : (run : Run) (j : Journal) → HasEditsApart run → IsWhole run j → (place : ℕ) → 1 ≤ place → place ≤ length (frames_of run j.port)
    → actions_in (decision_of run j.port j.steps place) ≡ (by_last run j.port place).actions
decides run j apart whole place first last =
    let d = whole.decided place first last in
    let same = sym (ap (option_map (λ (x : Decision). x.version)) d.is_decision) ∙ by_last_version run j apart whole place first last in
    let version : d.decision.version ≡ hi run (block_of run j.port place) = cc same in
    ap actions_in d.is_decision ∙ d.plain ∙ ap (λ v. (translated run v (key_at run j.port place)).actions) version

-- whole journals of all ports
pub actions_are : (run : Run) (journals : List Journal) → HasEditsApart run → AreWhole run journals
    → (port place : ℕ) → 1 ≤ place → place ≤ length (frames_of run port) → actions_for run journals port place ≡ (by_last run port place).actions
actions_are run journals apart whole port place first last =
    let f = found run journals port whole.each (ap (list_any (λ p. p == port)) whole.of_ports ∙ has_port run.ports run.traces port (omega (arith, first, last))) in
    ap (λ o. actions_in (decision_of run port (steps_in o) place)) f.is
    ∙ subst (λ p. actions_in (decision_of run p f.journal.steps place) ≡ (by_last run p place).actions) f.of_port
    (decides run f.journal apart f.whole place first (subst (λ p. place ≤ length (frames_of run p)) (sym f.of_port) last))
