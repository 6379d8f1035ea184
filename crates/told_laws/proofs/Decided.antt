-- What whole journals decide of a frame under the tables that all edits make.
use Rattle.std.proofs.Common.{◌≡◌, ◌⊎◌, inl, inr, ℕ, suc, ◌≤◌, ◌<◌, ◌||◌, ◌==◌, Bool, true, false, if◌then◌else◌, List, [], ◌∷◌, length, map, All, Option, Some, None, refl, sym, ap, ◌∙◌, subst, arith}
use Rattle.std.specs.List.{find, list_any}
use Rattle.std.specs.Option.{option_map}
use Rattle.std.proofs.lemmas.Bool.{cases_lt, eqb-true}
use Rattle.std.proofs.lemmas.List.Elements.{All-head, All-tail}
use Rattle.spec_pcap.specs.Pcap.{Capture}
use Rattle.spec_actions.specs.declared.action.DpAction.{DpAction}
use Rattle.spec_case.specs.Run.{Run, last_version, frames_in, frames_of}
use Rattle.spec_case.specs.Blocks.{hi, block_of}
use Rattle.spec_board.specs.Results.{key_at, translated}
use Rattle.spec_board.specs.Journals.{opened}
use Rattle.spec_board.specs.Decisions.{Decision, decisions, decisions_from, decision_of, is_of}
use Rattle.spec_board.specs.Texts.{Journal}
use Rattle.spec_run.specs.Journals.{IsWhole, AreWhole, IsByLastVersion, steps_in, actions_in, actions_for}
use Rattle.spec_tools.specs.Classes.{done}
use Rattle.board_laws.proofs.ListLaws.{find-some}
use Rattle.board_laws.proofs.ByLastVersions.{decisions_within}
use Rattle.told_laws.specs.Runs.{last_switch, AreByAllEdits}

-- The place is one of the port's trace.
abbrev pub IsWithin : Run → ℕ → ℕ → Type 0
IsWithin run port place = (1 ≤ place) × (place ≤ length (frames_of run port))

pub is_within : (run : Run) (port place : ℕ) → IsWithin run port place ⊎ (IsWithin run port place → ⊥)
is_within run port place = at (cases_lt place 1) (cases_lt (length (frames_of run port)) place)
  where
    at : (place < 1) ⊎ (1 ≤ place) → (length (frames_of run port) < place) ⊎ (place ≤ length (frames_of run port)) → IsWithin run port place ⊎ (IsWithin run port place → ⊥)
    at (inl less) last = inr (λ is. let first = is.0 in omega (arith, less, first))
    at (inr first) (inl more) = inr (λ is. let last = is.1 in omega (arith, more, last))
    at (inr first) (inr last) = inl (first, last)

-- a port with a frame is among the ports
pub has_port : (ports : List ℕ) (traces : List Capture) (port : ℕ) → 1 ≤ length (frames_in ports traces port) → list_any (λ p. p == port) ports ≡ true
unfolding frames_in
has_port [] traces port some = absurd (omega (arith, some))
has_port (p ∷ ps) [] port some = absurd (omega (arith, some))
has_port (p ∷ ps) (t ∷ ts) port some = at (p == port) some (has_port ps ts port)
  where
    at : (is : Bool) → 1 ≤ length (if is then t.frames else frames_in ps ts port)
        → (1 ≤ length (frames_in ps ts port) → list_any (λ p. p == port) ps ≡ true)
        → (is || list_any (λ p. p == port) ps) ≡ true
    at true some others = refl
    at false some others = others some

-- the journal of a port
record Found (run : Run) (journals : List Journal) (port : ℕ) : Type 0 where
  journal : Journal
  is : find (λ (j : Journal). j.port == port) journals ≡ Some journal
  of_port : journal.port ≡ port
  whole : IsWhole run journal
  by_last : IsByLastVersion run journal

found : (run : Run) (journals : List Journal) (port : ℕ) → All (IsWhole run) journals → All (IsByLastVersion run) journals
    → list_any (λ p. p == port) (map (λ (j : Journal). j.port) journals) ≡ true → Found run journals port
found run [] port whole by_last there = absurd (cc there)
found run (j ∷ journals) port whole by_last there =
    at (j.port == port) refl there (found run journals port (All-tail (IsWhole run) j journals whole) (All-tail (IsByLastVersion run) j journals by_last))
  where
    at : (t : Bool) → (j.port == port) ≡ t → (t || list_any (λ p. p == port) (map (λ (j : Journal). j.port) journals)) ≡ true
        → (list_any (λ p. p == port) (map (λ (j : Journal). j.port) journals) ≡ true → Found run journals port) → Found run (j ∷ journals) port
    at true e there others = record {
      journal = j;
      is = rw e refl;
      of_port = eqb-true j.port port e;
      whole = All-head (IsWhole run) j journals whole;
      by_last = All-head (IsByLastVersion run) j journals by_last;
    }
    at false e there others =
        let o = others there in
        record { journal = o.journal; is = rw e o.is; of_port = o.of_port; whole = o.whole; by_last = o.by_last }

-- what one journal decides
decides : (run : Run) (j : Journal) → IsWhole run j → IsByLastVersion run j → (place : ℕ) → 1 ≤ place → place ≤ length (frames_of run j.port)
    → actions_in (decision_of run j.port j.steps place) ≡ (translated run (hi run (block_of run j.port place)) (key_at run j.port place)).actions
decides run j whole by_last place first last =
    let d = whole.decided place first last in
    let same = sym (ap (option_map (λ (x : Decision). x.version)) d.is_decision) ∙ by_last place first last in
    let version : d.decision.version ≡ hi run (block_of run j.port place) = cc same in
    ap actions_in d.is_decision ∙ d.plain ∙ ap (λ v. (translated run v (key_at run j.port place)).actions) version

module _ (run : Run) (journals : List Journal) (are : AreByAllEdits run journals) where
  -- of a frame
  pub decided_within : (port place : ℕ) → IsWithin run port place → actions_for run journals port place ≡ done (last_switch run) (key_at run port place)
  decided_within port place is =
      let some : 1 ≤ length (frames_of run port) = (let first = is.0 in let last = is.1 in omega (arith, first, last)) in
      let f = found run journals port are.whole.each are.by_last (ap (list_any (λ p. p == port)) are.whole.of_ports ∙ has_port run.ports run.traces port some) in
      ap (λ o. actions_in (decision_of run port (steps_in o) place)) f.is
      ∙ subst (λ p. actions_in (decision_of run p f.journal.steps place) ≡ (translated run (hi run (block_of run p place)) (key_at run p place)).actions) f.of_port
      (decides run f.journal f.whole f.by_last place is.0 (subst (λ p. place ≤ length (frames_of run p)) (sym f.of_port) is.1))
      ∙ ap (λ v. (translated run v (key_at run port place)).actions) (are.first port place is.0 is.1)

-- what is no frame isn't decided
steps_beyond : (run : Run) (port place : ℕ) (j : Journal) → j.port ≡ port → (IsWithin run port place → ⊥) → actions_in (decision_of run j.port j.steps place) ≡ []
steps_beyond run port place j of_port beyond = at (decision_of run j.port j.steps place) refl
  where
    at : (o : Option Decision) → decision_of run j.port j.steps place ≡ o → actions_in o ≡ []
    at None is = refl
    at (Some d) is =
        let seen = find-some (is_of place) (decisions run j.port j.steps) d is in
        let same = eqb-true d.place place seen.1 in
        let within = decisions_within run j.port [] j.steps (opened run j.port) d refl seen.0 in
        absurd (beyond (subst (λ (p : ℕ). IsWithin run p place) of_port (omega (arith, same, within.0), omega (arith, same, within.1))))

nothing_beyond : (run : Run) (port place : ℕ) → actions_in (decision_of run port [] place) ≡ []
unfolding decisions_from
nothing_beyond run port place = refl

pub decided_beyond : (run : Run) (journals : List Journal) (port place : ℕ) → (IsWithin run port place → ⊥) → actions_for run journals port place ≡ []
decided_beyond run journals port place beyond = at (find (λ (j : Journal). j.port == port) journals) refl
  where
    at : (o : Option Journal) → find (λ (j : Journal). j.port == port) journals ≡ o → actions_in (decision_of run port (steps_in o) place) ≡ []
    at None is = nothing_beyond run port place
    at (Some j) is =
        let of_port = eqb-true j.port port (find-some (λ (x : Journal). x.port == port) journals j is).1 in
        subst (λ (p : ℕ). actions_in (decision_of run p j.steps place) ≡ []) of_port (steps_beyond run port place j of_port beyond)
