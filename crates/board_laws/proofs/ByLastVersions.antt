-- What a whole journal decides, under the last version of each block.
use Rattle.std.proofs.Common.{◌≡◌, ◌⊎◌, inl, inr, ℕ, ◌-◌, ◌*◌, ◌<◌, ◌≤◌, ◌==◌, true, false, if◌then◌else◌, List, [], ◌∷◌, ◌++◌, length, map, count_by, Option, Some, None, refl, sym, ap, ◌∙◌, subst, arith}
use Rattle.std.specs.List.{sum_by}
use Rattle.std.specs.Option.{option_map, option_map_or}
use Rattle.std.proofs.lemmas.Bool.{cases_lt, cases_eq, eq-eqb, eqb-true, ne_eqb, false≢true}
use Rattle.std.proofs.lemmas.List.{get_or_past}
use Rattle.std.proofs.lemmas.List.Sums.{sum_by-cons}
use Rattle.spec_case.specs.Run.{Run, frame_at, frames_of}
use Rattle.spec_case.specs.Blocks.{lo, hi, block_of}
use Rattle.spec_board.specs.Steps.{Step}
use Rattle.spec_board.specs.State.{Place, Waiting, Pending, Decided, State, place_at, is_decided}
use Rattle.spec_board.specs.Results.{key_at, translated}
use Rattle.spec_board.specs.Effects.{effect}
use Rattle.spec_board.specs.Journals.{after, opened}
use Rattle.spec_board.specs.Decisions.{Decision, decided_place, decision_as, decision_at, decisions_from, decisions, is_of, decision_of, decides, times_decided, IsDecided, visits_of, due_packets, due_bytes}
use Rattle.spec_board.specs.Texts.{Journal}
use Rattle.spec_run.specs.Journals.{HasEditsApart, IsWhole, IsByLastVersion, actions_in}
use Rattle.table_laws.proofs.MemberLaws.{Among, Among-append}
use Rattle.board_laws.proofs.Journals.{after_step}
use Rattle.board_laws.proofs.PlaceLaws.{at_there}
use Rattle.board_laws.proofs.Places.{all_places}
use Rattle.board_laws.proofs.Passing.{count_append, found_counts, only_found, none_counts, none_found, found_passes, count_mapped, sum_through, times, same_sums}

-- ---- which places are decided

-- a decided place is one of the board's
module _ (s : State) (place : ℕ) (is : is_decided (place_at place s) ≡ true) where
  decided_from : 1 ≤ place
  decided_from = by_cases (cases_eq place 0)
    where
      by_cases : (place ≡ 0) ⊎ (place ≡ 0 → ⊥) → 1 ≤ place
      by_cases (inl e) = absurd (false≢true (ap (λ i. is_decided (place_at i s)) (sym e) ∙ is))
      by_cases (inr n) = omega (arith, n)

  decided_upto : place ≤ length s.places
  decided_upto = by_cases (cases_lt (length s.places) place)
    where
      by_cases : (length s.places < place) ⊎ (place ≤ length s.places) → place ≤ length s.places
      by_cases (inl l) = absurd (false≢true (ap is_decided (sym (at_there s.places place decided_from ∙ get_or_past s.places (place - 1) Waiting (omega (arith, l)))) ∙ is))
      by_cases (inr r) = r

-- The place of a decision is one of the port's trace.
abbrev pub IsWithin : Run → ℕ → ℕ → Type 0
IsWithin run port place = (1 ≤ place) × (place ≤ length (frames_of run port))

module _ (run : Run) (port : ℕ) where
  decision_within : (s t : State) (o : Option ℕ) (d : Decision) → length t.places ≡ length (frames_of run port) → Among d (decision_at o s t) → IsWithin run port d.place
  decision_within s t None d count there = absurd there
  decision_within s t (Some place) d count there = at (place_at place t) refl there
    where
      at : (p : Place) → place_at place t ≡ p → Among d (decision_as place p s t) → IsWithin run port d.place
      at Waiting is there = absurd there
      at Pending is there = absurd there
      at (Decided v actions) is (inr none) = absurd none
      at (Decided v actions) is (inl e) =
          let same : d.place ≡ place = ap (λ (x : Decision). x.place) e in
          let last = decided_upto t place (ap is_decided is) in
          (omega (arith, same, decided_from t place (ap is_decided is)), omega (arith, same, last, count))

  pub decisions_within : (done steps : List Step) (s : State) (d : Decision) → s ≡ after run port done → Among d (decisions_from run port s steps) → IsWithin run port d.place
  unfolding decisions_from
  decisions_within done [] s d is there = absurd there
  decisions_within done (step ∷ steps) s d is there =
      let t = effect run port s step in
      let next : t ≡ after run port (done ++ step ∷ []) = ap (λ (x : State). effect run port x step) is ∙ sym (after_step run port done step) in
      let count : length t.places ≡ length (frames_of run port) = ap (λ (x : State). length x.places) next ∙ all_places run port (done ++ step ∷ []) in
      at t count (Among-append d (decision_at (decided_place step) s t) (decisions_from run port t steps) there) (decisions_within (done ++ step ∷ []) steps t d next)
    where
      at : (t : State) → length t.places ≡ length (frames_of run port) → Among d (decision_at (decided_place step) s t) ⊎ Among d (decisions_from run port t steps)
          → (Among d (decisions_from run port t steps) → IsWithin run port d.place) → IsWithin run port d.place
      at t count (inl first) others = decision_within s t (decided_place step) d count first
      at t count (inr later) others = others later

  -- no more are of a place than steps decide it
  decision_counts : (place : ℕ) (s t : State) (o : Option ℕ) → count_by (is_of place) (decision_at o s t) ≤ (if option_map_or (λ p. p == place) o false then 1 else 0)
  decision_counts place s t None = omega arith
  decision_counts place s t (Some p) = at (place_at p t)
    where
      at : (x : Place) → count_by (is_of place) (decision_as p x s t) ≤ (if p == place then 1 else 0)
      at Waiting = omega arith
      at Pending = omega arith
      at (Decided v actions) =
          let d : Decision = record { place = p; version = v; actions = actions; before = s; after = t } in
          let c = sum_by-cons (λ x. if is_of place x then 1 else 0) d [] in omega (arith, c)

  decisions_count : (place : ℕ) (s : State) (steps : List Step) → count_by (is_of place) (decisions_from run port s steps) ≤ times_decided steps place
  unfolding decisions_from
  decisions_count place s [] = omega arith
  decisions_count place s (step ∷ steps) =
      let t = effect run port s step in
      let a = count_append (is_of place) (decision_at (decided_place step) s t) (decisions_from run port t steps) in
      let first = decision_counts place s t (decided_place step) in
      let later = decisions_count place t steps in
      let c = sum_by-cons (λ x. if decides place x then 1 else 0) step steps in omega (arith, a, first, later, c)

-- ---- under the last version of each block

-- The steps decide each frame of the port, under the last version of its block.
pub record AreByLast (run : Run) (port : ℕ) (steps : List Step) : Type 0 where
  pub decided : (place : ℕ) → 1 ≤ place → place ≤ length (frames_of run port) → IsDecided run port steps place
  pub by_last : (place : ℕ) → 1 ≤ place → place ≤ length (frames_of run port)
      → option_map (λ (d : Decision). d.version) (decision_of run port steps place) ≡ Some (hi run (block_of run port place))

abbrev last_version_of : Run → ℕ → ℕ → ℕ
last_version_of run port place = hi run (block_of run port place)

module _ (run : Run) (port : ℕ) (steps : List Step) (are : AreByLast run port steps) where
  abbrev all : List Decision
  all = decisions run port steps

  within : (d : Decision) → Among d all → IsWithin run port d.place
  within d there = decisions_within run port [] steps (opened run port) d refl there

  count_within : (place : ℕ) → IsWithin run port place → count_by (is_of place) all ≡ 1
  count_within place is =
      let d = are.decided place is.0 is.1 in
      let most = decisions_count run port place (opened run port) steps in
      let some = found_counts (is_of place) d.decision all d.is_decision in
      omega (arith, most, some, d.once)

  other : (place : ℕ) → (IsWithin run port place → ⊥) → (d : Decision) → Among d all → is_of place d ≡ false
  other place not d there = ne_eqb d.place place (λ e. not (subst (IsWithin run port) e (within d there)))

  count_beyond : (place : ℕ) → (IsWithin run port place → ⊥) → count_by (is_of place) all ≡ 0
  count_beyond place not = none_counts (is_of place) all (other place not)

  version_is : (d : Decision) → Among d all → d.version ≡ last_version_of run port d.place
  version_is d there =
      let is = within d there in
      let found = only_found (is_of d.place) d all there (eq-eqb d.place d.place refl) (count_within d.place is) in
      let same = sym (ap (option_map (λ (x : Decision). x.version)) found) ∙ are.by_last d.place is.0 is.1 in
      cc same

  -- the actions of a frame
  actions_within : (place : ℕ) → IsWithin run port place
      → actions_in (decision_of run port steps place) ≡ (translated run (last_version_of run port place) (key_at run port place)).actions
  actions_within place is =
      let d = are.decided place is.0 is.1 in
      let same = sym (ap (option_map (λ (x : Decision). x.version)) d.is_decision) ∙ are.by_last place is.0 is.1 in
      let version : d.decision.version ≡ last_version_of run port place = cc same in
      ap actions_in d.is_decision ∙ d.plain ∙ ap (λ v. (translated run v (key_at run port place)).actions) version

  actions_beyond : (place : ℕ) → (IsWithin run port place → ⊥) → actions_in (decision_of run port steps place) ≡ []
  actions_beyond place not = ap actions_in (none_found (is_of place) all (other place not))

  -- what a rule is due, as a sum over the places
  abbrev visits_at : ℕ → ℕ → ℕ
  visits_at rule place = count_by (λ r. r == rule) (translated run (last_version_of run port place) (key_at run port place)).visits

  abbrev places : List ℕ
  places = map (λ (d : Decision). d.place) all

  packets_through : (rule : ℕ) → due_packets run port steps rule ≡ sum_by (visits_at rule) places
  packets_through rule =
      sum_through (λ (d : Decision). d.place) (visits_of run port rule) (visits_at rule) all
      (λ d there. ap (λ v. count_by (λ r. r == rule) (translated run v (key_at run port d.place)).visits) (version_is d there))

  bytes_through : (rule : ℕ) → due_bytes run port steps rule ≡ sum_by (λ place. visits_at rule place * length (frame_at run port place).bytes) places
  bytes_through rule =
      sum_through (λ (d : Decision). d.place) (λ d. visits_of run port rule d * length (frame_at run port d.place).bytes)
      (λ place. visits_at rule place * length (frame_at run port place).bytes) all
      (λ d there. ap (λ v. count_by (λ r. r == rule) (translated run v (key_at run port d.place)).visits * length (frame_at run port d.place).bytes) (version_is d there))

-- a place is one of the trace, or not
is_within : (run : Run) (port place : ℕ) → IsWithin run port place ⊎ (IsWithin run port place → ⊥)
is_within run port place = at (cases_lt place 1) (cases_lt (length (frames_of run port)) place)
  where
    at : (place < 1) ⊎ (1 ≤ place) → (length (frames_of run port) < place) ⊎ (place ≤ length (frames_of run port)) → IsWithin run port place ⊎ (IsWithin run port place → ⊥)
    at (inl less) last = inr (λ is. let first = is.0 in omega (arith, less, first))
    at (inr first) (inl more) = inr (λ is. let last = is.1 in omega (arith, more, last))
    at (inr first) (inr last) = inl (first, last)

-- ---- two lists of steps

module _ (run : Run) (port : ℕ) (a b : List Step) (of_a : AreByLast run port a) (of_b : AreByLast run port b) where
  pub same_actions : (place : ℕ) → actions_in (decision_of run port a place) ≡ actions_in (decision_of run port b place)
  same_actions place = at (is_within run port place)
    where
      at : IsWithin run port place ⊎ (IsWithin run port place → ⊥) → actions_in (decision_of run port a place) ≡ actions_in (decision_of run port b place)
      at (inl is) = actions_within run port a of_a place is ∙ sym (actions_within run port b of_b place is)
      at (inr not) = actions_beyond run port a of_a place not ∙ sym (actions_beyond run port b of_b place not)

  same_times : (place : ℕ) → times place (map (λ (d : Decision). d.place) (decisions run port a)) ≡ times place (map (λ (d : Decision). d.place) (decisions run port b))
  same_times place =
      count_mapped (λ (d : Decision). d.place) (λ m. m == place) (decisions run port a) ∙ at (is_within run port place)
      ∙ sym (count_mapped (λ (d : Decision). d.place) (λ m. m == place) (decisions run port b))
    where
      at : IsWithin run port place ⊎ (IsWithin run port place → ⊥) → count_by (is_of place) (decisions run port a) ≡ count_by (is_of place) (decisions run port b)
      at (inl is) = count_within run port a of_a place is ∙ sym (count_within run port b of_b place is)
      at (inr not) = count_beyond run port a of_a place not ∙ sym (count_beyond run port b of_b place not)

  pub same_packets : (rule : ℕ) → due_packets run port a rule ≡ due_packets run port b rule
  same_packets rule =
      packets_through run port a of_a rule
      ∙ same_sums (visits_at run port a of_a rule) (places run port a of_a) (places run port b of_b) same_times
      ∙ sym (packets_through run port b of_b rule)

  pub same_bytes : (rule : ℕ) → due_bytes run port a rule ≡ due_bytes run port b rule
  same_bytes rule =
      bytes_through run port a of_a rule
      ∙ same_sums (λ place. visits_at run port a of_a rule place * length (frame_at run port place).bytes) (places run port a of_a) (places run port b of_b) same_times
      ∙ sym (bytes_through run port b of_b rule)

-- ---- journals

pub of_journal : (run : Run) (j : Journal) → IsWhole run j → IsByLastVersion run j → AreByLast run j.port j.steps
of_journal run j whole by_last = record { decided = whole.decided; by_last = by_last }

-- where edits and frames are apart there is one version in each window
pub by_last_version : (run : Run) (j : Journal) → HasEditsApart run → IsWhole run j → IsByLastVersion run j
by_last_version run j apart whole place first last =
    let d = whole.decided place first last in
    let here : d.decision.place ≡ place = eqb-true d.decision.place place (found_passes (is_of place) d.decision (decisions run j.port j.steps) d.is_decision) in
    let low = subst (λ p. lo run (block_of run j.port p) ≤ d.decision.version) here d.window.from_block in
    let high = subst (λ p. d.decision.version ≤ hi run (block_of run j.port p)) here d.window.within_block in
    let one = apart j.port place first last in
    let version : d.decision.version ≡ last_version_of run j.port place = omega (arith, low, high, one) in
    ap (option_map (λ (x : Decision). x.version)) d.is_decision ∙ ap Some version
