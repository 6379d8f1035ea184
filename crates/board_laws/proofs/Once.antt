-- Each frame is decided by one step, as its translation under a version of its window says.
use Rattle.std.proofs.Common.{◌≡◌, ◌⊎◌, inl, inr, ℕ, ◌+◌, ◌==◌, true, false, if◌then◌else◌, List, [], ◌∷◌, ◌++◌, length, count_by, Some, refl, sym, ap, ◌∙◌, arith}
use Rattle.std.specs.List.{find}
use Rattle.std.specs.Option.{option_map_or}
use Rattle.std.proofs.lemmas.List.Sums.{sum_by-cons}
use Rattle.std.proofs.lemmas.Bool.{cases_eq, eq-eqb, ne_eqb, cond-true, cond-false, false≢true}
use Rattle.spec_actions.specs.declared.action.DpAction.{DpAction}
use Rattle.spec_base.specs.Machine as machine
use Rattle.spec_case.specs.Run.{Run, last_version, frames_of}
use Rattle.spec_case.specs.Blocks.{AreInOrder}
use Rattle.spec_board.specs.Steps.{Step}
use Rattle.spec_board.specs.State.{State, Decided, place_at, is_decided}
use Rattle.spec_board.specs.Results.{key_at, translated}
use Rattle.spec_board.specs.Effects.{effect}
use Rattle.spec_board.specs.Journals.{IsLegal, opened, after}
use Rattle.spec_board.specs.Decisions.{Decision, decided_place, decision_as, decision_at, decides, decisions_from, is_of, IsInWindow, IsDecided}
use Rattle.board_laws.specs.Entries.{HasKeys}
use Rattle.board_laws.proofs.PlaceLaws.{waiting_at}
use Rattle.board_laws.proofs.KeptInOrder.{AreTaken, all_taken}
use Rattle.board_laws.proofs.Told.{Silent, DecidesAs, Deciding, told}

pub decision_is : (run : Run) (port : ℕ) (s t : State) (step : Step) (place version : ℕ) (actions : List DpAction) → DecidesAs run port s t step place version actions
    → decision_at (decided_place step) s t ≡ record { place = place; version = version; actions = actions; before = s; after = t } ∷ []
decision_is run port s t step place version actions d = ap (λ o. decision_at o s t) d.is ∙ ap (λ p. decision_as place p s t) d.there

module _ (run : Run) (port place : ℕ) where
  -- the frame is decided once in these steps, from a state on
  record DecidedIn (s : State) (steps : List Step) : Type 0 where
    decision : Decision
    found : find (is_of place) (decisions_from run port s steps) ≡ Some decision
    times : count_by (decides place) steps ≡ 1
    last : place_at place (machine.after (effect run port) s steps) ≡ Decided decision.version decision.actions
    plain : decision.actions ≡ (translated run decision.version (key_at run port place)).actions
    window : IsInWindow run port decision

  -- what these steps do to a frame that is decided already, and to one that isn't
  record Tells (s : State) (steps : List Step) : Type 0 where
    stays : is_decided (place_at place s) ≡ true → (count_by (decides place) steps ≡ 0) × (place_at place (machine.after (effect run port) s steps) ≡ place_at place s)
    once : is_decided (place_at place s) ≡ false → is_decided (place_at place (machine.after (effect run port) s steps)) ≡ true → DecidedIn s steps

  -- how a step counts
  counts : (step : Step) (steps : List Step) → count_by (decides place) (step ∷ steps) ≡ (if decides place step then 1 else 0) + count_by (decides place) steps
  counts step steps = sum_by-cons (λ x. if decides place x then 1 else 0) step steps

  no_count : (step : Step) (steps : List Step) → decides place step ≡ false → count_by (decides place) (step ∷ steps) ≡ count_by (decides place) steps
  no_count step steps other = counts step steps ∙ (rw other (omega arith))

  one_count : (step : Step) (steps : List Step) → decides place step ≡ true → count_by (decides place) (step ∷ steps) ≡ 1 + count_by (decides place) steps
  one_count step steps it = counts step steps ∙ (rw it refl)

  silent_tells : (s : State) (step : Step) (steps : List Step) → Silent s (effect run port s step) step → Tells (effect run port s step) steps → Tells s (step ∷ steps)
  unfolding decisions_from
  silent_tells s step steps q tells = record {
    stays = λ h. let t = tells.stays (ap is_decided (q.same place h) ∙ h) in (no_count step steps no ∙ t.0, t.1 ∙ q.same place h);
    once = λ h l. let t = tells.once (q.still place h) l in record {
      decision = t.decision;
      found = ap (λ p. find (is_of place) (decision_at p s (effect run port s step) ++ decisions_from run port (effect run port s step) steps)) q.is ∙ t.found;
      times = no_count step steps no ∙ t.times;
      last = t.last;
      plain = t.plain;
      window = t.window;
    };
  }
    where
      no : decides place step ≡ false
      no = ap (λ p. option_map_or (λ x. x == place) p false) q.is

  module _ (s : State) (step : Step) (steps : List Step) (d : Deciding run port s (effect run port s step) step) where
    abbrev next : State
    next = effect run port s step

    abbrev it : Decision
    it = record { place = d.place; version = d.version; actions = d.actions; before = s; after = next }

    first_found : find (is_of place) (decisions_from run port s (step ∷ steps)) ≡ (if d.place == place then Some it else find (is_of place) (decisions_from run port next steps))
    unfolding decisions_from
    first_found = ap (λ l. find (is_of place) (l ++ decisions_from run port next steps)) (decision_is run port s next step d.place d.version d.actions d.decides)

    decides_is : decides place step ≡ (d.place == place)
    decides_is = ap (λ p. option_map_or (λ x. x == place) p false) d.decides.is

    -- it decides another frame
    other_tells : (place ≡ d.place → ⊥) → Tells next steps → Tells s (step ∷ steps)
    other_tells differ tells = record {
      stays = λ h. let t = tells.stays (ap is_decided same ∙ h) in (no_count step steps (decides_is ∙ other) ∙ t.0, t.1 ∙ same);
      once = λ h l. let t = tells.once (ap is_decided same ∙ h) l in record {
        decision = t.decision;
        found = first_found ∙ cond-false (d.place == place) (Some it) _ other ∙ t.found;
        times = no_count step steps (decides_is ∙ other) ∙ t.times;
        last = t.last;
        plain = t.plain;
        window = t.window;
      };
    }
      where
        same : place_at place next ≡ place_at place s
        same = d.decides.others place differ

        other : d.place == place ≡ false
        other = ne_eqb d.place place (λ e. differ (sym e))

    -- it decides this one
    itself_tells : place ≡ d.place → Tells next steps → Tells s (step ∷ steps)
    itself_tells is tells = record {
      stays = λ h. absurd (false≢true (sym (ap (λ i. is_decided (place_at i s)) is ∙ d.decides.undecided) ∙ h));
      once = λ _ _. let t = tells.stays (ap is_decided decided) in record {
        decision = it;
        found = first_found ∙ cond-true (d.place == place) (Some it) _ yes;
        times = one_count step steps (decides_is ∙ yes) ∙ (rw t.0 refl);
        last = t.1 ∙ decided;
        plain = d.decides.plain ∙ ap (λ i. (translated run d.version (key_at run port i)).actions) (sym is);
        window = d.decides.window;
      };
    }
      where
        decided : place_at place next ≡ Decided d.version d.actions
        decided = ap (λ i. place_at i next) is ∙ d.decides.there

        yes : d.place == place ≡ true
        yes = eq-eqb d.place place (sym is)

    deciding_tells : Tells next steps → Tells s (step ∷ steps)
    deciding_tells tells = by_cases (cases_eq place d.place)
      where
        by_cases : (place ≡ d.place) ⊎ (place ≡ d.place → ⊥) → Tells s (step ∷ steps)
        by_cases (inl e) = itself_tells e tells
        by_cases (inr n) = other_tells n tells

  module _ (limit : ℕ) where
    tells_all : (s : State) (steps : List Step) → AreTaken run port limit s steps → Tells s steps
    tells_all s [] taken = record { stays = λ _. (refl, refl); once = λ h l. absurd (false≢true (sym h ∙ l)) }
    tells_all s (step ∷ steps) taken = at (told run port limit s step taken.0) (tells_all (effect run port s step) steps taken.1)
      where
        at : Silent s (effect run port s step) step ⊎ Deciding run port s (effect run port s step) step → Tells (effect run port s step) steps → Tells s (step ∷ steps)
        at (inl q) t = silent_tells s step steps q t
        at (inr d) t = deciding_tells s step steps d t

    -- what a legal journal decided, as the state that it leads to has it
    pub decided_in : AreInOrder run.syncs (last_version run) → (steps : List Step) → IsLegal run port limit steps → HasKeys run port (after run port steps).next
        → is_decided (place_at place (after run port steps)) ≡ true
        → (d : IsDecided run port steps place) × (place_at place (after run port steps) ≡ Decided d.decision.version d.decision.actions)
    decided_in in_order steps legal keys is =
        let waits = ap is_decided (waiting_at (length (frames_of run port)) place) in
        let d = (tells_all (opened run port) steps (all_taken run port limit in_order steps legal keys)).once waits is in
        (record { decision = d.decision; is_decision = d.found; once = d.times; plain = d.plain; window = d.window }, d.last)
