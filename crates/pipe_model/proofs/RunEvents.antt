-- What one action of a list adds to the notes, and one lookup.
use Rattle.std.proofs.Common.{◌≡◌, ◌⊎◌, inl, inr, ℕ, zero, suc, ◌+◌, ◌-◌, ◌<◌, ◌≤◌, List, [], ◌∷◌, length, get_or, drop, fold, Option, Some, None, refl, sym, ap, ap₂, ◌∙◌, arith}
use Rattle.std.proofs.lemmas.List.{drop_more, drop_all}
use Rattle.std.proofs.lemmas.List.Sums.{fold-append}
use Rattle.spec_actions.specs.declared.action.OfAction.{OfAction}
use Rattle.spec_actions.specs.declared.action.OfAction.TheVariants.{Output, OutputField, InPort, All, Flood, Resubmit, Goto, Set, Move, DecTtl, PushVlan, PopVlan, SetVid, SetPcp}
use Rattle.spec_tables.specs.Rules.{Rule, winner}
use Rattle.spec_xlate.specs.Translation.{Switch, State, Mode, deepest, act, look, with_lookups_left}
use Rattle.spec_xlate.specs.Translation.Mode.{Going, ListEnded, Stopped}
use Rattle.pipe_model.specs.Events.{Event, act_events, in_mode_events, run_events, while_going_events, follow_events, enter_events, look_events}
use Rattle.pipe_model.specs.Events.Event.{Looked, Acted}
use Rattle.pipe_model.specs.States.{visiting}
use Rattle.pipe_model.proofs.Looking.{before}

-- an action that leads to no lookup is one event
pub acted-one : (sub : ℕ → State → List Event) (a : OfAction) (s : State)
    → ((table : ℕ) → a ≡ Resubmit table → ⊥) → ((table : ℕ) → a ≡ Goto table → ⊥) → Acted a s.current ∷ [] ≡ act_events sub a s
unfolding act_events
acted-one sub (Output n) s not_resubmit not_goto = refl
acted-one sub (OutputField slice) s not_resubmit not_goto = refl
acted-one sub InPort s not_resubmit not_goto = refl
acted-one sub All s not_resubmit not_goto = refl
acted-one sub Flood s not_resubmit not_goto = refl
acted-one sub (Resubmit table) s not_resubmit not_goto = absurd (not_resubmit table refl)
acted-one sub (Goto table) s not_resubmit not_goto = absurd (not_goto table refl)
acted-one sub (Set name value mask) s not_resubmit not_goto = refl
acted-one sub (Move source target) s not_resubmit not_goto = refl
acted-one sub DecTtl s not_resubmit not_goto = refl
acted-one sub (PushVlan tpid) s not_resubmit not_goto = refl
acted-one sub PopVlan s not_resubmit not_goto = refl
acted-one sub (SetVid vid) s not_resubmit not_goto = refl
acted-one sub (SetPcp pcp) s not_resubmit not_goto = refl

-- ---- lists of actions

module _ {N : Type 0} (after : N → Event → N) (sw : Switch) (sub : ℕ → State → State) (events : ℕ → State → List Event) (actions : List OfAction) (i : ℕ) where
  pub run_events-end : (n : N) (s : State) → length actions ≤ i → fold after n (run_events sw sub events (drop i actions) s) ≡ n
  unfolding run_events
  run_events-end n s past = ap (λ (z : List OfAction). fold after n (run_events sw sub events z s)) (drop_all i actions past)

  run_events-step : (d : OfAction) (n : N) (s : State) → i < length actions
      → fold after n (run_events sw sub events (drop i actions) s)
      ≡ fold after (fold after n (act_events events (get_or actions i d) s)) (while_going_events (run_events sw sub events (drop (i + 1) actions)) (act sw sub (get_or actions i d) s))
  unfolding run_events
  run_events-step d n s within =
      ap (λ (z : List OfAction). fold after n (run_events sw sub events z s)) (drop_more actions i d within)
      ∙ fold-append after n (act_events events (get_or actions i d) s) (while_going_events (run_events sw sub events (drop (i + 1) actions)) (act sw sub (get_or actions i d) s))

  -- the next action, after which the list goes on
  pub run_events-on : (d : OfAction) (n n' : N) (s t : State) → i < length actions → t ≡ act sw sub (get_or actions i d) s → n' ≡ fold after n (act_events events (get_or actions i d) s) → t.mode ≡ Going
      → fold after n' (run_events sw sub events (drop (i + 1) actions) t) ≡ fold after n (run_events sw sub events (drop i actions) s)
  run_events-on d n n' s t within acted noted going =
      ap (λ (z : Mode). fold after n' (in_mode_events z (run_events sw sub events (drop (i + 1) actions)) t)) (sym going)
      ∙ ap₂ (λ (z : N) (u : State). fold after z (while_going_events (run_events sw sub events (drop (i + 1) actions)) u)) noted acted
      ∙ sym (run_events-step d n s within)

  ended : (mode : Mode) (rest : State → List Event) (n : N) (t : State) → (mode ≡ Going → ⊥) → n ≡ fold after n (in_mode_events mode rest t)
  ended Going rest n t other = absurd (other refl)
  ended ListEnded rest n t other = refl
  ended Stopped rest n t other = refl

  -- the next action, after which it doesn't
  pub run_events-off : (d : OfAction) (n n' : N) (s t : State) → i < length actions → t ≡ act sw sub (get_or actions i d) s → n' ≡ fold after n (act_events events (get_or actions i d) s) → (t.mode ≡ Going → ⊥)
      → n' ≡ fold after n (run_events sw sub events (drop i actions) s)
  run_events-off d n n' s t within acted noted other =
      ended t.mode (run_events sw sub events (drop (i + 1) actions)) n' t other
      ∙ ap₂ (λ (z : N) (u : State). fold after z (while_going_events (run_events sw sub events (drop (i + 1) actions)) u)) noted acted
      ∙ sym (run_events-step d n s within)

-- ---- lookups

module _ {N : Type 0} (after : N → Event → N) (sw : Switch) (depths table : ℕ) where
  pub look_events-none : (n : N) (s : State) → (depths ≡ 0) ⊎ (s.lookups_left ≡ 0) → n ≡ fold after n (look_events sw depths table s)
  unfolding look_events
  look_events-none n s h = by_depths depths h
    where
      by_depths : (d : ℕ) → (d ≡ 0) ⊎ (s.lookups_left ≡ 0) → n ≡ fold after n (look_events sw d table s)
      by_depths zero h = refl
      by_depths (suc d) (inl e) = absurd (omega arith)
      by_depths (suc d) (inr e) = sym (ap (λ (l : ℕ). fold after n (enter_events sw (look sw d) (look_events sw d) (deepest - d) table l s)) e)

  look_events-one : (n : N) (s : State) (won : Option Rule) → 0 < depths → 0 < s.lookups_left → winner (sw.tables table) s.current ≡ won
      → fold after n (look_events sw depths table s)
      ≡ fold after (after n (Looked (deepest - (depths - 1)) table (sw.tables table) s.current)) (follow_events sw (look sw (depths - 1)) (look_events sw (depths - 1)) won (with_lookups_left (s.lookups_left - 1) s))
  unfolding look_events
  look_events-one n s won deep left wins =
      ap (λ (d : ℕ). fold after n (look_events sw d table s)) (before depths deep)
      ∙ ap (λ (l : ℕ). fold after n (enter_events sw (look sw (depths - 1)) (look_events sw (depths - 1)) (deepest - (depths - 1)) table l s)) (before s.lookups_left left)
      ∙ ap (λ (w : Option Rule). fold after (after n (Looked (deepest - (depths - 1)) table (sw.tables table) s.current)) (follow_events sw (look sw (depths - 1)) (look_events sw (depths - 1)) w (with_lookups_left (s.lookups_left - 1) s))) wins

  -- no rule was found
  pub look_events-nothing : (n n' : N) (s : State) → 0 < depths → 0 < s.lookups_left → winner (sw.tables table) s.current ≡ None
      → n' ≡ after n (Looked (deepest - (depths - 1)) table (sw.tables table) s.current) → n' ≡ fold after n (look_events sw depths table s)
  look_events-nothing n n' s deep left wins noted = noted ∙ sym (look_events-one n s None deep left wins)

  -- a rule was found and visited, and its actions were run
  pub look_events-found : (n n' n'' : N) (s : State) (r : Rule) (number : ℕ) (actions : List OfAction) (u : State) → 0 < depths → 0 < s.lookups_left
      → winner (sw.tables table) s.current ≡ Some r → r.number ≡ number → r.actions ≡ actions → u ≡ visiting number (with_lookups_left (s.lookups_left - 1) s)
      → n' ≡ after n (Looked (deepest - (depths - 1)) table (sw.tables table) s.current) → n'' ≡ fold after n' (run_events sw (look sw (depths - 1)) (look_events sw (depths - 1)) actions u)
      → n'' ≡ fold after n (look_events sw depths table s)
  look_events-found n n' n'' s r number actions u deep left wins its_number its_actions seen noted ran =
      ran
      ∙ ap₂ (λ (xs : List OfAction) (v : State). fold after n' (run_events sw (look sw (depths - 1)) (look_events sw (depths - 1)) xs v)) (sym its_actions)
      (seen ∙ ap (λ (m : ℕ). visiting m (with_lookups_left (s.lookups_left - 1) s)) (sym its_number))
      ∙ ap (λ (z : N). fold after z (follow_events sw (look sw (depths - 1)) (look_events sw (depths - 1)) (Some r) (with_lookups_left (s.lookups_left - 1) s))) noted
      ∙ sym (look_events-one n s (Some r) deep left wins)
