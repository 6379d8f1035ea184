-- One action of a list, and one lookup.
use Rattle.std.proofs.Common.{IsTrue, [], ◌∷◌, ◌≡◌, ◌⊎◌, inl, inr, ℕ, zero, suc, true, ◌+◌, ◌-◌, ◌<◌, ◌≤◌, List, length, get_or, drop, Option, Some, None, refl, sym, ap, ap₂, ◌∙◌, arith}
use Rattle.std.specs.List.{list_all}
use Rattle.std.proofs.lemmas.Bool.{and_parts}
use Rattle.std.proofs.lemmas.List.{drop_more, drop_all}
use Rattle.spec_actions.specs.declared.action.OfAction.{OfAction}
use Rattle.spec_actions.specs.declared.action.OfAction.TheVariants.{Output, OutputField, InPort, All, Flood, Resubmit, Goto, Set, Move, DecTtl, PushVlan, PopVlan, SetVid, SetPcp}
use Rattle.spec_actions.specs.Sound.{is_sound, AreSound}
use Rattle.spec_tables.specs.Rules.{Rule, winner}
use Rattle.spec_xlate.specs.Translation.{Switch, State, Mode, stopped, output, act, run, while_going, in_mode, resumed, follow, with_lookups_left, enter, look}
use Rattle.spec_xlate.specs.Translation.Mode.{Going, ListEnded, Stopped}
use Rattle.pipe_model.specs.States.{is_going, visiting, stepped}

-- an action of a list of sound ones
pub sound_at : (actions : List OfAction) (i : ℕ) (d : OfAction) → i < length actions → AreSound actions → IsTrue (is_sound (get_or actions i d))
sound_at [] i d within sound = absurd (omega (arith, within))
sound_at (a ∷ actions) zero d within sound = (and_parts (is_sound a) (list_all is_sound actions) sound).0
sound_at (a ∷ actions) (suc i) d within sound = sound_at actions i d (omega (arith, within)) (and_parts (is_sound a) (list_all is_sound actions) sound).1

-- an action that leads to no lookup does the same whatever lookups do
pub stepped-act : (sw : Switch) (sub : ℕ → State → State) (a : OfAction) (s : State)
    → ((table : ℕ) → a ≡ Resubmit table → ⊥) → ((table : ℕ) → a ≡ Goto table → ⊥) → stepped sw.ports a s ≡ act sw sub a s
unfolding act output
stepped-act sw sub (Output n) s not_resubmit not_goto = refl
stepped-act sw sub (OutputField slice) s not_resubmit not_goto = refl
stepped-act sw sub InPort s not_resubmit not_goto = refl
stepped-act sw sub All s not_resubmit not_goto = refl
stepped-act sw sub Flood s not_resubmit not_goto = refl
stepped-act sw sub (Resubmit table) s not_resubmit not_goto = absurd (not_resubmit table refl)
stepped-act sw sub (Goto table) s not_resubmit not_goto = absurd (not_goto table refl)
stepped-act sw sub (Set name value mask) s not_resubmit not_goto = refl
stepped-act sw sub (Move source target) s not_resubmit not_goto = refl
stepped-act sw sub DecTtl s not_resubmit not_goto = refl
stepped-act sw sub (PushVlan tpid) s not_resubmit not_goto = refl
stepped-act sw sub PopVlan s not_resubmit not_goto = refl
stepped-act sw sub (SetVid vid) s not_resubmit not_goto = refl
stepped-act sw sub (SetPcp pcp) s not_resubmit not_goto = refl

-- ---- lists of actions

pub going_from-test : (m : Mode) → is_going m ≡ true → m ≡ Going
going_from-test Going e = refl
going_from-test ListEnded e = absurd (cc e)
going_from-test Stopped e = absurd (cc e)

pub test_from-going : (m : Mode) → m ≡ Going → is_going m ≡ true
test_from-going m e = ap is_going e

module _ (sw : Switch) (sub : ℕ → State → State) (actions : List OfAction) (i : ℕ) where
  pub run-end : (s : State) → length actions ≤ i → run sw sub (drop i actions) s ≡ s
  unfolding run
  run-end s past = ap (λ (z : List OfAction). run sw sub z s) (drop_all i actions past)

  run-step : (d : OfAction) (s : State) → i < length actions → run sw sub (drop i actions) s ≡ while_going (run sw sub (drop (i + 1) actions)) (act sw sub (get_or actions i d) s)
  unfolding run
  run-step d s within = ap (λ (z : List OfAction). run sw sub z s) (drop_more actions i d within)

  -- the next action, after which the list goes on
  pub run-on : (d : OfAction) (s t : State) → i < length actions → t ≡ act sw sub (get_or actions i d) s → t.mode ≡ Going → run sw sub (drop (i + 1) actions) t ≡ run sw sub (drop i actions) s
  run-on d s t within acted going =
      ap (λ (m : Mode). in_mode m (run sw sub (drop (i + 1) actions)) t) (sym going)
      ∙ ap (while_going (run sw sub (drop (i + 1) actions))) acted ∙ sym (run-step d s within)

  ended : (m : Mode) (rest : State → State) (t : State) → (m ≡ Going → ⊥) → t ≡ in_mode m rest t
  ended Going rest t other = absurd (other refl)
  ended ListEnded rest t other = refl
  ended Stopped rest t other = refl

  -- the next action, after which it doesn't
  pub run-off : (d : OfAction) (s t : State) → i < length actions → t ≡ act sw sub (get_or actions i d) s → (t.mode ≡ Going → ⊥) → t ≡ run sw sub (drop i actions) s
  run-off d s t within acted other =
      ended t.mode (run sw sub (drop (i + 1) actions)) t other
      ∙ ap (while_going (run sw sub (drop (i + 1) actions))) acted ∙ sym (run-step d s within)

-- ---- lookups

-- a number that is not 0 is one more than the number before
pub before : (n : ℕ) → 0 < n → n ≡ suc (n - 1)
before n above = omega arith

pub look-none : (sw : Switch) (depths table : ℕ) (s : State) → (depths ≡ 0) ⊎ (s.lookups_left ≡ 0) → look sw depths table s ≡ stopped s
unfolding look
look-none sw zero table s h = refl
look-none sw (suc depths) table s (inl e) = absurd (omega arith)
look-none sw (suc depths) table s (inr e) = ap (λ (n : ℕ). enter sw (look sw depths) table n s) e

look-one : (sw : Switch) (depths table : ℕ) (s : State) (won : Option Rule) → 0 < depths → 0 < s.lookups_left → winner (sw.tables table) s.current ≡ won
    → look sw depths table s ≡ follow sw (look sw (depths - 1)) won (with_lookups_left (s.lookups_left - 1) s)
unfolding look
look-one sw depths table s won deep left wins =
    ap (λ (n : ℕ). look sw n table s) (before depths deep)
    ∙ ap (λ (n : ℕ). enter sw (look sw (depths - 1)) table n s) (before s.lookups_left left)
    ∙ ap (λ (w : Option Rule). follow sw (look sw (depths - 1)) w (with_lookups_left (s.lookups_left - 1) s)) wins

-- no rule was found
pub look-nothing : (sw : Switch) (depths table : ℕ) (s : State) → 0 < depths → 0 < s.lookups_left → winner (sw.tables table) s.current ≡ None
    → with_lookups_left (s.lookups_left - 1) s ≡ look sw depths table s
look-nothing sw depths table s deep left wins = sym (look-one sw depths table s None deep left wins)

-- a rule was found and visited, and its actions were run
pub look-found : (sw : Switch) (depths table : ℕ) (s : State) (r : Rule) (number : ℕ) (actions : List OfAction) (u t : State) → 0 < depths → 0 < s.lookups_left
    → winner (sw.tables table) s.current ≡ Some r → r.number ≡ number → r.actions ≡ actions → u ≡ visiting number (with_lookups_left (s.lookups_left - 1) s)
    → t ≡ run sw (look sw (depths - 1)) actions u → resumed t ≡ look sw depths table s
look-found sw depths table s r number actions u t deep left wins its_number its_actions seen ran =
    ap resumed (ran
    ∙ ap₂ (λ (xs : List OfAction) (v : State). run sw (look sw (depths - 1)) xs v) (sym its_actions)
    (seen ∙ ap (λ (n : ℕ). visiting n (with_lookups_left (s.lookups_left - 1) s)) (sym its_number)))
    ∙ sym (look-one sw depths table s (Some r) deep left wins)
