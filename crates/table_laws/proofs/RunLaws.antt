-- Lists of actions and lookups keep two translations alike, where the first keys agree on what they consult.
use Rattle.std.proofs.Common.{◌≡◌, ℕ, zero, suc, List, [], ◌∷◌, ◌++◌, Option, Some, None, refl, sym, ap, ap₂, ◌∙◌, subst}
use Rattle.spec_keys.specs.declared.field_id.FieldId.TheVariants as field
use Rattle.spec_keys.specs.Keys.{value_of, IsKey}
use Rattle.spec_actions.specs.declared.action.OfAction.{OfAction}
use Rattle.spec_tables.specs.Rules.{Rule, winner}
use Rattle.spec_xlate.specs.Translation.{Switch, State, Mode, act, in_mode, run, mode_after, resumed, visited, follow, with_lookups_left, enter, look}
use Rattle.spec_xlate.specs.Translation.Mode.{Going, ListEnded, Stopped}
use Rattle.spec_xlate.specs.Lookup.{consults}
use Rattle.spec_xlate.specs.Consulted.{act_bits, in_mode_bits, run_bits, follow_bits, enter_bits, look_bits}
use Rattle.table_laws.proofs.KeyLaws.{SameBits, SameBits-append}
use Rattle.table_laws.proofs.ProbeLaws.{lookup-sound}
use Rattle.table_laws.proofs.KeysAlike.{SameBits-alike}
use Rattle.table_laws.proofs.StatesAlike.{Alike, mode-alike}
use Rattle.table_laws.proofs.ActLaws.{LookKeeps, act-alike}

module _ (a b : List ℕ) (ka : IsKey a) (kb : IsKey b) (port : value_of a field.InPort ≡ value_of b field.InPort) where
  -- the rest of a list, where it goes on
  rest-alike : (m : Mode) (rest : State → State) (bits : State → List (List ℕ)) (s t : State)
      → (SameBits a b (bits s) → Alike a b (rest s) (rest t) × (bits t ≡ bits s)) → Alike a b s t → SameBits a b (in_mode_bits m bits s)
      → Alike a b (in_mode m rest s) (in_mode m rest t) × (in_mode_bits m bits t ≡ in_mode_bits m bits s)
  rest-alike Going rest bits s t then_ h e = then_ e
  rest-alike ListEnded rest bits s t then_ h e = (h, refl)
  rest-alike Stopped rest bits s t then_ h e = (h, refl)

  run-alike : (sw : Switch) (sub : ℕ → State → State) (bits : ℕ → State → List (List ℕ)) → LookKeeps a b ka kb sub bits
      → (actions : List OfAction) (s t : State) → Alike a b s t → SameBits a b (run_bits sw sub bits actions s)
      → Alike a b (run sw sub actions s) (run sw sub actions t) × (run_bits sw sub bits actions t ≡ run_bits sw sub bits actions s)
  unfolding run run_bits
  run-alike sw sub bits keeps [] s t h e = (h, refl)
  run-alike sw sub bits keeps (x ∷ actions) s t h e =
      let parts = SameBits-append a b (act_bits bits x s) (in_mode_bits (act sw sub x s).mode (run_bits sw sub bits actions) (act sw sub x s)) e in
      let one = act-alike a b ka kb port sw sub bits keeps x s t h parts.0 in
      let all = rest-alike (act sw sub x s).mode (run sw sub actions) (run_bits sw sub bits actions) (act sw sub x s) (act sw sub x t) (run-alike sw sub bits keeps actions (act sw sub x s) (act sw sub x t) one.0) one.0 parts.1 in (
        subst (λ (m : Mode). Alike a b (run sw sub (x ∷ actions) s) (in_mode m (run sw sub actions) (act sw sub x t))) (sym one.0.mode) all.0,
        ap₂ (λ (y z : List (List ℕ)). y ++ z) one.1 (ap (λ (m : Mode). in_mode_bits m (run_bits sw sub bits actions) (act sw sub x t)) one.0.mode ∙ all.1),
      )

  resumed-alike : (s t : State) → Alike a b s t → Alike a b (resumed s) (resumed t)
  resumed-alike s t h = record { keys = h.keys; actions = h.actions; visits = h.visits; lookups_left = h.lookups_left; mode = ap mode_after h.mode }

  follow-alike : (sw : Switch) (sub : ℕ → State → State) (bits : ℕ → State → List (List ℕ)) → LookKeeps a b ka kb sub bits
      → (w : Option Rule) (s t : State) → Alike a b s t → SameBits a b (follow_bits sw sub bits w s)
      → Alike a b (follow sw sub w s) (follow sw sub w t) × (follow_bits sw sub bits w t ≡ follow_bits sw sub bits w s)
  follow-alike sw sub bits keeps None s t h e = (h, refl)
  follow-alike sw sub bits keeps (Some r) s t h e =
      let v : Alike a b (visited r s) (visited r t) = record { keys = h.keys; actions = h.actions; visits = ap (λ (z : List ℕ). z ++ r.number ∷ []) h.visits; lookups_left = h.lookups_left; mode = h.mode } in
      let x = run-alike sw sub bits keeps r.actions (visited r s) (visited r t) v e in
      (resumed-alike _ _ x.0, x.1)

  enter-alike : (sw : Switch) (sub : ℕ → State → State) (bits : ℕ → State → List (List ℕ)) → LookKeeps a b ka kb sub bits
      → (table n : ℕ) (s t : State) → Alike a b s t → SameBits a b (enter_bits sw sub bits table n s)
      → Alike a b (enter sw sub table n s) (enter sw sub table n t) × (enter_bits sw sub bits table n t ≡ enter_bits sw sub bits table n s)
  enter-alike sw sub bits keeps table zero s t h e = (mode-alike a b Stopped s t h, refl)
  enter-alike sw sub bits keeps table (suc n) s t h e =
      let parts = SameBits-append a b (consults (sw.tables table) s.current) (follow_bits sw sub bits (winner (sw.tables table) s.current) (with_lookups_left n s)) e in
      let one = lookup-sound (sw.tables table) s.current t.current (SameBits-alike a b s.current s.base t.current t.base h.keys _ parts.0) in
      let less : Alike a b (with_lookups_left n s) (with_lookups_left n t) = record { keys = h.keys; actions = h.actions; visits = h.visits; lookups_left = refl; mode = h.mode } in
      let x = follow-alike sw sub bits keeps (winner (sw.tables table) s.current) (with_lookups_left n s) (with_lookups_left n t) less parts.1 in (
        subst (λ (w : Option Rule). Alike a b (follow sw sub (winner (sw.tables table) s.current) (with_lookups_left n s)) (follow sw sub w (with_lookups_left n t))) (sym one.same_winner) x.0,
        ap₂ (λ (y z : List (List ℕ)). y ++ z) one.same_bits (ap (λ (w : Option Rule). follow_bits sw sub bits w (with_lookups_left n t)) one.same_winner ∙ x.1),
      )

  pub look-alike : (sw : Switch) (depths table : ℕ) (s t : State) → Alike a b s t → SameBits a b (look_bits sw depths table s)
      → Alike a b (look sw depths table s) (look sw depths table t) × (look_bits sw depths table t ≡ look_bits sw depths table s)
  unfolding look look_bits LookKeeps
  look-alike sw zero table s t h e = (mode-alike a b Stopped s t h, refl)
  look-alike sw (suc depths) table s t h e =
      let x = enter-alike sw (look sw depths) (look_bits sw depths) (look-alike sw depths) table s.lookups_left s t h e in (
        subst (λ (n : ℕ). Alike a b (enter sw (look sw depths) table s.lookups_left s) (enter sw (look sw depths) table n t)) (sym h.lookups_left) x.0,
        ap (λ (n : ℕ). enter_bits sw (look sw depths) (look_bits sw depths) table n t) h.lookups_left ∙ x.1,
      )
