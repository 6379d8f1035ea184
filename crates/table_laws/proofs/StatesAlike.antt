-- Two translations whose first keys agree: what they have in common, and that output keeps it.
use Rattle.std.proofs.Common.{◌≡◌, ℕ, ◌<◌, ◌^◌, Bool, true, false, ◌&&◌, not, ◌==◌, if◌then◌else◌, List, [], ◌∷◌, ◌++◌, length, map, filter, refl, sym, ap, ap₂, ◌∙◌, subst, mod-eq_of_lt}
use Rattle.std.specs.List.{list_any}
use Rattle.std.proofs.lemmas.Nat.{and_mask}
use Rattle.spec_base.specs.Bits.{all_bits}
use Rattle.spec_keys.specs.declared.field_id.FieldId.{FieldId}
use Rattle.spec_keys.specs.declared.field_id.FieldId.TheVariants as field
use Rattle.spec_keys.specs.Fields.{place_of, width_of, widths}
use Rattle.spec_keys.specs.Keys.{number_at, value_of, masked, IsKey}
use Rattle.spec_actions.specs.declared.action.DpAction.{DpAction}
use Rattle.spec_actions.specs.declared.action.DpAction.TheVariants.{Output}
use Rattle.spec_xlate.specs.Commit.{commit}
use Rattle.spec_xlate.specs.Translation.{Switch, State, Mode, action_limit, with_current, emit, emit_all, rebased, committed, in_port_of, is_other_port, other_ports, rising, output, output_all}
use Rattle.spec_xlate.specs.Consulted.{whole}
use Rattle.table_laws.proofs.KeyLaws.{only_at-same}
use Rattle.table_laws.proofs.KeysAlike.{KeysAlike, whole-alike, commit-alike, rebased-alike}

-- What two translations have in common whose first keys are a and b.
pub record Alike (a b : List ℕ) (s t : State) : Type 0 where
  pub keys : KeysAlike a b s.current s.base t.current t.base
  pub actions : t.actions ≡ s.actions
  pub visits : t.visits ≡ s.visits
  pub lookups_left : t.lookups_left ≡ s.lookups_left
  pub mode : t.mode ≡ s.mode

-- ---- whole fields

number_at-widths : (f : FieldId) → number_at widths (place_of f) ≡ width_of f
unfolding widths
number_at-widths field.InPort = refl
number_at-widths f = refl

pub value_of-fits : (a : List ℕ) → IsKey a → (f : FieldId) → value_of a f < 2 ^ width_of f
value_of-fits a k f = subst (λ (w : ℕ). value_of a f < 2 ^ w) (number_at-widths f) (k.fit (place_of f))

-- keys that agree on all bits of a field have it alike
pub whole-same : (a b : List ℕ) → IsKey a → IsKey b → (f : FieldId) → masked a (whole f) ≡ masked b (whole f) → value_of a f ≡ value_of b f
whole-same a b ka kb f e =
    sym (mod-eq_of_lt (value_of-fits a ka f)) ∙ sym (and_mask (value_of a f) (width_of f)) ∙ only_at-same a b (place_of f) (all_bits (width_of f)) e
    ∙ and_mask (value_of b f) (width_of f) ∙ mod-eq_of_lt (value_of-fits b kb f)

module _ (a b : List ℕ) where
  -- ---- parts of a state

  pub if-alike : (t u : Bool) (s v s' v' : State) → u ≡ t → (t ≡ true → Alike a b s v) → (t ≡ false → Alike a b s' v')
      → Alike a b (if t then s else s') (if u then v else v')
  if-alike true true s v s' v' e p q = p refl
  if-alike true false s v s' v' e p q = absurd (cc)
  if-alike false true s v s' v' e p q = absurd (cc)
  if-alike false false s v s' v' e p q = q refl

  pub mode-alike : (m : Mode) (s t : State) → Alike a b s t → Alike a b (record s { mode = m }) (record t { mode = m })
  mode-alike m s t h = record { keys = h.keys; actions = h.actions; visits = h.visits; lookups_left = h.lookups_left; mode = refl }

  -- the current key is changed and nothing else
  pub current-alike : (s t : State) (x y : List ℕ) → Alike a b s t → KeysAlike a b x s.base y t.base
      → Alike a b (with_current x s) (with_current y t)
  current-alike s t x y h k = record { keys = k; actions = h.actions; visits = h.visits; lookups_left = h.lookups_left; mode = h.mode }

  -- a place that the first keys have alike
  pub current-same : (s t : State) → Alike a b s t → (q : ℕ) → number_at a q ≡ number_at b q → number_at t.current q ≡ number_at s.current q
  current-same s t h q e = (whole-alike a b s.current s.base t.current t.base h.keys q e).0

  -- ---- datapath actions

  emit-alike : (action : DpAction) (s t : State) → Alike a b s t → Alike a b (emit action s) (emit action t)
  unfolding emit
  emit-alike action s t h =
      if-alike (length s.actions == action_limit) (length t.actions == action_limit) _ _ _ _ (ap (λ (z : List DpAction). length z == action_limit) h.actions)
      (λ e. mode-alike Mode.Stopped s t h)
      (λ e. record { keys = h.keys; actions = ap (λ (z : List DpAction). z ++ action ∷ []) h.actions; visits = h.visits; lookups_left = h.lookups_left; mode = h.mode })

  emit_all-alike : (actions : List DpAction) (s t : State) → Alike a b s t → Alike a b (emit_all actions s) (emit_all actions t)
  unfolding emit_all
  emit_all-alike [] s t h = h
  emit_all-alike (x ∷ xs) s t h = emit_all-alike xs (emit x s) (emit x t) (emit-alike x s t h)

  rebased_state-alike : (s t : State) → Alike a b s t → Alike a b (rebased s) (rebased t)
  rebased_state-alike s t h = record { keys = rebased-alike a b s.current s.base t.current t.base h.keys; actions = h.actions; visits = h.visits; lookups_left = h.lookups_left; mode = h.mode }

  committed-alike : (s t : State) → Alike a b s t → Alike a b (committed s) (committed t)
  unfolding committed
  committed-alike s t h =
      subst (λ (z : List DpAction). Alike a b (committed s) (rebased (emit_all z t))) (sym (commit-alike a b s.current s.base t.current t.base h.keys))
      (rebased_state-alike _ _ (emit_all-alike (commit s.base s.current) s t h))

  -- ---- output, where the packets came in by the same port

  module _ (port : value_of a field.InPort ≡ value_of b field.InPort) where
    in_port-alike : (s t : State) → Alike a b s t → in_port_of t.current ≡ in_port_of s.current
    in_port-alike s t h = current-same s t h (place_of field.InPort) port

    pub output-alike : (sw : Switch) (n n' : ℕ) (s t : State) → n' ≡ n → Alike a b s t → Alike a b (output sw n s) (output sw n' t)
    unfolding output
    output-alike sw n n' s t e h =
        if-alike (is_other_port sw s.current n) (is_other_port sw t.current n') _ _ _ _
        (ap₂ (λ (x y : ℕ). list_any (λ p. x == p) sw.ports && not (x == y)) e (in_port-alike s t h))
        (λ _. subst (λ (z : ℕ). Alike a b (emit (Output n) (committed s)) (emit (Output z) (committed t))) (sym e) (emit-alike (Output n) _ _ (committed-alike s t h)))
        (λ _. h)

    pub output_back-alike : (s t : State) → Alike a b s t
        → Alike a b (emit (Output (in_port_of s.current)) (committed s)) (emit (Output (in_port_of t.current)) (committed t))
    output_back-alike s t h =
        subst (λ (z : ℕ). Alike a b (emit (Output (in_port_of s.current)) (committed s)) (emit (Output z) (committed t))) (sym (in_port-alike s t h))
        (emit-alike (Output (in_port_of s.current)) _ _ (committed-alike s t h))

    output_each-alike : (ps : List ℕ) (s t : State) → Alike a b s t → Alike a b (output_all ps s) (output_all ps t)
    unfolding output_all
    output_each-alike [] s t h = h
    output_each-alike (p ∷ ps) s t h = emit_all-alike (map Output (p ∷ ps)) _ _ (committed-alike s t h)

    pub output_all-alike : (sw : Switch) (s t : State) → Alike a b s t
        → Alike a b (output_all (other_ports sw s.current) s) (output_all (other_ports sw t.current) t)
    output_all-alike sw s t h =
        subst (λ (z : List ℕ). Alike a b (output_all (other_ports sw s.current) s) (output_all z t))
        (sym (ap (λ (z : ℕ). filter (λ p. not (p == z)) (rising sw.ports)) (in_port-alike s t h)))
        (output_each-alike (other_ports sw s.current) s t h)
