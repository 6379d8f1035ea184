-- The datapath actions that a translation appends are those of its outputs: what every action and every lookup keeps.
use Rattle.std.proofs.Common.{◌≡◌, ℕ, zero, suc, ◌+◌, ◌-◌, ◌*◌, Bool, true, false, ◌==◌, nat_le, if◌then◌else◌, List, [], ◌∷◌, ◌++◌, map, fold, set, length, Option, Some, None, refl, sym, ap, ap₂, ◌∙◌, append_assoc}
use Rattle.std.proofs.lemmas.List.{append-nil}
use Rattle.spec_keys.specs.declared.field_id.FieldId.TheVariants as field
use Rattle.spec_keys.specs.Fields.{place_of}
use Rattle.spec_keys.specs.Keys.{value_of}
use Rattle.spec_actions.specs.declared.named_field.NamedField.{NamedField}
use Rattle.spec_actions.specs.declared.named_field.Prerequisite.TheVariants as needs
use Rattle.spec_actions.specs.declared.action.OfAction.{OfAction}
use Rattle.spec_actions.specs.declared.action.OfAction.TheVariants.{Output, OutputField, InPort, All, Flood, Resubmit, Goto, Set, Move, DecTtl, PushVlan, PopVlan, SetVid, SetPcp}
use Rattle.spec_actions.specs.declared.action.DpAction.{DpAction}
use Rattle.spec_actions.specs.declared.action.DpAction.TheVariants as datapath
use Rattle.spec_actions.specs.Named.{named}
use Rattle.spec_tables.specs.Rules.{Rule, winner}
use Rattle.spec_xlate.specs.Tags.{pushed, popped, is_full}
use Rattle.spec_xlate.specs.Needs.{is_met}
use Rattle.spec_xlate.specs.Commit.{commit}
use Rattle.spec_xlate.specs.Translation.{Switch, State, Mode, deepest, action_limit, stopped, emit, emit_all, committed, is_other_port, other_ports, output, output_all, slice_of, with_current, in_field, written, written_bits, write, vid_bits, pcp_bits, pcp_unit, write_tag, lower_ttl, act, in_mode, run, mode_after, visited, follow, with_lookups_left, enter, look, start, last_state, kept, pipe}
use Rattle.spec_xlate.specs.Translation.Mode.{Going, ListEnded, Stopped}
use Rattle.exec_laws.specs.Become.{KeyedOutput, outputs_of}
use Rattle.exec_laws.proofs.Turned.{commit-same}
use Rattle.exec_laws.specs.Outputs.{outputs_at, output_at, act_outputs, in_mode_outputs, run_outputs, follow_outputs, enter_outputs, look_outputs, kept_outputs, translation_outputs}

-- ---- lists of outputs

-- the key of the last one, or the base key
abbrev base_after : List ℕ → List KeyedOutput → List ℕ
base_after base outputs = fold (λ (k : List ℕ) (o : KeyedOutput). o.key) base outputs

outputs_of-append : (base : List ℕ) (xs ys : List KeyedOutput) → outputs_of base (xs ++ ys) ≡ outputs_of base xs ++ outputs_of (base_after base xs) ys
unfolding outputs_of
outputs_of-append base [] ys = refl
outputs_of-append base (x ∷ xs) ys =
    ap (λ (actions : List DpAction). commit base x.key ++ (datapath.Output x.port ∷ actions)) (outputs_of-append x.key xs ys)
    ∙ sym (append_assoc (commit base x.key) (datapath.Output x.port ∷ outputs_of x.key xs) (outputs_of (base_after x.key xs) ys))

base_after-append : (base : List ℕ) (xs ys : List KeyedOutput) → base_after base (xs ++ ys) ≡ base_after (base_after base xs) ys
base_after-append base [] ys = refl
base_after-append base (x ∷ xs) ys = base_after-append x.key xs ys

-- outputs of one key
abbrev with_key : List ℕ → List ℕ → List KeyedOutput
with_key key ports = map (λ n. record { key = key; port = n }) ports

-- after the first one each of them follows no action, since commit to its base is none
same-key : (key : List ℕ) (ports : List ℕ) → outputs_of key (with_key key ports) ≡ map datapath.Output ports
unfolding outputs_of
same-key key [] = refl
same-key key (p ∷ ports) =
    ap₂ (λ (xs ys : List DpAction). xs ++ (datapath.Output p ∷ ys)) (commit-same key) (same-key key ports)

same-base : (key : List ℕ) (ports : List ℕ) → base_after key (with_key key ports) ≡ key
same-base key [] = refl
same-base key (p ∷ ports) = same-base key ports

-- ---- modes

-- a fact, unless the translation has ended as a whole
abbrev pub UnlessStopped : Mode → Type 0 → Type 0
UnlessStopped Going P = P
UnlessStopped ListEnded P = P
UnlessStopped Stopped P = Unit {0}

pub unless : (m : Mode) (P : Type 0) → P → UnlessStopped m P
unless Going P p = p
unless ListEnded P p = p
unless Stopped P p = tt

pub unless-map : (m : Mode) (P Q : Type 0) → (P → Q) → UnlessStopped m P → UnlessStopped m Q
unless-map Going P Q f p = f p
unless-map ListEnded P Q f p = f p
unless-map Stopped P Q f p = tt

-- ---- states

-- A state that a translation comes to from another by these outputs.
record Emits (s t : State) (outputs : List KeyedOutput) : Type 0 where
  actions : t.actions ≡ s.actions ++ outputs_of s.base outputs
  base : t.base ≡ base_after s.base outputs

abbrev EmitsUnless : State → State → List KeyedOutput → Type 0
EmitsUnless s t outputs = UnlessStopped t.mode (Emits s t outputs)

emits-none : (s t : State) → t.actions ≡ s.actions → t.base ≡ s.base → Emits s t []
unfolding outputs_of
emits-none s t a b = record { actions = a ∙ sym (append-nil s.actions); base = b }

-- outputs that follow outputs
emits-more : (s t u : State) (xs ys : List KeyedOutput) → Emits s t xs → Emits t u ys → Emits s u (xs ++ ys)
emits-more s t u xs ys first rest = record {
  actions =
      rest.actions ∙ ap₂ (λ (actions : List DpAction) (base : List ℕ). actions ++ outputs_of base ys) first.actions first.base
      ∙ append_assoc s.actions (outputs_of s.base xs) (outputs_of (base_after s.base xs) ys)
      ∙ ap (λ (actions : List DpAction). s.actions ++ actions) (sym (outputs_of-append s.base xs ys));
  base = rest.base ∙ ap (λ (base : List ℕ). base_after base ys) first.base ∙ sym (base_after-append s.base xs ys);
}

-- ---- datapath actions

pub emit_all-keys : (xs : List DpAction) (s : State) → ((emit_all xs s).current ≡ s.current) × ((emit_all xs s).base ≡ s.base)
unfolding emit emit_all
emit_all-keys [] s = (refl, refl)
emit_all-keys (x ∷ xs) s = at (length s.actions == action_limit) (emit_all-keys xs (stopped s)) (emit_all-keys xs (record s { actions = s.actions ++ x ∷ [] }))
  where
    at : (t : Bool) → ((emit_all xs (stopped s)).current ≡ s.current) × ((emit_all xs (stopped s)).base ≡ s.base)
        → ((emit_all xs (record s { actions = s.actions ++ x ∷ [] })).current ≡ s.current) × ((emit_all xs (record s { actions = s.actions ++ x ∷ [] })).base ≡ s.base)
        → ((emit_all xs (if t then stopped s else record s { actions = s.actions ++ x ∷ [] })).current ≡ s.current)
        × ((emit_all xs (if t then stopped s else record s { actions = s.actions ++ x ∷ [] })).base ≡ s.base)
    at true h k = h
    at false h k = k

-- what ended as a whole stays so
emit_all-stopped : (xs : List DpAction) (s : State) → s.mode ≡ Stopped → (emit_all xs s).mode ≡ Stopped
unfolding emit emit_all
emit_all-stopped [] s e = e
emit_all-stopped (x ∷ xs) s e = at (length s.actions == action_limit) (emit_all-stopped xs (stopped s) refl) (emit_all-stopped xs (record s { actions = s.actions ++ x ∷ [] }) e)
  where
    at : (t : Bool) → (emit_all xs (stopped s)).mode ≡ Stopped → (emit_all xs (record s { actions = s.actions ++ x ∷ [] })).mode ≡ Stopped
        → (emit_all xs (if t then stopped s else record s { actions = s.actions ++ x ∷ [] })).mode ≡ Stopped
    at true h k = h
    at false h k = k

stopped-unless : (m : Mode) (P : Type 0) → m ≡ Stopped → UnlessStopped m P
stopped-unless Going P e = absurd cc
stopped-unless ListEnded P e = absurd cc
stopped-unless Stopped P e = tt

emit_all-appends : (xs : List DpAction) (s : State) → UnlessStopped (emit_all xs s).mode ((emit_all xs s).actions ≡ s.actions ++ xs)
unfolding emit emit_all
emit_all-appends [] s = unless s.mode _ (sym (append-nil s.actions))
emit_all-appends (x ∷ xs) s = at (length s.actions == action_limit) (emit_all-stopped xs (stopped s) refl) (emit_all-appends xs (record s { actions = s.actions ++ x ∷ [] }))
  where
    at : (t : Bool) → (emit_all xs (stopped s)).mode ≡ Stopped
        → UnlessStopped (emit_all xs (record s { actions = s.actions ++ x ∷ [] })).mode ((emit_all xs (record s { actions = s.actions ++ x ∷ [] })).actions ≡ (s.actions ++ x ∷ []) ++ xs)
        → UnlessStopped (emit_all xs (if t then stopped s else record s { actions = s.actions ++ x ∷ [] })).mode
        ((emit_all xs (if t then stopped s else record s { actions = s.actions ++ x ∷ [] })).actions ≡ s.actions ++ (x ∷ xs))
    at true h k = stopped-unless (emit_all xs (stopped s)).mode _ h
    at false h k = unless-map (emit_all xs (record s { actions = s.actions ++ x ∷ [] })).mode _ _ (λ e. e ∙ append_assoc s.actions (x ∷ []) xs) k

-- an output at each of one or more ports, after a commit
ports-emit : (p : ℕ) (ports : List ℕ) (s : State)
    → EmitsUnless s (emit_all (map datapath.Output (p ∷ ports)) (committed s)) (outputs_at (p ∷ ports) s)
unfolding committed outputs_of
ports-emit p ports s = at (c.mode) refl (emit_all-appends (commit s.base s.current) s)
  where
    c : State
    c = emit_all (commit s.base s.current) s

    d : State
    d = record c { base = c.current }

    u : State
    u = emit_all (map datapath.Output (p ∷ ports)) d

    both : c.actions ≡ s.actions ++ commit s.base s.current → u.actions ≡ c.actions ++ map datapath.Output (p ∷ ports) → Emits s u (outputs_at (p ∷ ports) s)
    both e f = record {
      actions =
          f ∙ ap (λ (actions : List DpAction). actions ++ map datapath.Output (p ∷ ports)) e
          ∙ append_assoc s.actions (commit s.base s.current) (map datapath.Output (p ∷ ports))
          ∙ ap (λ (actions : List DpAction). s.actions ++ (commit s.base s.current ++ (datapath.Output p ∷ actions))) (sym (same-key s.current ports));
      base = (emit_all-keys (map datapath.Output (p ∷ ports)) d).1 ∙ (emit_all-keys (commit s.base s.current) s).0 ∙ sym (same-base s.current ports);
    }

    at : (m : Mode) → c.mode ≡ m → UnlessStopped m (c.actions ≡ s.actions ++ commit s.base s.current) → EmitsUnless s u (outputs_at (p ∷ ports) s)
    at Going e h = unless-map u.mode _ _ (both h) (emit_all-appends (map datapath.Output (p ∷ ports)) d)
    at ListEnded e h = unless-map u.mode _ _ (both h) (emit_all-appends (map datapath.Output (p ∷ ports)) d)
    at Stopped e h = stopped-unless u.mode _ (emit_all-stopped (map datapath.Output (p ∷ ports)) d e)

output-emits : (sw : Switch) (n : ℕ) (s : State) → EmitsUnless s (output sw n s) (output_at sw n s)
unfolding output emit_all
output-emits sw n s = at (is_other_port sw s.current n)
  where
    at : (t : Bool) → EmitsUnless s (if t then emit_all (map datapath.Output (n ∷ [])) (committed s) else s) (if t then outputs_at (n ∷ []) s else [])
    at true = ports-emit n [] s
    at false = unless s.mode _ (emits-none s s refl refl)

output_all-emits : (ports : List ℕ) (s : State) → EmitsUnless s (output_all ports s) (outputs_at ports s)
unfolding output_all
output_all-emits [] s = unless s.mode _ (emits-none s s refl refl)
output_all-emits (p ∷ ports) s = ports-emit p ports s

-- ---- actions and lookups

none-emits : (t : Bool) (s x y : State) → EmitsUnless s x [] → EmitsUnless s y [] → EmitsUnless s (if t then x else y) []
none-emits true s x y h k = h
none-emits false s x y h k = k

still : (s t : State) → t.actions ≡ s.actions → t.base ≡ s.base → EmitsUnless s t []
still s t a b = unless t.mode _ (emits-none s t a b)

write-emits : (name : NamedField) (v bits : ℕ) (s : State) → EmitsUnless s (write name v bits s) []
unfolding write
write-emits name v bits s =
    let key = written (named name).field (in_field name v) (written_bits name bits) s.current in
    none-emits (is_met (named name).write_needs s.current) s (with_current key s) s (still s (with_current key s) refl refl) (still s s refl refl)

-- A lookup appends the datapath actions of its outputs.
unfoldable LookEmits : (ℕ → State → State) → (ℕ → State → List KeyedOutput) → Type 0
LookEmits sub below = (table : ℕ) (s : State) → EmitsUnless s (sub table s) (below table s)

act-emits : (sw : Switch) (sub : ℕ → State → State) (below : ℕ → State → List KeyedOutput) → LookEmits sub below → (action : OfAction) (s : State)
    → EmitsUnless s (act sw sub action s) (act_outputs sw below action s)
unfolding act act_outputs emit_all LookEmits
act-emits sw sub below emits (Output n) s = output-emits sw n s
act-emits sw sub below emits (OutputField slice) s = output-emits sw (slice_of s.current slice) s
act-emits sw sub below emits InPort s = ports-emit (value_of s.current field.InPort) [] s
act-emits sw sub below emits All s = output_all-emits (other_ports sw s.current) s
act-emits sw sub below emits Flood s = output_all-emits (other_ports sw s.current) s
act-emits sw sub below emits (Resubmit table) s = emits table s
act-emits sw sub below emits (Goto table) s = emits table s
act-emits sw sub below emits (Set name value mask) s = write-emits name value mask s
act-emits sw sub below emits (Move source target) s = write-emits target.name _ _ s
act-emits sw sub below emits DecTtl s =
    let ended : State = record s { mode = ListEnded } in
    let lowered = with_current (set s.current (place_of field.NwTtl) (value_of s.current field.NwTtl - 1)) s in
    none-emits (is_met needs.Ip s.current) s (lower_ttl s) s
    (none-emits (nat_le (value_of s.current field.NwTtl) 1) s ended lowered (still s ended refl refl) (still s lowered refl refl)) (still s s refl refl)
act-emits sw sub below emits (PushVlan tpid) s =
    let more = with_current (pushed tpid s.current) s in
    none-emits (is_full s.current) s (stopped s) more (still s (stopped s) refl refl) (still s more refl refl)
act-emits sw sub below emits PopVlan s = still s (with_current (popped s.current) s) refl refl
act-emits sw sub below emits (SetVid vid) s = still s (write_tag vid vid_bits s) refl refl
act-emits sw sub below emits (SetPcp pcp) s = still s (write_tag (pcp * pcp_unit) pcp_bits s) refl refl

run-emits : (sw : Switch) (sub : ℕ → State → State) (below : ℕ → State → List KeyedOutput) → LookEmits sub below → (actions : List OfAction) (s : State)
    → EmitsUnless s (run sw sub actions s) (run_outputs sw sub below actions s)
unfolding run run_outputs
run-emits sw sub below emits [] s = still s s refl refl
run-emits sw sub below emits (x ∷ actions) s =
    at (act sw sub x s).mode refl (act-emits sw sub below emits x s) (run-emits sw sub below emits actions (act sw sub x s))
  where
    one : State
    one = act sw sub x s

    xs : List KeyedOutput
    xs = act_outputs sw below x s

    rest : State → State
    rest = run sw sub actions

    ys : State → List KeyedOutput
    ys = run_outputs sw sub below actions

    alone : Emits s one xs → Emits s one (xs ++ [])
    alone h = emits-more s one one xs [] h (emits-none one one refl refl)

    at : (m : Mode) → one.mode ≡ m → UnlessStopped m (Emits s one xs) → EmitsUnless one (rest one) (ys one)
        → EmitsUnless s (in_mode m rest one) (xs ++ in_mode_outputs m ys one)
    at Going e h k = unless-map (rest one).mode _ _ (emits-more s one (rest one) xs (ys one) h) k
    at ListEnded e h k = unless one.mode _ (alone h)
    at Stopped e h k = stopped-unless one.mode _ e

resumed-emits : (s t : State) (outputs : List KeyedOutput) → EmitsUnless s t outputs → EmitsUnless s (record t { mode = mode_after t.mode }) outputs
resumed-emits s t outputs h = at t.mode h
  where
    at : (m : Mode) → UnlessStopped m (Emits s t outputs) → UnlessStopped (mode_after m) (Emits s (record t { mode = mode_after t.mode }) outputs)
    at Going k = record { actions = k.actions; base = k.base }
    at ListEnded k = record { actions = k.actions; base = k.base }
    at Stopped k = tt

follow-emits : (sw : Switch) (sub : ℕ → State → State) (below : ℕ → State → List KeyedOutput) → LookEmits sub below → (w : Option Rule) (s : State)
    → EmitsUnless s (follow sw sub w s) (follow_outputs sw sub below w s)
follow-emits sw sub below emits None s = still s s refl refl
follow-emits sw sub below emits (Some r) s =
    let ran = run sw sub r.actions (visited r s) in
    let outputs = run_outputs sw sub below r.actions (visited r s) in
    resumed-emits s ran outputs
    (unless-map ran.mode _ _ (λ h. record { actions = h.actions; base = h.base }) (run-emits sw sub below emits r.actions (visited r s)))

enter-emits : (sw : Switch) (sub : ℕ → State → State) (below : ℕ → State → List KeyedOutput) → LookEmits sub below → (table n : ℕ) (s : State)
    → EmitsUnless s (enter sw sub table n s) (enter_outputs sw sub below table n s)
enter-emits sw sub below emits table zero s = tt
enter-emits sw sub below emits table (suc n) s =
    let w = winner (sw.tables table) s.current in
    let followed = follow sw sub w (with_lookups_left n s) in
    unless-map followed.mode _ _ (λ h. record { actions = h.actions; base = h.base }) (follow-emits sw sub below emits w (with_lookups_left n s))

look-emits : (sw : Switch) (depths : ℕ) → LookEmits (look sw depths) (look_outputs sw depths)
unfolding look look_outputs LookEmits
look-emits sw zero = λ table s. tt
look-emits sw (suc depths) = λ table s. enter-emits sw (look sw depths) (look_outputs sw depths) (look-emits sw depths) table s.lookups_left s

pub translation-emits : (sw : Switch) (key : List ℕ) → (pipe sw key).actions ≡ outputs_of key (translation_outputs sw key)
unfolding pipe last_state translation_outputs LookEmits outputs_of
translation-emits sw key = at last.mode (look-emits sw (deepest + 1) 0 (start key))
  where
    last : State
    last = look sw (deepest + 1) 0 (start key)

    outputs : List KeyedOutput
    outputs = look_outputs sw (deepest + 1) 0 (start key)

    at : (m : Mode) → UnlessStopped m (Emits (start key) last outputs) → kept m last.actions ≡ outputs_of key (kept_outputs m outputs)
    at Going h = h.actions
    at ListEnded h = h.actions
    at Stopped h = refl
