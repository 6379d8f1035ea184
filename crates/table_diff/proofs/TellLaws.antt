-- A mask that decides each step of a translation decides the translation.
use Rattle.std.proofs.Common.{◌≡◌, ℕ, zero, suc, ◌+◌, ◌-◌, Bool, true, false, not, ◌&&◌, ◌||◌, ◌==◌, nat_le, List, [], ◌∷◌, ◌++◌, length, set, fold, bit_and, Option, Some, None, inl, inr, refl, sym, ap, ap₂, ◌∙◌, subst, get_or-set_other}
use Rattle.std.specs.List.{list_any, list_all}
use Rattle.std.proofs.lemmas.Bool.{and_parts, eqb-true}
use Rattle.spec_keys.specs.declared.field_id.FieldId.TheVariants as field
use Rattle.spec_keys.specs.declared.field_id.FieldId.{FieldId}
use Rattle.spec_keys.specs.Fields.{place_of, register_fields}
use Rattle.spec_keys.specs.Keys.{number_at, value_of, masked, same, agree, covers, overlap, are_zero, IsKey, IsClean}
use Rattle.spec_actions.specs.declared.action.OfAction.{OfAction}
use Rattle.spec_actions.specs.declared.action.OfAction.TheVariants.{Output, OutputField, InPort, All, Flood, Resubmit, Goto, Set, Move, DecTtl, PushVlan, PopVlan, SetVid, SetPcp}
use Rattle.spec_actions.specs.declared.action.DpAction.{DpAction}
use Rattle.spec_tables.specs.Rules.{Rule, Match, is_matched, winner}
use Rattle.spec_xlate.specs.Translation.{Switch, State, Mode, deepest, kept, act, in_mode, run, mode_after, resumed, visited, follow, with_lookups_left, enter, look, start, last_state, pipe}
use Rattle.spec_xlate.specs.Translation.Mode.{Going, ListEnded, Stopped}
use Rattle.spec_xlate.specs.Lookup.{union, priority_to_beat, rules_from}
use Rattle.spec_xlate.specs.Consulted.{whole, act_bits, without}
use Rattle.table_laws.proofs.MemberLaws.{Among, Among_in-filter}
use Rattle.table_laws.proofs.KeyLaws.{SameBits, agree-masked, agree_from-masked, masked_from-places, places_from-masked, length_from-masked, same-eq, joined-right}
use Rattle.table_laws.proofs.UnionLaws.{SameBits_from-union, agree-covers}
use Rattle.table_laws.proofs.KeysAlike.{start-alike, and-alike, eqb-false}
use Rattle.table_laws.proofs.StatesAlike.{Alike, mode-alike, whole-same}
use Rattle.table_laws.proofs.ActLaws.{LookKeeps, act-alike}
use Rattle.table_laws.proofs.WinnerLaws.{winner-same}
use Rattle.pipe_model.specs.Events.{Event, act_events, in_mode_events, run_events, follow_events, enter_events, look_events, events_of}
use Rattle.xlate_pipeline.specs.Steps.{step_bits}
use Rattle.rule_changes.proofs.MaskLaws.{masked-common, matched-overlaps}
use Rattle.spec_tools.specs.Classes.{done}
use Rattle.table_diff.specs.Deciding.{is_told, tells_winner, tells, tells_too, tells_all}

-- ---- one match

-- keys that agree on a mask which decides it are both ones that a match speaks of, or neither
pub told-matched : (k x mask : List ℕ) (m : Match) → is_told mask k m ≡ true → masked k mask ≡ masked x mask → is_matched x m ≡ is_matched k m
told-matched k x mask m told e = at (covers mask m.mask) refl told
  where
    whole_match : covers mask m.mask ≡ true → is_matched x m ≡ is_matched k m
    whole_match c =
        ap (λ (z : List ℕ). same z (masked m.key m.mask))
        (sym (joined-right k x mask m.mask (subst (λ (z : List ℕ). masked k z ≡ masked x z) (sym (same-eq _ mask c)) e)))

    both_false : (s t : Bool) → s ≡ false → t ≡ false → s ≡ t
    both_false s t p q = p ∙ sym q

    unmatched : (y : List ℕ) (t : Bool) → is_matched y m ≡ t → overlap y mask m.key m.mask ≡ false → t ≡ false
    unmatched y true h o = absurd (let g : true ≡ false = sym (matched-overlaps y mask m h) ∙ o in cc)
    unmatched y false h o = refl

    apart : overlap k mask m.key m.mask ≡ false → is_matched x m ≡ is_matched k m
    apart o =
        let there : overlap x mask m.key m.mask ≡ false =
        ap (λ (z : List ℕ). same z (masked m.key (masked mask m.mask))) (sym (masked-common k x mask m.mask (length_from-masked k x mask e) e)) ∙ o in
        both_false _ _ (unmatched x _ refl there) (unmatched k _ refl o)

    not_true : (t : Bool) → not t ≡ true → t ≡ false
    not_true true h = absurd (cc h)
    not_true false h = refl

    at : (c : Bool) → covers mask m.mask ≡ c → (c || not (overlap k mask m.key m.mask)) ≡ true → is_matched x m ≡ is_matched k m
    at true c h = whole_match c
    at false c h = apart (not_true _ h)

all-Among : {X : Type 0} (p : X → Bool) (xs : List X) (x : X) → list_all p xs ≡ true → Among x xs → p x ≡ true
all-Among p [] x h m = absurd m
all-Among p (y ∷ ys) x h (inl e) = ap p e ∙ (and_parts (p y) (list_all p ys) h).0
all-Among p (y ∷ ys) x h (inr m) = all-Among p ys x (and_parts (p y) (list_all p ys) h).1 m

pub told-winner : (mask : List ℕ) (rules : List Rule) (k x : List ℕ) → tells_winner mask rules k ≡ true → masked k mask ≡ masked x mask → winner rules x ≡ winner rules k
told-winner mask rules k x h e = winner-same rules k x (λ r m p. told-matched k x mask r.matching
    (all-Among (λ s. is_told mask k s.matching) (rules_from (priority_to_beat (winner rules k)) rules) r h
    (Among_in-filter (λ s. nat_le (priority_to_beat (winner rules k)) s.priority) r rules m p)) e)

-- ---- all steps

-- each of these steps is decided
abbrev Told : List ℕ → List Event → Type 0
Told mask [] = Unit {0}
Told mask (e ∷ events) = (tells mask e ≡ true) × Told mask events

so_far : (mask : List ℕ) (events : List Event) (t : Bool) → fold (tells_too mask) t events ≡ true → (t ≡ true) × Told mask events
so_far mask [] t h = (h, tt)
so_far mask (e ∷ events) t h =
    let rest = so_far mask events (t && tells mask e) h in
    let parts = and_parts t (tells mask e) rest.0 in
    (parts.0, (parts.1, rest.1))

Told-append : (mask : List ℕ) (xs ys : List Event) → Told mask (xs ++ ys) → Told mask xs × Told mask ys
Told-append mask [] ys h = (tt, h)
Told-append mask (x ∷ xs) ys h = let r = Told-append mask xs ys h.1 in ((h.0, r.0), r.1)

-- ---- two translations side by side

module _ (a b mask : List ℕ) (ka : IsKey a) (kb : IsKey b) (port : value_of a field.InPort ≡ value_of b field.InPort) (e : masked a mask ≡ masked b mask) where
  abbrev no_bits : ℕ → State → List (List ℕ)
  no_bits table s = []

  abbrev no_look : ℕ → State → State
  no_look table s = s

  nothing-keeps : LookKeeps a b ka kb no_look no_bits
  unfolding LookKeeps
  nothing-keeps table s t h x = (h, refl)

  -- current keys agree on the mask too
  currents : (s t : State) → Alike a b s t → masked s.current mask ≡ masked t.current mask
  currents s t h =
      masked_from-places s.current t.current mask h.keys.lengths
      (λ q. and-alike a b s.current s.base t.current t.base h.keys q (number_at mask q) (places_from-masked a b mask q e))

  bits-same : (ms : List (List ℕ)) → covers mask (union ms) ≡ true → SameBits a b ms
  bits-same ms c = SameBits_from-union a b ms (agree-masked a b (union ms) (agree-covers a b mask (union ms) c (agree_from-masked a b mask e)))

  -- An action that leads to no lookup, or one to a lookup that keeps translations alike.
  abbrev Keeps : (ℕ → State → State) → (ℕ → State → List Event) → Type 0
  Keeps sub events = (table : ℕ) (s t : State) → Alike a b s t → Told mask (events table s) → Alike a b (sub table s) (sub table t)

  act-told : (sw : Switch) (sub : ℕ → State → State) (events : ℕ → State → List Event) → Keeps sub events
      → (x : OfAction) (s t : State) → Alike a b s t → Told mask (act_events events x s) → Alike a b (act sw sub x s) (act sw sub x t)
  unfolding act act_events act_bits
  act-told sw sub events keeps (Output n) s t h w = (act-alike a b ka kb port sw no_look no_bits nothing-keeps (Output n) s t h (bits-same (step_bits (Output n) s.current) w.0)).0
  act-told sw sub events keeps (OutputField f) s t h w = (act-alike a b ka kb port sw no_look no_bits nothing-keeps (OutputField f) s t h (bits-same (step_bits (OutputField f) s.current) w.0)).0
  act-told sw sub events keeps InPort s t h w = (act-alike a b ka kb port sw no_look no_bits nothing-keeps InPort s t h (bits-same (step_bits InPort s.current) w.0)).0
  act-told sw sub events keeps All s t h w = (act-alike a b ka kb port sw no_look no_bits nothing-keeps All s t h (bits-same (step_bits All s.current) w.0)).0
  act-told sw sub events keeps Flood s t h w = (act-alike a b ka kb port sw no_look no_bits nothing-keeps Flood s t h (bits-same (step_bits Flood s.current) w.0)).0
  act-told sw sub events keeps (Resubmit table) s t h w = keeps table s t h w
  act-told sw sub events keeps (Goto table) s t h w = keeps table s t h w
  act-told sw sub events keeps (Set n v m) s t h w = (act-alike a b ka kb port sw no_look no_bits nothing-keeps (Set n v m) s t h (bits-same (step_bits (Set n v m) s.current) w.0)).0
  act-told sw sub events keeps (Move f g) s t h w = (act-alike a b ka kb port sw no_look no_bits nothing-keeps (Move f g) s t h (bits-same (step_bits (Move f g) s.current) w.0)).0
  act-told sw sub events keeps DecTtl s t h w = (act-alike a b ka kb port sw no_look no_bits nothing-keeps DecTtl s t h (bits-same (step_bits DecTtl s.current) w.0)).0
  act-told sw sub events keeps (PushVlan n) s t h w = (act-alike a b ka kb port sw no_look no_bits nothing-keeps (PushVlan n) s t h (bits-same (step_bits (PushVlan n) s.current) w.0)).0
  act-told sw sub events keeps PopVlan s t h w = (act-alike a b ka kb port sw no_look no_bits nothing-keeps PopVlan s t h (bits-same (step_bits PopVlan s.current) w.0)).0
  act-told sw sub events keeps (SetVid n) s t h w = (act-alike a b ka kb port sw no_look no_bits nothing-keeps (SetVid n) s t h (bits-same (step_bits (SetVid n) s.current) w.0)).0
  act-told sw sub events keeps (SetPcp n) s t h w = (act-alike a b ka kb port sw no_look no_bits nothing-keeps (SetPcp n) s t h (bits-same (step_bits (SetPcp n) s.current) w.0)).0

  rest-told : (m : Mode) (rest : State → State) (events : State → List Event) (s t : State)
      → (Told mask (events s) → Alike a b (rest s) (rest t)) → Alike a b s t → Told mask (in_mode_events m events s)
      → Alike a b (in_mode m rest s) (in_mode m rest t)
  rest-told Going rest events s t then_ h w = then_ w
  rest-told ListEnded rest events s t then_ h w = h
  rest-told Stopped rest events s t then_ h w = h

  run-told : (sw : Switch) (sub : ℕ → State → State) (events : ℕ → State → List Event) → Keeps sub events
      → (actions : List OfAction) (s t : State) → Alike a b s t → Told mask (run_events sw sub events actions s)
      → Alike a b (run sw sub actions s) (run sw sub actions t)
  unfolding run run_events
  run-told sw sub events keeps [] s t h w = h
  run-told sw sub events keeps (x ∷ actions) s t h w =
      let parts = Told-append mask (act_events events x s) (in_mode_events (act sw sub x s).mode (run_events sw sub events actions) (act sw sub x s)) w in
      let one = act-told sw sub events keeps x s t h parts.0 in
      let all = rest-told (act sw sub x s).mode (run sw sub actions) (run_events sw sub events actions) (act sw sub x s) (act sw sub x t) (run-told sw sub events keeps actions (act sw sub x s) (act sw sub x t) one) one parts.1 in
      subst (λ (m : Mode). Alike a b (run sw sub (x ∷ actions) s) (in_mode m (run sw sub actions) (act sw sub x t))) (sym one.mode) all

  resumed-told : (s t : State) → Alike a b s t → Alike a b (resumed s) (resumed t)
  resumed-told s t h = record { keys = h.keys; actions = h.actions; visits = h.visits; lookups_left = h.lookups_left; mode = ap mode_after h.mode }

  follow-told : (sw : Switch) (sub : ℕ → State → State) (events : ℕ → State → List Event) → Keeps sub events
      → (w : Option Rule) (s t : State) → Alike a b s t → Told mask (follow_events sw sub events w s)
      → Alike a b (follow sw sub w s) (follow sw sub w t)
  follow-told sw sub events keeps None s t h w = h
  follow-told sw sub events keeps (Some r) s t h w =
      let v : Alike a b (visited r s) (visited r t) = record { keys = h.keys; actions = h.actions; visits = ap (λ (z : List ℕ). z ++ r.number ∷ []) h.visits; lookups_left = h.lookups_left; mode = h.mode } in
      resumed-told _ _ (run-told sw sub events keeps r.actions (visited r s) (visited r t) v w)

  enter-told : (sw : Switch) (sub : ℕ → State → State) (events : ℕ → State → List Event) → Keeps sub events
      → (depth table n : ℕ) (s t : State) → Alike a b s t → Told mask (enter_events sw sub events depth table n s)
      → Alike a b (enter sw sub table n s) (enter sw sub table n t)
  enter-told sw sub events keeps depth table zero s t h w = mode-alike a b Stopped s t h
  enter-told sw sub events keeps depth table (suc n) s t h w =
      let one = told-winner mask (sw.tables table) s.current t.current w.0 (currents s t h) in
      let less : Alike a b (with_lookups_left n s) (with_lookups_left n t) = record { keys = h.keys; actions = h.actions; visits = h.visits; lookups_left = refl; mode = h.mode } in
      let x = follow-told sw sub events keeps (winner (sw.tables table) s.current) (with_lookups_left n s) (with_lookups_left n t) less w.1 in
      subst (λ (o : Option Rule). Alike a b (follow sw sub (winner (sw.tables table) s.current) (with_lookups_left n s)) (follow sw sub o (with_lookups_left n t))) (sym one) x

  look-told : (sw : Switch) (depths table : ℕ) (s t : State) → Alike a b s t → Told mask (look_events sw depths table s)
      → Alike a b (look sw depths table s) (look sw depths table t)
  unfolding look look_events
  look-told sw zero table s t h w = mode-alike a b Stopped s t h
  look-told sw (suc depths) table s t h w =
      let x = enter-told sw (look sw depths) (look_events sw depths) (look-told sw depths) (deepest - depths) table s.lookups_left s t h w in
      subst (λ (n : ℕ). Alike a b (enter sw (look sw depths) table s.lookups_left s) (enter sw (look sw depths) table n t)) (sym h.lookups_left) x

-- ---- a mask without the bits of registers (as in table_laws)

abbrev is_register : ℕ → Bool
is_register q = list_any (λ f. q == place_of f) register_fields

number_at-without : (fs : List FieldId) (m : List ℕ) (q : ℕ) → list_any (λ f. q == place_of f) fs ≡ false
    → number_at (without fs m) q ≡ number_at m q
number_at-without [] m q h = refl
number_at-without (f ∷ fs) m q h = at (q == place_of f) refl h (number_at-without fs (set m (place_of f) 0) q)
  where
    at : (t : Bool) → (q == place_of f) ≡ t → (t || list_any (λ g. q == place_of g) fs) ≡ false
        → (list_any (λ g. q == place_of g) fs ≡ false → number_at (without fs (set m (place_of f) 0)) q ≡ number_at (set m (place_of f) 0) q)
        → number_at (without fs (set m (place_of f) 0)) q ≡ number_at m q
    at true e h ih = absurd (cc)
    at false e h ih = ih h ∙ get_or-set_other m (place_of f) q 0 0 (eqb-false q (place_of f) e)

number_at-are_zero : (fs : List FieldId) (key : List ℕ) (q : ℕ) → are_zero fs key ≡ true → list_any (λ f. q == place_of f) fs ≡ true
    → number_at key q ≡ 0
number_at-are_zero [] key q z h = absurd (cc)
number_at-are_zero (f ∷ fs) key q z h =
    let parts = and_parts (value_of key f == 0) (are_zero fs key) z in at parts.0 (q == place_of f) refl h (number_at-are_zero fs key q parts.1)
  where
    at : (value_of key f == 0) ≡ true → (t : Bool) → (q == place_of f) ≡ t → (t || list_any (λ g. q == place_of g) fs) ≡ true
        → (list_any (λ g. q == place_of g) fs ≡ true → number_at key q ≡ 0) → number_at key q ≡ 0
    at k true e h ih = ap (number_at key) (eqb-true q (place_of f) e) ∙ eqb-true (value_of key f) 0 k
    at k false e h ih = ih h

pub registers-same : (a b m : List ℕ) → length b ≡ length a → IsClean a → IsClean b
    → masked a (without register_fields m) ≡ masked b (without register_fields m) → masked a m ≡ masked b m
registers-same a b m l ca cb e = masked_from-places a b m l (λ q. at q (is_register q) refl)
  where
    at : (q : ℕ) (t : Bool) → is_register q ≡ t → bit_and (number_at a q) (number_at m q) ≡ bit_and (number_at b q) (number_at m q)
    at q true h =
        ap (λ (z : ℕ). bit_and z (number_at m q)) (number_at-are_zero register_fields a q ca h ∙ sym (number_at-are_zero register_fields b q cb h))
    at q false h =
        let k = number_at-without register_fields m q h in
        ap (bit_and (number_at a q)) (sym k) ∙ places_from-masked a b (without register_fields m) q e ∙ ap (bit_and (number_at b q)) k

-- ---- the law

-- A frame whose key agrees with one whose translation is decided, but for registers, is translated alike.
pub told-sound : (sw : Switch) (a b mask : List ℕ) → IsKey a → IsKey b → IsClean a → IsClean b → tells_all mask sw a ≡ true
    → agree b a (without register_fields mask) ≡ true → done sw b ≡ done sw a
unfolding pipe last_state events_of
told-sound sw a b mask ka kb ca cb all h =
    let l : length b ≡ length a = kb.fields ∙ sym ka.fields in
    let e = registers-same a b mask l ca cb (sym (agree-masked b a _ h)) in
    let told = so_far mask (look_events sw (deepest + 1) 0 (start a)) (covers mask (union (whole field.InPort ∷ []))) all in
    let own = SameBits_from-union a b (whole field.InPort ∷ []) (agree-masked a b (union (whole field.InPort ∷ [])) (agree-covers a b mask (union (whole field.InPort ∷ [])) told.0 (agree_from-masked a b mask e))) in
    let port = whole-same a b ka kb field.InPort own.0 in
    let begun : Alike a b (start a) (start b) = record { keys = start-alike a b l; actions = refl; visits = refl; lookups_left = refl; mode = refl } in
    let x = look-told a b mask ka kb port e sw (deepest + 1) 0 (start a) (start b) begun told.1 in
    ap₂ (λ (m : Mode) (s : List DpAction). kept m s) x.mode x.actions
