-- What a translation emits where it stays within the limit of datapath actions.
use Rattle.std.proofs.Common.{◌≡◌, ◌≢◌, ℕ, zero, suc, ◌+◌, ◌<◌, ◌≤◌, Bool, true, false, ◌&&◌, not, ◌==◌, nat_le, if◌then◌else◌, List, [], ◌∷◌, ◌++◌, length, map, bit_and, refl, sym, ap, ap₂, ◌∙◌, subst, arith, eq-eqb, eqb-true, append_assoc, length-append}
use Rattle.std.specs.Prelude.{bit_xor}
use Rattle.std.proofs.lemmas.List.{append-nil}
use Rattle.spec_keys.specs.declared.field_id.FieldId.{FieldId}
use Rattle.spec_keys.specs.Keys.{value_of}
use Rattle.spec_actions.specs.declared.action.OfAction.{OfAction}
use Rattle.spec_actions.specs.declared.action.OfAction.TheVariants.{Output, OutputField, InPort, All, Flood, Resubmit, Goto, Set, Move, DecTtl, PushVlan, PopVlan, SetVid, SetPcp}
use Rattle.spec_actions.specs.declared.action.DpAction.{DpAction}
use Rattle.spec_actions.specs.declared.action.DpAction.TheVariants as datapath
use Rattle.spec_xlate.specs.Commit.{commit, commit_field, commit_fields, fields_before_tags, fields_after_tags}
use Rattle.spec_xlate.specs.Tags.{VlanTag, tags_of, is_tag, is_same_tag, outer_tag, inner_tag, outer_tags, commit_tags}
use Rattle.spec_xlate.specs.Translation.{Switch, State, Mode, action_limit, stopped, emit, emit_all, rebased, committed, in_port_of, is_other_port, other_ports, output, output_all, slice_of, act}
use Rattle.table_diff.specs.Sending.{ports_in}
use Rattle.table_diff.specs.Following.{commit_limit}

-- ---- ports

pub ports_in-append : (xs ys : List DpAction) → ports_in (xs ++ ys) ≡ ports_in xs ++ ports_in ys
ports_in-append [] ys = refl
ports_in-append (datapath.Output n ∷ xs) ys = ap (λ (z : List ℕ). n ∷ z) (ports_in-append xs ys)
ports_in-append (datapath.PopVlan ∷ xs) ys = ports_in-append xs ys
ports_in-append (datapath.PushVlan t c ∷ xs) ys = ports_in-append xs ys
ports_in-append (datapath.Set f v m ∷ xs) ys = ports_in-append xs ys

pub ports_in-outputs : (ps : List ℕ) → ports_in (map datapath.Output ps) ≡ ps
ports_in-outputs [] = refl
ports_in-outputs (p ∷ ps) = ap (λ (z : List ℕ). p ∷ z) (ports_in-outputs ps)

-- ---- a commit sends nothing, and has few actions

-- the action that writes the bits of a field that differ
abbrev write_of : FieldId → ℕ → ℕ → DpAction
write_of f before after = datapath.Set f (bit_and after (bit_xor before after)) (bit_xor before after)

field-ports : (f : FieldId) (before after : ℕ) → ports_in (commit_field f before after) ≡ []
unfolding commit_field
field-ports f before after = at (before == after)
  where
    at : (t : Bool) → ports_in (if t then [] else write_of f before after ∷ []) ≡ []
    at true = refl
    at false = refl

fields-ports : (fs : List FieldId) (base current : List ℕ) → ports_in (commit_fields fs base current) ≡ []
unfolding commit_fields
fields-ports [] base current = refl
fields-ports (f ∷ fs) base current =
    ports_in-append (commit_field f (value_of base f) (value_of current f)) (commit_fields fs base current)
    ∙ ap₂ (λ (x y : List ℕ). x ++ y) (field-ports f (value_of base f) (value_of current f)) (fields-ports fs base current)

pops-ports : (ts : List VlanTag) → ports_in (map (λ (t : VlanTag). datapath.PopVlan) ts) ≡ []
pops-ports [] = refl
pops-ports (t ∷ ts) = pops-ports ts

pushes-ports : (ts : List VlanTag) → ports_in (map (λ (t : VlanTag). datapath.PushVlan t.tpid t.tci) ts) ≡ []
pushes-ports [] = refl
pushes-ports (t ∷ ts) = pushes-ports ts

tags-ports : (before after : List VlanTag) → ports_in (commit_tags before after) ≡ []
unfolding commit_tags
tags-ports before after =
    ports_in-append (map (λ (t : VlanTag). datapath.PopVlan) (outer_tags before after)) (map (λ (t : VlanTag). datapath.PushVlan t.tpid t.tci) (outer_tags after before))
    ∙ ap₂ (λ (x y : List ℕ). x ++ y) (pops-ports (outer_tags before after)) (pushes-ports (outer_tags after before))

pub commit-ports : (base current : List ℕ) → ports_in (commit base current) ≡ []
unfolding commit
commit-ports base current =
    ports_in-append (commit_fields fields_before_tags base current) (commit_tags (tags_of base) (tags_of current) ++ commit_fields fields_after_tags base current)
    ∙ ap₂ (λ (x y : List ℕ). x ++ y) (fields-ports fields_before_tags base current)
    (ports_in-append (commit_tags (tags_of base) (tags_of current)) (commit_fields fields_after_tags base current)
    ∙ ap₂ (λ (x y : List ℕ). x ++ y) (tags-ports (tags_of base) (tags_of current)) (fields-ports fields_after_tags base current))

field-length : (f : FieldId) (before after : ℕ) → length (commit_field f before after) ≤ 1
unfolding commit_field
field-length f before after = at (before == after)
  where
    at : (t : Bool) → length (if t then [] else write_of f before after ∷ []) ≤ 1
    at true = omega arith
    at false = omega arith

fields-length : (fs : List FieldId) (base current : List ℕ) → length (commit_fields fs base current) ≤ length fs
unfolding commit_fields
fields-length [] base current = omega arith
fields-length (f ∷ fs) base current =
    omega (
      arith,
      length-append (commit_field f (value_of base f) (value_of current f)) (commit_fields fs base current),
      field-length f (value_of base f) (value_of current f),
      fields-length fs base current,
    )

mapped-length : {X Y : Type 0} (f : X → Y) (xs : List X) → length (map f xs) ≡ length xs
mapped-length f [] = refl
mapped-length f (x ∷ xs) = ap suc (mapped-length f xs)

outer-length : (ts os : List VlanTag) → length (outer_tags ts os) ≤ length ts
unfolding outer_tags
outer-length [] os = omega arith
outer-length (t ∷ ts) [] = omega arith
outer-length (t ∷ ts) (o ∷ os) = at (is_same_tag t o) (outer-length ts os)
  where
    at : (b : Bool) → length (outer_tags ts os) ≤ length ts → length (if b then outer_tags ts os else t ∷ ts) ≤ suc (length ts)
    at true ih = omega arith
    at false ih = omega arith

two_tags : (key : List ℕ) → length (tags_of key) ≤ 2
two_tags key = at (is_tag (outer_tag key).tci) (is_tag (inner_tag key).tci)
  where
    at : (s t : Bool) → length (if s then (if t then inner_tag key ∷ outer_tag key ∷ [] else outer_tag key ∷ []) else []) ≤ 2
    at true true = omega arith
    at true false = omega arith
    at false t = omega arith

tags-length : (before after : List VlanTag) → length (commit_tags before after) ≤ length before + length after
unfolding commit_tags
tags-length before after =
    let pops = map (λ (t : VlanTag). datapath.PopVlan) (outer_tags before after) in
    let pushes = map (λ (t : VlanTag). datapath.PushVlan t.tpid t.tci) (outer_tags after before) in
    omega (
      arith,
      length-append pops pushes,
      mapped-length (λ (t : VlanTag). datapath.PopVlan) (outer_tags before after),
      mapped-length (λ (t : VlanTag). datapath.PushVlan t.tpid t.tci) (outer_tags after before),
      outer-length before after,
      outer-length after before,
    )

pub commit-length : (base current : List ℕ) → length (commit base current) ≤ commit_limit
unfolding commit
commit-length base current =
    let first = commit_fields fields_before_tags base current in
    let tags = commit_tags (tags_of base) (tags_of current) in
    let last = commit_fields fields_after_tags base current in
    omega (
      arith,
      length-append first (tags ++ last),
      length-append tags last,
      fields-length fields_before_tags base current,
      fields-length fields_after_tags base current,
      tags-length (tags_of base) (tags_of current),
      two_tags base,
      two_tags current,
    )

-- ---- a key that stands already needs no action

fields-none : (fs : List FieldId) (key : List ℕ) → commit_fields fs key key ≡ []
unfolding commit_fields commit_field
fields-none [] key = refl
fields-none (f ∷ fs) key =
    ap₂ (λ (t : Bool) (rest : List DpAction). (if t then [] else write_of f (value_of key f) (value_of key f) ∷ []) ++ rest) (eq-eqb (value_of key f) (value_of key f) refl) (fields-none fs key)

outer-none : (ts : List VlanTag) → outer_tags ts ts ≡ []
unfolding outer_tags
outer-none [] = refl
outer-none (t ∷ ts) =
    ap (λ (b : Bool). if b then outer_tags ts ts else t ∷ ts) (ap₂ (λ (x y : Bool). x && y) (eq-eqb t.tci t.tci refl) (eq-eqb t.tpid t.tpid refl)) ∙ outer-none ts

tags-none : (ts : List VlanTag) → commit_tags ts ts ≡ []
unfolding commit_tags
tags-none ts = ap (λ (z : List VlanTag). map (λ (t : VlanTag). datapath.PopVlan) z ++ map (λ (t : VlanTag). datapath.PushVlan t.tpid t.tci) z) (outer-none ts)

pub commit-none : (key : List ℕ) → commit key key ≡ []
unfolding commit
commit-none key =
    ap₂ (λ (x z : List DpAction). x ++ z) (fields-none fields_before_tags key)
    (ap₂ (λ (y z : List DpAction). y ++ z) (tags-none (tags_of key)) (fields-none fields_after_tags key))

-- ---- what is emitted

abbrev pub with_emitted : List DpAction → State → State
with_emitted more s = record s { actions = s.actions ++ more }

pub emitted : (more : List DpAction) (s : State) → length s.actions + length more ≤ action_limit → emit_all more s ≡ with_emitted more s
unfolding emit_all emit
emitted [] s room = ap (λ (z : List DpAction). record s { actions = z }) (sym (append-nil s.actions))
emitted (x ∷ more) s room =
    ap (emit_all more) (at (length s.actions == action_limit) refl)
    ∙ emitted more (with_emitted (x ∷ []) s) (omega (arith, length-append s.actions (x ∷ [])))
    ∙ ap (λ (z : List DpAction). record s { actions = z }) (append_assoc s.actions (x ∷ []) more)
  where
    at : (t : Bool) → (length s.actions == action_limit) ≡ t → (if t then stopped s else with_emitted (x ∷ []) s) ≡ with_emitted (x ∷ []) s
    at true e = absurd (let full = eqb-true (length s.actions) action_limit e in omega arith)
    at false e = refl

-- the frame is made one of the current key, and sent to these ports
abbrev pub sending : List ℕ → State → State
sending [] s = s
sending (p ∷ ps) s = emit_all (map datapath.Output (p ∷ ps)) (committed s)

-- what that gives
abbrev pub with_sent : List ℕ → State → State
with_sent ps s = record s { actions = s.actions ++ (commit s.base s.current ++ map datapath.Output ps); base = s.current }

pub sent : (p : ℕ) (ps : List ℕ) (s : State) → length s.actions + (length (commit s.base s.current) + length (p ∷ ps)) ≤ action_limit
    → sending (p ∷ ps) s ≡ with_sent (p ∷ ps) s
unfolding committed
sent p ps s room =
    let changes = commit s.base s.current in
    let outputs = map datapath.Output (p ∷ ps) in
    let many : length outputs ≡ length (p ∷ ps) = mapped-length datapath.Output (p ∷ ps) in
    ap (λ (z : State). emit_all outputs (rebased z)) (emitted changes s (omega (arith, many)))
    ∙ emitted outputs (rebased (with_emitted changes s)) (omega (arith, length-append s.actions changes, many))
    ∙ ap (λ (z : List DpAction). record s { actions = z; base = s.current }) (append_assoc s.actions changes outputs)

-- ---- actions that send

abbrev pub is_output : OfAction → Bool
is_output (Output n) = true
is_output (OutputField slice) = true
is_output InPort = true
is_output All = true
is_output Flood = true
is_output action = false

abbrev pub one_port : Switch → List ℕ → ℕ → List ℕ
one_port sw key n = if is_other_port sw key n then n ∷ [] else []

-- the ports that an action sends to
abbrev pub ports_of : Switch → OfAction → List ℕ → List ℕ
ports_of sw (Output n) key = one_port sw key n
ports_of sw (OutputField slice) key = one_port sw key (slice_of key slice)
ports_of sw InPort key = in_port_of key ∷ []
ports_of sw All key = other_ports sw key
ports_of sw Flood key = other_ports sw key
ports_of sw action key = []

output-sends : (sw : Switch) (n : ℕ) (s : State) → output sw n s ≡ sending (one_port sw s.current n) s
unfolding output emit_all
output-sends sw n s = at (is_other_port sw s.current n)
  where
    at : (t : Bool) → (if t then emit (datapath.Output n) (committed s) else s) ≡ sending (if t then n ∷ [] else []) s
    at true = refl
    at false = refl

all-sends : (ps : List ℕ) (s : State) → output_all ps s ≡ sending ps s
unfolding output_all
all-sends [] s = refl
all-sends (p ∷ ps) s = refl

pub act-sends : (sw : Switch) (sub : ℕ → State → State) (x : OfAction) → is_output x ≡ true → (s : State) → act sw sub x s ≡ sending (ports_of sw x s.current) s
unfolding act emit_all
act-sends sw sub (Output n) is s = output-sends sw n s
act-sends sw sub (OutputField slice) is s = output-sends sw (slice_of s.current slice) s
act-sends sw sub InPort is s = refl
act-sends sw sub All is s = all-sends (other_ports sw s.current) s
act-sends sw sub Flood is s = all-sends (other_ports sw s.current) s
act-sends sw sub (Resubmit table) is s = absurd (cc is)
act-sends sw sub (Goto table) is s = absurd (cc is)
act-sends sw sub (Set name value mask) is s = absurd (cc is)
act-sends sw sub (Move source target) is s = absurd (cc is)
act-sends sw sub DecTtl is s = absurd (cc is)
act-sends sw sub (PushVlan tpid) is s = absurd (cc is)
act-sends sw sub PopVlan is s = absurd (cc is)
act-sends sw sub (SetVid vid) is s = absurd (cc is)
act-sends sw sub (SetPcp pcp) is s = absurd (cc is)
