-- The actions of a translation are within the fields that they write, as each of its keys has numbers that fit these.
use Rattle.std.proofs.Common.{◌≡◌, ℕ, zero, suc, ◌+◌, ◌-◌, ◌*◌, ◌^◌, ◌<◌, Bool, true, false, ◌==◌, nat_le, if◌then◌else◌, List, [], ◌∷◌, map, length, bit_and, Option, Some, None, IsTrue, refl, arith, lit<, pow_mono, lt_of_lt_of_le}
use Rattle.std.specs.Prelude.{bit_xor}
use Rattle.std.specs.List.{list_all}
use Rattle.std.proofs.lemmas.Bool.{and_parts, and_from}
use Rattle.std.proofs.lemmas.Nat.{and_le_r, xor_lt, shl_below}
use Rattle.spec_keys.specs.declared.field_id.FieldId.{FieldId}
use Rattle.spec_keys.specs.declared.field_id.FieldId.TheVariants as field
use Rattle.spec_keys.specs.Fields.{place_of, width_of}
use Rattle.spec_keys.specs.Keys.{value_of, IsKey}
use Rattle.spec_keys.specs.Protocols.{tag_bit}
use Rattle.spec_actions.specs.declared.named_field.NamedField.{NamedField}
use Rattle.spec_actions.specs.declared.named_field.Prerequisite.TheVariants as needs
use Rattle.spec_actions.specs.declared.action.OfAction.{OfAction}
use Rattle.spec_actions.specs.declared.action.OfAction.TheVariants.{Output, OutputField, InPort, All, Flood, Resubmit, Goto, Set, Move, DecTtl, PushVlan, PopVlan, SetVid, SetPcp}
use Rattle.spec_actions.specs.declared.action.DpAction.{DpAction}
use Rattle.spec_actions.specs.declared.action.DpAction.TheVariants as datapath
use Rattle.spec_actions.specs.Named.{named}
use Rattle.spec_tables.specs.Rules.{Rule, winner}
use Rattle.spec_xlate.specs.Tags.{is_full}
use Rattle.spec_xlate.specs.Needs.{is_met}
use Rattle.spec_xlate.specs.Commit.{commit}
use Rattle.spec_base.specs.Bits.{merged}
use Rattle.spec_xlate.specs.Translation.{Switch, State, Mode, deepest, action_limit, emit, emit_all, committed, in_port_of, is_other_port, other_ports, output, output_all, slice_bits, slice_of, with_value, written, in_field, written_bits, write, vid_bits, pcp_bits, pcp_unit, write_tag, lower_ttl, act, in_mode, run, visited, follow, with_lookups_left, enter, look, start, last_state, kept, pipe}
use Rattle.spec_xlate.specs.Translation.Mode.{Going, ListEnded, Stopped}
use Rattle.named_fields.proofs.NamedLaws.{named-within, writable-within}
use Rattle.spec_flow_text.specs.Within.{is_within_field}
use Rattle.action_text.proofs.Numbers.{is_type_place, FitsFields, fits_from_key, value_fits, value_set, popped_fits, pushed_fits, tagged_fits}
use Rattle.action_text.proofs.Commits.{are_within, joined, commit_from_fits}

-- ---- keys

if_below : (b : Bool) (bound m n : ℕ) → m < bound → n < bound → (if b then m else n) < bound
if_below true bound m n first second = first
if_below false bound m n first second = second

with_value-fits : (f : FieldId) (n : ℕ) (key : List ℕ) → (is_type_place (place_of f) ≡ false → n < 2 ^ width_of f) → FitsFields key → FitsFields (with_value f n key)
with_value-fits field.VlanTci n key below fits = tagged_fits n key (below refl) fits
with_value-fits f n key below fits = value_set key f n below fits

merged-below : (width n value mask : ℕ) → n < 2 ^ width → mask < 2 ^ width → merged n value mask < 2 ^ width
merged-below width n value mask below mask_below =
    let replaced = bit_and (bit_xor n value) mask in
    xor_lt width n replaced below (omega (arith, mask_below, and_le_r (bit_xor n value) mask))

written-fits : (f : FieldId) (value mask : ℕ) (key : List ℕ) → mask < 2 ^ width_of f → FitsFields key → FitsFields (written f value mask key)
written-fits f value mask key below fits =
    let changed : FitsFields (with_value f (merged (value_of key f) value mask) key) =
    with_value-fits f (merged (value_of key f) value mask) key (λ h. merged-below (width_of f) (value_of key f) value mask (value_fits key f fits h) below) fits in
    elim (mask == 0) as (λ b. FitsFields (if b then key else with_value f (merged (value_of key f) value mask) key)) [ true ↦ fits | false ↦ changed ]

written_bits-below : (n : NamedField) (bits : ℕ) → written_bits n bits < 2 ^ width_of (named n).field
written_bits-below n bits =
    let kept_bits = bit_and bits (named n).writable in
    let below : kept_bits < 2 ^ (named n).bits = omega (arith, writable-within n, and_le_r bits (named n).writable) in
    lt_of_lt_of_le (shl_below kept_bits (named n).bits (named n).low below) (pow_mono (omega (arith, named-within n)))

-- ---- states

-- both keys fit the fields that datapath actions write, and the actions are within them
record IsWithin (s : State) : Type 0 where
  current : FitsFields s.current
  base : FitsFields s.base
  actions : are_within s.actions

with_key : (key : List ℕ) (s : State) → FitsFields key → IsWithin s → IsWithin (record s { current = key })
with_key key s fits h = record { current = fits; base = h.base; actions = h.actions }

if_within : (b : Bool) (s t : State) → IsWithin s → IsWithin t → IsWithin (if b then s else t)
if_within true s t first second = first
if_within false s t first second = second

emit-within : (a : DpAction) (s : State) → IsTrue (is_within_field a) → IsWithin s → IsWithin (emit a s)
unfolding emit
emit-within a s within h =
    let last : are_within (a ∷ []) = and_from (is_within_field a) true within refl in
    if_within (length s.actions == action_limit) _ _ (record { current = h.current; base = h.base; actions = h.actions })
    (record { current = h.current; base = h.base; actions = joined s.actions (a ∷ []) h.actions last })

emit_all-within : (actions : List DpAction) (s : State) → are_within actions → IsWithin s → IsWithin (emit_all actions s)
unfolding emit_all
emit_all-within [] s within h = h
emit_all-within (a ∷ actions) s within h =
    let parts = and_parts (is_within_field a) (list_all is_within_field actions) within in
    emit_all-within actions (emit a s) parts.1 (emit-within a s parts.0 h)

committed-within : (s : State) → IsWithin s → IsWithin (committed s)
unfolding committed
committed-within s h =
    let k = emit_all-within (commit s.base s.current) s (commit_from_fits s.base s.current h.base h.current) h in
    record { current = k.current; base = k.current; actions = k.actions }

outputs-within : (ports : List ℕ) → are_within (map datapath.Output ports)
outputs-within [] = refl
outputs-within (p ∷ ports) = outputs-within ports

output-within : (sw : Switch) (n : ℕ) (s : State) → IsWithin s → IsWithin (output sw n s)
unfolding output
output-within sw n s h = if_within (is_other_port sw s.current n) _ _ (emit-within (datapath.Output n) _ refl (committed-within s h)) h

output_all-within : (ports : List ℕ) (s : State) → IsWithin s → IsWithin (output_all ports s)
unfolding output_all
output_all-within [] s h = h
output_all-within (p ∷ ports) s h = emit_all-within (map datapath.Output (p ∷ ports)) _ (outputs-within (p ∷ ports)) (committed-within s h)

write-within : (name : NamedField) (value bits : ℕ) (s : State) → IsWithin s → IsWithin (write name value bits s)
unfolding write
write-within name value bits s h =
    let fits = written-fits (named name).field (in_field name value) (written_bits name bits) s.current (written_bits-below name bits) h.current in
    if_within (is_met (named name).write_needs s.current) _ _ (with_key _ s fits h) h

write_tag-within : (value bits : ℕ) (s : State) → bits + tag_bit < 2 ^ width_of field.VlanTci → IsWithin s → IsWithin (write_tag value bits s)
write_tag-within value bits s below h = with_key _ s (written-fits field.VlanTci (value + tag_bit) (bits + tag_bit) s.current below h.current) h

lower_ttl-within : (s : State) → IsWithin s → IsWithin (lower_ttl s)
lower_ttl-within s h =
    let ttl = value_of s.current field.NwTtl in
    let below : ttl - 1 < 2 ^ width_of field.NwTtl = omega (arith, value_fits s.current field.NwTtl h.current refl) in
    if_within (nat_le ttl 1) _ _ (record { current = h.current; base = h.base; actions = h.actions })
    (with_key _ s (with_value-fits field.NwTtl (ttl - 1) s.current (λ written. below) h.current) h)

-- A lookup keeps a state so.
unfoldable KeepsWithin : (ℕ → State → State) → Type 0
KeepsWithin sub = (table : ℕ) (s : State) → IsWithin s → IsWithin (sub table s)

act-within : (sw : Switch) (sub : ℕ → State → State) → KeepsWithin sub → (action : OfAction) (s : State) → IsWithin s
    → IsWithin (act sw sub action s)
unfolding act KeepsWithin
act-within sw sub keeps (Output n) s h = output-within sw n s h
act-within sw sub keeps (OutputField slice) s h = output-within sw (slice_of s.current slice) s h
act-within sw sub keeps InPort s h = emit-within (datapath.Output (in_port_of s.current)) _ refl (committed-within s h)
act-within sw sub keeps All s h = output_all-within (other_ports sw s.current) s h
act-within sw sub keeps Flood s h = output_all-within (other_ports sw s.current) s h
act-within sw sub keeps (Resubmit table) s h = keeps table s h
act-within sw sub keeps (Goto table) s h = keeps table s h
act-within sw sub keeps (Set name value mask) s h = write-within name value mask s h
act-within sw sub keeps (Move source target) s h = write-within target.name (slice_of s.current source * 2 ^ target.low) (slice_bits target) s h
act-within sw sub keeps DecTtl s h = if_within (is_met needs.Ip s.current) (lower_ttl s) s (lower_ttl-within s h) h
act-within sw sub keeps (PushVlan tpid) s h =
    if_within (is_full s.current) _ _ (record { current = h.current; base = h.base; actions = h.actions })
    (with_key _ s (pushed_fits tpid s.current h.current) h)
act-within sw sub keeps PopVlan s h = with_key _ s (popped_fits s.current h.current) h
act-within sw sub keeps (SetVid vid) s h = write_tag-within vid vid_bits s (lit< tt) h
act-within sw sub keeps (SetPcp pcp) s h = write_tag-within (pcp * pcp_unit) pcp_bits s (lit< tt) h

in_mode-within : (m : Mode) (rest : State → State) (s : State) → IsWithin (rest s) → IsWithin s → IsWithin (in_mode m rest s)
in_mode-within Going rest s further h = further
in_mode-within ListEnded rest s further h = h
in_mode-within Stopped rest s further h = h

run-within : (sw : Switch) (sub : ℕ → State → State) → KeepsWithin sub → (actions : List OfAction) (s : State) → IsWithin s
    → IsWithin (run sw sub actions s)
unfolding run
run-within sw sub keeps [] s h = h
run-within sw sub keeps (a ∷ actions) s h =
    let one = act-within sw sub keeps a s h in
    in_mode-within (act sw sub a s).mode (run sw sub actions) (act sw sub a s) (run-within sw sub keeps actions (act sw sub a s) one) one

follow-within : (sw : Switch) (sub : ℕ → State → State) → KeepsWithin sub → (found : Option Rule) (s : State) → IsWithin s
    → IsWithin (follow sw sub found s)
follow-within sw sub keeps None s h = h
follow-within sw sub keeps (Some r) s h =
    let k = run-within sw sub keeps r.actions (visited r s) (record { current = h.current; base = h.base; actions = h.actions }) in
    record { current = k.current; base = k.base; actions = k.actions }

enter-within : (sw : Switch) (sub : ℕ → State → State) → KeepsWithin sub → (table left : ℕ) (s : State) → IsWithin s
    → IsWithin (enter sw sub table left s)
enter-within sw sub keeps table zero s h = record { current = h.current; base = h.base; actions = h.actions }
enter-within sw sub keeps table (suc left) s h =
    follow-within sw sub keeps (winner (sw.tables table) s.current) (with_lookups_left left s) (record { current = h.current; base = h.base; actions = h.actions })

look-within : (sw : Switch) (depths : ℕ) → KeepsWithin (look sw depths)
unfolding look KeepsWithin
look-within sw zero = λ table s h. record { current = h.current; base = h.base; actions = h.actions }
look-within sw (suc depths) = λ table s h. enter-within sw (look sw depths) (look-within sw depths) table s.lookups_left s h

last_state-within : (sw : Switch) (key : List ℕ) → IsKey key → IsWithin (last_state sw key)
unfolding last_state KeepsWithin
last_state-within sw key is_key = look-within sw (deepest + 1) 0 (start key) (record { current = fits_from_key key is_key; base = fits_from_key key is_key; actions = refl })

kept-within : (m : Mode) (actions : List DpAction) → are_within actions → are_within (kept m actions)
kept-within Going actions h = h
kept-within ListEnded actions h = h
kept-within Stopped actions h = refl

pub translation_within : (sw : Switch) (key : List ℕ) → IsKey key → are_within (pipe sw key).actions
unfolding pipe
translation_within sw key is_key =
    let last = last_state sw key in
    kept-within last.mode last.actions (last_state-within sw key is_key).actions
