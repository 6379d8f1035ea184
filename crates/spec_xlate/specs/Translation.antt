-- What the flow tables make of a packet: a plain run of actions and lookups, with no masks and no caches. The actions
-- are those of ovs-actions(7). The limits, and what a write does to a packet that isn't what it needs, are this profile's.
use Rattle.std.specs.Prelude.{ℕ, zero, suc, ◌+◌, ◌-◌, ◌*◌, ◌/◌, ◌^◌, Bool, ◌&&◌, not, ◌==◌, nat_le, nat_lt, if◌then◌else◌, List, [], ◌∷◌, ◌++◌, length, set, map, filter, Option, Some, None, bit_and}
use Rattle.std.specs.List.{list_any}
use Rattle.spec_base.specs.Bits.{merged}
use Rattle.spec_base.specs.Sorting.{sort_by}
use Rattle.spec_keys.specs.declared.field_id.FieldId.{FieldId}
use Rattle.spec_keys.specs.declared.field_id.FieldId.TheVariants as field
use Rattle.spec_keys.specs.Fields.{place_of}
use Rattle.spec_keys.specs.Keys.{value_of}
use Rattle.spec_actions.specs.declared.named_field.NamedField.{NamedField}
use Rattle.spec_actions.specs.declared.named_field.Prerequisite.TheVariants as needs
use Rattle.spec_actions.specs.declared.action.Slice.{Slice}
use Rattle.spec_actions.specs.declared.action.OfAction.{OfAction}
use Rattle.spec_actions.specs.declared.action.OfAction.TheVariants.{Output, OutputField, InPort, All, Flood, Resubmit, Goto, Set, Move, DecTtl, PushVlan, PopVlan, SetVid, SetPcp}
use Rattle.spec_actions.specs.declared.action.DpAction.{DpAction}
use Rattle.spec_actions.specs.declared.action.DpAction.TheVariants as datapath
use Rattle.spec_actions.specs.Named.{named}
use Rattle.spec_tables.specs.Rules.{Rule, rules_in, winner}
use Rattle.spec_xlate.specs.Needs.{is_met}
use Rattle.spec_keys.specs.Protocols.{tag_bit}
use Rattle.spec_xlate.specs.Tags.{is_tag_field, tagged, pushed, popped, is_full}
use Rattle.spec_xlate.specs.Commit.{commit}

-- limits of this profile: the depth of a lookup, that of the first being 0; lookups; datapath actions
abbrev pub deepest : ℕ
deepest = 64

abbrev pub lookup_limit : ℕ
lookup_limit = 512

abbrev pub action_limit : ℕ
action_limit = 128

-- a switch: the rules of each table, and the numbers of its ports
pub record Switch : Type 0 where
  pub tables : ℕ → List Rule
  pub ports : List ℕ

-- the switch with these rules and ports
abbrev pub switch_of : List Rule → List ℕ → Switch
switch_of rules ports = record { tables = λ table. rules_in table rules; ports = ports }

-- whether a translation goes on, has ended the list of actions that it is in, or has ended as a whole
pub data Mode : Type 0 where
  Going : Mode
  ListEnded : Mode
  Stopped : Mode

-- A translation under way: the packet's key as the actions so far have made it, the key of the frame as the datapath
-- actions so far have made it, these datapath actions, the numbers of the rules visited, and how many lookups are left.
pub record State : Type 0 where
  pub current : List ℕ
  pub base : List ℕ
  pub actions : List DpAction
  pub visits : List ℕ
  pub lookups_left : ℕ
  pub mode : Mode

abbrev pub stopped : State → State
stopped s = record s { mode = Stopped }

abbrev pub with_current : List ℕ → State → State
with_current key s = record s { current = key }

-- Output (ovs-actions(7), "Output Actions")

-- one more datapath action; one too many ends the translation
unfoldable pub emit : DpAction → State → State
emit action s = if length s.actions == action_limit then stopped s else record s { actions = s.actions ++ action ∷ [] }

unfoldable pub emit_all : List DpAction → State → State
emit_all [] s = s
emit_all (a ∷ actions) s = emit_all actions (emit a s)

abbrev pub rebased : State → State
rebased s = record s { base = s.current }

-- the frame becomes one of the current key
unfoldable pub committed : State → State
committed s = rebased (emit_all (commit s.base s.current) s)

abbrev pub in_port_of : List ℕ → ℕ
in_port_of key = value_of key field.InPort

-- the numbers in rising order
abbrev pub rising : List ℕ → List ℕ
rising ns = sort_by nat_lt ns

-- whether a number is that of a port of the switch that the packet didn't come in by; output sends to no other
abbrev pub is_other_port : Switch → List ℕ → ℕ → Bool
is_other_port sw key n = list_any (λ p. n == p) sw.ports && not (n == in_port_of key)

-- the ports that the packet didn't come in by, in rising order (the order is this profile's)
abbrev pub other_ports : Switch → List ℕ → List ℕ
other_ports sw key = filter (λ p. not (p == in_port_of key)) (rising sw.ports)

unfoldable pub output : Switch → ℕ → State → State
output sw n s = if is_other_port sw s.current n then emit (datapath.Output n) (committed s) else s

unfoldable pub output_all : List ℕ → State → State
output_all [] s = s
output_all (p ∷ ps) s = emit_all (map datapath.Output (p ∷ ps)) (committed s)

-- Reading and writing (ovs-actions(7), "Field Modification Actions")

-- a value of a named field, or bits of it, at their place in the field of the key
abbrev pub in_field : NamedField → ℕ → ℕ
in_field name bits = bits * 2 ^ (named name).low

-- the bits of its named field that a slice is
abbrev pub slice_bits : Slice → ℕ
slice_bits s = 2 ^ (s.high + 1) - 2 ^ s.low

-- the number that a slice of a key is
abbrev pub slice_of : List ℕ → Slice → ℕ
slice_of key s = bit_and (value_of key (named s.name).field) (in_field s.name (slice_bits s)) / in_field s.name (2 ^ s.low)

-- a key with this number in a field; a content without bit 0x1000 takes the tag away
abbrev pub with_value : FieldId → ℕ → List ℕ → List ℕ
with_value f number key = if is_tag_field f then tagged number key else set key (place_of f) number

-- a key with the bits of the mask replaced in a field; a write of no bits is no write
abbrev pub written : FieldId → ℕ → ℕ → List ℕ → List ℕ
written f value mask key = if mask == 0 then key else with_value f (merged (value_of key f) value mask) key

-- those of these bits of a named field that a write may change, at their place in the field of the key
abbrev pub written_bits : NamedField → ℕ → ℕ
written_bits name bits = in_field name (bit_and bits (named name).writable)

-- bits of a named field written, where the packet is what that needs; else nothing (this profile)
unfoldable pub write : NamedField → ℕ → ℕ → State → State
write name value bits s =
    if is_met (named name).write_needs s.current
    then with_current (written (named name).field (in_field name value) (written_bits name bits) s.current) s
    else s

-- the bits of a VLAN identifier and of a VLAN priority in vlan_tci (IEEE 802.1Q, 9.6)
abbrev pub vid_bits : ℕ
vid_bits = 0x0fff

abbrev pub pcp_bits : ℕ
pcp_bits = 0xe000

abbrev pub pcp_unit : ℕ
pcp_unit = 0x2000

-- bits of the tag written, and a tag added where there is none (mod_vlan_vid and mod_vlan_pcp)
abbrev pub write_tag : ℕ → ℕ → State → State
write_tag value bits s = with_current (written field.VlanTci (value + tag_bit) (bits + tag_bit) s.current) s

-- the TTL or hop limit lowered by one (dec_ttl); one of 0 or 1 stays, and ends the list of actions that it is met in
abbrev pub lower_ttl : State → State
lower_ttl s =
    if nat_le (value_of s.current field.NwTtl) 1
    then record s { mode = ListEnded }
    else with_current (set s.current (place_of field.NwTtl) (value_of s.current field.NwTtl - 1)) s

-- Actions and lookups (ovs-actions(7): the actions output, in_port, all, flood, resubmit, set_field, load, move, dec_ttl,
-- push_vlan, strip_vlan, mod_vlan_vid and mod_vlan_pcp, and the instruction goto_table)

-- what one action does; sub is a lookup in a table, one deeper than the action
unfoldable pub act : Switch → (ℕ → State → State) → OfAction → State → State
act sw sub (Output n) s = output sw n s
act sw sub (OutputField slice) s = output sw (slice_of s.current slice) s
act sw sub InPort s = emit (datapath.Output (in_port_of s.current)) (committed s)
act sw sub All s = output_all (other_ports sw s.current) s
act sw sub Flood s = output_all (other_ports sw s.current) s
act sw sub (Resubmit table) s = sub table s
act sw sub (Goto table) s = sub table s
act sw sub (Set name value mask) s = write name value mask s
act sw sub (Move source target) s = write target.name (slice_of s.current source * 2 ^ target.low) (slice_bits target) s
act sw sub DecTtl s = if is_met needs.Ip s.current then lower_ttl s else s
act sw sub (PushVlan tpid) s = if is_full s.current then stopped s else with_current (pushed tpid s.current) s
act sw sub PopVlan s = with_current (popped s.current) s
act sw sub (SetVid vid) s = write_tag vid vid_bits s
act sw sub (SetPcp pcp) s = write_tag (pcp * pcp_unit) pcp_bits s

-- what a state leads to where the list of actions goes on, and the state where it doesn't
abbrev pub in_mode : Mode → (State → State) → State → State
in_mode Going rest s = rest s
in_mode ListEnded rest s = s
in_mode Stopped rest s = s

abbrev pub while_going : (State → State) → State → State
while_going rest s = in_mode s.mode rest s

-- the actions in order, as far as the list goes
unfoldable pub run : Switch → (ℕ → State → State) → List OfAction → State → State
run sw sub [] s = s
run sw sub (a ∷ actions) s = while_going (run sw sub actions) (act sw sub a s)

-- a list that has ended lets the one that led to it go on
abbrev pub mode_after : Mode → Mode
mode_after Going = Going
mode_after ListEnded = Going
mode_after Stopped = Stopped

abbrev pub resumed : State → State
resumed s = record s { mode = mode_after s.mode }

abbrev pub visited : Rule → State → State
visited r s = record s { visits = s.visits ++ r.number ∷ [] }

-- the actions of the rule that was found; without one nothing is done
abbrev pub follow : Switch → (ℕ → State → State) → Option Rule → State → State
follow sw sub None s = s
follow sw sub (Some r) s = resumed (run sw sub r.actions (visited r s))

abbrev pub with_lookups_left : ℕ → State → State
with_lookups_left n s = record s { lookups_left = n }

-- a lookup in a table, if one is left, and what it leads to
abbrev pub enter : Switch → (ℕ → State → State) → ℕ → ℕ → State → State
enter sw sub table zero s = stopped s
enter sw sub table (suc n) s = follow sw sub (winner (sw.tables table) s.current) (with_lookups_left n s)

-- a lookup in a table at a depth below which so many are left, its own among them
unfoldable pub look : Switch → ℕ → ℕ → State → State
look sw zero table s = stopped s
look sw (suc depths) table s = enter sw (look sw depths) table s.lookups_left s

-- the state before the first lookup of a packet
abbrev pub start : List ℕ → State
start key = record { current = key; base = key; actions = []; visits = []; lookups_left = lookup_limit; mode = Going }

-- the state after the first lookup, which is in table 0, and all that it leads to
unfoldable pub last_state : Switch → List ℕ → State
last_state sw key = look sw (deepest + 1) 0 (start key)

pub record Translation : Type 0 where
  pub actions : List DpAction
  pub visits : List ℕ

-- a translation that ended as a whole has no datapath actions (this profile)
abbrev pub kept : Mode → List DpAction → List DpAction
kept Going actions = actions
kept ListEnded actions = actions
kept Stopped actions = []

abbrev pub translation_of : State → Translation
translation_of s = record { actions = kept s.mode s.actions; visits = s.visits }

-- what the switch makes of a packet of this key
unfoldable pub pipe : Switch → List ℕ → Translation
pipe sw key = translation_of (last_state sw key)
