-- Following a translation for all packets that agree on a mask: which flow actions it carries out, whatever the fields
-- hold that are written over.
use Rattle.std.specs.Prelude.{ℕ, ◌+◌, Bool, true, false, not, ◌&&◌, ◌||◌, ◌==◌, nat_le, nat_lt, if◌then◌else◌, List, [], ◌∷◌, ◌++◌, length, map, fold, bit_and}
use Rattle.std.specs.List.{list_all}
use Rattle.spec_keys.specs.declared.field_id.FieldId.{FieldId}
use Rattle.spec_keys.specs.declared.field_id.FieldId.TheVariants as field
use Rattle.spec_keys.specs.Fields.{place_of, fields, register_fields}
use Rattle.spec_keys.specs.Keys.{value_of, none, joined, covers, only_at}
use Rattle.spec_keys.specs.Protocols.{tag_bit}
use Rattle.spec_actions.specs.declared.named_field.NamedField.{NamedField}
use Rattle.spec_actions.specs.declared.named_field.Prerequisite.TheVariants as needs
use Rattle.spec_actions.specs.declared.action.Slice.{Slice}
use Rattle.spec_actions.specs.declared.action.OfAction.{OfAction}
use Rattle.spec_actions.specs.declared.action.OfAction.TheVariants.{Output, OutputField, InPort, All, Flood, Resubmit, Goto, Set, Move, DecTtl, PushVlan, PopVlan, SetVid, SetPcp}
use Rattle.spec_actions.specs.Named.{named}
use Rattle.spec_xlate.specs.Tags.{is_tag_field, is_full}
use Rattle.spec_xlate.specs.Needs.{is_met, fields_needed}
use Rattle.spec_xlate.specs.Translation.{Switch, switch_of, action_limit, is_other_port}
use Rattle.spec_xlate.specs.Lookup.{added, union}
use Rattle.spec_xlate.specs.Consulted.{whole, slice_read}
use Rattle.pipe_model.specs.Events.{Event, events_of}
use Rattle.pipe_model.specs.Events.Event.{Looked, Acted}
use Rattle.xlate_pipeline.specs.Steps.{step_bits}
use Rattle.rule_changes.specs.Lockstep.{written_by}
use Rattle.table_diff.specs.Deciding.{tells_winner}

-- The way so far, for all packets that agree with the first one on a mask: the bits of their keys, as these are now,
-- that are the same for all; the fields that were written; the actions carried out, lookups followed; how many datapath
-- actions there are at most; whether the key may have changed since the frame was sent; and whether each step was
-- decided.
pub record Path : Type 0 where
  pub ports : List ℕ
  pub mask : List ℕ
  pub known : List ℕ
  pub touched : List ℕ
  pub actions : List OfAction
  pub used : ℕ
  pub dirty : Bool
  pub fine : Bool

-- ---- what is known

-- whether a field is as the packet had it when it came in, and the same for all
abbrev pub is_own : Path → FieldId → Bool
is_own p f = (value_of p.touched f == 0) && covers p.mask (union (whole f ∷ []))

abbrev pub are_own : Path → List FieldId → Bool
are_own p fs = list_all (is_own p) fs

-- the bits of the fields that an action writes
abbrev pub writes : OfAction → List (List ℕ)
writes action = map whole (written_by action)

-- a mask with the bits added that another one has of those of these fields of which a third one has none
unfoldable pub with_left : List ℕ → List ℕ → List FieldId → List ℕ → List ℕ
with_left known written [] part = part
with_left known written (f ∷ fs) part =
    with_left known written fs (if value_of written f == 0 then joined part (only_at (place_of f) (value_of known f)) else part)

-- the bits that are known without those that an action writes
abbrev pub forgotten : OfAction → List ℕ → List ℕ
forgotten action known = with_left known (union (writes action)) fields none

-- whether a write to a named field writes the same for all, and nothing but that field
abbrev pub is_known_write : Path → NamedField → Bool
is_known_write p name = not (is_tag_field (named name).field) && are_own p (fields_needed (named name).write_needs)

-- whether what an action writes is the same for all
unfoldable pub is_known : Path → OfAction → Bool
is_known p (Set name value bits) = is_known_write p name
is_known p action = false

abbrev pub known_after : Path → OfAction → List ℕ → List ℕ
known_after p action key = if is_known p action then added p.known (step_bits action key) else forgotten action p.known

-- ---- what is decided

-- the bits of a TTL of which one is set where the TTL is not 0 or 1
abbrev pub high_bits : ℕ
high_bits = 0xfe

-- whether it is the same for all whether the TTL has run out
abbrev pub is_ttl_told : Path → List ℕ → Bool
is_ttl_told p key =
    is_own p field.NwTtl
    || not (bit_and (bit_and (value_of key field.NwTtl) (value_of p.known field.NwTtl)) high_bits == 0)

-- whether these bits of a field are known
abbrev pub are_known : Path → FieldId → ℕ → Bool
are_known p f bits = covers p.known (union (only_at (place_of f) bits ∷ []))

-- whether a slice is known that is none of a tag
abbrev pub is_slice_known : Path → Slice → Bool
is_slice_known p s = not (is_tag_field (named s.name).field) && covers p.known (union (slice_read s))

-- whether it is the same for all where an action sends, and whether it ends its list or the translation
unfoldable pub is_decided : Path → OfAction → List ℕ → Bool
is_decided p (Output n) key = is_own p field.InPort
is_decided p (OutputField slice) key = is_own p field.InPort && is_slice_known p slice
is_decided p InPort key = is_own p field.InPort
is_decided p All key = is_own p field.InPort
is_decided p Flood key = is_own p field.InPort
is_decided p (Resubmit table) key = false
is_decided p (Goto table) key = false
is_decided p (Set name value bits) key = true
is_decided p (Move source target) key = true
is_decided p DecTtl key = is_own p field.DlType && (not (is_met needs.Ip key) || is_ttl_told p key)
is_decided p (PushVlan tpid) key = are_known p field.VlanTci2 tag_bit
is_decided p PopVlan key = true
is_decided p (SetVid vid) key = true
is_decided p (SetPcp pcp) key = true

-- ---- how many datapath actions there are

-- the most that a commit gives
abbrev pub commit_limit : ℕ
commit_limit = 16

-- to how many ports an action sends at most
unfoldable pub sends : List ℕ → OfAction → List ℕ → ℕ
sends ports (Output n) key = if is_other_port (switch_of [] ports) key n then 1 else 0
sends ports (OutputField slice) key = 1
sends ports InPort key = 1
sends ports All key = length ports
sends ports Flood key = length ports
sends ports action key = 0

-- how many datapath actions come of that at most
abbrev pub cost : Bool → ℕ → ℕ
cost dirty n = if n == 0 then 0 else (if dirty then commit_limit + n else n)

abbrev pub used_after : Path → OfAction → List ℕ → ℕ
used_after p action key = p.used + cost p.dirty (sends p.ports action key)

-- whether the key may differ from that of the frame after an action
unfoldable pub dirty_after : Path → OfAction → List ℕ → Bool
dirty_after p (Output n) key = p.dirty && not (is_other_port (switch_of [] p.ports) key n)
dirty_after p (OutputField slice) key = p.dirty
dirty_after p InPort key = false
dirty_after p All key = p.dirty
dirty_after p Flood key = p.dirty
dirty_after p action key = true

-- ---- steps

-- how many actions are kept
abbrev pub path_limit : ℕ
path_limit = 128

-- whether an action does nothing but end its list, or the translation
unfoldable pub is_left_out : OfAction → List ℕ → Bool
is_left_out DecTtl key = is_met needs.Ip key && nat_le (value_of key field.NwTtl) 1
is_left_out (PushVlan tpid) key = is_full key
is_left_out action key = false

abbrev pub has_room : Path → OfAction → List ℕ → Bool
has_room p action key = nat_le (used_after p action key) action_limit && nat_lt (length p.actions) path_limit

-- one more action on a packet of a key
abbrev pub with_action : Path → OfAction → List ℕ → Path
with_action p action key = record {
  ports = p.ports;
  mask = p.mask;
  known = known_after p action key;
  touched = added p.touched (writes action);
  actions = if has_room p action key && not (is_left_out action key) then p.actions ++ action ∷ [] else p.actions;
  used = if has_room p action key then used_after p action key else p.used;
  dirty = dirty_after p action key;
  fine = p.fine && (is_decided p action key && has_room p action key);
}

-- one more lookup, by whether it was decided
abbrev pub looked : Path → Bool → Path
looked p told = record p { fine = p.fine && told }

abbrev pub followed : Path → Event → Path
followed p (Looked depth table rules key) = looked p (tells_winner p.known rules key)
followed p (Acted action key) = with_action p action key

-- ---- the whole way

-- a mask with metadata and the registers added, which are 0 in the keys of frames
unfoldable pub with_registers : List ℕ → List ℕ
with_registers mask = added mask (map whole register_fields)

-- before the first step
abbrev pub begun : List ℕ → List ℕ → Path
begun ports mask = record {
  ports = ports;
  mask = mask;
  known = with_registers mask;
  touched = none;
  actions = [];
  used = 0;
  dirty = false;
  fine = true;
}

-- the way of the packet of a key
abbrev pub way_of : Switch → List ℕ → List ℕ → Path
way_of sw mask key = fold followed (begun sw.ports mask) (events_of sw key)

-- The bits of frames, as they were sent last, that are the same for all. Where keys may have changed since, none are
-- told.
abbrev pub sent_bits : Path → List ℕ
sent_bits p = if p.dirty then none else p.known
