-- The bits that a translation consults: those that decide what it does, and so the mask of the megaflow that it makes
-- (NSDI 2015, section 4.2; what each action consults is this profile's). They are collected along the states of the
-- plain translation, whose rules are not said again.
use Rattle.std.specs.Prelude.{ℕ, zero, suc, ◌+◌, ◌==◌, if◌then◌else◌, List, [], ◌∷◌, ◌++◌, map, fold, set, Option, Some, None}
use Rattle.spec_base.specs.Bits.{all_bits}
use Rattle.spec_keys.specs.declared.field_id.FieldId.{FieldId}
use Rattle.spec_keys.specs.declared.field_id.FieldId.TheVariants as field
use Rattle.spec_keys.specs.Fields.{place_of, width_of, register_fields}
use Rattle.spec_keys.specs.Keys.{only_at}
use Rattle.spec_actions.specs.declared.named_field.NamedField.{NamedField}
use Rattle.spec_actions.specs.declared.named_field.Prerequisite.{Prerequisite}
use Rattle.spec_actions.specs.declared.named_field.Prerequisite.TheVariants as needs
use Rattle.spec_actions.specs.declared.action.Slice.{Slice}
use Rattle.spec_actions.specs.declared.action.OfAction.{OfAction}
use Rattle.spec_actions.specs.declared.action.OfAction.TheVariants.{Output, OutputField, InPort, All, Flood, Resubmit, Goto, Set, Move, DecTtl, PushVlan, PopVlan, SetVid, SetPcp}
use Rattle.spec_actions.specs.Named.{named}
use Rattle.spec_tables.specs.Rules.{Rule, winner}
use Rattle.spec_xlate.specs.Tags.{tag_fields, is_tag_field}
use Rattle.spec_xlate.specs.Needs.{is_ip, is_met, fields_needed}
use Rattle.spec_xlate.specs.Translation.{Switch, State, Mode, deepest, in_field, slice_bits, written_bits, act, visited, with_lookups_left, look, start}
use Rattle.spec_xlate.specs.Translation.Mode.{Going, ListEnded, Stopped}
use Rattle.spec_xlate.specs.Lookup.{union, when, consults}

-- all bits of a field
abbrev pub whole : FieldId → List ℕ
whole f = only_at (place_of f) (all_bits (width_of f))

-- the bits of a field that are read; a vlan_tci is read as a whole
abbrev pub bits_read : FieldId → ℕ → List (List ℕ)
bits_read f bits = if bits == 0 then [] else (if is_tag_field f then whole f else only_at (place_of f) bits) ∷ []

-- the bits of a field that are written; the tags are written as a whole
abbrev pub bits_written : FieldId → ℕ → List (List ℕ)
bits_written f bits = if bits == 0 then [] else (if is_tag_field f then map whole tag_fields else only_at (place_of f) bits ∷ [])

abbrev pub slice_read : Slice → List (List ℕ)
slice_read s = bits_read (named s.name).field (in_field s.name (slice_bits s))

-- the fields that a prerequisite names, and these bits where it is met
abbrev pub under : Prerequisite → List ℕ → List (List ℕ) → List (List ℕ)
under need key masks = map whole (fields_needed need) ++ when (is_met need key) masks

-- what a write to bits of a named field consults, beside the bits that the value is read from
abbrev pub write_bits : NamedField → ℕ → List (List ℕ) → List ℕ → List (List ℕ)
write_bits name bits from key =
    under (named name).write_needs key (from ++ bits_written (named name).field (written_bits name bits))

-- what one action consults; sub is what a lookup in a table does, one deeper than the action
unfoldable pub act_bits : (ℕ → State → List (List ℕ)) → OfAction → State → List (List ℕ)
act_bits sub (Output n) s = []
act_bits sub (OutputField slice) s = slice_read slice
act_bits sub InPort s = []
act_bits sub All s = []
act_bits sub Flood s = []
act_bits sub (Resubmit table) s = sub table s
act_bits sub (Goto table) s = sub table s
act_bits sub (Set name value mask) s = write_bits name mask [] s.current
act_bits sub (Move source target) s = write_bits target.name (slice_bits target) (slice_read source) s.current
act_bits sub DecTtl s = under needs.Ip s.current (whole field.NwTtl ∷ [])
act_bits sub (PushVlan tpid) s = map whole tag_fields
act_bits sub PopVlan s = map whole tag_fields
act_bits sub (SetVid vid) s = map whole tag_fields
act_bits sub (SetPcp pcp) s = map whole tag_fields

-- what a state leads to consults, where the list of actions goes on
abbrev pub in_mode_bits : Mode → (State → List (List ℕ)) → State → List (List ℕ)
in_mode_bits Going rest s = rest s
in_mode_bits ListEnded rest s = []
in_mode_bits Stopped rest s = []

abbrev pub while_going_bits : (State → List (List ℕ)) → State → List (List ℕ)
while_going_bits rest s = in_mode_bits s.mode rest s

-- what a list of actions consults
unfoldable pub run_bits : Switch → (ℕ → State → State) → (ℕ → State → List (List ℕ)) → List OfAction → State → List (List ℕ)
run_bits sw sub bits [] s = []
run_bits sw sub bits (a ∷ actions) s = act_bits bits a s ++ while_going_bits (run_bits sw sub bits actions) (act sw sub a s)

abbrev pub follow_bits : Switch → (ℕ → State → State) → (ℕ → State → List (List ℕ)) → Option Rule → State → List (List ℕ)
follow_bits sw sub bits None s = []
follow_bits sw sub bits (Some r) s = run_bits sw sub bits r.actions (visited r s)

abbrev pub enter_bits : Switch → (ℕ → State → State) → (ℕ → State → List (List ℕ)) → ℕ → ℕ → State → List (List ℕ)
enter_bits sw sub bits table zero s = []
enter_bits sw sub bits table (suc n) s =
    consults (sw.tables table) s.current ++ follow_bits sw sub bits (winner (sw.tables table) s.current) (with_lookups_left n s)

-- what a lookup at a depth below which so many are left, and all that it leads to, consults
unfoldable pub look_bits : Switch → ℕ → ℕ → State → List (List ℕ)
look_bits sw zero table s = []
look_bits sw (suc depths) table s = enter_bits sw (look sw depths) (look_bits sw depths) table s.lookups_left s

-- what every translation consults: where the packet came in and what kind it is (this profile, as in Open vSwitch)
abbrev pub start_bits : List ℕ → List (List ℕ)
start_bits key = whole field.InPort ∷ whole field.DlType ∷ when (is_ip key) (whole field.IpFrag ∷ [])

-- a mask without the bits of these fields
abbrev pub without : List FieldId → List ℕ → List ℕ
without fs mask = fold (λ m f. set m (place_of f) 0) mask fs

-- the bits that the translation of a packet of this key consults
unfoldable pub consulted : Switch → List ℕ → List ℕ
consulted sw key = without register_fields (union (start_bits key ++ look_bits sw (deepest + 1) 0 (start key)))
