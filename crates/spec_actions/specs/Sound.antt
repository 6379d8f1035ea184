-- Sound lists of flow actions: those that the flow text can spell, and that a switch may be handed.
use Rattle.std.specs.Prelude.{ℕ, ◌-◌, ◌^◌, Bool, true, ◌&&◌, not, ◌==◌, nat_le, nat_lt, List, IsTrue}
use Rattle.std.specs.List.{list_all}
use Rattle.spec_keys.specs.Protocols.{is_tag_type}
use Rattle.spec_actions.specs.declared.named_field.NamedField.{NamedField}
use Rattle.spec_actions.specs.declared.action.Slice.{Slice}
use Rattle.spec_actions.specs.declared.action.OfAction.{OfAction}
use Rattle.spec_actions.specs.declared.action.OfAction.TheVariants.{Output, OutputField, InPort, All, Flood, Resubmit, Goto, Set, Move, DecTtl, PushVlan, PopVlan, SetVid, SetPcp}
use Rattle.spec_actions.specs.Named.{named, is_printed_alone}

-- the greatest table, VLAN identifier and VLAN priority
abbrev pub last_table : ℕ
last_table = 254

abbrev pub last_vid : ℕ
last_vid = 4095

abbrev pub last_pcp : ℕ
last_pcp = 7

-- whether a name stands for bits that a write may change
abbrev pub is_written : NamedField → Bool
is_written name = not ((named name).writable == 0)

-- whether a number is within a named field
abbrev pub fits_name : NamedField → ℕ → Bool
fits_name name value = nat_lt value (2 ^ (named name).bits)

-- whether the bits of a slice are those of its name, which flow text has
abbrev pub is_sound_slice : Slice → Bool
is_sound_slice s = not (is_printed_alone s.name) && (nat_le s.low s.high && nat_lt s.high (named s.name).bits)

abbrev pub is_sound : OfAction → Bool
is_sound (Output port) = true
is_sound (OutputField slice) = is_sound_slice slice
is_sound InPort = true
is_sound All = true
is_sound Flood = true
is_sound (Resubmit table) = nat_le table last_table
is_sound (Goto table) = nat_le table last_table
is_sound (Set name value mask) = is_written name && (fits_name name value && fits_name name mask)
is_sound (Move source target) =
    is_sound_slice source && (is_sound_slice target && (is_written target.name && (source.high - source.low == target.high - target.low)))
is_sound DecTtl = true
is_sound (PushVlan tpid) = is_tag_type tpid
is_sound PopVlan = true
is_sound (SetVid vid) = nat_le vid last_vid
is_sound (SetPcp pcp) = nat_le pcp last_pcp

-- Every action of the list is sound.
abbrev pub AreSound : List OfAction → Type 0
AreSound actions = IsTrue (list_all is_sound actions)
