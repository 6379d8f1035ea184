-- Matches that the flow text spells.
use Rattle.std.specs.Prelude.{◌≡◌, ℕ, Bool, not, ◌&&◌, ◌||◌, ◌==◌, nat_lt, nat_le, if◌then◌else◌, is_some, length, Option, Some, None, IsTrue, bit_and}
use Rattle.spec_base.specs.Bits.{all_bits}
use Rattle.spec_keys.specs.declared.field_id.FieldId.{FieldId}
use Rattle.spec_keys.specs.declared.field_id.FieldId.TheVariants.{DlType, NwProto}
use Rattle.spec_keys.specs.Fields.{field_count}
use Rattle.spec_keys.specs.Keys.{value_of}
use Rattle.spec_actions.specs.declared.named_field.NamedField.{NamedField}
use Rattle.spec_actions.specs.declared.named_field.NamedField.TheVariants.{InPort, NwTos, IpFrag}
use Rattle.spec_actions.specs.Named.{named, dscp_bits, is_printed_alone}
use Rattle.spec_tables.specs.Rules.{Match}
use Rattle.spec_flow_text.specs.Numbers.{last_port}
use Rattle.spec_flow_text.specs.Values.{Bits, most_of, needs_of, is_met}
use Rattle.spec_flow_text.specs.Matches.{MatchText, default_priority}
use Rattle.spec_flow_text.specs.Printed.{fragment_word, ecn_bits, none_or_all, name_after, bits_of, is_whole, shorthand_of}

-- whether a value, and a mask where it isn't full, are ones that a named field may have in text
abbrev pub is_in_range : NamedField → Bits → Bool
is_in_range f b =
    ((named f).maskable || (b.mask == all_bits (named f).bits)) && (nat_le b.value (most_of f) && nat_le b.mask (all_bits (named f).bits))

-- Whether values of a named field state these bits. Those of in_port number a port, of ip_frag there are five, and
-- nw_tos and nw_ecn are stated whole, each by itself. Under a name that is printed alone nothing is stated.
abbrev pub can_state : NamedField → Bits → Bool
can_state InPort b = (b.mask == all_bits 16) && (nat_lt 0 b.value && nat_le b.value last_port)
can_state IpFrag b = is_some (fragment_word b)
can_state NwTos b = nat_le b.mask (all_bits 8) && (none_or_all dscp_bits b.mask && none_or_all ecn_bits b.mask)
can_state f b = not (is_printed_alone f) && is_in_range f b

-- none is outside its mask
abbrev pub is_stated : NamedField → Bits → Bool
is_stated f b = (bit_and b.value b.mask == b.value) && ((b.mask == 0) || can_state f b)

-- the number that a match states of a field, where it states all of it
abbrev pub number_stated : Match → FieldId → Option ℕ
number_stated m f = if is_whole f (bits_of m f) then Some (value_of m.key f) else None

-- whether what a field of this name needs is stated by the match itself, if the match states any of its bits
abbrev pub has_needed : Match → NamedField → Bits → Bool
has_needed m f b = (b.mask == 0) || is_met (needs_of f) (number_stated m DlType) (number_stated m NwProto)

abbrev pub is_field_spelled : Match → FieldId → Bool
is_field_spelled m f =
    is_stated (name_after (shorthand_of m) f) (bits_of m f) && has_needed m (name_after (shorthand_of m) f) (bits_of m f)

-- A match that the flow text spells: the name that each field has there can state its bits, and what that needs is stated.
pub record IsSpellable (m : Match) : Type 0 where
  pub key_fields : length m.key ≡ field_count
  pub mask_fields : length m.mask ≡ field_count
  pub fields : (f : FieldId) → IsTrue (is_field_spelled m f)

-- a text that states a match alone: no table, cookie or priority, and its list of actions from this place on, if there is one
abbrev pub match_alone : Match → Option ℕ → MatchText
match_alone m rest = record { table = None; priority = default_priority; cookie = None; matching = m; rest = rest }
