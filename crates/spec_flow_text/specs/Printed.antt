-- The one text of a match and of a list of actions. What is printed of a match that was read reads back as that match.
use Rattle.std.specs.Prelude.{ℕ, ◌==◌, Bool, true, false, ◌&&◌, ◌||◌, if◌then◌else◌, List, [], ◌∷◌, ◌++◌, map, find, Option, Some, None, codes, bit_and}
use Rattle.std.specs.List.{flat_map, join_with_byte}
use Rattle.std.specs.Fmt.{decimal}
use Rattle.std.specs.Option.{option_map_or}
use Rattle.spec_base.specs.Bits.{all_bits}
use Rattle.spec_keys.specs.declared.field_id.FieldId.{FieldId}
use Rattle.spec_keys.specs.declared.field_id.FieldId.TheVariants as key
use Rattle.spec_keys.specs.Fields.{Form, Decimal, Hexadecimal, FourDigits, Mac, Ipv4, Ipv6, Fragment, fields, field_of, width_of}
use Rattle.spec_keys.specs.Keys as keys
use Rattle.spec_keys.specs.Protocols.{ipv4_type, ipv6_type, arp_type, icmp_protocol, tcp_protocol, udp_protocol, icmp6_protocol}
use Rattle.spec_actions.specs.declared.named_field.NamedField.{NamedField}
use Rattle.spec_actions.specs.declared.named_field.NamedField.TheVariants as name
use Rattle.spec_actions.specs.declared.action.Slice.{Slice}
use Rattle.spec_actions.specs.declared.action.OfAction.{OfAction}
use Rattle.spec_actions.specs.declared.action.OfAction.TheVariants.{Output, OutputField, InPort, All, Flood, Resubmit, Goto, Set, Move, DecTtl, PushVlan, PopVlan, SetVid, SetPcp}
use Rattle.spec_actions.specs.Named.{named, dscp_bits}
use Rattle.spec_tables.specs.Rules.{Match}
use Rattle.spec_flow_text.specs.Characters.{comma, dot, slash, equals_sign, left_bracket, right_bracket, right_parenthesis}
use Rattle.spec_flow_text.specs.NumbersPrinted.{hexadecimal, hexadecimal4, mac_text, ipv4_text, ipv6_text, ipv4_mask_text, ipv6_mask_text}
use Rattle.spec_flow_text.specs.declared.shorthand.Shorthand.{Shorthand}
use Rattle.spec_flow_text.specs.declared.shorthand.Shorthand.TheVariants as short
use Rattle.spec_flow_text.specs.Names.{name_of, word_of}
use Rattle.spec_flow_text.specs.Values.{Bits, bits, within_mask, fragment_words}

-- ---- values

-- the form in which a named field is printed: that of its field, where it is all of it
abbrev pub printed_form : NamedField → Form
printed_form f = if (named f).bits == width_of (named f).field then (field_of (named f).field).form else Decimal

abbrev pub is_fragment_word : Bits → List ℕ × Bits → Bool
is_fragment_word b row = (row.1.value == b.value) && (row.1.mask == b.mask)

-- the word for the kind of a fragment, if there is one
abbrev pub fragment_word : Bits → Option (List ℕ)
fragment_word b = option_map_or (λ row. Some row.0) (find (is_fragment_word b) fragment_words) None

-- a whole value
abbrev pub value_text : Form → ℕ → List ℕ
value_text Decimal v = decimal v
value_text Hexadecimal v = hexadecimal v
value_text FourDigits v = hexadecimal4 v
value_text Mac v = mac_text v
value_text Ipv4 v = ipv4_text v
value_text Ipv6 v = ipv6_text v
value_text Fragment v = hexadecimal v

-- a value beside its mask, and that mask
abbrev pub masked_text : Form → ℕ → List ℕ
masked_text Decimal v = hexadecimal v
masked_text form v = value_text form v

abbrev pub mask_text : Form → ℕ → List ℕ
mask_text Ipv4 m = ipv4_mask_text m
mask_text Ipv6 m = ipv6_mask_text m
mask_text form m = masked_text form m

-- a value, and its mask where that isn't full
abbrev pub value_and_mask : Form → ℕ → Bits → List ℕ
value_and_mask form full b =
    if b.mask == full then value_text form b.value else masked_text form b.value ++ (slash ∷ mask_text form b.mask)

abbrev pub word_or_value : Form → ℕ → Bits → Option (List ℕ) → List ℕ
word_or_value form full b None = value_and_mask form full b
word_or_value form full b (Some word) = word

abbrev pub value_of_form : Form → ℕ → Bits → List ℕ
value_of_form Fragment full b = word_or_value Fragment full b (fragment_word b)
value_of_form form full b = value_and_mask form full b

-- what a value and a mask of a named field look like
unfoldable pub value_in_text : NamedField → Bits → List ℕ
value_in_text f b = value_of_form (printed_form f) (all_bits (named f).bits) b

-- ---- the items of a match

-- an item: a shorthand, or a named field with some of its bits
pub data Shown : Type 0 where
  Short : Shorthand → Shown
  Value : NamedField → Bits → Shown

abbrev pub shown_text : Shown → List ℕ
shown_text (Short h) = word_of h
shown_text (Value f b) = name_of f ++ (equals_sign ∷ value_in_text f b)

-- bits are shown where there are any, and those outside the mask as 0
abbrev pub shown_bits : NamedField → Bits → List Shown
shown_bits f b = if b.mask == 0 then [] else Value f (within_mask b) ∷ []

-- what a match states of a field
abbrev pub bits_of : Match → FieldId → Bits
bits_of m f = bits (keys.value_of m.key f) (keys.value_of m.mask f)

abbrev pub is_whole : FieldId → Bits → Bool
is_whole f b = b.mask == all_bits (width_of f)

-- the shorthand of an Ethernet type, with the protocol where one has a shorthand
abbrev pub shorthand_of_ipv4 : Bool → ℕ → Shorthand
shorthand_of_ipv4 stated protocol =
    if stated && (protocol == icmp_protocol) then short.Icmp
    else (if stated && (protocol == tcp_protocol) then short.Tcp
    else (if stated && (protocol == udp_protocol) then short.Udp else short.Ip))

abbrev pub shorthand_of_ipv6 : Bool → ℕ → Shorthand
shorthand_of_ipv6 stated protocol =
    if stated && (protocol == icmp6_protocol) then short.Icmp6
    else (if stated && (protocol == tcp_protocol) then short.Tcp6
    else (if stated && (protocol == udp_protocol) then short.Udp6 else short.Ipv6))

abbrev pub shorthand_of_type : ℕ → Bool → ℕ → Option Shorthand
shorthand_of_type kind stated protocol =
    if kind == arp_type then Some short.Arp
    else (if kind == ipv4_type then Some (shorthand_of_ipv4 stated protocol)
    else (if kind == ipv6_type then Some (shorthand_of_ipv6 stated protocol) else None))

-- the shorthand of a match, where its type has one
unfoldable pub shorthand_of : Match → Option Shorthand
shorthand_of m =
    if is_whole key.DlType (bits_of m key.DlType)
    then shorthand_of_type (keys.value_of m.key key.DlType)
    (is_whole key.NwProto (bits_of m key.NwProto)) (keys.value_of m.key key.NwProto)
    else None

-- the names of a field by itself, and after a shorthand
abbrev pub own_name : FieldId → NamedField
own_name key.InPort = name.InPort
own_name key.Metadata = name.Metadata
own_name key.Reg0 = name.Reg0
own_name key.Reg1 = name.Reg1
own_name key.Reg2 = name.Reg2
own_name key.Reg3 = name.Reg3
own_name key.Reg4 = name.Reg4
own_name key.Reg5 = name.Reg5
own_name key.Reg6 = name.Reg6
own_name key.Reg7 = name.Reg7
own_name key.Reg8 = name.Reg8
own_name key.Reg9 = name.Reg9
own_name key.Reg10 = name.Reg10
own_name key.Reg11 = name.Reg11
own_name key.Reg12 = name.Reg12
own_name key.Reg13 = name.Reg13
own_name key.Reg14 = name.Reg14
own_name key.Reg15 = name.Reg15
own_name key.DlSrc = name.DlSrc
own_name key.DlDst = name.DlDst
own_name key.DlType = name.DlType
own_name key.VlanTci = name.VlanTci
own_name key.NwSrc = name.NwSrc
own_name key.NwDst = name.NwDst
own_name key.Ipv6Src = name.Ipv6Src
own_name key.Ipv6Dst = name.Ipv6Dst
own_name key.NwProto = name.NwProto
own_name key.NwTos = name.NwTos
own_name key.NwTtl = name.NwTtl
own_name key.IpFrag = name.IpFrag
own_name key.ArpSha = name.ArpSha
own_name key.ArpTha = name.ArpTha
own_name key.TpSrc = name.TpSrc
own_name key.TpDst = name.TpDst
own_name key.VlanTpid = name.VlanTpid
own_name key.VlanTci2 = name.VlanTci2
own_name key.VlanTpid2 = name.VlanTpid2

abbrev pub name_after_arp : FieldId → NamedField
name_after_arp key.NwSrc = name.ArpSpa
name_after_arp key.NwDst = name.ArpTpa
name_after_arp key.NwProto = name.ArpOp
name_after_arp f = own_name f

abbrev pub name_after_icmp : FieldId → NamedField
name_after_icmp key.TpSrc = name.IcmpType
name_after_icmp key.TpDst = name.IcmpCode
name_after_icmp f = own_name f

abbrev pub name_after : Option Shorthand → FieldId → NamedField
name_after (Some short.Arp) f = name_after_arp f
name_after (Some short.Icmp) f = name_after_icmp f
name_after (Some short.Icmp6) f = name_after_icmp f
name_after _ f = own_name f

-- whether a shorthand says the protocol too
abbrev pub says_protocol : Option Shorthand → Bool
says_protocol None = false
says_protocol (Some short.Ip) = false
says_protocol (Some short.Ipv6) = false
says_protocol (Some short.Arp) = false
says_protocol (Some _) = true

abbrev pub ecn_bits : ℕ
ecn_bits = all_bits 2

-- none of these bits, or all of them
abbrev pub none_or_all : ℕ → ℕ → Bool
none_or_all part mask = (bit_and part mask == 0) || (bit_and part mask == part)

abbrev pub shown_part : NamedField → ℕ → ℕ → List Shown
shown_part f present v = if present == 0 then [] else Value f (bits v (all_bits (named f).bits)) ∷ []

-- the type of service in its two parts, where each of them is stated as a whole or not at all
abbrev pub shown_service : Bits → List Shown
shown_service b =
    if none_or_all dscp_bits b.mask && none_or_all ecn_bits b.mask
    then shown_part name.NwTos (bit_and dscp_bits b.mask) (bit_and b.value dscp_bits)
    ++ shown_part name.NwEcn (bit_and ecn_bits b.mask) (bit_and b.value ecn_bits)
    else shown_bits name.NwTos b

abbrev pub shown_protocol : Option Shorthand → Bits → List Shown
shown_protocol h b = if says_protocol h then [] else shown_bits (name_after h key.NwProto) b

abbrev pub shown_type : Option Shorthand → Bits → List Shown
shown_type None b = shown_bits name.DlType b
shown_type (Some h) b = Short h ∷ []

-- the items of a field
abbrev pub shown_field : Match → Option Shorthand → FieldId → List Shown
shown_field m h key.DlType = shown_type h (bits_of m key.DlType)
shown_field m h key.NwProto = shown_protocol h (bits_of m key.NwProto)
shown_field m h key.NwTos = shown_service (bits_of m key.NwTos)
shown_field m h f = shown_bits (name_after h f) (bits_of m f)

-- the items of a match, in the order of the fields
unfoldable pub shown : Match → List Shown
shown m = flat_map (shown_field m (shorthand_of m)) fields

-- the text of a match
unfoldable pub match_printed : Match → List ℕ
match_printed m = join_with_byte comma (map shown_text (shown m))

-- ---- actions

abbrev pub slice_text : Slice → List ℕ
slice_text s = name_of s.name ++ (left_bracket ∷ (decimal s.low ++ (dot ∷ dot ∷ (decimal s.high ++ right_bracket ∷ []))))

abbrev pub action_text : OfAction → List ℕ
action_text (Output port) = codes "output:" ++ decimal port
action_text (OutputField s) = codes "output:" ++ slice_text s
action_text InPort = codes "in_port"
action_text All = codes "all"
action_text Flood = codes "flood"
action_text (Resubmit table) = codes "resubmit(," ++ (decimal table ++ right_parenthesis ∷ [])
action_text (Goto table) = codes "goto_table:" ++ decimal table
action_text (Set f value mask) =
    codes "set_field:" ++ (value_in_text f (within_mask (bits value mask)) ++ (codes "->" ++ name_of f))
action_text (Move source target) = codes "move:" ++ (slice_text source ++ (codes "->" ++ slice_text target))
action_text DecTtl = codes "dec_ttl"
action_text (PushVlan tpid) = codes "push_vlan:" ++ hexadecimal4 tpid
action_text PopVlan = codes "pop_vlan"
action_text (SetVid vid) = codes "mod_vlan_vid:" ++ decimal vid
action_text (SetPcp pcp) = codes "mod_vlan_pcp:" ++ decimal pcp

-- items with commas between them, or `drop` where there is none
abbrev pub list_printed : {A : Type 0} → (A → List ℕ) → List A → List ℕ
list_printed text [] = codes "drop"
list_printed text (x ∷ xs) = join_with_byte comma (map text (x ∷ xs))

-- the text of a list of actions
unfoldable pub actions_printed : List OfAction → List ℕ
actions_printed actions = list_printed action_text actions
