-- What the value of a named field states in a match or a write (ovs-fields(7)). Which fields may be masked in text, and
-- the ranges of ports, tags and ICMP codes, are this profile's.
use Rattle.std.specs.Prelude.{ℕ, ◌+◌, ◌*◌, ◌^◌, ◌==◌, Bool, true, false, ◌&&◌, ◌||◌, if◌then◌else◌, List, [], ◌∷◌, Option, Some, None, codes, bit_and}
use Rattle.std.specs.Option.{option_map, option_or}
use Rattle.spec_base.specs.Bits.{all_bits}
use Rattle.spec_keys.specs.declared.field_id.FieldId.{FieldId}
use Rattle.spec_keys.specs.declared.field_id.FieldId.TheVariants as key
use Rattle.spec_keys.specs.Protocols.{ipv4_type, ipv6_type, arp_type, icmp_protocol, tcp_protocol, udp_protocol, icmp6_protocol, tag_bit}
use Rattle.spec_actions.specs.declared.named_field.NamedField.{NamedField}
use Rattle.spec_actions.specs.declared.named_field.NamedField.TheVariants.{InPort, DlSrc, DlDst, VlanVid, VlanPcp, NwSrc, NwDst, ArpSpa, ArpTpa, Ipv6Src, Ipv6Dst, NwProto, ArpOp, NwTos, IpDscp, NwEcn, NwTtl, IpFrag, ArpSha, ArpTha, TpSrc, TpDst, TcpSrc, TcpDst, UdpSrc, UdpDst, IcmpType, IcmpCode, Icmpv6Type, Icmpv6Code}
use Rattle.spec_actions.specs.Named.{named, dscp_bits}
use Rattle.spec_actions.specs.Sound.{last_vid}
use Rattle.spec_flow_text.specs.Characters.{slash}
use Rattle.spec_flow_text.specs.Numbers.{◌>>=◌, where_found, split_once, number_upto, last_port, nonzero, mac}
use Rattle.spec_flow_text.specs.Addresses.{ipv4, ipv6, ipv4_mask, ipv6_mask}
use Rattle.spec_flow_text.specs.declared.part.ValueForm.{ValueForm}
use Rattle.spec_flow_text.specs.declared.part.ValueForm.TheVariants as form
use Rattle.spec_flow_text.specs.declared.part.MatchPrerequisite.{MatchPrerequisite}
use Rattle.spec_flow_text.specs.declared.part.MatchPrerequisite.TheVariants as needs
use Rattle.spec_flow_text.specs.declared.part.TagPart.{TagPart}
use Rattle.spec_flow_text.specs.declared.part.TagPart.TheVariants as tag
use Rattle.spec_flow_text.specs.declared.part.Part.{Part}
use Rattle.spec_flow_text.specs.Names.{meaning_of}

-- ---- forms

abbrev pub form_of : NamedField → ValueForm
form_of InPort = form.Port
form_of DlSrc = form.Mac
form_of DlDst = form.Mac
form_of NwSrc = form.Ipv4
form_of NwDst = form.Ipv4
form_of ArpSpa = form.Ipv4
form_of ArpTpa = form.Ipv4
form_of Ipv6Src = form.Ipv6
form_of Ipv6Dst = form.Ipv6
form_of IpFrag = form.Fragment
form_of ArpSha = form.Mac
form_of ArpTha = form.Mac
form_of _ = form.Number

-- types and codes of ICMP and ICMPv6 have 8 bits (RFC 792, RFC 4443), and stand in ports, which have 16
abbrev pub last_icmp : ℕ
last_icmp = 255

-- the greatest number of a named field
abbrev pub most_of : NamedField → ℕ
most_of IcmpType = last_icmp
most_of IcmpCode = last_icmp
most_of Icmpv6Type = last_icmp
most_of Icmpv6Code = last_icmp
most_of f = all_bits (named f).bits

-- a value in its form, at most so much where it is a number
unfoldable pub value_in : ValueForm → ℕ → List ℕ → Option ℕ
value_in form.Port most text = number_upto last_port text >>= nonzero
value_in form.Number most text = number_upto most text
value_in form.Mac most text = mac text
value_in form.Ipv4 most text = ipv4 text
value_in form.Ipv6 most text = ipv6 text
value_in form.Fragment most text = None

-- a mask, in the form of its value; that of an IP address may be a length
unfoldable pub mask_in : ValueForm → ℕ → List ℕ → Option ℕ
mask_in form.Number most text = number_upto most text
mask_in form.Mac most text = mac text
mask_in form.Ipv4 most text = ipv4_mask text
mask_in form.Ipv6 most text = ipv6_mask text
mask_in form.Port most text = None
mask_in form.Fragment most text = None

-- ---- values of named fields

-- bits of a named field: a value as it is written, and the mask of the bits that count
pub record Bits : Type 0 where
  pub value : ℕ
  pub mask : ℕ

abbrev pub bits : ℕ → ℕ → Bits
bits value mask = record { value = value; mask = mask }

-- these bits, of which those outside the mask are 0
abbrev pub within_mask : Bits → Bits
within_mask b = bits (bit_and b.value b.mask) b.mask

-- the kinds of fragments: bit 0 says that a packet is one, bit 1 that it isn't the first (ovs-fields(7), ip_frag)
abbrev pub fragment_words : List (List ℕ × Bits)
fragment_words =
    (codes "no", bits 0 3) ∷ (codes "first", bits 1 3) ∷ (codes "later", bits 3 3) ∷ (codes "yes", bits 1 1) ∷
    (codes "not_later", bits 0 2) ∷ []

unfoldable pub whole_value : NamedField → List ℕ → Option Bits
whole_value f text = option_map (λ v. bits v (all_bits (named f).bits)) (value_in (form_of f) (most_of f) text)

unfoldable pub masked_value : NamedField → List ℕ × List ℕ → Option Bits
masked_value f parts = do
  v ← value_in (form_of f) (most_of f) parts.0
  m ← mask_in (form_of f) (most_of f) parts.1
  if (named f).maskable then Some (bits v m) else None

-- what `VALUE` or `VALUE/MASK` says of a named field
unfoldable pub value_of : NamedField → List ℕ → Option Bits
value_of IpFrag text = meaning_of fragment_words text
value_of f text = where_found (split_once slash text) (masked_value f) (whole_value f text)

-- ---- what a match states

-- what the flow has to state for a named field to be kept
abbrev pub needs_of : NamedField → MatchPrerequisite
needs_of NwSrc = needs.Ipv4OrArp
needs_of NwDst = needs.Ipv4OrArp
needs_of ArpSpa = needs.Arp
needs_of ArpTpa = needs.Arp
needs_of Ipv6Src = needs.Ipv6
needs_of Ipv6Dst = needs.Ipv6
needs_of NwProto = needs.IpOrArp
needs_of ArpOp = needs.Arp
needs_of NwTos = needs.Ip
needs_of IpDscp = needs.Ip
needs_of NwEcn = needs.Ip
needs_of NwTtl = needs.Ip
needs_of IpFrag = needs.Ip
needs_of ArpSha = needs.Arp
needs_of ArpTha = needs.Arp
needs_of TpSrc = needs.TcpOrUdp
needs_of TpDst = needs.TcpOrUdp
needs_of TcpSrc = needs.Tcp
needs_of TcpDst = needs.Tcp
needs_of UdpSrc = needs.Udp
needs_of UdpDst = needs.Udp
needs_of IcmpType = needs.AnyIcmp
needs_of IcmpCode = needs.AnyIcmp
needs_of Icmpv6Type = needs.Icmp6
needs_of Icmpv6Code = needs.Icmp6
needs_of _ = needs.Nothing

abbrev pub tag_part_of : NamedField → TagPart
tag_part_of VlanVid = tag.Identifier
tag_part_of VlanPcp = tag.Priority
tag_part_of _ = tag.Neither

-- bits of a field of the key, of which those outside the mask are 0
abbrev pub part : FieldId → Bits → MatchPrerequisite → TagPart → Part
part f b needs tag = record { field = f; value = bit_and b.value b.mask; mask = b.mask; needs = needs; tag = tag }

-- bits of a named field where they stand in the field of the key
abbrev pub raised : ℕ → Bits → Bits
raised low b = bits (b.value * 2 ^ low) (b.mask * 2 ^ low)

-- these bits, and that there is a tag
abbrev pub with_tag : Bits → Bits
with_tag b = bits (b.value + tag_bit) (b.mask + tag_bit)

-- the bits of nw_tos that aren't ECN's have to be 0 in a match, which then states the others
abbrev pub dscp_of : Bits → Option Bits
dscp_of b = if bit_and b.value dscp_bits == b.value then Some (bits b.value dscp_bits) else None

-- the bits of its field that a named field states in a match
unfoldable pub bits_stated : NamedField → Bits → Option Bits
bits_stated VlanPcp b = Some (with_tag (raised (named VlanPcp).low b))
bits_stated NwTos b = dscp_of b
bits_stated f b = Some (raised (named f).low b)

-- what an item of this name and value states
unfoldable pub field_stated : NamedField → List ℕ → Option Part
field_stated f text = do
  b ← value_of f text
  s ← bits_stated f b
  Some (part (named f).field s (needs_of f) (tag_part_of f))

-- what `dl_vlan` says: a VLAN of a tagged frame, or that there is no tag (OFP_VLAN_NONE of OpenFlow 1.0)
abbrev pub no_vlan : ℕ
no_vlan = 0xffff

abbrev pub vlan_bits : ℕ → Option Bits
vlan_bits n = if n == no_vlan then Some (bits 0 (all_bits 16)) else None

unfoldable pub vlan_stated : List ℕ → Option Part
vlan_stated text =
    option_map (λ b. part key.VlanTci b needs.Nothing tag.Identifier)
    (option_or (option_map (λ n. with_tag (bits n last_vid)) (number_upto last_vid text)) (number_upto no_vlan text >>= vlan_bits))

abbrev pub type_part : ℕ → Part
type_part n = part key.DlType (bits n (all_bits 16)) needs.Nothing tag.Neither

abbrev pub protocol_part : ℕ → Part
protocol_part n = part key.NwProto (bits n (all_bits 8)) needs.Ip tag.Neither

-- ---- prerequisites

abbrev pub is : ℕ → Option ℕ → Bool
is n None = false
is n (Some m) = n == m

-- whether the Ethernet type that a flow states, if it does, is one that is needed
abbrev pub type_meets : MatchPrerequisite → Option ℕ → Bool
type_meets needs.Nothing t = true
type_meets needs.Ipv6 t = is ipv6_type t
type_meets needs.Arp t = is arp_type t
type_meets needs.Ipv4OrArp t = is ipv4_type t || is arp_type t
type_meets needs.IpOrArp t = is ipv4_type t || (is ipv6_type t || is arp_type t)
type_meets needs.Icmp6 t = is ipv6_type t
type_meets _ t = is ipv4_type t || is ipv6_type t

-- whether that type and the protocol that it states are
abbrev pub is_met : MatchPrerequisite → Option ℕ → Option ℕ → Bool
is_met needs.Tcp t p = type_meets needs.Tcp t && is tcp_protocol p
is_met needs.Udp t p = type_meets needs.Udp t && is udp_protocol p
is_met needs.TcpOrUdp t p = type_meets needs.TcpOrUdp t && (is tcp_protocol p || is udp_protocol p)
is_met needs.AnyIcmp t p = (is ipv4_type t && is icmp_protocol p) || (is ipv6_type t && is icmp6_protocol p)
is_met needs.Icmp6 t p = is ipv6_type t && is icmp6_protocol p
is_met n t p = type_meets n t
