-- What a write needs a packet to be (ovs-fields(7), "Prerequisites").
use Rattle.std.specs.Prelude.{ℕ, Bool, true, ◌&&◌, ◌||◌, ◌==◌, List, [], ◌∷◌}
use Rattle.spec_keys.specs.declared.field_id.FieldId.{FieldId}
use Rattle.spec_keys.specs.declared.field_id.FieldId.TheVariants.{DlType, VlanTci, NwProto, IpFrag}
use Rattle.spec_keys.specs.Keys.{value_of}
use Rattle.spec_keys.specs.Protocols.{ipv4_type, ipv6_type, arp_type, icmp_protocol, tcp_protocol, udp_protocol, icmp6_protocol}
use Rattle.spec_actions.specs.declared.named_field.Prerequisite.{Prerequisite}
use Rattle.spec_actions.specs.declared.named_field.Prerequisite.TheVariants.{Nothing, Ipv4, Ipv6, Ip, Arp, Tcp, Udp, TcpOrUdp, Icmp, Icmp6, Tag}
use Rattle.spec_xlate.specs.Tags.{tag_fields, is_tag}

abbrev pub is_ip : List ℕ → Bool
is_ip key = (value_of key DlType == ipv4_type) || (value_of key DlType == ipv6_type)

-- whether a packet is no fragment
abbrev pub is_unfragmented : List ℕ → Bool
is_unfragmented key = value_of key IpFrag == 0

abbrev pub is_protocol : ℕ → List ℕ → Bool
is_protocol protocol key = value_of key NwProto == protocol

-- whether a packet of this key is what a write needs
unfoldable pub is_met : Prerequisite → List ℕ → Bool
is_met Nothing key = true
is_met Ipv4 key = value_of key DlType == ipv4_type
is_met Ipv6 key = value_of key DlType == ipv6_type
is_met Ip key = is_ip key
is_met Arp key = value_of key DlType == arp_type
is_met Tcp key = is_ip key && (is_protocol tcp_protocol key && is_unfragmented key)
is_met Udp key = is_ip key && (is_protocol udp_protocol key && is_unfragmented key)
is_met TcpOrUdp key =
    is_ip key && ((is_protocol tcp_protocol key || is_protocol udp_protocol key) && is_unfragmented key)
is_met Icmp key = (value_of key DlType == ipv4_type) && is_protocol icmp_protocol key
is_met Icmp6 key = (value_of key DlType == ipv6_type) && is_protocol icmp6_protocol key
is_met Tag key = is_tag (value_of key VlanTci)

-- the fields that say whether it is
unfoldable pub fields_needed : Prerequisite → List FieldId
fields_needed Nothing = []
fields_needed Ipv4 = DlType ∷ []
fields_needed Ipv6 = DlType ∷ []
fields_needed Ip = DlType ∷ []
fields_needed Arp = DlType ∷ []
fields_needed Tcp = DlType ∷ NwProto ∷ IpFrag ∷ []
fields_needed Udp = DlType ∷ NwProto ∷ IpFrag ∷ []
fields_needed TcpOrUdp = DlType ∷ NwProto ∷ IpFrag ∷ []
fields_needed Icmp = DlType ∷ NwProto ∷ []
fields_needed Icmp6 = DlType ∷ NwProto ∷ []
fields_needed Tag = tag_fields
