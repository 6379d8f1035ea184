-- The names of flows: fields and shorthands (ovs-fields(7)), the other items of a flow (ovs-ofctl(8)), actions
-- (ovs-actions(7)). Which of them are left out is this profile's.
use Rattle.std.specs.Prelude.{ℕ, Bool, ◌||◌, nat_eq, false, if◌then◌else◌, List, [], ◌∷◌, map, slice_get, slice_index_or, Option, Some, None, codes, bytes_eq, find}
use Rattle.std.specs.List.{list_any, starts_with}
use Rattle.std.specs.Option.{option_map, option_map_or, option_or}
use Rattle.std.specs.Char.{is_ascii_digit, to_ascii_uppercase}
use Rattle.spec_keys.specs.Protocols.{ipv4_type, ipv6_type, arp_type, icmp_protocol, tcp_protocol, udp_protocol, icmp6_protocol}
use Rattle.spec_actions.specs.declared.named_field.NamedField.{NamedField}
use Rattle.spec_actions.specs.declared.named_field.NamedField.TheVariants.{InPort, Metadata, Reg0, Reg1, Reg2, Reg3, Reg4, Reg5, Reg6, Reg7, Reg8, Reg9, Reg10, Reg11, Reg12, Reg13, Reg14, Reg15, DlSrc, DlDst, DlType, VlanTci, VlanVid, VlanPcp, NwSrc, NwDst, ArpSpa, ArpTpa, Ipv6Src, Ipv6Dst, NwProto, ArpOp, NwTos, IpDscp, NwEcn, NwTtl, IpFrag, ArpSha, ArpTha, TpSrc, TpDst, TcpSrc, TcpDst, UdpSrc, UdpDst, IcmpType, IcmpCode, Icmpv6Type, Icmpv6Code, VlanTpid, VlanTci2, VlanTpid2}
use Rattle.spec_flow_text.specs.declared.shorthand.Shorthand.{Shorthand}
use Rattle.spec_flow_text.specs.declared.shorthand.Shorthand.TheVariants as short
use Rattle.spec_flow_text.specs.declared.names.ItemName.{ItemName}
use Rattle.spec_flow_text.specs.declared.names.ItemName.TheVariants as item
use Rattle.spec_flow_text.specs.declared.names.ActionName.{ActionName}
use Rattle.spec_flow_text.specs.declared.names.ActionName.TheVariants as action

-- whether a text is one of these words
abbrev pub is_one_of : List (List ℕ) → List ℕ → Bool
is_one_of words text = list_any (λ word. bytes_eq word text) words

-- whether a text begins with one of these
abbrev pub begins_with_one_of : List (List ℕ) → List ℕ → Bool
begins_with_one_of starts text = list_any (λ start. starts_with nat_eq text start) starts

-- what a table says of a word
abbrev pub meaning_of : {A : Type 0} → List (List ℕ × A) → List ℕ → Option A
meaning_of table text = option_map (λ row. row.1) (find (λ row. bytes_eq row.0 text) table)

-- ---- fields

-- every named field that a flow may name
abbrev pub named_fields : List NamedField
named_fields =
    InPort ∷ Metadata ∷ Reg0 ∷ Reg1 ∷ Reg2 ∷ Reg3 ∷ Reg4 ∷ Reg5 ∷ Reg6 ∷ Reg7 ∷
    Reg8 ∷ Reg9 ∷ Reg10 ∷ Reg11 ∷ Reg12 ∷ Reg13 ∷ Reg14 ∷ Reg15 ∷ DlSrc ∷ DlDst ∷
    DlType ∷ VlanTci ∷ VlanVid ∷ VlanPcp ∷ NwSrc ∷ NwDst ∷ ArpSpa ∷ ArpTpa ∷ Ipv6Src ∷ Ipv6Dst ∷
    NwProto ∷ ArpOp ∷ NwTos ∷ IpDscp ∷ NwEcn ∷ NwTtl ∷ IpFrag ∷ ArpSha ∷ ArpTha ∷ TpSrc ∷
    TpDst ∷ TcpSrc ∷ TcpDst ∷ UdpSrc ∷ UdpDst ∷ IcmpType ∷ IcmpCode ∷ Icmpv6Type ∷ Icmpv6Code ∷ []

-- its names; the first is printed
abbrev pub names_of : NamedField → List (List ℕ)
names_of InPort = codes "in_port" ∷ codes "NXM_OF_IN_PORT" ∷ []
names_of Metadata = codes "metadata" ∷ codes "OXM_OF_METADATA" ∷ []
names_of Reg0 = codes "reg0" ∷ codes "NXM_NX_REG0" ∷ []
names_of Reg1 = codes "reg1" ∷ codes "NXM_NX_REG1" ∷ []
names_of Reg2 = codes "reg2" ∷ codes "NXM_NX_REG2" ∷ []
names_of Reg3 = codes "reg3" ∷ codes "NXM_NX_REG3" ∷ []
names_of Reg4 = codes "reg4" ∷ codes "NXM_NX_REG4" ∷ []
names_of Reg5 = codes "reg5" ∷ codes "NXM_NX_REG5" ∷ []
names_of Reg6 = codes "reg6" ∷ codes "NXM_NX_REG6" ∷ []
names_of Reg7 = codes "reg7" ∷ codes "NXM_NX_REG7" ∷ []
names_of Reg8 = codes "reg8" ∷ codes "NXM_NX_REG8" ∷ []
names_of Reg9 = codes "reg9" ∷ codes "NXM_NX_REG9" ∷ []
names_of Reg10 = codes "reg10" ∷ codes "NXM_NX_REG10" ∷ []
names_of Reg11 = codes "reg11" ∷ codes "NXM_NX_REG11" ∷ []
names_of Reg12 = codes "reg12" ∷ codes "NXM_NX_REG12" ∷ []
names_of Reg13 = codes "reg13" ∷ codes "NXM_NX_REG13" ∷ []
names_of Reg14 = codes "reg14" ∷ codes "NXM_NX_REG14" ∷ []
names_of Reg15 = codes "reg15" ∷ codes "NXM_NX_REG15" ∷ []
names_of DlSrc = codes "dl_src" ∷ codes "eth_src" ∷ codes "NXM_OF_ETH_SRC" ∷ []
names_of DlDst = codes "dl_dst" ∷ codes "eth_dst" ∷ codes "NXM_OF_ETH_DST" ∷ []
names_of DlType = codes "dl_type" ∷ codes "eth_type" ∷ codes "NXM_OF_ETH_TYPE" ∷ []
names_of VlanTci = codes "vlan_tci" ∷ codes "NXM_OF_VLAN_TCI" ∷ []
names_of VlanVid = codes "vlan_vid" ∷ codes "OXM_OF_VLAN_VID" ∷ []
names_of VlanPcp = codes "vlan_pcp" ∷ codes "dl_vlan_pcp" ∷ codes "OXM_OF_VLAN_PCP" ∷ []
names_of NwSrc = codes "nw_src" ∷ codes "ip_src" ∷ codes "NXM_OF_IP_SRC" ∷ []
names_of NwDst = codes "nw_dst" ∷ codes "ip_dst" ∷ codes "NXM_OF_IP_DST" ∷ []
names_of ArpSpa = codes "arp_spa" ∷ codes "NXM_OF_ARP_SPA" ∷ []
names_of ArpTpa = codes "arp_tpa" ∷ codes "NXM_OF_ARP_TPA" ∷ []
names_of Ipv6Src = codes "ipv6_src" ∷ codes "NXM_NX_IPV6_SRC" ∷ []
names_of Ipv6Dst = codes "ipv6_dst" ∷ codes "NXM_NX_IPV6_DST" ∷ []
names_of NwProto = codes "nw_proto" ∷ codes "ip_proto" ∷ codes "NXM_OF_IP_PROTO" ∷ []
names_of ArpOp = codes "arp_op" ∷ codes "NXM_OF_ARP_OP" ∷ []
names_of NwTos = codes "nw_tos" ∷ codes "NXM_OF_IP_TOS" ∷ []
names_of IpDscp = codes "ip_dscp" ∷ codes "OXM_OF_IP_DSCP" ∷ []
names_of NwEcn = codes "nw_ecn" ∷ codes "ip_ecn" ∷ codes "NXM_NX_IP_ECN" ∷ []
names_of NwTtl = codes "nw_ttl" ∷ codes "NXM_NX_IP_TTL" ∷ []
names_of IpFrag = codes "ip_frag" ∷ codes "NXM_NX_IP_FRAG" ∷ []
names_of ArpSha = codes "arp_sha" ∷ codes "NXM_NX_ARP_SHA" ∷ []
names_of ArpTha = codes "arp_tha" ∷ codes "NXM_NX_ARP_THA" ∷ []
names_of TpSrc = codes "tp_src" ∷ []
names_of TpDst = codes "tp_dst" ∷ []
names_of TcpSrc = codes "tcp_src" ∷ codes "NXM_OF_TCP_SRC" ∷ []
names_of TcpDst = codes "tcp_dst" ∷ codes "NXM_OF_TCP_DST" ∷ []
names_of UdpSrc = codes "udp_src" ∷ codes "NXM_OF_UDP_SRC" ∷ []
names_of UdpDst = codes "udp_dst" ∷ codes "NXM_OF_UDP_DST" ∷ []
names_of IcmpType = codes "icmp_type" ∷ codes "NXM_OF_ICMP_TYPE" ∷ []
names_of IcmpCode = codes "icmp_code" ∷ codes "NXM_OF_ICMP_CODE" ∷ []
names_of Icmpv6Type = codes "icmpv6_type" ∷ codes "NXM_NX_ICMPV6_TYPE" ∷ []
names_of Icmpv6Code = codes "icmpv6_code" ∷ codes "NXM_NX_ICMPV6_CODE" ∷ []
names_of VlanTpid = codes "vlan_tpid" ∷ []
names_of VlanTci2 = codes "vlan_tci2" ∷ []
names_of VlanTpid2 = codes "vlan_tpid2" ∷ []

-- the name that is printed
abbrev pub name_of : NamedField → List ℕ
name_of f = slice_index_or (names_of f) 0 []

abbrev pub is_called : List ℕ → NamedField → Bool
is_called name f = is_one_of (names_of f) name

unfoldable pub field_named : List ℕ → Option NamedField
field_named name = find (is_called name) named_fields

-- the fields that are known and left out, by how their names begin and by their names
abbrev pub field_families_left_out : List (List ℕ)
field_families_left_out =
    codes "tun_" ∷ codes "tunnel" ∷ codes "mpls" ∷ codes "sctp" ∷ codes "nd_" ∷ codes "ct_" ∷ codes "xreg" ∷ codes "xxreg" ∷
    codes "nsh_" ∷ []

abbrev pub fields_left_out : List (List ℕ)
fields_left_out =
    codes "recirc_id" ∷ codes "dp_hash" ∷ codes "pkt_mark" ∷ codes "conj_id" ∷ codes "actset_output" ∷ codes "skb_priority" ∷
    codes "packet_type" ∷ codes "in_port_oxm" ∷ codes "tcp_flags" ∷ codes "ipv6_label" ∷ codes "rarp" ∷ codes "idle_timeout" ∷
    codes "hard_timeout" ∷ codes "importance" ∷ codes "out_port" ∷ codes "out_group" ∷ codes "check_overlap" ∷
    codes "send_flow_rem" ∷ codes "reset_counts" ∷ codes "no_packet_counts" ∷ codes "no_byte_counts" ∷ []

unfoldable pub is_field_left_out : List ℕ → Bool
is_field_left_out name = begins_with_one_of field_families_left_out name || is_one_of fields_left_out name

-- ---- shorthands

abbrev pub shorthands : List (List ℕ × Shorthand)
shorthands =
    (codes "ip", short.Ip) ∷ (codes "ipv6", short.Ipv6) ∷ (codes "arp", short.Arp) ∷ (codes "icmp", short.Icmp) ∷
    (codes "tcp", short.Tcp) ∷ (codes "udp", short.Udp) ∷ (codes "icmp6", short.Icmp6) ∷ (codes "tcp6", short.Tcp6) ∷
    (codes "udp6", short.Udp6) ∷ []

abbrev pub word_of : Shorthand → List ℕ
word_of short.Ip = codes "ip"
word_of short.Ipv6 = codes "ipv6"
word_of short.Arp = codes "arp"
word_of short.Icmp = codes "icmp"
word_of short.Tcp = codes "tcp"
word_of short.Udp = codes "udp"
word_of short.Icmp6 = codes "icmp6"
word_of short.Tcp6 = codes "tcp6"
word_of short.Udp6 = codes "udp6"

-- the Ethernet type that a shorthand states
abbrev pub type_stated : Shorthand → ℕ
type_stated short.Ip = ipv4_type
type_stated short.Ipv6 = ipv6_type
type_stated short.Arp = arp_type
type_stated short.Icmp = ipv4_type
type_stated short.Tcp = ipv4_type
type_stated short.Udp = ipv4_type
type_stated short.Icmp6 = ipv6_type
type_stated short.Tcp6 = ipv6_type
type_stated short.Udp6 = ipv6_type

-- and the protocol
abbrev pub protocol_stated : Shorthand → Option ℕ
protocol_stated short.Ip = None
protocol_stated short.Ipv6 = None
protocol_stated short.Arp = None
protocol_stated short.Icmp = Some icmp_protocol
protocol_stated short.Tcp = Some tcp_protocol
protocol_stated short.Udp = Some udp_protocol
protocol_stated short.Icmp6 = Some icmp6_protocol
protocol_stated short.Tcp6 = Some tcp_protocol
protocol_stated short.Udp6 = Some udp_protocol

unfoldable pub shorthand_named : List ℕ → Option Shorthand
shorthand_named name = meaning_of shorthands name

-- ---- items of a flow

abbrev pub keywords : List (List ℕ × ItemName)
keywords =
    (codes "dl_vlan", item.DlVlan) ∷ (codes "table", item.Table) ∷ (codes "priority", item.Priority) ∷
    (codes "cookie", item.Cookie) ∷ (codes "duration", item.Statistic) ∷ (codes "n_packets", item.Statistic) ∷
    (codes "n_bytes", item.Statistic) ∷ (codes "idle_age", item.Statistic) ∷ (codes "hard_age", item.Statistic) ∷
    (codes "actions", item.Actions) ∷ (codes "action", item.Actions) ∷ []

unfoldable pub keyword_named : List ℕ → Option ItemName
keyword_named name = meaning_of keywords name

abbrev pub left_out : Bool → Option ItemName
left_out known = if known then Some item.Unsupported else None

-- what the name of an item means
unfoldable pub item_named : List ℕ → Option ItemName
item_named name =
    option_or (option_map (λ f. item.Field f) (field_named name))
    (option_or (option_map (λ s. item.Shorthand s) (shorthand_named name))
    (option_or (keyword_named name) (left_out (is_field_left_out name))))

-- ---- actions

abbrev pub actions_by_name : List (List ℕ × ActionName)
actions_by_name =
    (codes "output", action.Output) ∷ (codes "drop", action.Drop) ∷ (codes "resubmit", action.Resubmit) ∷
    (codes "goto_table", action.GotoTable) ∷ (codes "load", action.Load) ∷ (codes "set_field", action.SetField) ∷
    (codes "move", action.Move) ∷ (codes "mod_dl_src", action.Mod DlSrc) ∷ (codes "mod_dl_dst", action.Mod DlDst) ∷
    (codes "mod_nw_src", action.Mod NwSrc) ∷ (codes "mod_nw_dst", action.Mod NwDst) ∷ (codes "mod_nw_tos", action.Mod NwTos) ∷
    (codes "mod_nw_ecn", action.Mod NwEcn) ∷ (codes "mod_nw_ttl", action.Mod NwTtl) ∷ (codes "mod_tp_src", action.Mod TpSrc) ∷
    (codes "mod_tp_dst", action.Mod TpDst) ∷ (codes "mod_vlan_vid", action.ModVlanVid) ∷ (codes "mod_vlan_pcp", action.ModVlanPcp) ∷
    (codes "dec_ttl", action.DecTtl) ∷ (codes "push_vlan", action.PushVlan) ∷ (codes "strip_vlan", action.PopVlan) ∷
    (codes "pop_vlan", action.PopVlan) ∷ []

-- the reserved ports, whose names are in lower or in upper case
abbrev pub reserved_ports : List (List ℕ × ActionName)
reserved_ports = (codes "in_port", action.InPort) ∷ (codes "all", action.All) ∷ (codes "flood", action.Flood) ∷ []

-- the same table in upper case
abbrev pub in_upper_case : {A : Type 0} → List (List ℕ × A) → List (List ℕ × A)
in_upper_case table = map (λ row. (map to_ascii_uppercase row.0, row.1)) table

unfoldable pub reserved_port_named : List ℕ → Option ActionName
reserved_port_named name = option_or (meaning_of reserved_ports name) (meaning_of (in_upper_case reserved_ports) name)

-- the actions that are known and left out, in lower or in upper case
abbrev pub actions_left_out : List (List ℕ)
actions_left_out =
    codes "normal" ∷ codes "learn" ∷ codes "ct" ∷ codes "ct_clear" ∷ codes "nat" ∷ codes "group" ∷ codes "meter" ∷
    codes "controller" ∷ codes "local" ∷ codes "enqueue" ∷ codes "conjunction" ∷ codes "clone" ∷ codes "sample" ∷ codes "note" ∷
    codes "push" ∷ codes "pop" ∷ codes "write_actions" ∷ codes "clear_actions" ∷ codes "write_metadata" ∷ codes "bundle" ∷
    codes "bundle_load" ∷ codes "multipath" ∷ codes "exit" ∷ codes "fin_timeout" ∷ codes "set_queue" ∷ codes "pop_queue" ∷
    codes "set_tunnel" ∷ codes "set_vlan_vid" ∷ codes "set_vlan_pcp" ∷ codes "push_mpls" ∷ codes "pop_mpls" ∷ []

unfoldable pub is_action_left_out : List ℕ → Bool
is_action_left_out name = is_one_of actions_left_out name || is_one_of (map (λ word. map to_ascii_uppercase word) actions_left_out) name

abbrev pub action_left_out : Bool → Option ActionName
action_left_out known = if known then Some action.Unsupported else None

abbrev pub begins_with_digit : List ℕ → Bool
begins_with_digit text = option_map_or is_ascii_digit (slice_get text 0) false

-- what the name of an item of an action list means
unfoldable pub action_named : List ℕ → Option ActionName
action_named name =
    if begins_with_digit name then Some action.Port
    else option_or (reserved_port_named name) (option_or (meaning_of actions_by_name name) (action_left_out (is_action_left_out name)))

-- whether a name, where a field belongs, is known and left out
abbrev pub is_left_out_as_field : List ℕ → Bool
is_left_out_as_field name = is_field_left_out name || is_action_left_out name
