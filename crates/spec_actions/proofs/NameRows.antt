-- Rows: the whole table of named fields, column by column.
use Rattle.std.specs.Prelude.{◌≡◌, ℕ, ◌==◌, Bool, true, false, not, List, [], ◌∷◌, ◌++◌, length, map, filter, refl}
use Rattle.std.specs.List.{flat_map}
use Rattle.spec_base.specs.Bits.{all_bits}
use Rattle.spec_keys.specs.Fields.{place_of, fields}
use Rattle.spec_keys.specs.declared.field_id.FieldId.{FieldId}
use Rattle.spec_actions.specs.declared.named_field.NamedField.{NamedField}
use Rattle.spec_actions.specs.declared.named_field.NamedField.TheVariants.{InPort, Metadata, Reg0, Reg1, Reg2, Reg3, Reg4, Reg5, Reg6, Reg7, Reg8, Reg9, Reg10, Reg11, Reg12, Reg13, Reg14, Reg15, DlSrc, DlDst, DlType, VlanTci, VlanVid, VlanPcp, NwSrc, NwDst, ArpSpa, ArpTpa, Ipv6Src, Ipv6Dst, NwProto, ArpOp, NwTos, IpDscp, NwEcn, NwTtl, IpFrag, ArpSha, ArpTha, TpSrc, TpDst, TcpSrc, TcpDst, UdpSrc, UdpDst, IcmpType, IcmpCode, Icmpv6Type, Icmpv6Code, VlanTpid, VlanTci2, VlanTpid2}
use Rattle.spec_actions.specs.declared.named_field.Prerequisite.{Prerequisite}
use Rattle.spec_actions.specs.declared.named_field.Prerequisite.TheVariants as needs
use Rattle.spec_actions.specs.Named.{named}

abbrev registers : List NamedField
registers =
    Reg0 ∷ Reg1 ∷ Reg2 ∷ Reg3 ∷ Reg4 ∷ Reg5 ∷ Reg6 ∷ Reg7 ∷ Reg8 ∷ Reg9 ∷ Reg10 ∷ Reg11 ∷ Reg12 ∷ Reg13 ∷ Reg14 ∷
    Reg15 ∷ []

-- every name
abbrev names : List NamedField
names =
    InPort ∷ Metadata ∷ registers ++ (DlSrc ∷ DlDst ∷ DlType ∷ VlanTci ∷ VlanVid ∷ VlanPcp ∷ NwSrc ∷ NwDst ∷ ArpSpa ∷
    ArpTpa ∷ Ipv6Src ∷ Ipv6Dst ∷ NwProto ∷ ArpOp ∷ NwTos ∷ IpDscp ∷ NwEcn ∷ NwTtl ∷ IpFrag ∷ ArpSha ∷ ArpTha ∷ TpSrc ∷
    TpDst ∷ TcpSrc ∷ TcpDst ∷ UdpSrc ∷ UdpDst ∷ IcmpType ∷ IcmpCode ∷ Icmpv6Type ∷ Icmpv6Code ∷ VlanTpid ∷ VlanTci2 ∷ VlanTpid2 ∷ [])

-- ---- the field, and the bits of it

-- the names that stand for bits of a field
abbrev names_of : FieldId → List NamedField
names_of f = filter (λ n. place_of (named n).field == place_of f) names

fields_and_their_names :
    map names_of fields
    ≡ (InPort ∷ []) ∷ (Metadata ∷ []) ∷ map (λ r. r ∷ []) registers
    ++ ((DlSrc ∷ []) ∷ (DlDst ∷ []) ∷ (DlType ∷ []) ∷ (VlanTci ∷ VlanVid ∷ VlanPcp ∷ []) ∷ (NwSrc ∷ ArpSpa ∷ []) ∷
    (NwDst ∷ ArpTpa ∷ []) ∷ (Ipv6Src ∷ []) ∷ (Ipv6Dst ∷ []) ∷ (NwProto ∷ ArpOp ∷ []) ∷ (NwTos ∷ IpDscp ∷ NwEcn ∷ []) ∷
    (NwTtl ∷ []) ∷ (IpFrag ∷ []) ∷ (ArpSha ∷ []) ∷ (ArpTha ∷ []) ∷ (TpSrc ∷ TcpSrc ∷ UdpSrc ∷ IcmpType ∷ Icmpv6Type ∷ []) ∷
    (TpDst ∷ TcpDst ∷ UdpDst ∷ IcmpCode ∷ Icmpv6Code ∷ []) ∷ (VlanTpid ∷ []) ∷ (VlanTci2 ∷ []) ∷ (VlanTpid2 ∷ []) ∷ [])
fields_and_their_names = refl

-- the names of so many bits
abbrev of_width : ℕ → List NamedField
of_width bits = filter (λ n. (named n).bits == bits) names

abbrev names_by_width : List (ℕ × List NamedField)
names_by_width =
    (2, NwEcn ∷ IpFrag ∷ []) ∷ (3, VlanPcp ∷ []) ∷ (6, IpDscp ∷ []) ∷ (8, NwProto ∷ ArpOp ∷ NwTos ∷ NwTtl ∷ []) ∷
    (13, VlanVid ∷ []) ∷ (
      16,
      InPort ∷ DlType ∷ VlanTci ∷ TpSrc ∷ TpDst ∷ TcpSrc ∷ TcpDst ∷ UdpSrc ∷ UdpDst ∷ IcmpType ∷ IcmpCode ∷
          Icmpv6Type ∷ Icmpv6Code ∷ VlanTpid ∷ VlanTci2 ∷ VlanTpid2 ∷ [],
    ) ∷
    (32, registers ++ (NwSrc ∷ NwDst ∷ ArpSpa ∷ ArpTpa ∷ [])) ∷ (48, DlSrc ∷ DlDst ∷ ArpSha ∷ ArpTha ∷ []) ∷
    (64, Metadata ∷ []) ∷ (128, Ipv6Src ∷ Ipv6Dst ∷ []) ∷ []

widths_and_their_names :
    (map (λ row. of_width row.0) names_by_width ≡ map (λ row. row.1) names_by_width)
    × (length (flat_map (λ row. row.1) names_by_width) ≡ length names)
widths_and_their_names = (refl, refl)

abbrev with_low : NamedField → NamedField × ℕ
with_low n = (n, (named n).low)

-- the others begin with the least bit of their field
the_names_that_begin_above_the_least_bit :
    map with_low (filter (λ n. not ((named n).low == 0)) names) ≡ (VlanPcp, 13) ∷ (IpDscp, 2) ∷ []
the_names_that_begin_above_the_least_bit = refl

-- ---- writes and masks

-- what is never written; what is written in part, and the bits; all others are written whole
the_names_by_what_a_write_changes :
    (filter (λ n. (named n).writable == 0) names
    ≡ InPort ∷ DlType ∷ NwProto ∷ ArpOp ∷ IpFrag ∷ IcmpType ∷ IcmpCode ∷ Icmpv6Type ∷ Icmpv6Code ∷ VlanTpid ∷
    VlanTci2 ∷ VlanTpid2 ∷ [])
    × ((map (λ n. (named n).writable) (NwTos ∷ []) ≡ 0xfc ∷ [])
    × (filter (λ n. (named n).writable == all_bits (named n).bits) names
    ≡ Metadata ∷ registers ++ (DlSrc ∷ DlDst ∷ VlanTci ∷ VlanVid ∷ VlanPcp ∷ NwSrc ∷ NwDst ∷ ArpSpa ∷ ArpTpa ∷ Ipv6Src ∷
    Ipv6Dst ∷ IpDscp ∷ NwEcn ∷ NwTtl ∷ ArpSha ∷ ArpTha ∷ TpSrc ∷ TpDst ∷ TcpSrc ∷ TcpDst ∷ UdpSrc ∷ UdpDst ∷ [])))
the_names_by_what_a_write_changes = (refl, (refl, refl))

the_names_that_may_be_masked :
    filter (λ n. (named n).maskable) names
    ≡ Metadata ∷ registers ++ (DlSrc ∷ DlDst ∷ VlanTci ∷ VlanVid ∷ NwSrc ∷ NwDst ∷ ArpSpa ∷ ArpTpa ∷ Ipv6Src ∷ Ipv6Dst ∷
    ArpSha ∷ ArpTha ∷ TpSrc ∷ TpDst ∷ TcpSrc ∷ TcpDst ∷ UdpSrc ∷ UdpDst ∷ VlanTpid ∷ VlanTci2 ∷ VlanTpid2 ∷ [])
the_names_that_may_be_masked = refl

-- whether a write acts on any packet
abbrev is_for_all : Prerequisite → Bool
is_for_all needs.Nothing = true
is_for_all need = false

abbrev with_need : NamedField → NamedField × Prerequisite
with_need n = (n, (named n).write_needs)

what_a_write_to_each_name_needs :
    (filter (λ n. is_for_all (named n).write_needs) names
    ≡ InPort ∷ Metadata ∷ registers ++ (DlSrc ∷ DlDst ∷ DlType ∷ VlanTci ∷ VlanTpid ∷ VlanTci2 ∷ VlanTpid2 ∷ []))
    × (map with_need (filter (λ n. not (is_for_all (named n).write_needs)) names)
    ≡ (VlanVid, needs.Tag) ∷ (VlanPcp, needs.Tag) ∷ (NwSrc, needs.Ipv4) ∷ (NwDst, needs.Ipv4) ∷ (ArpSpa, needs.Arp) ∷
    (ArpTpa, needs.Arp) ∷ (Ipv6Src, needs.Ipv6) ∷ (Ipv6Dst, needs.Ipv6) ∷ (NwProto, needs.Ip) ∷ (ArpOp, needs.Arp) ∷
    (NwTos, needs.Ip) ∷ (IpDscp, needs.Ip) ∷ (NwEcn, needs.Ip) ∷ (NwTtl, needs.Ip) ∷ (IpFrag, needs.Ip) ∷
    (ArpSha, needs.Arp) ∷ (ArpTha, needs.Arp) ∷ (TpSrc, needs.TcpOrUdp) ∷ (TpDst, needs.TcpOrUdp) ∷ (TcpSrc, needs.Tcp) ∷
    (TcpDst, needs.Tcp) ∷ (UdpSrc, needs.Udp) ∷ (UdpDst, needs.Udp) ∷ (IcmpType, needs.Icmp) ∷ (IcmpCode, needs.Icmp) ∷
    (Icmpv6Type, needs.Icmp6) ∷ (Icmpv6Code, needs.Icmp6) ∷ [])
what_a_write_to_each_name_needs = (refl, refl)
