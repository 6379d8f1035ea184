-- The named fields of the flow text, after ovs-fields(7), and those that are printed alone. What a write needs of the packet, and that in_port, dl_type,
-- nw_proto, ip_frag and the ARP and ICMP codes can't be written, is this profile's.
use Rattle.std.specs.Prelude.{ℕ, Bool, true, false}
use Rattle.spec_base.specs.Bits.{all_bits}
use Rattle.spec_keys.specs.declared.field_id.FieldId.{FieldId}
use Rattle.spec_keys.specs.declared.field_id.FieldId.TheVariants as key
use Rattle.spec_actions.specs.declared.named_field.NamedField.{NamedField}
use Rattle.spec_actions.specs.declared.named_field.NamedField.TheVariants.{InPort, Metadata, Reg0, Reg1, Reg2, Reg3, Reg4, Reg5, Reg6, Reg7, Reg8, Reg9, Reg10, Reg11, Reg12, Reg13, Reg14, Reg15, DlSrc, DlDst, DlType, VlanTci, VlanVid, VlanPcp, NwSrc, NwDst, ArpSpa, ArpTpa, Ipv6Src, Ipv6Dst, NwProto, ArpOp, NwTos, IpDscp, NwEcn, NwTtl, IpFrag, ArpSha, ArpTha, TpSrc, TpDst, TcpSrc, TcpDst, UdpSrc, UdpDst, IcmpType, IcmpCode, Icmpv6Type, Icmpv6Code, VlanTpid, VlanTci2, VlanTpid2}
use Rattle.spec_actions.specs.declared.named_field.Prerequisite.{Prerequisite}
use Rattle.spec_actions.specs.declared.named_field.Prerequisite.TheVariants as needs

-- What a name stands for: a field of the key, the least of its bits there and how many they are, those of them that a
-- write may change, whether a match may mask them, and what a write needs the packet to be.
pub record Named : Type 0 where
  pub field : FieldId
  pub low : ℕ
  pub bits : ℕ
  pub writable : ℕ
  pub maskable : Bool
  pub write_needs : Prerequisite

-- the bits of the Differentiated Services field, which nw_tos reads and writes in place (RFC 2474); the other two are ECN
abbrev pub dscp_bits : ℕ
dscp_bits = 0xfc

abbrev pub named : NamedField → Named
named InPort = record { field = key.InPort; low = 0; bits = 16; writable = 0; maskable = false; write_needs = needs.Nothing }
named Metadata = record { field = key.Metadata; low = 0; bits = 64; writable = all_bits 64; maskable = true; write_needs = needs.Nothing }
named Reg0 = record { field = key.Reg0; low = 0; bits = 32; writable = all_bits 32; maskable = true; write_needs = needs.Nothing }
named Reg1 = record { field = key.Reg1; low = 0; bits = 32; writable = all_bits 32; maskable = true; write_needs = needs.Nothing }
named Reg2 = record { field = key.Reg2; low = 0; bits = 32; writable = all_bits 32; maskable = true; write_needs = needs.Nothing }
named Reg3 = record { field = key.Reg3; low = 0; bits = 32; writable = all_bits 32; maskable = true; write_needs = needs.Nothing }
named Reg4 = record { field = key.Reg4; low = 0; bits = 32; writable = all_bits 32; maskable = true; write_needs = needs.Nothing }
named Reg5 = record { field = key.Reg5; low = 0; bits = 32; writable = all_bits 32; maskable = true; write_needs = needs.Nothing }
named Reg6 = record { field = key.Reg6; low = 0; bits = 32; writable = all_bits 32; maskable = true; write_needs = needs.Nothing }
named Reg7 = record { field = key.Reg7; low = 0; bits = 32; writable = all_bits 32; maskable = true; write_needs = needs.Nothing }
named Reg8 = record { field = key.Reg8; low = 0; bits = 32; writable = all_bits 32; maskable = true; write_needs = needs.Nothing }
named Reg9 = record { field = key.Reg9; low = 0; bits = 32; writable = all_bits 32; maskable = true; write_needs = needs.Nothing }
named Reg10 = record { field = key.Reg10; low = 0; bits = 32; writable = all_bits 32; maskable = true; write_needs = needs.Nothing }
named Reg11 = record { field = key.Reg11; low = 0; bits = 32; writable = all_bits 32; maskable = true; write_needs = needs.Nothing }
named Reg12 = record { field = key.Reg12; low = 0; bits = 32; writable = all_bits 32; maskable = true; write_needs = needs.Nothing }
named Reg13 = record { field = key.Reg13; low = 0; bits = 32; writable = all_bits 32; maskable = true; write_needs = needs.Nothing }
named Reg14 = record { field = key.Reg14; low = 0; bits = 32; writable = all_bits 32; maskable = true; write_needs = needs.Nothing }
named Reg15 = record { field = key.Reg15; low = 0; bits = 32; writable = all_bits 32; maskable = true; write_needs = needs.Nothing }
named DlSrc = record { field = key.DlSrc; low = 0; bits = 48; writable = all_bits 48; maskable = true; write_needs = needs.Nothing }
named DlDst = record { field = key.DlDst; low = 0; bits = 48; writable = all_bits 48; maskable = true; write_needs = needs.Nothing }
named DlType = record { field = key.DlType; low = 0; bits = 16; writable = 0; maskable = false; write_needs = needs.Nothing }
named VlanTci = record { field = key.VlanTci; low = 0; bits = 16; writable = all_bits 16; maskable = true; write_needs = needs.Nothing }
named VlanVid = record { field = key.VlanTci; low = 0; bits = 13; writable = all_bits 13; maskable = true; write_needs = needs.Tag }
named VlanPcp = record { field = key.VlanTci; low = 13; bits = 3; writable = all_bits 3; maskable = false; write_needs = needs.Tag }
named NwSrc = record { field = key.NwSrc; low = 0; bits = 32; writable = all_bits 32; maskable = true; write_needs = needs.Ipv4 }
named NwDst = record { field = key.NwDst; low = 0; bits = 32; writable = all_bits 32; maskable = true; write_needs = needs.Ipv4 }
named ArpSpa = record { field = key.NwSrc; low = 0; bits = 32; writable = all_bits 32; maskable = true; write_needs = needs.Arp }
named ArpTpa = record { field = key.NwDst; low = 0; bits = 32; writable = all_bits 32; maskable = true; write_needs = needs.Arp }
named Ipv6Src = record { field = key.Ipv6Src; low = 0; bits = 128; writable = all_bits 128; maskable = true; write_needs = needs.Ipv6 }
named Ipv6Dst = record { field = key.Ipv6Dst; low = 0; bits = 128; writable = all_bits 128; maskable = true; write_needs = needs.Ipv6 }
named NwProto = record { field = key.NwProto; low = 0; bits = 8; writable = 0; maskable = false; write_needs = needs.Ip }
named ArpOp = record { field = key.NwProto; low = 0; bits = 8; writable = 0; maskable = false; write_needs = needs.Arp }
named NwTos = record { field = key.NwTos; low = 0; bits = 8; writable = dscp_bits; maskable = false; write_needs = needs.Ip }
named IpDscp = record { field = key.NwTos; low = 2; bits = 6; writable = all_bits 6; maskable = false; write_needs = needs.Ip }
named NwEcn = record { field = key.NwTos; low = 0; bits = 2; writable = all_bits 2; maskable = false; write_needs = needs.Ip }
named NwTtl = record { field = key.NwTtl; low = 0; bits = 8; writable = all_bits 8; maskable = false; write_needs = needs.Ip }
named IpFrag = record { field = key.IpFrag; low = 0; bits = 2; writable = 0; maskable = false; write_needs = needs.Ip }
named ArpSha = record { field = key.ArpSha; low = 0; bits = 48; writable = all_bits 48; maskable = true; write_needs = needs.Arp }
named ArpTha = record { field = key.ArpTha; low = 0; bits = 48; writable = all_bits 48; maskable = true; write_needs = needs.Arp }
named TpSrc = record { field = key.TpSrc; low = 0; bits = 16; writable = all_bits 16; maskable = true; write_needs = needs.TcpOrUdp }
named TpDst = record { field = key.TpDst; low = 0; bits = 16; writable = all_bits 16; maskable = true; write_needs = needs.TcpOrUdp }
named TcpSrc = record { field = key.TpSrc; low = 0; bits = 16; writable = all_bits 16; maskable = true; write_needs = needs.Tcp }
named TcpDst = record { field = key.TpDst; low = 0; bits = 16; writable = all_bits 16; maskable = true; write_needs = needs.Tcp }
named UdpSrc = record { field = key.TpSrc; low = 0; bits = 16; writable = all_bits 16; maskable = true; write_needs = needs.Udp }
named UdpDst = record { field = key.TpDst; low = 0; bits = 16; writable = all_bits 16; maskable = true; write_needs = needs.Udp }
named IcmpType = record { field = key.TpSrc; low = 0; bits = 16; writable = 0; maskable = false; write_needs = needs.Icmp }
named IcmpCode = record { field = key.TpDst; low = 0; bits = 16; writable = 0; maskable = false; write_needs = needs.Icmp }
named Icmpv6Type = record { field = key.TpSrc; low = 0; bits = 16; writable = 0; maskable = false; write_needs = needs.Icmp6 }
named Icmpv6Code = record { field = key.TpDst; low = 0; bits = 16; writable = 0; maskable = false; write_needs = needs.Icmp6 }
named VlanTpid = record { field = key.VlanTpid; low = 0; bits = 16; writable = 0; maskable = true; write_needs = needs.Nothing }
named VlanTci2 = record { field = key.VlanTci2; low = 0; bits = 16; writable = 0; maskable = true; write_needs = needs.Nothing }
named VlanTpid2 = record { field = key.VlanTpid2; low = 0; bits = 16; writable = 0; maskable = true; write_needs = needs.Nothing }

-- whether a name is printed alone, and no text of a flow has it: the type of an outer tag, and an inner tag
abbrev pub is_printed_alone : NamedField → Bool
is_printed_alone VlanTpid = true
is_printed_alone VlanTci2 = true
is_printed_alone VlanTpid2 = true
is_printed_alone name = false
