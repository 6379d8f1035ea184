-- The fields of a key in the runs that are hashed together, between the ingress port and the registers at the front.
use Rattle.std.specs.Prelude.{List, [], ◌∷◌}
use Rattle.spec_keys.specs.declared.field_id.FieldId.{FieldId}
use Rattle.spec_keys.specs.declared.field_id.FieldId.TheVariants.{DlSrc, DlDst, DlType, VlanTci, NwSrc, NwDst, Ipv6Src, Ipv6Dst, NwProto, NwTos, NwTtl, IpFrag, ArpSha, ArpTha, TpSrc, TpDst, VlanTpid, VlanTci2, VlanTpid2}

abbrev pub ethernet : List FieldId
ethernet = DlSrc ∷ DlDst ∷ DlType ∷ VlanTci ∷ []

-- the addresses of IPv4 and the protocol addresses of ARP
abbrev pub ipv4_addresses : List FieldId
ipv4_addresses = NwSrc ∷ NwDst ∷ []

abbrev pub ipv6_addresses : List FieldId
ipv6_addresses = Ipv6Src ∷ Ipv6Dst ∷ []

-- what IPv4 and IPv6 have beside addresses; the protocol is ARP's operation too
abbrev pub ip_header : List FieldId
ip_header = NwProto ∷ NwTos ∷ NwTtl ∷ IpFrag ∷ []

-- the hardware addresses of ARP
abbrev pub arp_addresses : List FieldId
arp_addresses = ArpSha ∷ ArpTha ∷ []

-- the ports, and the type and code of ICMP
abbrev pub ports : List FieldId
ports = TpSrc ∷ TpDst ∷ []

abbrev pub inner_tag : List FieldId
inner_tag = VlanTci2 ∷ VlanTpid2 ∷ []

-- what tags have beside the content of the outer one
abbrev pub tags : List FieldId
tags = VlanTpid ∷ inner_tag
