-- The key of a frame: its fields by name in ovs-fields(7).
use Rattle.std.specs.Prelude.{ℕ, ◌+◌, ◌==◌, nat_lt, if◌then◌else◌, List, length, slice_index, slice_set}
use Rattle.spec_base.specs.Bytes.{big_endian_at}
use Rattle.spec_keys.specs.declared.field_id.FieldId.{FieldId}
use Rattle.spec_keys.specs.declared.field_id.FieldId.TheVariants.{InPort, DlSrc, DlDst, DlType, VlanTci, NwSrc, NwDst, Ipv6Src, Ipv6Dst, NwProto, NwTos, NwTtl, IpFrag, ArpSha, ArpTha, TpSrc, TpDst, VlanTpid, VlanTci2, VlanTpid2}
use Rattle.spec_keys.specs.Fields.{place_of}
use Rattle.spec_keys.specs.Keys.{none}
use Rattle.spec_frames.specs.declared.headers.Datagram.{Datagram}
use Rattle.spec_frames.specs.declared.headers.Fragment.{Fragment}
use Rattle.spec_frames.specs.declared.headers.Fragment.TheVariants.{Whole, First, Later}
use Rattle.spec_frames.specs.declared.headers.Network.{Network}
use Rattle.spec_frames.specs.declared.headers.Network.TheVariants.{Nothing, Arp, Ipv4, Ipv6}
use Rattle.spec_frames.specs.declared.layout.L4.{L4}
use Rattle.spec_frames.specs.declared.layout.L4.TheVariants as transport
use Rattle.spec_frames.specs.Ethernet.{address_size, source_at, header_size, type_at, inner_at, tag_count, tpid_at, tci_at, carried}
use Rattle.spec_frames.specs.Arp as arp
use Rattle.spec_frames.specs.Ipv4 as ipv4
use Rattle.spec_frames.specs.Ipv6 as ipv6
use Rattle.spec_frames.specs.Network.{network}
use Rattle.spec_frames.specs.Transport.{transport}

-- a key with this number in a field
abbrev pub with_value : FieldId → ℕ → List ℕ → List ℕ
with_value f value key = slice_set key (place_of f) value

-- ---- Ethernet

abbrev pub with_addresses : List ℕ → List ℕ → List ℕ
with_addresses frame key =
    with_value DlSrc (big_endian_at address_size frame source_at) (with_value DlDst (big_endian_at address_size frame 0) key)

abbrev pub with_outer_tag : List ℕ → List ℕ → List ℕ
with_outer_tag frame key = with_value VlanTci (tci_at frame type_at) (with_value VlanTpid (tpid_at frame type_at) key)

abbrev pub with_inner_tag : List ℕ → List ℕ → List ℕ
with_inner_tag frame key = with_value VlanTci2 (tci_at frame inner_at) (with_value VlanTpid2 (tpid_at frame inner_at) key)

-- with the tags of a frame that has so many
abbrev pub with_tags : ℕ → List ℕ → List ℕ → List ℕ
with_tags count frame key =
    if count == 0 then key else (if count == 1 then with_outer_tag frame key else with_inner_tag frame (with_outer_tag frame key))

abbrev pub with_ethernet : List ℕ → List ℕ → List ℕ
with_ethernet frame key = with_value DlType (carried frame).dl_type (with_tags (tag_count frame) frame (with_addresses frame key))

-- ---- the transport header

-- the ports, or type and code, of two bytes or of one each (ovs-fields(7), "Layer 4 Fields")
abbrev pub port_size : ℕ
port_size = 2

abbrev pub with_numbers : ℕ → ℕ → List ℕ → List ℕ
with_numbers source destination key = with_value TpDst destination (with_value TpSrc source key)

abbrev pub with_ports : List ℕ → ℕ → List ℕ → List ℕ
with_ports frame at key = with_numbers (big_endian_at port_size frame at) (big_endian_at port_size frame (at + port_size)) key

abbrev pub with_icmp : List ℕ → ℕ → List ℕ → List ℕ
with_icmp frame at key = with_numbers (slice_index frame at) (slice_index frame (at + 1)) key

unfoldable pub with_transport : List ℕ → L4 → List ℕ → List ℕ
with_transport frame transport.None key = key
with_transport frame (transport.Tcp at) key = with_ports frame at key
with_transport frame (transport.Udp at) key = with_ports frame at key
with_transport frame (transport.Icmp at) key = with_icmp frame at key
with_transport frame (transport.Icmp6 at) key = with_icmp frame at key

-- the transport header that a key shows: that of a packet that is no fragment
abbrev pub shown : Fragment → L4 → L4
shown Whole header = header
shown First header = transport.None
shown Later header = transport.None

-- ---- the network header

-- ip_frag, by its bits "any" and "later" (ovs-fields(7), "Fragmentation Field")
abbrev pub ip_frag : Fragment → ℕ
ip_frag Whole = 0
ip_frag First = 1
ip_frag Later = 3

abbrev pub with_arp : List ℕ → ℕ → List ℕ → List ℕ
with_arp frame at key =
    with_value ArpTha (arp.target_hardware frame at) (with_value ArpSha (arp.sender_hardware frame at)
    (with_value NwProto (arp.key_operation (arp.operation frame at))
    (with_value NwDst (arp.target_protocol frame at) (with_value NwSrc (arp.sender_protocol frame at) key))))

-- what both versions of IP say
abbrev pub with_datagram : Datagram → List ℕ → List ℕ
with_datagram d key =
    with_value IpFrag (ip_frag d.upper.fragment) (with_value NwTtl d.ttl (with_value NwTos d.tos (with_value NwProto d.upper.protocol key)))

abbrev pub with_ipv4 : List ℕ → ℕ → List ℕ → List ℕ
with_ipv4 frame at key = with_value NwDst (ipv4.destination frame at) (with_value NwSrc (ipv4.source frame at) key)

abbrev pub with_ipv6 : List ℕ → ℕ → List ℕ → List ℕ
with_ipv6 frame at key = with_value Ipv6Dst (ipv6.destination frame at) (with_value Ipv6Src (ipv6.source frame at) key)

unfoldable pub with_network : List ℕ → Network → List ℕ → List ℕ
with_network frame Nothing key = key
with_network frame (Arp at) key = with_arp frame at key
with_network frame (Ipv4 at d) key =
    with_transport frame (shown d.upper.fragment (transport (Ipv4 at d))) (with_datagram d (with_ipv4 frame at key))
with_network frame (Ipv6 at d) key =
    with_transport frame (shown d.upper.fragment (transport (Ipv6 at d))) (with_datagram d (with_ipv6 frame at key))

-- ---- the key

-- the key of a frame that came in at a port; of one that is shorter than an Ethernet header it is the port alone
unfoldable pub key_of : ℕ → List ℕ → List ℕ
key_of port frame =
    let key = with_value InPort port none in
    if nat_lt (length frame) header_size then key else with_network frame (network frame) (with_ethernet frame key)
