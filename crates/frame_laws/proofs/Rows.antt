-- Rows: frames that meet the premises of the laws.
use Rattle.std.proofs.Common.{◌≡◌, ℕ, List, [], ◌∷◌, ◌++◌, length, replicate, refl}
use Rattle.spec_base.specs.Bytes.{big_endian_at}
use Rattle.spec_keys.specs.declared.field_id.FieldId.TheVariants.{IpFrag}
use Rattle.spec_keys.specs.Keys.{none, value_of}
use Rattle.spec_frames.specs.declared.layout.L3.TheVariants.{Arp, Ipv4, Ipv6}
use Rattle.spec_frames.specs.declared.layout.L4.TheVariants.{None, Udp}
use Rattle.spec_frames.specs.Ethernet.{is_tag_at, tag_count, tci_at, carried, carried_by}
use Rattle.spec_frames.specs.Arp.{is_arp}
use Rattle.spec_frames.specs.Ipv4.{is_ipv4, ipv4}
use Rattle.spec_frames.specs.Ipv6.{ipv6, upper_layer}
use Rattle.spec_frames.specs.Network.{network_at, network}
use Rattle.spec_frames.specs.Transport.{transport}
use Rattle.spec_frames.specs.Layout.{layout_of}
use Rattle.spec_frames.specs.Key.{with_transport, with_network, key_of}
use Rattle.frame_laws.specs.Headers.{upper_at, upper_size, packet_end}
use Rattle.frame_laws.specs.Numbers.{HasPorts}

abbrev addresses : List ℕ
addresses = 2 ∷ 0 ∷ 0 ∷ 0 ∷ 0 ∷ 2 ∷ 2 ∷ 0 ∷ 0 ∷ 0 ∷ 0 ∷ 1 ∷ []

-- from port 1000 to 53, no data
abbrev udp : List ℕ
udp = 3 ∷ 0xe8 ∷ 0 ∷ 53 ∷ 0 ∷ 8 ∷ 0 ∷ 0 ∷ []

-- over IPv4, with this first byte of flags and fragment offset, and this second one, in a frame of 60 bytes
abbrev udp_over_ipv4 : ℕ → ℕ → List ℕ
udp_over_ipv4 high low =
    addresses
    ++ ((8 ∷ 0 ∷ 0x45 ∷ 0 ∷ 0 ∷ 28 ∷ 0 ∷ 1 ∷ high ∷ low ∷ 64 ∷ 17 ∷ 0 ∷ 0 ∷ 10 ∷ 0 ∷ 0 ∷ 1 ∷ 10 ∷ 0 ∷ 0 ∷ 2 ∷ []) ++ (udp ++ replicate 18 0xff))

a_padded_frame_ends_after_its_packet :
    ((layout_of (udp_over_ipv4 0 0)).l3 ≡ Ipv4 14) × (packet_end (udp_over_ipv4 0 0) ≡ 42) × (length (udp_over_ipv4 0 0) ≡ 60)
unfolding layout_of big_endian_at is_tag_at tag_count carried carried_by network_at is_ipv4 ipv4
a_padded_frame_ends_after_its_packet = (refl, refl, refl)

a_whole_packet_shows_its_ports :
    ((layout_of (udp_over_ipv4 0 0)).l4 ≡ Udp 34)
    × (value_of (key_of 7 (udp_over_ipv4 0 0)) IpFrag ≡ 0)
    × HasPorts (key_of 7 (udp_over_ipv4 0 0)) 1000 53
unfolding layout_of key_of none big_endian_at is_tag_at tag_count tci_at carried carried_by network_at is_ipv4 ipv4 transport with_transport with_network
a_whole_packet_shows_its_ports = (refl, refl, record { tp_src = refl; tp_dst = refl })

a_first_fragment_has_a_header_and_no_ports :
    ((layout_of (udp_over_ipv4 0x20 0)).l4 ≡ Udp 34)
    × (value_of (key_of 7 (udp_over_ipv4 0x20 0)) IpFrag ≡ 1)
    × HasPorts (key_of 7 (udp_over_ipv4 0x20 0)) 0 0
unfolding layout_of key_of none big_endian_at is_tag_at tag_count tci_at carried carried_by network_at is_ipv4 ipv4 transport with_transport with_network
a_first_fragment_has_a_header_and_no_ports = (refl, refl, record { tp_src = refl; tp_dst = refl })

a_later_fragment_has_no_header : ((layout_of (udp_over_ipv4 0 1)).l4 ≡ None) × (value_of (key_of 7 (udp_over_ipv4 0 1)) IpFrag ≡ 3)
unfolding layout_of key_of none big_endian_at is_tag_at tag_count tci_at carried carried_by network_at is_ipv4 ipv4 transport with_transport with_network
a_later_fragment_has_no_header = (refl, refl)

-- over IPv6, after options for the destination, in a frame of 72 bytes
abbrev udp_over_ipv6 : List ℕ
udp_over_ipv6 =
    addresses
    ++ ((0x86 ∷ 0xdd ∷ 0x60 ∷ 0 ∷ 0 ∷ 0 ∷ 0 ∷ 16 ∷ 60 ∷ 64 ∷ []) ++ (replicate 32 1 ++ ((17 ∷ 0 ∷ 1 ∷ 4 ∷ 0 ∷ 0 ∷ 0 ∷ 0 ∷ []) ++ (udp ++ replicate 2 0xff))))

an_upper_layer_begins_after_extension_headers :
    ((layout_of udp_over_ipv6).l3 ≡ Ipv6 14)
    × ((layout_of udp_over_ipv6).l4 ≡ Udp 62)
    × (upper_at (network udp_over_ipv6) ≡ 62)
    × (upper_size (network udp_over_ipv6) ≡ 8)
    × (packet_end udp_over_ipv6 ≡ 70)
unfolding layout_of big_endian_at is_tag_at tag_count carried carried_by network_at ipv6 upper_layer transport
an_upper_layer_begins_after_extension_headers = (refl, refl, refl, refl, refl)

-- a request after a tag
abbrev arp_after_a_tag : List ℕ
arp_after_a_tag =
    addresses ++ ((0x81 ∷ 0 ∷ 0 ∷ 5 ∷ 8 ∷ 6 ∷ 0 ∷ 1 ∷ 8 ∷ 0 ∷ 6 ∷ 4 ∷ 0 ∷ 1 ∷ []) ++ replicate 34 0)

a_header_after_a_tag_begins_at_18 : ((layout_of arp_after_a_tag).l3 ≡ Arp 18) × (packet_end arp_after_a_tag ≡ 46) × (length arp_after_a_tag ≡ 60)
unfolding layout_of big_endian_at is_tag_at tag_count carried carried_by network_at is_arp
a_header_after_a_tag_begins_at_18 = (refl, refl, refl)
