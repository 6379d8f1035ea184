-- Worked rows: IPv4, and the transport headers over it.
use Rattle.std.specs.Prelude.{◌≡◌, ℕ, List, [], ◌∷◌, ◌++◌, take, refl}
use Rattle.spec_keys.specs.declared.field_id.FieldId.TheVariants.{NwSrc, NwDst, NwProto, NwTos, NwTtl, IpFrag, TpSrc, TpDst}
use Rattle.spec_frames.specs.declared.layout.Layout.{Layout}
use Rattle.spec_frames.specs.declared.layout.L3.TheVariants.{Ipv4}
use Rattle.spec_frames.specs.declared.layout.L4.{L4}
use Rattle.spec_frames.specs.declared.layout.L4.TheVariants.{None, Tcp, Udp, Icmp}
use Rattle.spec_frames.proofs.Frames.{bytes, frame, udp, tcp, Stated, is, key_with, of_type, ports, key, headers, no_headers, layout, Shows}

-- A packet from 10.0.0.1 to 10.0.0.2 with time to live 64. The first word has the version, the header's length, the type
-- of service and the total length, the second one the identification, the flags and the fragment offset.
abbrev packet : ℕ → ℕ → ℕ → List ℕ → List ℕ
packet first second protocol after =
    frame (bytes 2 0x0800 ++ bytes 4 first ++ bytes 4 second ++ (64 ∷ protocol ∷ bytes 10 0x0000_0a000001_0a000002) ++ after)

-- the key of such a packet with type of service 0xb8
abbrev of_protocol : ℕ → List Stated → List ℕ
of_protocol protocol stated =
    of_type 0x0800 (is NwSrc 0x0a000001 ∷ is NwDst 0x0a000002 ∷ is NwProto protocol ∷ is NwTos 0xb8 ∷ is NwTtl 64 ∷ stated)

abbrev lies : L4 → Layout
lies header = headers (Ipv4 14) header

-- ---- the header

udp_shows_its_ports : Shows (packet 0x45b8001c 0 17 udp) (of_protocol 17 ports) (lies (Udp 34))
unfolding key key_with layout
udp_shows_its_ports = (refl, refl)

after_options_stands_tcp :
    Shows (packet 0x46b8002c 0 6 (bytes 4 0x01010100 ++ tcp)) (of_protocol 6 ports) (lies (Tcp 38))
unfolding key key_with layout
after_options_stands_tcp = (refl, refl)

abbrev IsMalformed : List ℕ → Type 0
IsMalformed bytes = Shows bytes (of_type 0x0800 []) no_headers

another_version_is_malformed : IsMalformed (packet 0x65b8001c 0 17 udp)
unfolding key key_with layout
another_version_is_malformed = (refl, refl)

a_header_length_below_20_is_malformed : IsMalformed (packet 0x44b8001c 0 17 udp)
unfolding key key_with layout
a_header_length_below_20_is_malformed = (refl, refl)

a_cut_header_is_malformed : IsMalformed (take 33 (packet 0x45b8001c 0 17 udp)) × IsMalformed (packet 0x48b80020 0 17 udp)
unfolding key key_with layout
a_cut_header_is_malformed = ((refl, refl), (refl, refl))

a_total_length_below_the_header_length_is_malformed :
    IsMalformed (packet 0x45b80013 0 17 udp) × IsMalformed (packet 0x46b80014 0 17 (bytes 4 0 ++ udp))
unfolding key key_with layout
a_total_length_below_the_header_length_is_malformed = ((refl, refl), (refl, refl))

a_packet_may_be_its_header_alone : Shows (packet 0x45b80014 0 17 udp) (of_protocol 17 []) (lies None)
unfolding key key_with layout
a_packet_may_be_its_header_alone = (refl, refl)

-- ---- fragments

dont_fragment_is_no_fragment : key (packet 0x45b8001c 0x00004000 17 udp) ≡ of_protocol 17 ports
unfolding key key_with
dont_fragment_is_no_fragment = refl

a_first_fragment_has_a_header_and_shows_no_ports :
    Shows (packet 0x45b8001c 0x00002000 17 udp) (of_protocol 17 (is IpFrag 1 ∷ [])) (lies (Udp 34))
unfolding key key_with layout
a_first_fragment_has_a_header_and_shows_no_ports = (refl, refl)

a_later_fragment_has_no_header :
    Shows (packet 0x45b8001c 0x00000001 17 udp) (of_protocol 17 (is IpFrag 3 ∷ [])) (lies None)
    × Shows (packet 0x45b8001c 0x00003000 17 udp) (of_protocol 17 (is IpFrag 3 ∷ [])) (lies None)
unfolding key key_with layout
a_later_fragment_has_no_header = ((refl, refl), (refl, refl))

-- ---- the transport header

after_the_total_length_nothing_counts : Shows (packet 0x45b8001b 0 17 udp) (of_protocol 17 []) (lies None)
unfolding key key_with layout
after_the_total_length_nothing_counts = (refl, refl)

udp_of_7_bytes_in_the_frame_is_none : Shows (packet 0x45b8001c 0 17 (take 7 udp)) (of_protocol 17 []) (lies None)
unfolding key key_with layout
udp_of_7_bytes_in_the_frame_is_none = (refl, refl)

tcp_of_19_bytes_is_none : Shows (packet 0x45b80027 0 6 tcp) (of_protocol 6 []) (lies None)
unfolding key key_with layout
tcp_of_19_bytes_is_none = (refl, refl)

-- destination unreachable, by its host
abbrev icmp : List ℕ
icmp = bytes 8 0x0301_0000_00000000

icmp_shows_type_and_code : Shows (packet 0x45b8001c 0 1 icmp) (of_protocol 1 (is TpSrc 3 ∷ is TpDst 1 ∷ [])) (lies (Icmp 34))
unfolding key key_with layout
icmp_shows_type_and_code = (refl, refl)

icmp_of_7_bytes_is_none : Shows (packet 0x45b8001b 0 1 icmp) (of_protocol 1 []) (lies None)
unfolding key key_with layout
icmp_of_7_bytes_is_none = (refl, refl)

icmpv6_over_ipv4_is_none : Shows (packet 0x45b8001c 0 58 icmp) (of_protocol 58 []) (lies None)
unfolding key key_with layout
icmpv6_over_ipv4_is_none = (refl, refl)
