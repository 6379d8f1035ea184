-- Worked rows: IPv6, its extension headers, and the transport headers after them.
use Rattle.std.specs.Prelude.{◌≡◌, ℕ, ◌+◌, ◌-◌, ◌*◌, true, List, [], ◌∷◌, ◌++◌, replicate, slice_set, take, refl}
use Rattle.std.specs.List.{concat}
use Rattle.spec_keys.specs.declared.field_id.FieldId.TheVariants.{Ipv6Src, Ipv6Dst, NwProto, NwTos, NwTtl, IpFrag, TpSrc, TpDst}
use Rattle.spec_frames.specs.declared.layout.Layout.{Layout}
use Rattle.spec_frames.specs.declared.layout.L3.TheVariants.{Ipv6}
use Rattle.spec_frames.specs.declared.layout.L4.{L4}
use Rattle.spec_frames.specs.declared.layout.L4.TheVariants.{None, Tcp, Udp, Icmp6}
use Rattle.spec_frames.proofs.Frames.{bytes, frame, udp, tcp, Stated, is, key_with, of_type, ports, key, headers, no_headers, layout, Shows}

-- 2001:db8::1 and 2001:db8::2, of the addresses for documentation (RFC 3849)
abbrev source : ℕ
source = 0x20010db8_00000000_00000000_00000001

abbrev destination : ℕ
destination = 0x20010db8_00000000_00000000_00000002

-- a packet between them, of traffic class 0xb8 and hop limit 64, with this payload length and next header
abbrev packet : ℕ → ℕ → List ℕ → List ℕ
packet payload next after =
    frame (bytes 6 0x86dd_6b812345 ++ bytes 2 payload ++ (next ∷ 64 ∷ bytes 16 source) ++ bytes 16 destination ++ after)

-- the key of such a packet
abbrev of_protocol : ℕ → List Stated → List ℕ
of_protocol protocol stated =
    of_type 0x86dd
    (is Ipv6Src source ∷ is Ipv6Dst destination ∷ is NwProto protocol ∷ is NwTos 0xb8 ∷ is NwTtl 64 ∷ stated)

abbrev lies : L4 → Layout
lies header = headers (Ipv6 14) header

-- ---- the header

udp_shows_its_ports : Shows (packet 8 17 udp) (of_protocol 17 ports) (lies (Udp 54))
unfolding key key_with layout
udp_shows_its_ports = (refl, refl)

abbrev IsMalformed : List ℕ → Type 0
IsMalformed bytes = Shows bytes (of_type 0x86dd []) no_headers

a_header_of_39_bytes_is_malformed : IsMalformed (take 53 (packet 8 17 udp))
unfolding key key_with layout
a_header_of_39_bytes_is_malformed = (refl, refl)

another_version_is_malformed : IsMalformed (slice_set (packet 8 17 udp) 14 0x4b)
unfolding key key_with layout
another_version_is_malformed = (refl, refl)

-- ---- the transport header

after_the_payload_nothing_counts : Shows (packet 7 17 udp) (of_protocol 17 []) (lies None)
unfolding key key_with layout
after_the_payload_nothing_counts = (refl, refl)

tcp_stands_over_ipv6_too :
    Shows (packet 20 6 tcp) (of_protocol 6 ports) (lies (Tcp 54))
unfolding key key_with layout
tcp_stands_over_ipv6_too = (refl, refl)

icmpv6_shows_type_and_code :
    Shows (packet 4 58 (bytes 4 0x0104_0000)) (of_protocol 58 (is TpSrc 1 ∷ is TpDst 4 ∷ [])) (lies (Icmp6 54))
unfolding key key_with layout
icmpv6_shows_type_and_code = (refl, refl)

icmpv6_of_3_bytes_is_none : Shows (packet 3 58 (bytes 4 0x0104_0000)) (of_protocol 58 []) (lies None)
unfolding key key_with layout
icmpv6_of_3_bytes_is_none = (refl, refl)

icmp_over_ipv6_is_none : Shows (packet 8 1 (bytes 8 0x0301_0000_00000000)) (of_protocol 1 []) (lies None)
unfolding key key_with layout
icmp_over_ipv6_is_none = (refl, refl)

-- ---- extension headers

-- one of 8 bytes, with this next header and options that pad it
abbrev options : ℕ → List ℕ
options next = next ∷ bytes 7 0x00_0104_00000000

hop_by_hop_options_are_passed : Shows (packet 16 0 (options 17 ++ udp)) (of_protocol 17 ports) (lies (Udp 62))
unfolding key key_with layout
hop_by_hop_options_are_passed = (refl, refl)

an_extension_header_may_have_16_bytes :
    Shows (packet 24 60 (bytes 16 0x11_01_010c_000000000000000000000000 ++ udp)) (of_protocol 17 ports) (lies (Udp 70))
unfolding key key_with layout
an_extension_header_may_have_16_bytes = (refl, refl)

a_routing_header_is_passed :
    Shows (packet 16 43 (bytes 8 0x11_00_04_00_00000000 ++ udp)) (of_protocol 17 ports) (record (lies (Udp 62)) { routed = true })
unfolding key key_with layout
a_routing_header_is_passed = (refl, refl)

after_other_headers_it_is_routed_still :
    (layout (packet 24 43 (bytes 8 0x3c_00_04_00_00000000 ++ options 17 ++ udp)) ≡ record (lies (Udp 70)) { routed = true })
    × (layout (packet 24 60 (options 43 ++ bytes 8 0x11_00_04_00_00000000 ++ udp)) ≡ record (lies (Udp 70)) { routed = true })
unfolding layout
after_other_headers_it_is_routed_still = (refl, refl)

-- with an integrity check value of 32 bits, and without one
the_length_of_authentication_is_in_words :
    Shows (packet 24 51 (bytes 16 0x11_02_0000_00000100_00000001_00000000 ++ udp)) (of_protocol 17 ports) (lies (Udp 70))
    × Shows (packet 20 51 (bytes 12 0x11_01_0000_00000100_00000001 ++ udp)) (of_protocol 17 ports) (lies (Udp 66))
unfolding key key_with layout
the_length_of_authentication_is_in_words = ((refl, refl), (refl, refl))

-- so many extension headers, of 8 bytes each, and UDP
abbrev after_headers : ℕ → List ℕ
after_headers n = packet (8 * n + 8) 60 (concat (replicate (n - 1) (options 60)) ++ options 17 ++ udp)

eight_extension_headers_are_passed : Shows (after_headers 8) (of_protocol 17 ports) (lies (Udp 118))
unfolding key key_with layout
eight_extension_headers_are_passed = (refl, refl)

nine_extension_headers_are_malformed : IsMalformed (after_headers 9)
unfolding key key_with layout
nine_extension_headers_are_malformed = (refl, refl)

a_cut_extension_header_is_malformed :
    IsMalformed (packet 7 60 (options 59)) × IsMalformed (packet 8 60 (take 7 (options 59)))
    × IsMalformed (packet 15 60 (bytes 16 0x3b_01_010c_000000000000000000000000))
unfolding key key_with layout
a_cut_extension_header_is_malformed = ((refl, refl), (refl, refl), (refl, refl))

no_next_header_is_a_protocol : Shows (packet 8 60 (options 59)) (of_protocol 59 []) (lies None)
unfolding key key_with layout
no_next_header_is_a_protocol = (refl, refl)

-- ---- fragments

-- a fragment header with this next header, and 16 bits of offset and flags
abbrev fragment : ℕ → ℕ → List ℕ
fragment next offset = (next ∷ 0 ∷ bytes 2 offset) ++ bytes 4 1

a_first_fragment_has_a_header_and_shows_no_ports :
    Shows (packet 24 0 (options 44 ++ fragment 17 0x0001 ++ udp)) (of_protocol 17 (is IpFrag 1 ∷ [])) (lies (Udp 70))
unfolding key key_with layout
a_first_fragment_has_a_header_and_shows_no_ports = (refl, refl)

a_later_fragment_has_no_header :
    Shows (packet 16 44 (fragment 17 0x0008 ++ udp)) (of_protocol 44 (is IpFrag 3 ∷ [])) (lies None)
    × Shows (packet 16 44 (fragment 17 0xfff9 ++ udp)) (of_protocol 44 (is IpFrag 3 ∷ [])) (lies None)
unfolding key key_with layout
a_later_fragment_has_no_header = ((refl, refl), (refl, refl))

after_a_later_fragment_header_no_other_is_read :
    Shows (packet 8 44 (fragment 0 0x0008)) (of_protocol 44 (is IpFrag 3 ∷ [])) (lies None)
unfolding key key_with layout
after_a_later_fragment_header_no_other_is_read = (refl, refl)

after_a_first_fragment_header_others_are_read : IsMalformed (packet 8 44 (fragment 0 0x0001))
unfolding key key_with layout
after_a_first_fragment_header_others_are_read = (refl, refl)

-- its second byte and two bits of flags are reserved
a_fragment_header_without_offset_and_more_is_of_no_fragment :
    Shows (packet 16 44 (bytes 8 0x11_ff_0006_00000001 ++ udp)) (of_protocol 17 ports) (lies (Udp 62))
unfolding key key_with layout
a_fragment_header_without_offset_and_more_is_of_no_fragment = (refl, refl)

of_two_fragment_headers_the_first_fragment_stays :
    Shows (packet 24 44 (fragment 44 0x0001 ++ fragment 17 0 ++ udp)) (of_protocol 17 (is IpFrag 1 ∷ [])) (lies (Udp 70))
    × Shows (packet 24 44 (fragment 44 0 ++ fragment 17 0x0001 ++ udp)) (of_protocol 17 (is IpFrag 1 ∷ [])) (lies (Udp 70))
unfolding key key_with layout
of_two_fragment_headers_the_first_fragment_stays = ((refl, refl), (refl, refl))

of_two_fragment_headers_the_later_fragment_counts :
    Shows (packet 24 44 (fragment 44 0x0001 ++ fragment 17 0x0008 ++ udp)) (of_protocol 44 (is IpFrag 3 ∷ [])) (lies None)
unfolding key key_with layout
of_two_fragment_headers_the_later_fragment_counts = (refl, refl)
