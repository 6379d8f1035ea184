-- Rows: frames that meet the premises of the laws, and the exceptions of this profile.
use Rattle.std.specs.Prelude.{◌≡◌, ℕ, List, [], ◌∷◌, ◌++◌, drop, refl}
use Rattle.std.proofs.Common.{arith}
use Rattle.spec_base.specs.Bytes.{big_endian, big_endian_at}
use Rattle.spec_keys.specs.declared.field_id.FieldId.{FieldId}
use Rattle.spec_keys.specs.declared.field_id.FieldId.TheVariants.{NwDst, Ipv6Src, Ipv6Dst, TpDst}
use Rattle.spec_exec.specs.Checksum.{updated}
use Rattle.spec_frames.specs.Ethernet.{is_tag_at, tag_count, carried, carried_by}
use Rattle.spec_frames.specs.Ipv4.{is_ipv4, ipv4}
use Rattle.spec_frames.specs.Ipv6.{ipv6, upper_layer}
use Rattle.spec_frames.specs.Network.{network_at}
use Rattle.spec_frames.specs.Transport.{transport}
use Rattle.spec_frames.specs.Layout.{layout_of}
use Rattle.spec_actions.specs.declared.action.DpAction.TheVariants.{Set}
use Rattle.spec_exec.specs.Rewriting.{after_word, after_words, corrected, set_field, after_action}
use Rattle.exec_laws.specs.Right.{words_at, IsRight, header_words, transport_words, final_words, udp_checksum}

abbrev hex : ℕ → ℕ → List ℕ
hex n digits = big_endian n digits

-- what is covered, by these rules alone
unfoldable header : List ℕ → List ℕ
unfolding big_endian_at is_tag_at tag_count carried carried_by network_at is_ipv4 ipv4 ipv6 upper_layer transport layout_of words_at
header frame = header_words frame

unfoldable body : List ℕ → List ℕ
unfolding big_endian_at is_tag_at tag_count carried carried_by network_at is_ipv4 ipv4 ipv6 upper_layer transport layout_of words_at
body frame = transport_words frame

unfoldable final : List ℕ → List ℕ → List ℕ
unfolding big_endian_at is_tag_at tag_count carried carried_by network_at is_ipv4 ipv4 ipv6 upper_layer transport layout_of words_at
final to frame = final_words to frame

-- a frame after a write
unfoldable written : FieldId → ℕ → ℕ → List ℕ → List ℕ
unfolding big_endian_at updated is_tag_at tag_count carried carried_by network_at is_ipv4 ipv4 ipv6 upper_layer transport layout_of after_word after_words corrected set_field after_action
written f value mask frame = after_action (Set f value mask) frame

-- ---- frames whose checksums are right

-- a segment of TCP from 10.0.0.5 to 192.0.2.7
abbrev segment : List ℕ
segment =
    hex 12 0x000000000002000000000001
    ++ (hex 2 0x0800 ++ (hex 20 0x45000028000000004006aec40a000005c0000207 ++ hex 20 0x9c40005000000001000000005002200027450000))

a_segment_has_right_checksums : IsRight (header segment) × IsRight (body segment)
unfolding header body
a_segment_has_right_checksums = (refl, refl)

a_segment_to_another_address : IsRight (header (written NwDst 0x0a000009 0xffffffff segment)) × IsRight (body (written NwDst 0x0a000009 0xffffffff segment))
unfolding header body written
a_segment_to_another_address = (refl, refl)

-- a datagram of UDP over IPv6, from port 1000 to 53
abbrev datagram : ℕ → ℕ → List ℕ
datagram to checksum =
    hex 12 0x000000000002000000000001
    ++ (hex 2 0x86dd ++ (hex 8 0x6000000000081140 ++ (hex 16 1 ++ (hex 16 to ++ (hex 6 0x03e800350008 ++ hex 2 checksum)))))

a_datagram_has_a_right_checksum : IsRight (body (datagram 2 0xfbbe))
unfolding body
a_datagram_has_a_right_checksum = refl

a_datagram_to_another_address : written Ipv6Dst 3 0xff (datagram 2 0xfbbe) ≡ datagram 3 0xfbbd
unfolding written
a_datagram_to_another_address = refl

-- an odd size is filled up with a byte 0
abbrev odd : ℕ → List ℕ
odd checksum =
    hex 12 0x000000000002000000000001
    ++ (hex 2 0x86dd ++ (hex 8 0x6000000000091140 ++ (hex 16 1 ++ (hex 16 2 ++ (hex 6 0x03e800350009 ++ (hex 2 checksum ++ hex 1 0xab))))))

a_datagram_of_an_odd_size : IsRight (body (odd 0x50bc))
unfolding body
a_datagram_of_an_odd_size = refl

-- on the way to ::9, by a routing header with one segment left
abbrev passing : ℕ → List ℕ
passing to =
    hex 12 0x000000000002000000000001
    ++ (hex 2 0x86dd ++ (hex 8 0x6000000000202b40 ++ (hex 16 1 ++ (hex 16 to ++ (hex 8 0x1102000100000000 ++ (hex 16 9 ++ hex 8 0x03e800350008fbb7))))))

abbrev nine : List ℕ
nine = 0 ∷ 0 ∷ 0 ∷ 0 ∷ 0 ∷ 0 ∷ 0 ∷ 9 ∷ []

a_datagram_on_its_way_has_the_checksum_of_its_destination : IsRight (final nine (passing 2)) × (written Ipv6Dst 3 0xff (passing 2) ≡ passing 3) × IsRight (final nine (passing 3))
unfolding final written
a_datagram_on_its_way_has_the_checksum_of_its_destination = (refl, refl, refl)

-- ---- exceptions

-- after a routing header without segments left
abbrev routed : ℕ → List ℕ
routed to =
    hex 12 0x000000000002000000000001
    ++ (hex 2 0x86dd ++ (hex 8 0x6000000000102b40 ++ (hex 16 1 ++ (hex 16 to ++ (hex 8 0x1100000000000000 ++ hex 8 0x03e800350008fbbe)))))

a_destination_after_a_routing_header_is_not_followed : IsRight (body (routed 2)) × (written Ipv6Dst 3 0xff (routed 2) ≡ routed 3) × (IsRight (body (routed 3)) → ⊥)
unfolding body written
a_destination_after_a_routing_header_is_not_followed = (refl, refl, λ right. omega (arith, right))

a_source_after_a_routing_header_is_followed : IsRight (body (written Ipv6Src 3 0xff (routed 2)))
unfolding body written
a_source_after_a_routing_header_is_followed = refl

over_ipv6_a_checksum_of_0_becomes_a_number : udp_checksum (written TpDst 54 0xffff (datagram 2 0)) 54 ≡ 0xfffe
unfolding written big_endian_at
over_ipv6_a_checksum_of_0_becomes_a_number = refl

-- the first 16 bytes of the segment, in a fragment
abbrev first : List ℕ
first =
    hex 12 0x000000000002000000000001
    ++ (hex 2 0x0800 ++ (hex 20 0x45000024000020004006aec80a000005c0000207 ++ hex 16 0x9c400050000000010000000050022000))

an_address_in_a_first_fragment_with_little_of_tcp_leaves_its_bytes : (body first ≡ []) × (drop 34 (written NwDst 0x0a000009 0xffffffff first) ≡ drop 34 first)
unfolding body written
an_address_in_a_first_fragment_with_little_of_tcp_leaves_its_bytes = (refl, refl)
