-- Worked rows: what actions make of a frame.
use Rattle.std.specs.Prelude.{◌≡◌, ℕ, List, [], ◌∷◌, ◌++◌, map, replicate, refl}
use Rattle.spec_base.specs.Bytes.{big_endian, big_endian_at}
use Rattle.spec_keys.specs.declared.field_id.FieldId.TheVariants.{InPort, DlDst, VlanTci, NwSrc, NwDst, Ipv6Src, Ipv6Dst, NwTos, NwTtl, ArpSha, ArpTha, TpSrc, TpDst}
use Rattle.spec_exec.specs.Checksum.{updated}
use Rattle.spec_frames.specs.Ethernet.{is_tag_at, tag_count, carried, carried_by}
use Rattle.spec_frames.specs.Arp.{is_arp}
use Rattle.spec_frames.specs.Ipv4.{is_ipv4, ipv4}
use Rattle.spec_frames.specs.Ipv6.{ipv6, upper_layer}
use Rattle.spec_frames.specs.Network.{network_at}
use Rattle.spec_frames.specs.Transport.{transport}
use Rattle.spec_frames.specs.Layout.{layout_of}
use Rattle.spec_actions.specs.declared.action.DpAction.{DpAction}
use Rattle.spec_actions.specs.declared.action.DpAction.TheVariants.{Output, PopVlan, PushVlan, Set}
use Rattle.spec_exec.specs.Places.{Plain, Ones, Absent}
use Rattle.spec_exec.specs.Rewriting.{followed, after_word, after_words, corrected, set_field, push_tag, pop_tag, after_action}
use Rattle.spec_exec.specs.Sent.{Piece, sent}

abbrev hex : ℕ → ℕ → List ℕ
hex n digits = big_endian n digits

-- what is sent, by these rules alone
unfoldable sends : List DpAction → List ℕ → List Piece
unfolding big_endian_at updated is_tag_at tag_count carried carried_by is_arp is_ipv4 ipv4 ipv6 upper_layer network_at transport layout_of after_word after_words corrected set_field push_tag pop_tag after_action sent
sends actions frame = sent actions frame

abbrev piece : ℕ → List ℕ → Piece
piece port bytes = record { port = port; bytes = bytes }

-- a frame of an unknown type
abbrev plain : ℕ → List ℕ
plain to = hex 6 to ++ (hex 6 1 ++ (hex 2 0x88b5 ++ replicate 46 0))

-- a datagram of UDP from port 1000 to 53 without a checksum, in a frame of 42 bytes
abbrev datagram : ℕ → List ℕ
datagram header = hex 12 0x000000000002000000000001 ++ (hex 2 0x0800 ++ (hex 20 header ++ hex 8 0x03e8003500080000))

a_destination_is_written_in_part : sends (Set DlDst 0 5 ∷ Output 2 ∷ []) (plain 7) ≡ piece 2 (plain 2) ∷ []
unfolding sends
a_destination_is_written_in_part = refl

an_address_and_the_checksum_are_written :
    sends (Set NwSrc 8 8 ∷ Output 2 ∷ []) (datagram 0x4500001c00000000401166cf0a0000010a000002)
    ≡ piece 2 (datagram 0x4500001c00000000401166c70a0000090a000002) ∷ []
unfolding sends
an_address_and_the_checksum_are_written = refl

-- of TTL 64 to 63
a_ttl_and_the_checksum_are_written :
    sends (Set NwTtl 0x3f 0x7f ∷ Output 2 ∷ []) (datagram 0x4500001c00000000401166cf0a0000010a000002)
    ≡ piece 2 (datagram 0x4500001c000000003f1167cf0a0000010a000002) ∷ []
unfolding sends
a_ttl_and_the_checksum_are_written = refl

an_output_before_a_write_sends_the_frame_as_it_was :
    sends (Output 2 ∷ Set NwTtl 0x3f 0x7f ∷ Output 3 ∷ []) (datagram 0x4500001c00000000401166cf0a0000010a000002)
    ≡ piece 2 (datagram 0x4500001c00000000401166cf0a0000010a000002) ∷ piece 3 (datagram 0x4500001c000000003f1167cf0a0000010a000002) ∷ []
unfolding sends
an_output_before_a_write_sends_the_frame_as_it_was = refl

a_tag_is_pushed : sends (PushVlan 0x8100 0x1005 ∷ Output 2 ∷ []) (plain 2)
    ≡ piece 2 (hex 12 0x000000000002000000000001 ++ (hex 6 0x8100000588b5 ++ replicate 46 0)) ∷ []
unfolding sends
a_tag_is_pushed = refl

a_tag_that_was_pushed_is_popped : sends (PushVlan 0x8100 0x1005 ∷ PopVlan ∷ Output 2 ∷ []) (plain 2) ≡ piece 2 (plain 2) ∷ []
unfolding sends
a_tag_that_was_pushed_is_popped = refl

without_a_header_nothing_is_written : sends (Set NwSrc 8 8 ∷ Set TpDst 1 1 ∷ PopVlan ∷ Output 2 ∷ []) (plain 2) ≡ piece 2 (plain 2) ∷ []
unfolding sends
without_a_header_nothing_is_written = refl

a_short_frame_stays : sends (Set DlDst 8 8 ∷ PushVlan 0x8100 5 ∷ PopVlan ∷ Output 2 ∷ []) (replicate 13 1) ≡ piece 2 (replicate 13 1) ∷ []
unfolding sends
a_short_frame_stays = refl

a_frame_of_an_ethernet_header_alone_is_changed :
    sends (Set DlDst 8 8 ∷ PushVlan 0x8100 5 ∷ Output 2 ∷ []) (replicate 14 1)
    ≡ piece 2 (hex 6 0x010101010109 ++ (replicate 6 1 ++ hex 6 0x810000050101)) ∷ []
unfolding sends
a_frame_of_an_ethernet_header_alone_is_changed = refl

-- a segment of TCP, with its right checksums
abbrev segment : ℕ → ℕ → List ℕ
segment header body = hex 12 0x000000000002000000000001 ++ (hex 2 0x0800 ++ (hex 20 header ++ hex 20 body))

a_segment_with_a_lower_ttl :
    sends (Set NwTtl 0x3f 0x7f ∷ Output 2 ∷ []) (segment 0x45000028000000004006aec40a000005c0000207 0x9c40005000000001000000005002200027450000)
    ≡ piece 2 (segment 0x45000028000000003f06afc40a000005c0000207 0x9c40005000000001000000005002200027450000) ∷ []
unfolding sends
a_segment_with_a_lower_ttl = refl

a_segment_to_another_address :
    sends (Set NwDst 0x0a000009 0xffffffff ∷ Output 2 ∷ []) (segment 0x45000028000000004006aec40a000005c0000207 0x9c40005000000001000000005002200027450000)
    ≡ piece 2 (segment 0x4500002800000000400666c30a0000050a000009 0x9c400050000000010000000050022000df430000) ∷ []
unfolding sends
a_segment_to_another_address = refl

a_segment_from_another_port :
    sends (Set TpSrc 80 0xffff ∷ Output 2 ∷ []) (segment 0x45000028000000004006aec40a000005c0000207 0x9c40005000000001000000005002200027450000)
    ≡ piece 2 (segment 0x45000028000000004006aec40a000005c0000207 0x00500050000000010000000050022000c3350000) ∷ []
unfolding sends
a_segment_from_another_port = refl

a_segment_of_another_service :
    sends (Set NwTos 0xb8 0xfc ∷ Output 2 ∷ []) (segment 0x45000028000000004006aec40a000005c0000207 0x9c40005000000001000000005002200027450000)
    ≡ piece 2 (segment 0x45b80028000000004006ae0c0a000005c0000207 0x9c40005000000001000000005002200027450000) ∷ []
unfolding sends
a_segment_of_another_service = refl

-- a datagram of UDP over IPv6
abbrev datagram6 : ℕ → ℕ → ℕ → List ℕ
datagram6 header to body =
    hex 12 0x000000000002000000000001 ++ (hex 2 0x86dd ++ (hex 8 header ++ (hex 16 1 ++ (hex 16 to ++ hex 8 body))))

a_datagram_to_another_address : sends (Set Ipv6Dst 3 0xff ∷ Output 2 ∷ []) (datagram6 0x6000000000081140 2 0x03e800350008fbbe)
    ≡ piece 2 (datagram6 0x6000000000081140 3 0x03e800350008fbbd) ∷ []
unfolding sends
a_datagram_to_another_address = refl

a_traffic_class_and_a_hop_limit : sends (Set NwTos 0xb8 0xfc ∷ Set NwTtl 63 0xff ∷ Output 2 ∷ []) (datagram6 0x6000000000081140 2 0x03e800350008fbbe)
    ≡ piece 2 (datagram6 0x6b8000000008113f 2 0x03e800350008fbbe) ∷ []
unfolding sends
a_traffic_class_and_a_hop_limit = refl

-- a write of what is there changes no checksum, be it wrong
a_word_that_stays_updates_nothing :
    sends (Set NwSrc 1 1 ∷ Output 2 ∷ []) (datagram 0x4500001c000000004011ffff0a0000010a000002) ≡ piece 2 (datagram 0x4500001c000000004011ffff0a0000010a000002) ∷ []
unfolding sends
a_word_that_stays_updates_nothing = refl

-- ---- checksums of UDP

abbrev udp_over_ipv4 : ℕ → List ℕ
udp_over_ipv4 body = hex 12 0x000000000002000000000001 ++ (hex 2 0x0800 ++ (hex 20 0x4500001c00000000401166cf0a0000010a000002 ++ hex 8 body))

a_port_and_the_checksum_are_written :
    sends (Set TpSrc 80 0xffff ∷ Output 2 ∷ []) (udp_over_ipv4 0x03e800350008e7be) ≡ piece 2 (udp_over_ipv4 0x005000350008eb56) ∷ []
unfolding sends
a_port_and_the_checksum_are_written = refl

a_checksum_that_becomes_0_is_sent_as_all_ones :
    sends (Set TpSrc 0xeba6 0xffff ∷ Output 2 ∷ []) (udp_over_ipv4 0x03e800350008e7be) ≡ piece 2 (udp_over_ipv4 0xeba600350008ffff) ∷ []
unfolding sends
a_checksum_that_becomes_0_is_sent_as_all_ones = refl

no_checksum_stays_none :
    sends (Set TpSrc 80 0xffff ∷ Output 2 ∷ []) (udp_over_ipv4 0x03e8003500080000) ≡ piece 2 (udp_over_ipv4 0x0050003500080000) ∷ []
unfolding sends
no_checksum_stays_none = refl

-- of a later fragment no transport header is named, and what stands there stays
a_later_fragment_has_no_other_checksum :
    sends (Set NwSrc 8 8 ∷ Output 2 ∷ []) (datagram 0x4500001c00000001401166ce0a0000010a000002)
    ≡ piece 2 (datagram 0x4500001c00000001401166c60a0000090a000002) ∷ []
unfolding sends
a_later_fragment_has_no_other_checksum = refl

-- ---- over IPv6

abbrev ipv6_from : ℕ → ℕ → ℕ → List ℕ → List ℕ
ipv6_from header source to body =
    hex 12 0x000000000002000000000001 ++ (hex 2 0x86dd ++ (hex 8 header ++ (hex 16 source ++ (hex 16 to ++ body))))

an_echo_request_from_another_address :
    sends (Set Ipv6Src 8 8 ∷ Output 2 ∷ []) (ipv6_from 0x6000000000083a40 1 2 (hex 8 0x80007fb800010001))
    ≡ piece 2 (ipv6_from 0x6000000000083a40 9 2 (hex 8 0x80007fb000010001)) ∷ []
unfolding sends
an_echo_request_from_another_address = refl

-- a routing header without segments left, and a datagram of UDP
abbrev routed : List ℕ
routed = hex 16 0x110002000000000003e800350008fbbe

after_a_routing_header_a_destination_is_in_no_checksum :
    sends (Set Ipv6Dst 3 0xff ∷ Output 2 ∷ []) (ipv6_from 0x6000000000102b40 1 2 routed)
    ≡ piece 2 (ipv6_from 0x6000000000102b40 1 3 routed) ∷ []
unfolding sends
after_a_routing_header_a_destination_is_in_no_checksum = refl

-- its source is in the checksum, as without that header
after_a_routing_header_a_source_is_in_the_checksum :
    sends (Set Ipv6Src 8 8 ∷ Output 2 ∷ []) (ipv6_from 0x6000000000102b40 1 2 routed)
    ≡ piece 2 (ipv6_from 0x6000000000102b40 9 2 (hex 16 0x110002000000000003e800350008fbb6)) ∷ []
unfolding sends
after_a_routing_header_a_source_is_in_the_checksum = refl

-- a checksum of ICMPv6 may be 0
a_checksum_of_icmpv6_that_becomes_0_is_sent_as_0 :
    sends (Set Ipv6Src 0x7fb9 0xffff ∷ Output 2 ∷ []) (ipv6_from 0x6000000000083a40 1 2 (hex 8 0x80007fb800010001))
    ≡ piece 2 (ipv6_from 0x6000000000083a40 0x7fb9 2 (hex 8 0x8000000000010001)) ∷ []
unfolding sends
a_checksum_of_icmpv6_that_becomes_0_is_sent_as_0 = refl

-- that of UDP may not
over_ipv6_a_checksum_of_udp_that_becomes_0_is_sent_as_all_ones :
    sends (Set TpSrc 0xffa6 0xffff ∷ Output 2 ∷ []) (datagram6 0x6000000000081140 2 0x03e800350008fbbe)
    ≡ piece 2 (datagram6 0x6000000000081140 2 0xffa600350008ffff) ∷ []
unfolding sends
over_ipv6_a_checksum_of_udp_that_becomes_0_is_sent_as_all_ones = refl

-- over IPv6 a datagram has a checksum always, be it a wrong one of 0
over_ipv6_a_checksum_of_0_is_updated :
    sends (Set TpSrc 80 0xffff ∷ Output 2 ∷ []) (datagram6 0x6000000000081140 2 0x03e8003500080000)
    ≡ piece 2 (datagram6 0x6000000000081140 2 0x0050003500080398) ∷ []
unfolding sends
over_ipv6_a_checksum_of_0_is_updated = refl

-- ---- what was there before and what is there now

-- RFC 1071's sum of 1 and 2 is 3, and that of 3 and 2 is 5
a_checksum_follows_from_what_was_to_what_is :
    after_words Plain 2 0 (hex 4 0x00010002) (hex 4 0x00030002) 0xfffc ≡ 0xfffa
unfolding big_endian_at updated after_word after_words
a_checksum_follows_from_what_was_to_what_is = refl

-- where 0 is a sum, where it can't be one, and where it says that there is none: one of 0 to begin with, one that
-- becomes 0, and one that stays above 0
a_checksum_of_0_is_sent_as_its_kind_says :
    (map (λ zero. followed zero 1 0 (hex 2 1) (hex 2 3) 0) (Plain ∷ Ones ∷ Absent ∷ []) ≡ 0xfffd ∷ 0xfffd ∷ 0 ∷ [])
    × ((map (λ zero. followed zero 1 0 (hex 2 1) (hex 2 3) 2) (Plain ∷ Ones ∷ Absent ∷ []) ≡ 0 ∷ 0xffff ∷ 0xffff ∷ [])
    × (map (λ zero. followed zero 1 0 (hex 2 1) (hex 2 3) 9) (Plain ∷ Ones ∷ Absent ∷ []) ≡ 7 ∷ 7 ∷ 7 ∷ []))
unfolding big_endian_at updated after_word after_words
a_checksum_of_0_is_sent_as_its_kind_says = (refl, (refl, refl))

-- ---- ARP

-- a request
abbrev request : ℕ → ℕ → ℕ → ℕ → List ℕ
request sender sender_at target target_at =
    hex 12 0xffffffffffff000000000001
    ++ (hex 10 0x08060001080006040001 ++ (hex 6 sender ++ (hex 4 sender_at ++ (hex 6 target ++ hex 4 target_at))))

the_addresses_of_arp_are_written :
    sends (Set ArpSha 7 0xff ∷ Set NwSrc 8 8 ∷ Set ArpTha 0x900000000000 0xff0000000000 ∷ Set NwDst 0x0b000000 0xff000000 ∷ Output 2 ∷ []) (request 1 0x0a000001 0 0x0a000002)
    ≡ piece 2 (request 7 0x0a000009 0x900000000000 0x0b000002) ∷ []
unfolding sends
the_addresses_of_arp_are_written = refl

-- ---- tags

abbrev with_tag : ℕ → List ℕ
with_tag tag = hex 12 0x000000000002000000000001 ++ (hex 4 tag ++ (hex 2 0x88b5 ++ replicate 46 0))

the_bit_that_says_that_there_is_a_tag_is_not_sent : sends (PushVlan 0x8100 0xffff ∷ Output 2 ∷ []) (plain 2) ≡ piece 2 (with_tag 0x8100efff) ∷ []
unfolding sends
the_bit_that_says_that_there_is_a_tag_is_not_sent = refl

a_service_tag_is_popped : sends (PopVlan ∷ Output 2 ∷ []) (with_tag 0x88a80005) ≡ piece 2 (plain 2) ∷ []
unfolding sends
a_service_tag_is_popped = refl

fields_that_commit_does_not_name_stay : sends (Set VlanTci 0x1005 0xffff ∷ Set InPort 3 0xffff ∷ Output 2 ∷ []) (plain 2) ≡ piece 2 (plain 2) ∷ []
unfolding sends
fields_that_commit_does_not_name_stay = refl

no_bit_beyond_the_width_of_a_field_is_written :
    sends (Set NwTtl 0x13f 0x17f ∷ Output 2 ∷ []) (datagram 0x4500001c00000000401166cf0a0000010a000002)
    ≡ piece 2 (datagram 0x4500001c000000003f1167cf0a0000010a000002) ∷ []
unfolding sends
no_bit_beyond_the_width_of_a_field_is_written = refl

-- the version of IPv6 stands above its traffic class
no_bit_above_a_traffic_class_is_written :
    sends (Set NwTos 0x1b8 0x1fc ∷ Output 2 ∷ []) (datagram6 0x6000000000081140 2 0x03e800350008fbbe)
    ≡ piece 2 (datagram6 0x6b80000000081140 2 0x03e800350008fbbe) ∷ []
unfolding sends
no_bit_above_a_traffic_class_is_written = refl
