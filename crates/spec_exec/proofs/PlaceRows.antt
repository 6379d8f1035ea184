-- Worked rows: where each field of a key stands in frames of every kind, and which checksums cover it. The headers stand
-- as in a frame without a tag: that of the network 14 bytes from its start, and 20 (IPv4) or 40 bytes (IPv6) later that of
-- transport.
use Rattle.std.specs.Prelude.{◌≡◌, ℕ, true, false, List, [], ◌∷◌, map, refl}
use Rattle.std.specs.List.{filter_map}
use Rattle.std.specs.Option.{option_map}
use Rattle.spec_keys.specs.Fields.{fields}
use Rattle.spec_keys.specs.declared.field_id.FieldId.{FieldId}
use Rattle.spec_keys.specs.declared.field_id.FieldId.TheVariants.{DlSrc, DlDst, NwSrc, NwDst, Ipv6Src, Ipv6Dst, NwTos, NwTtl, ArpSha, ArpTha, TpSrc, TpDst}
use Rattle.spec_frames.specs.declared.layout.Layout.{Layout}
use Rattle.spec_frames.specs.declared.layout.L3.{L3}
use Rattle.spec_frames.specs.declared.layout.L3.TheVariants as l3
use Rattle.spec_frames.specs.declared.layout.L4.{L4}
use Rattle.spec_frames.specs.declared.layout.L4.TheVariants as l4
use Rattle.spec_exec.specs.Places.{Place, place_in, Zero, Plain, Ones, Absent, Sum, sums_of}

abbrev headers : L3 → L4 → Layout
headers network transport = record { tags = 0; l3 = network; l4 = transport; routed = false }

-- behind a routing header
abbrev routed : L4 → Layout
routed transport = record { tags = 0; l3 = l3.Ipv6 14; l4 = transport; routed = true }

-- ---- places

-- the fields that stand in a frame with these headers, in the order of the key, and where
abbrev places : Layout → List (FieldId × Place)
places layout = filter_map (λ f. option_map (λ p. (f, p)) (place_in layout f)) fields

-- so many words of 16 bits from an offset on
abbrev words : ℕ → ℕ → ℕ → Place
words at size n = record { at = at; size = size; unit = 1; word_at = at; words = n }

-- one byte of the word at an offset
abbrev byte : ℕ → ℕ → Place
byte word_at at = record { at = at; size = 1; unit = 1; word_at = word_at; words = 1 }

abbrev ethernet : List (FieldId × Place)
ethernet = (DlSrc, words 6 6 3) ∷ (DlDst, words 0 6 3) ∷ []

abbrev arp : List (FieldId × Place)
arp =
    (DlSrc, words 6 6 3) ∷ (DlDst, words 0 6 3) ∷ (NwSrc, words 28 4 2) ∷ (NwDst, words 38 4 2) ∷
    (ArpSha, words 22 6 3) ∷ (ArpTha, words 32 6 3) ∷ []

abbrev ipv4 : List (FieldId × Place)
ipv4 =
    (DlSrc, words 6 6 3) ∷ (DlDst, words 0 6 3) ∷ (NwSrc, words 26 4 2) ∷ (NwDst, words 30 4 2) ∷
    (NwTos, byte 14 15) ∷ (NwTtl, byte 22 22) ∷ []

abbrev ipv4_with_ports : List (FieldId × Place)
ipv4_with_ports =
    (DlSrc, words 6 6 3) ∷ (DlDst, words 0 6 3) ∷ (NwSrc, words 26 4 2) ∷ (NwDst, words 30 4 2) ∷
    (NwTos, byte 14 15) ∷ (NwTtl, byte 22 22) ∷ (TpSrc, words 34 2 1) ∷ (TpDst, words 36 2 1) ∷ []

-- the four least bits of the word of the traffic class are those of the flow label
abbrev traffic_class : Place
traffic_class = record { at = 14; size = 2; unit = 16; word_at = 14; words = 1 }

abbrev ipv6 : List (FieldId × Place)
ipv6 =
    (DlSrc, words 6 6 3) ∷ (DlDst, words 0 6 3) ∷ (Ipv6Src, words 22 16 8) ∷ (Ipv6Dst, words 38 16 8) ∷
    (NwTos, traffic_class) ∷ (NwTtl, byte 20 21) ∷ []

abbrev ipv6_with_ports : List (FieldId × Place)
ipv6_with_ports =
    (DlSrc, words 6 6 3) ∷ (DlDst, words 0 6 3) ∷ (Ipv6Src, words 22 16 8) ∷ (Ipv6Dst, words 38 16 8) ∷
    (NwTos, traffic_class) ∷ (NwTtl, byte 20 21) ∷ (TpSrc, words 54 2 1) ∷ (TpDst, words 56 2 1) ∷ []

fields_and_their_places :
    map places (headers l3.None l4.None ∷ headers (l3.Arp 14) l4.None ∷ headers (l3.Ipv4 14) l4.None ∷
    headers (l3.Ipv4 14) (l4.Icmp 34) ∷ headers (l3.Ipv4 14) (l4.Tcp 34) ∷ headers (l3.Ipv4 14) (l4.Udp 34) ∷
    headers (l3.Ipv6 14) l4.None ∷ headers (l3.Ipv6 14) (l4.Icmp6 54) ∷ headers (l3.Ipv6 14) (l4.Tcp 54) ∷
    headers (l3.Ipv6 14) (l4.Udp 54) ∷ [])
    ≡ ethernet ∷ arp ∷ ipv4 ∷ ipv4 ∷ ipv4_with_ports ∷ ipv4_with_ports ∷ ipv6 ∷ ipv6 ∷ ipv6_with_ports ∷ ipv6_with_ports ∷ []
fields_and_their_places = refl

-- ---- checksums

-- the fields that stand in a frame with these headers, and the checksums that cover them
abbrev covered : Layout → List (FieldId × List Sum)
covered layout = filter_map (λ f. option_map (λ p. (f, sums_of layout f)) (place_in layout f)) fields

abbrev sum : ℕ → Zero → Sum
sum at zero = record { at = at; zero_says = zero }

-- that of the header of IPv4
abbrev of_header : Sum
of_header = sum 24 Plain

-- the addresses over IPv4 and the ports, where this checksum of transport covers both
abbrev with_ports : Sum → List (FieldId × List Sum)
with_ports transport =
    (DlSrc, []) ∷ (DlDst, []) ∷ (NwSrc, of_header ∷ transport ∷ []) ∷ (NwDst, of_header ∷ transport ∷ []) ∷
    (NwTos, of_header ∷ []) ∷ (NwTtl, of_header ∷ []) ∷ (TpSrc, transport ∷ []) ∷ (TpDst, transport ∷ []) ∷ []

abbrev without_ports : List (FieldId × List Sum)
without_ports =
    (DlSrc, []) ∷ (DlDst, []) ∷ (NwSrc, of_header ∷ []) ∷ (NwDst, of_header ∷ []) ∷ (NwTos, of_header ∷ []) ∷
    (NwTtl, of_header ∷ []) ∷ []

-- a checksum over IPv4, of the header and of transport. ICMP's covers no address. UDP's may be left out.
checksums_over_ipv4 :
    map (λ transport. covered (headers (l3.Ipv4 14) transport)) (l4.None ∷ l4.Icmp 34 ∷ l4.Tcp 34 ∷ l4.Udp 34 ∷ [])
    ≡ without_ports ∷ without_ports ∷ with_ports (sum 50 Plain) ∷ with_ports (sum 40 Absent) ∷ []
checksums_over_ipv4 = refl

-- over IPv6 no header has one, and that of UDP is always there
abbrev with_ports6 : Sum → List Sum → List (FieldId × List Sum)
with_ports6 transport of_destination =
    (DlSrc, []) ∷ (DlDst, []) ∷ (Ipv6Src, transport ∷ []) ∷ (Ipv6Dst, of_destination) ∷ (NwTos, []) ∷ (NwTtl, []) ∷
    (TpSrc, transport ∷ []) ∷ (TpDst, transport ∷ []) ∷ []

abbrev without_ports6 : List Sum → List Sum → List (FieldId × List Sum)
without_ports6 of_source of_destination =
    (DlSrc, []) ∷ (DlDst, []) ∷ (Ipv6Src, of_source) ∷ (Ipv6Dst, of_destination) ∷ (NwTos, []) ∷ (NwTtl, []) ∷ []

checksums_over_ipv6 :
    map (λ transport. covered (headers (l3.Ipv6 14) transport)) (l4.None ∷ l4.Icmp6 54 ∷ l4.Tcp 54 ∷ l4.Udp 54 ∷ [])
    ≡ without_ports6 [] [] ∷ without_ports6 (sum 56 Plain ∷ []) (sum 56 Plain ∷ [])
    ∷ with_ports6 (sum 70 Plain) (sum 70 Plain ∷ []) ∷ with_ports6 (sum 60 Ones) (sum 60 Ones ∷ []) ∷ []
checksums_over_ipv6 = refl

-- behind a routing header the destination of the header isn't that of the checksum; the source is
checksums_behind_a_routing_header :
    map (λ transport. covered (routed transport)) (l4.None ∷ l4.Icmp6 62 ∷ l4.Tcp 62 ∷ l4.Udp 62 ∷ [])
    ≡ without_ports6 [] [] ∷ without_ports6 (sum 64 Plain ∷ []) [] ∷ with_ports6 (sum 78 Plain) [] ∷ with_ports6 (sum 68 Ones) [] ∷ []
checksums_behind_a_routing_header = refl

no_checksum_covers_an_address_of_arp :
    map (λ row. row.1) (covered (headers (l3.Arp 14) l4.None)) ≡ [] ∷ [] ∷ [] ∷ [] ∷ [] ∷ [] ∷ []
no_checksum_covers_an_address_of_arp = refl
