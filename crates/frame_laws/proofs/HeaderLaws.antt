-- Where the headers of a frame stand.
use Rattle.std.proofs.Common.{◌≡◌, ◌≢◌, ℕ, ◌+◌, ◌*◌, ◌-◌, ◌≤◌, Bool, true, false, ◌&&◌, ◌==◌, nat_le, if◌then◌else◌, List, length, slice_index, Option, Some, None, option_map, IfSome, refl, sym, ap, ◌∙◌, subst, arith}
use Rattle.std.proofs.lemmas.Bool.{cond_both, eqb-true, leb-true, and_parts}
use Rattle.spec_base.specs.Bytes.{big_endian_at}
use Rattle.spec_keys.specs.Protocols.{arp_type, ipv4_type, ipv6_type, tcp_protocol, udp_protocol, icmp_protocol, icmp6_protocol}
use Rattle.spec_frames.specs.declared.headers.Carried.{Carried}
use Rattle.spec_frames.specs.declared.headers.Datagram.{Datagram}
use Rattle.spec_frames.specs.declared.headers.UpperLayer.{UpperLayer}
use Rattle.spec_frames.specs.declared.headers.Network.{Network}
use Rattle.spec_frames.specs.declared.headers.Network.TheVariants.{Nothing, Arp, Ipv4, Ipv6}
use Rattle.spec_frames.specs.declared.layout.Layout.{Layout}
use Rattle.spec_frames.specs.declared.layout.L3.{L3}
use Rattle.spec_frames.specs.declared.layout.L3.TheVariants as l3
use Rattle.spec_frames.specs.declared.layout.L4.{L4}
use Rattle.spec_frames.specs.declared.layout.L4.TheVariants as l4
use Rattle.spec_frames.specs.Ethernet.{header_size, tag_size, type_size, type_at, no_type, inner_at, least_type, is_tag_at, tag_count, is_snap, carried_by, carried}
use Rattle.spec_frames.specs.Arp.{is_arp, packet_size}
use Rattle.spec_frames.specs.Ipv4 as ipv4
use Rattle.spec_frames.specs.Ipv6 as ipv6
use Rattle.spec_frames.specs.Network.{by_ipv6, network_at, network}
use Rattle.spec_frames.specs.Transport.{tcp_size, udp_size, icmp_size, icmp6_size, transport}
use Rattle.spec_frames.specs.Layout.{place_of_network, layout_with, layout_of}
use Rattle.frame_laws.specs.Headers.{FollowsType, FollowsIp}
use Rattle.frame_laws.proofs.keys.Forms.{by_network, by_length}
use Rattle.frame_laws.proofs.TransportLaws.{Fits, Told, transport-tells}
use Rattle.frame_laws.proofs.keys.Chains.{upper_layer-keeps}

-- ---- the type field

-- What a frame carries begins at this offset or after, right after its type, if it has one.
pub record IsTyped (frame : List ℕ) (least : ℕ) (c : Carried) : Type 0 where
  pub begins : least ≤ c.at
  pub after_type : c.dl_type ≢ no_type → big_endian_at type_size frame (c.at - type_size) ≡ c.dl_type

carried_by-IsTyped : (frame : List ℕ) (at : ℕ) → IsTyped frame (at + type_size) (carried_by frame at)
unfolding carried_by
carried_by-IsTyped frame at =
    cond_both (nat_le least_type (big_endian_at type_size frame at)) _ _ (IsTyped frame (at + type_size))
    (λ e. record { begins = omega arith; after_type = λ ne. ap (big_endian_at type_size frame) (omega arith) })
    (λ e. cond_both (is_snap frame (at + type_size)) _ _ (IsTyped frame (at + type_size))
    (λ s. record { begins = omega arith; after_type = λ ne. ap (big_endian_at type_size frame) (omega arith) })
    (λ s. record { begins = omega arith; after_type = λ ne. absurd (ne refl) }))

pub tag_count-few : (frame : List ℕ) → tag_count frame ≤ 2
unfolding tag_count
tag_count-few frame = at (is_tag_at frame type_at) (is_tag_at frame inner_at)
  where
    at : (outer inner : Bool) → (if outer then (if inner then 2 else 1) else 0) ≤ 2
    at true true = omega arith
    at true false = omega arith
    at false inner = omega arith

pub carried-IsTyped : (frame : List ℕ) → IsTyped frame (header_size + tag_count frame * tag_size) (carried frame)
unfolding carried
carried-IsTyped frame =
    let c = carried_by-IsTyped frame (type_at + tag_count frame * tag_size) in
    record { begins = omega (arith, c.begins); after_type = c.after_type }

pub carried-least : (frame : List ℕ) → header_size ≤ (carried frame).at
carried-least frame = let c = carried-IsTyped frame in omega (arith, c.begins)

-- ---- network headers

-- A network header lies in the frame, its upper layer begins after it, and its packet ends in the frame.
abbrev pub IsPlaced : List ℕ → Network → Type 0
IsPlaced frame Nothing = Unit {0}
IsPlaced frame (Arp at) = at + packet_size ≤ length frame
IsPlaced frame (Ipv4 at d) =
    (at + ipv4.least_header_size ≤ length frame) × (at + ipv4.least_header_size ≤ d.upper.at) × (d.end ≤ length frame)
IsPlaced frame (Ipv6 at d) = (at + ipv6.header_size ≤ length frame) × (at + ipv6.header_size ≤ d.upper.at) × (d.end ≤ length frame)

is_arp-IsPlaced : (frame : List ℕ) (at : ℕ) → is_arp frame at ≡ true → IsPlaced frame (Arp at)
unfolding is_arp
is_arp-IsPlaced frame at e = leb-true _ _ (and_parts _ _ e).0

-- The version and the sizes in a well-formed header of IPv4.
pub record HasSizes (frame : List ℕ) (at : ℕ) : Type 0 where
  pub version : (ipv4.version frame at == 4) ≡ true
  pub whole : at + ipv4.least_header_size ≤ length frame
  pub least : ipv4.least_header_size ≤ ipv4.header_size frame at
  pub options : at + ipv4.header_size frame at ≤ length frame
  pub total : ipv4.header_size frame at ≤ ipv4.total_size frame at

pub is_ipv4-HasSizes : (frame : List ℕ) (at : ℕ) → ipv4.is_ipv4 frame at ≡ true → HasSizes frame at
unfolding ipv4.is_ipv4
is_ipv4-HasSizes frame at e =
    let a = and_parts (nat_le (at + ipv4.least_header_size) (length frame)) _ e in
    let b = and_parts (ipv4.version frame at == 4) _ a.1 in
    let c = and_parts (nat_le ipv4.least_header_size (ipv4.header_size frame at)) _ b.1 in
    let d = and_parts (nat_le (at + ipv4.header_size frame at) (length frame)) (nat_le (ipv4.header_size frame at) (ipv4.total_size frame at)) c.1 in
    record { version = b.0; whole = leb-true _ _ a.0; least = leb-true _ _ c.0; options = leb-true _ _ d.0; total = leb-true _ _ d.1 }

is_ipv4-IsPlaced : (frame : List ℕ) (at : ℕ) → HasSizes frame at → IsPlaced frame (Ipv4 at (ipv4.ipv4 frame at))
unfolding ipv4.ipv4
is_ipv4-IsPlaced frame at sizes = (sizes.whole, omega arith, omega arith)

ipv6-IsPlaced : (frame : List ℕ) (at : ℕ) → IfSome (ipv6.ipv6 frame at) (λ d. IsPlaced frame (Ipv6 at d))
unfolding ipv6.ipv6
ipv6-IsPlaced frame at =
    cond_both (nat_le (at + ipv6.header_size) (length frame) && (ipv4.version frame at == 6)) _ None (λ o. IfSome o (λ d. IsPlaced frame (Ipv6 at d)))
    (λ e. by (leb-true _ _ (and_parts (nat_le (at + ipv6.header_size) (length frame)) (ipv4.version frame at == 6) e).0) _ after)
    (λ e. tt)
  where
    after : IfSome (ipv6.upper_layer ipv6.most_extensions frame (ipv6.end_of frame at) (slice_index frame (at + 6)) (at + ipv6.header_size)) (λ u. Unit {0} × (at + ipv6.header_size ≤ u.at))
    after =
        upper_layer-keeps (λ number. Unit {0}) (λ a. at + ipv6.header_size ≤ a) frame (λ a. tt) (λ a n l. omega arith) ipv6.most_extensions (ipv6.end_of frame at)
        (slice_index frame (at + 6)) (at + ipv6.header_size) tt (omega arith)

    by : at + ipv6.header_size ≤ length frame → (o : Option UpperLayer) → IfSome o (λ u. Unit {0} × (at + ipv6.header_size ≤ u.at))
        → IfSome (option_map (λ upper. record { tos = ipv6.traffic_class frame at; ttl = slice_index frame (at + 7); end = ipv6.end_of frame at; upper = upper }) o) (λ d. IsPlaced frame (Ipv6 at d))
    by whole None h = tt
    by whole (Some u) h = (whole, h.1, omega arith)

-- ---- the laws

pub network-IsPlaced : (frame : List ℕ) → IsPlaced frame (network frame)
network-IsPlaced frame =
    by_network frame (carried frame).dl_type (carried frame).at (IsPlaced frame) tt (λ e. is_arp-IsPlaced frame (carried frame).at)
    (λ e h. is_ipv4-IsPlaced frame (carried frame).at (is_ipv4-HasSizes frame (carried frame).at h))
    (λ e d h. subst (λ (o : Option Datagram). IfSome o (λ d. IsPlaced frame (Ipv6 (carried frame).at d))) h (ipv6-IsPlaced frame (carried frame).at))

-- what a network header says of its type
abbrev IsOfType : List ℕ → Network → Type 0
IsOfType frame Nothing = Unit {0}
IsOfType frame (Arp at) = (at ≡ (carried frame).at) × ((carried frame).dl_type ≡ arp_type)
IsOfType frame (Ipv4 at d) = (at ≡ (carried frame).at) × ((carried frame).dl_type ≡ ipv4_type)
IsOfType frame (Ipv6 at d) = (at ≡ (carried frame).at) × ((carried frame).dl_type ≡ ipv6_type)

network-IsOfType : (frame : List ℕ) → IsOfType frame (network frame)
network-IsOfType frame =
    by_network frame (carried frame).dl_type (carried frame).at (IsOfType frame) tt (λ e h. (refl, e)) (λ e h. (refl, e)) (λ e d h. (refl, e))

-- the first law in its own words
abbrev NetworkFollows : List ℕ → Layout → L3 → Type 0
NetworkFollows frame layout l3.None = Unit {0}
NetworkFollows frame layout (l3.Arp at) = FollowsType frame layout arp_type packet_size at
NetworkFollows frame layout (l3.Ipv4 at) = FollowsType frame layout ipv4_type ipv4.least_header_size at
NetworkFollows frame layout (l3.Ipv6 at) = FollowsType frame layout ipv6_type ipv6.header_size at

to_FollowsType : (frame : List ℕ) (n : Network) (number size at : ℕ) → number ≢ no_type → (at ≡ (carried frame).at) × ((carried frame).dl_type ≡ number)
    → at + size ≤ length frame → FollowsType frame (layout_with (tag_count frame) n) number size at
to_FollowsType frame n number size at some same within =
    let c = carried-IsTyped frame in
    record {
      after_tags = subst (λ (z : ℕ). header_size + tag_count frame * tag_size ≤ z) (sym same.0) c.begins;
      after_type = ap (λ (z : ℕ). big_endian_at type_size frame (z - type_size)) same.0 ∙ c.after_type (λ e. some (sym same.1 ∙ e)) ∙ same.1;
      is_within = within;
    }

to_NetworkFollows : (frame : List ℕ) (n : Network) → IsOfType frame n → IsPlaced frame n → NetworkFollows frame (layout_with (tag_count frame) n) (place_of_network n)
to_NetworkFollows frame Nothing t h = tt
to_NetworkFollows frame (Arp at) t h = to_FollowsType frame (Arp at) arp_type packet_size at (omega arith) t h
to_NetworkFollows frame (Ipv4 at d) t h = to_FollowsType frame (Ipv4 at d) ipv4_type ipv4.least_header_size at (omega arith) t h.0
to_NetworkFollows frame (Ipv6 at d) t h = to_FollowsType frame (Ipv6 at d) ipv6_type ipv6.header_size at (omega arith) t h.0

pub network_follows : (frame : List ℕ) (header : L3) → (layout_of frame).l3 ≡ header → NetworkFollows frame (layout_of frame) header
network_follows frame header e =
    subst (NetworkFollows frame (layout_of frame)) e
    (by_length 0 frame (λ key layout. NetworkFollows frame layout layout.l3) (λ short. tt)
    (λ whole. to_NetworkFollows frame (network frame) (network-IsOfType frame) (network-IsPlaced frame)))

-- the second law in its own words
abbrev TransportFollows : List ℕ → Layout → L4 → Type 0
TransportFollows frame layout l4.None = Unit {0}
TransportFollows frame layout (l4.Tcp at) = FollowsIp frame layout tcp_size at
TransportFollows frame layout (l4.Udp at) = FollowsIp frame layout udp_size at
TransportFollows frame layout (l4.Icmp at) = FollowsIp frame layout icmp_size at
TransportFollows frame layout (l4.Icmp6 at) = FollowsIp frame layout icmp6_size at

-- in a packet with such a network header
module _ (frame : List ℕ) (t : ℕ) where
  to_FollowsIp : (n : Network) → IsPlaced frame n → (number size at : ℕ) → 1 ≤ size → Fits frame n number size at
      → FollowsIp frame (layout_with t n) size at
  to_FollowsIp Nothing h number size at some f = let there = f.is_there in absurd (omega arith)
  to_FollowsIp (Arp begin) h number size at some f = let there = f.is_there in absurd (omega arith)
  to_FollowsIp (Ipv4 begin d) h number size at some f =
      let there = f.is_there in let begins = f.begins in record { after = omega (arith, h.1); is_within = omega (arith, h.2) }
  to_FollowsIp (Ipv6 begin d) h number size at some f =
      let there = f.is_there in let begins = f.begins in record { after = omega (arith, h.1); is_within = omega (arith, h.2) }

  to_TransportFollows : (n : Network) → IsPlaced frame n → (header : L4) → Told frame n header → TransportFollows frame (layout_with t n) header
  to_TransportFollows n h l4.None f = tt
  to_TransportFollows n h (l4.Tcp at) f = to_FollowsIp n h tcp_protocol tcp_size at (omega arith) f
  to_TransportFollows n h (l4.Udp at) f = to_FollowsIp n h udp_protocol udp_size at (omega arith) f
  to_TransportFollows n h (l4.Icmp at) f = to_FollowsIp n h icmp_protocol icmp_size at (omega arith) f.1
  to_TransportFollows n h (l4.Icmp6 at) f = to_FollowsIp n h icmp6_protocol icmp6_size at (omega arith) f.1

pub transport_follows : (frame : List ℕ) (header : L4) → (layout_of frame).l4 ≡ header → TransportFollows frame (layout_of frame) header
unfolding transport
transport_follows frame header e =
    subst (TransportFollows frame (layout_of frame)) e
    (by_length 0 frame (λ key layout. TransportFollows frame layout layout.l4) (λ short. tt)
    (λ whole. to_TransportFollows frame (tag_count frame) (network frame) (network-IsPlaced frame) (transport (network frame)) (transport-tells frame (network frame))))
