-- Frames with the same bytes before the end of the packet have the same headers.
use Rattle.std.proofs.Common.{◌≡◌, ◌≢◌, ℕ, zero, suc, ◌+◌, ◌*◌, ◌/◌, ◌^◌, ◌<◌, ◌≤◌, min, Bool, true, false, ◌&&◌, ◌==◌, nat_le, List, ◌++◌, length, take, slice_index, Option, Some, None, option_map, IfSome, ◌⊎◌, inl, inr, refl, sym, ap, ap₂, ◌∙◌, subst, arith}
use Rattle.std.proofs.lemmas.Bool.{le-leb, leb-true, and_from, cond_both, cases_lt}
use Rattle.std.proofs.lemmas.List.{get_or_append_left, get_or-take, length-append, length-take-le}
use Rattle.spec_base.specs.Bytes.{big_endian_at}
use Rattle.spec_frames.specs.Ethernet.{header_size, is_tag_at, tag_count, tci_at, carried_by, carried}
use Rattle.spec_frames.specs.Arp.{packet_size, is_arp}
use Rattle.spec_frames.specs.Ipv4 as ipv4
use Rattle.spec_frames.specs.Ipv6 as ipv6
use Rattle.spec_frames.specs.Ipv6.{extension_size, upper_layer}
use Rattle.spec_keys.specs.Protocols.{is_tag_type, arp_type, ipv4_type, ipv6_type, tcp_protocol, udp_protocol, icmp_protocol, icmp6_protocol}
use Rattle.spec_frames.specs.declared.headers.Datagram.{Datagram}
use Rattle.spec_frames.specs.declared.headers.Fragment.{Fragment}
use Rattle.spec_frames.specs.declared.headers.Fragment.TheVariants.{Whole, First, Later}
use Rattle.spec_frames.specs.declared.headers.UpperLayer.{UpperLayer}
use Rattle.spec_frames.specs.declared.headers.Network.{Network}
use Rattle.spec_frames.specs.declared.headers.Network.TheVariants.{Nothing, Arp, Ipv4, Ipv6}
use Rattle.spec_frames.specs.Network.{network_at, network}
use Rattle.spec_frames.specs.declared.headers.Carried.{Carried}
use Rattle.spec_frames.specs.declared.layout.Layout.{Layout}
use Rattle.spec_frames.specs.declared.layout.L3.TheVariants as l3
use Rattle.spec_frames.specs.declared.layout.L4.{L4}
use Rattle.spec_frames.specs.declared.layout.L4.TheVariants as l4
use Rattle.spec_frames.specs.Transport.{tcp_size, udp_size, icmp_size, icmp6_size}
use Rattle.spec_frames.specs.Key.{shown, with_transport, with_network, key_of}
use Rattle.spec_frames.specs.Layout.{place_of_network, layout_with, layout_of}
use Rattle.frame_laws.specs.Headers.{end_by, packet_end}
use Rattle.frame_laws.proofs.keys.Forms.{by_network, ethernet_of, short-layout, whole-key, whole-layout}
use Rattle.frame_laws.proofs.TransportLaws.{Fits, Told, transport-tells}
use Rattle.frame_laws.proofs.HeaderLaws.{tag_count-few, carried-least, HasSizes, is_ipv4-HasSizes}

-- ---- a network header, by what shows it

is_ipv4-from : (frame : List ℕ) (at : ℕ) → HasSizes frame at → ipv4.is_ipv4 frame at ≡ true
unfolding ipv4.is_ipv4
is_ipv4-from frame at h =
    and_from _ _ (le-leb _ _ h.whole) (and_from _ _ h.version (and_from _ _ (le-leb _ _ h.least) (and_from _ _ (le-leb _ _ h.options) (le-leb _ _ h.total))))

network_at-arp : (frame : List ℕ) (at : ℕ) → is_arp frame at ≡ true → network_at frame arp_type at ≡ Arp at
unfolding network_at
network_at-arp frame at e = rw e refl

network_at-ipv4 : (frame : List ℕ) (at : ℕ) → ipv4.is_ipv4 frame at ≡ true → network_at frame ipv4_type at ≡ Ipv4 at (ipv4.ipv4 frame at)
unfolding network_at
network_at-ipv4 frame at e = rw e refl

network_at-ipv6 : (frame : List ℕ) (at : ℕ) (d : Datagram) → ipv6.ipv6 frame at ≡ Some d → network_at frame ipv6_type at ≡ Ipv6 at d
unfolding network_at
network_at-ipv6 frame at d e = rw e refl

-- ---- where a packet ends

ipv4-end : (frame : List ℕ) (at : ℕ) → (ipv4.ipv4 frame at).end ≤ at + ipv4.total_size frame at
unfolding ipv4.ipv4
ipv4-end frame at = omega arith

ipv6-end : (frame : List ℕ) (at : ℕ) (d : Datagram) → ipv6.ipv6 frame at ≡ Some d → d.end ≤ at + ipv6.header_size + ipv6.payload_size frame at
unfolding ipv6.ipv6
ipv6-end frame at d e =
    subst Ends e
    (cond_both (nat_le (at + ipv6.header_size) (length frame) && (ipv4.version frame at == 6)) _ None Ends
    (λ t. by (ipv6.upper_layer ipv6.most_extensions frame (ipv6.end_of frame at) (slice_index frame (at + 6)) (at + ipv6.header_size))) (λ t. tt))
  where
    Ends : Option Datagram → Type 0
    Ends o = IfSome o (λ d. d.end ≤ at + ipv6.header_size + ipv6.payload_size frame at)

    by : (o : Option UpperLayer)
        → Ends (option_map (λ upper. record { tos = ipv6.traffic_class frame at; ttl = slice_index frame (at + 7); end = ipv6.end_of frame at; upper = upper }) o)
    by None = tt
    by (Some u) = omega arith

-- ---- two frames

-- two frames that have the same bytes before an offset, and have all of them
module _ (a b : List ℕ) (end : ℕ) (same : (i : ℕ) → i < end → slice_index b i ≡ slice_index a i) (in_a : end ≤ length a) (in_b : end ≤ length b) where
  big_endian_at-same : (n at : ℕ) → at + n ≤ end → big_endian_at n b at ≡ big_endian_at n a at
  unfolding big_endian_at
  big_endian_at-same zero at l = refl
  big_endian_at-same (suc n) at l =
      ap₂ (λ (x y : ℕ). x * 256 ^ n + y) (same at (omega arith)) (big_endian_at-same n (at + 1) (omega arith))

  upper_layer-same : (room number at : ℕ) → upper_layer room b end number at ≡ upper_layer room a end number at
  unfolding upper_layer
  upper_layer-same zero number at = refl
  upper_layer-same (suc room) number at =
      by (nat_le (at + 8) end) refl (upper_layer-same room (slice_index a at) (at + extension_size number a at))
    where
      by : (t : Bool) → nat_le (at + 8) end ≡ t
          → upper_layer room b end (slice_index a at) (at + extension_size number a at) ≡ upper_layer room a end (slice_index a at) (at + extension_size number a at)
          → upper_layer (suc room) b end number at ≡ upper_layer (suc room) a end number at
      by false short others = rw short refl
      by true short others =
          let l = leb-true (at + 8) end short in
          let next = same at (omega arith) in
          let size = same (at + 1) (omega arith) in
          let flags = big_endian_at-same 2 (at + 2) (omega arith) in
          rw (next, size, flags, others) refl

  -- ---- Ethernet

  size-same : (at : ℕ) → at ≤ end → nat_le at (length b) ≡ nat_le at (length a)
  size-same at l = le-leb at (length b) (omega arith) ∙ sym (le-leb at (length a) (omega arith))

  is_tag_at-same : (at : ℕ) → at + 6 ≤ end → is_tag_at b at ≡ is_tag_at a at
  unfolding is_tag_at
  is_tag_at-same at l = ap₂ (λ (t : Bool) (number : ℕ). t && is_tag_type number) (size-same (at + 4 + 2) (omega arith)) (big_endian_at-same 2 at (omega arith))

  tag_count-same : 22 ≤ end → tag_count b ≡ tag_count a
  unfolding tag_count
  tag_count-same l = rw (is_tag_at-same 12 (omega arith), is_tag_at-same 16 l) refl

  carried_by-same : (at : ℕ) → at + 10 ≤ end → carried_by b at ≡ carried_by a at
  unfolding carried_by
  carried_by-same at l =
      rw (
        big_endian_at-same 2 at (omega arith),
        size-same (at + 2 + 6 + 2) (omega arith),
        big_endian_at-same 6 (at + 2) (omega arith),
        big_endian_at-same 2 (at + 2 + 6) (omega arith),
      ) refl

  carried-same : 30 ≤ end → carried b ≡ carried a
  unfolding carried
  carried-same l = rw (tag_count-same (omega arith)) (carried_by-same (12 + tag_count a * 4) (let few = tag_count-few a in omega arith))

  ethernet_of-same : 30 ≤ end → (port : ℕ) → ethernet_of port b ≡ ethernet_of port a
  unfolding tci_at
  ethernet_of-same l port =
      rw (
        big_endian_at-same 6 0 (omega arith),
        big_endian_at-same 6 6 (omega arith),
        carried-same l,
        tag_count-same (omega arith),
        big_endian_at-same 2 12 (omega arith),
        big_endian_at-same 2 14 (omega arith),
        big_endian_at-same 2 16 (omega arith),
        big_endian_at-same 2 18 (omega arith),
      ) refl

  -- ---- network headers

  is_arp-same : (at : ℕ) → at + packet_size ≤ end → is_arp b at ≡ is_arp a at
  unfolding is_arp
  is_arp-same at l =
      rw (size-same (at + 28) l, big_endian_at-same 2 at (omega arith), big_endian_at-same 2 (at + 2) (omega arith), same (at + 4) (omega arith), same (at + 5) (omega arith)) refl

  HasSizes-same : (at : ℕ) → HasSizes a at → at + ipv4.total_size a at ≤ end → HasSizes b at
  HasSizes-same at h l =
      let least = h.least in let total = h.total in
      let first = same at (omega arith) in
      let sizes = big_endian_at-same 2 (at + 2) (omega arith) in
      record { version = ap (λ (z : ℕ). z / 16 == 4) first ∙ h.version; whole = omega arith; least = omega arith; options = omega arith; total = omega arith }

  ipv4-same : (at : ℕ) → HasSizes a at → at + ipv4.total_size a at ≡ end → ipv4.ipv4 b at ≡ ipv4.ipv4 a at
  unfolding ipv4.ipv4
  ipv4-same at h e =
      let least = h.least in let total = h.total in
      let ends : min (at + ipv4.total_size a at) (length b) ≡ min (at + ipv4.total_size a at) (length a) = omega arith in
      rw (
        big_endian_at-same 2 (at + 2) (omega arith),
        ends,
        same (at + 1) (omega arith),
        same (at + 8) (omega arith),
        same (at + 9) (omega arith),
        same at (omega arith),
        big_endian_at-same 2 (at + 6) (omega arith),
      ) refl

  ipv6-same : (at : ℕ) → at + ipv6.header_size + ipv6.payload_size a at ≡ end → ipv6.ipv6 b at ≡ ipv6.ipv6 a at
  unfolding ipv6.ipv6
  ipv6-same at e =
      let in_a_now : min (at + ipv6.header_size + ipv6.payload_size a at) (length a) ≡ end = omega arith in
      let in_b_now : min (at + ipv6.header_size + ipv6.payload_size a at) (length b) ≡ end = omega arith in
      rw (
        size-same (at + 40) (omega arith),
        same at (omega arith),
        big_endian_at-same 2 (at + 4) (omega arith),
        in_a_now,
        in_b_now,
        big_endian_at-same 2 at (omega arith),
        same (at + 7) (omega arith),
        same (at + 6) (omega arith),
        upper_layer-same 8 (slice_index a (at + 6)) (at + 40),
      ) refl

  -- what is read of a network header, and the packet as far as the frame has it, lie before that offset
  abbrev LiesBefore : Network → Type 0
  LiesBefore Nothing = Unit {0}
  LiesBefore (Arp at) = at + packet_size ≤ end
  LiesBefore (Ipv4 at d) = (at + ipv4.least_header_size ≤ end) × (d.end ≤ end)
  LiesBefore (Ipv6 at d) = (at + ipv6.header_size ≤ end) × (d.end ≤ end)

  -- of a packet that ends there
  network_at-same : (dl_type at : ℕ) → network_at a dl_type at ≢ Nothing → end_by a (place_of_network (network_at a dl_type at)) ≡ end
      → LiesBefore (network_at a dl_type at) × (at + 20 ≤ end) × (network_at b dl_type at ≡ network_at a dl_type at)
  network_at-same dl_type at =
      by_network a dl_type at (λ n. n ≢ Nothing → end_by a (place_of_network n) ≡ end → LiesBefore n × (at + 20 ≤ end) × (network_at b dl_type at ≡ n))
      (λ some e. absurd (some refl))
      (λ t h some e. (omega arith, omega arith, subst (λ (z : ℕ). network_at b z at ≡ Arp at) (sym t) (network_at-arp b at (is_arp-same at (omega arith) ∙ h))))
      (λ t h some e.
      let sizes = is_ipv4-HasSizes a at h in
      let least = sizes.least in let total = sizes.total in let packet = ipv4-end a at in (
        (omega arith, omega arith),
        omega arith,
        subst (λ (z : ℕ). network_at b z at ≡ Ipv4 at (ipv4.ipv4 a at)) (sym t)
            (network_at-ipv4 b at (is_ipv4-from b at (HasSizes-same at sizes (omega arith))) ∙ ap (Ipv4 at) (ipv4-same at sizes e)),
      ))
      (λ t d h some e.
      let packet = ipv6-end a at d h in (
        (omega arith, omega arith),
        omega arith,
        subst (λ (z : ℕ). network_at b z at ≡ Ipv6 at d) (sym t) (network_at-ipv6 b at d (ipv6-same at e ∙ h)),
      ))

  -- ---- the transport header

  -- what a key shows of a transport header lies before that offset
  abbrev IsBefore : L4 → Type 0
  IsBefore l4.None = Unit {0}
  IsBefore (l4.Tcp at) = at + 4 ≤ end
  IsBefore (l4.Udp at) = at + 4 ≤ end
  IsBefore (l4.Icmp at) = at + 4 ≤ end
  IsBefore (l4.Icmp6 at) = at + 4 ≤ end

  fits-before : (n : Network) → LiesBefore n → (number size at : ℕ) → 4 ≤ size → Fits a n number size at → at + 4 ≤ end
  fits-before Nothing l number size at least f = let there = f.is_there in absurd (omega arith)
  fits-before (Arp begin) l number size at least f = let there = f.is_there in absurd (omega arith)
  fits-before (Ipv4 begin d) l number size at least f = let there = f.is_there in let begins = f.begins in omega (arith, l.1)
  fits-before (Ipv6 begin d) l number size at least f = let there = f.is_there in let begins = f.begins in omega (arith, l.1)

  told-IsBefore : (n : Network) → LiesBefore n → (header : L4) → Told a n header → IsBefore header
  told-IsBefore n l l4.None h = tt
  told-IsBefore n l (l4.Tcp at) h = fits-before n l tcp_protocol tcp_size at (omega arith) h
  told-IsBefore n l (l4.Udp at) h = fits-before n l udp_protocol udp_size at (omega arith) h
  told-IsBefore n l (l4.Icmp at) h = fits-before n l icmp_protocol icmp_size at (omega arith) h.1
  told-IsBefore n l (l4.Icmp6 at) h = fits-before n l icmp6_protocol icmp6_size at (omega arith) h.1

  shown-IsBefore : (part : Fragment) (header : L4) → IsBefore header → IsBefore (shown part header)
  shown-IsBefore Whole header h = h
  shown-IsBefore First header h = tt
  shown-IsBefore Later header h = tt

  with_transport-same : (header : L4) → IsBefore header → (key : List ℕ) → with_transport b header key ≡ with_transport a header key
  unfolding with_transport
  with_transport-same l4.None l key = refl
  with_transport-same (l4.Tcp at) l key = rw (big_endian_at-same 2 at (omega arith), big_endian_at-same 2 (at + 2) (omega arith)) refl
  with_transport-same (l4.Udp at) l key = rw (big_endian_at-same 2 at (omega arith), big_endian_at-same 2 (at + 2) (omega arith)) refl
  with_transport-same (l4.Icmp at) l key = rw (same at (omega arith), same (at + 1) (omega arith)) refl
  with_transport-same (l4.Icmp6 at) l key = rw (same at (omega arith), same (at + 1) (omega arith)) refl

  -- ---- the key

  with_network-same : (n : Network) → LiesBefore n → (key : List ℕ) → with_network b n key ≡ with_network a n key
  unfolding with_network
  with_network-same Nothing l key = refl
  with_network-same (Arp at) l key =
      rw (
        big_endian_at-same 2 (at + 6) (omega arith),
        big_endian_at-same 6 (at + 8) (omega arith),
        big_endian_at-same 4 (at + 14) (omega arith),
        big_endian_at-same 6 (at + 18) (omega arith),
        big_endian_at-same 4 (at + 24) (omega arith),
      ) refl
  with_network-same (Ipv4 at d) l key =
      rw (big_endian_at-same 4 (at + 12) (omega (arith, l.0)), big_endian_at-same 4 (at + 16) (omega (arith, l.0)))
      (with_transport-same _ (shown-IsBefore d.upper.fragment _ (told-IsBefore (Ipv4 at d) l _ (transport-tells a (Ipv4 at d)))) _)
  with_network-same (Ipv6 at d) l key =
      rw (big_endian_at-same 16 (at + 8) (omega (arith, l.0)), big_endian_at-same 16 (at + 24) (omega (arith, l.0)))
      (with_transport-same _ (shown-IsBefore d.upper.fragment _ (told-IsBefore (Ipv6 at d) l _ (transport-tells a (Ipv6 at d)))) _)

  -- the frames have one key and one layout
  module _ (some : network a ≢ Nothing) (e : end_by a (place_of_network (network a)) ≡ end) where
    parts : LiesBefore (network a) × ((carried a).at + 20 ≤ end) × (network_at b (carried a).dl_type (carried a).at ≡ network a)
    parts = network_at-same (carried a).dl_type (carried a).at some e

    least : 34 ≤ end
    least = let after = carried-least a in omega (arith, parts.1)

    network-same : network b ≡ network a
    network-same = ap (λ (c : Carried). network_at b c.dl_type c.at) (carried-same (omega (arith, least))) ∙ parts.2

    key-same : (port : ℕ) → key_of port b ≡ key_of port a
    key-same port =
        whole-key port b (omega (arith, least))
        ∙ (ap₂ (with_network b) network-same (ethernet_of-same (omega (arith, least)) port)
        ∙ (with_network-same (network a) parts.0 (ethernet_of port a) ∙ sym (whole-key port a (omega (arith, least)))))

    layout-same : layout_of b ≡ layout_of a
    layout-same =
        whole-layout b (omega (arith, least)) ∙ (ap₂ layout_with (tag_count-same (omega (arith, least))) network-same ∙ sym (whole-layout a (omega (arith, least))))

-- ---- padding

-- a frame whose layout names a network header, with other bytes after its packet
module _ (frame padding : List ℕ) (some : (layout_of frame).l3 ≢ l3.None) (whole : packet_end frame ≤ length frame) where
  padded : List ℕ
  padded = take (packet_end frame) frame ++ padding

  size : length (take (packet_end frame) frame) ≡ packet_end frame
  size = length-take-le (packet_end frame) frame whole

  padded-same : (i : ℕ) → i < packet_end frame → slice_index padded i ≡ slice_index frame i
  unfolding padded
  padded-same i l = get_or_append_left (take (packet_end frame) frame) padding 0 i (subst (λ (z : ℕ). i < z) (sym size) l) ∙ get_or-take (packet_end frame) frame i 0 l

  padded-has : packet_end frame ≤ length padded
  unfolding padded
  padded-has = let n = size in omega (arith, length-append (take (packet_end frame) frame) padding)

  has_header : header_size ≤ length frame
  has_header = by (cases_lt (length frame) header_size)
    where
      by : (length frame < header_size) ⊎ (header_size ≤ length frame) → header_size ≤ length frame
      by (inl l) = absurd (some (ap (λ (layout : Layout). layout.l3) (short-layout frame l)))
      by (inr l) = l

  named : place_of_network (network frame) ≡ (layout_of frame).l3
  named = sym (ap (λ (layout : Layout). layout.l3) (whole-layout frame has_header))

  has_network : network frame ≢ Nothing
  has_network e = some (sym named ∙ ap place_of_network e)

  pub key_of-padded : (port : ℕ) → key_of port (take (packet_end frame) frame ++ padding) ≡ key_of port frame
  unfolding padded
  key_of-padded port = key-same frame padded (packet_end frame) padded-same whole padded-has has_network (ap (end_by frame) named) port

  pub layout_of-padded : layout_of (take (packet_end frame) frame ++ padding) ≡ layout_of frame
  unfolding padded
  layout_of-padded = layout-same frame padded (packet_end frame) padded-same whole padded-has has_network (ap (end_by frame) named)
