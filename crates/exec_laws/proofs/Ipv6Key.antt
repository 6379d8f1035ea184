-- The key of a frame that carries IPv6.
use Rattle.std.proofs.Common.{◌≡◌, ◌≢◌, ℕ, ◌+◌, ◌<◌, ◌≤◌, Bool, true, false, ◌&&◌, ◌==◌, nat_le, if◌then◌else◌, List, length, slice_index, Option, Some, None, option_map, refl, sym, ap, ap₂, ◌∙◌, subst, arith}
use Rattle.spec_base.specs.Bytes.{big_endian_at}
use Rattle.spec_keys.specs.declared.field_id.FieldId.TheVariants.{Ipv6Src, Ipv6Dst, NwProto, NwTos, NwTtl, IpFrag}
use Rattle.spec_keys.specs.Keys.{none}
use Rattle.spec_keys.specs.Protocols.{ipv6_type}
use Rattle.spec_frames.specs.declared.headers.Carried.{Carried}
use Rattle.spec_frames.specs.declared.headers.Datagram.{Datagram}
use Rattle.spec_frames.specs.declared.headers.UpperLayer.{UpperLayer}
use Rattle.spec_frames.specs.declared.headers.Network.{Network}
use Rattle.spec_frames.specs.declared.headers.Network.TheVariants as network
use Rattle.spec_frames.specs.declared.layout.L3.TheVariants as l3
use Rattle.spec_frames.specs.declared.layout.L4.{L4}
use Rattle.spec_frames.specs.declared.layout.L4.TheVariants as l4
use Rattle.spec_frames.specs.Ethernet.{tag_count, carried, no_type, header_size}
use Rattle.spec_frames.specs.Ipv4 as ipv4
use Rattle.spec_frames.specs.Ipv6 as ipv6
use Rattle.spec_frames.specs.Ipv6.{upper_layer}
use Rattle.spec_frames.specs.Network.{network_at, network}
use Rattle.spec_frames.specs.Transport.{transport}
use Rattle.spec_frames.specs.Key.{with_value, ip_frag, shown, with_numbers, with_datagram, with_ipv6, with_transport, with_network, key_of}
use Rattle.spec_frames.specs.Layout.{place_of_network, layout_with, layout_of}
use Rattle.frame_laws.proofs.keys.Forms.{Tags, by_length, by_network, ethernet_key, whole-key, whole-layout}
use Rattle.frame_laws.proofs.TransportLaws.{Told}
use Rattle.frame_laws.proofs.HeaderLaws.{IsPlaced, network-IsPlaced, carried-least}
use Rattle.exec_laws.proofs.Replacing.{number-same}
use Rattle.exec_laws.proofs.Addresses.{shown_tags}
use Rattle.exec_laws.proofs.Kept.{count-kept, carried-kept, tags-kept}
use Rattle.exec_laws.proofs.Below.{upper_layer-kept}
use Rattle.exec_laws.proofs.Ports.{from-some, some-same}
use Rattle.exec_laws.proofs.AfterHeaders.{After4, source_in, destination_in}

-- what a frame has in which the layout names a header of IPv6 at an offset
pub record HasIpv6 (frame : List ℕ) (at : ℕ) (d : Datagram) : Type 0 where
  pub whole : header_size ≤ length frame
  pub carries : carried frame ≡ record { dl_type = ipv6_type; at = at }
  pub is_there : ipv6.ipv6 frame at ≡ Some d

pub network-of : (frame : List ℕ) (at : ℕ) (d : Datagram) → HasIpv6 frame at d → network frame ≡ network.Ipv6 at d
unfolding network_at
network-of frame at d h = ap (λ (c : Carried). network_at frame c.dl_type c.at) h.carries ∙ rw h.is_there refl

pub record Named (frame : List ℕ) (at : ℕ) : Type 0 where
  pub d : Datagram
  pub has : HasIpv6 frame at d
  pub follows : at + 40 ≤ d.upper.at

pub layout-has : (frame : List ℕ) (at : ℕ) → (layout_of frame).l3 ≡ l3.Ipv6 at → Named frame at
layout-has frame at =
    by_length 0 frame (λ key layout. layout.l3 ≡ l3.Ipv6 at → Named frame at) (λ short e. absurd cc)
    (λ whole. by_network frame (carried frame).dl_type (carried frame).at (λ n. IsPlaced frame n → place_of_network n ≡ l3.Ipv6 at → Named frame at)
    (λ p e. absurd cc) (λ t h p e. absurd cc) (λ t h p e. absurd cc)
    (λ t d h p e. let same : (carried frame).at ≡ at = cc in
    record {
      d = d;
      has = record { whole = whole; carries = ap₂ (λ (x y : ℕ). record { dl_type = x; at = y }) t same; is_there = subst (λ (z : ℕ). ipv6.ipv6 frame z ≡ Some d) same h };
      follows = omega (arith, p.1, same);
    }) (network-IsPlaced frame))

-- a key by all numbers of such a frame
abbrev pub ipv6_key : (port source destination dl_type : ℕ) → Tags → (ipv6_src ipv6_dst protocol tos ttl frag tp_src tp_dst : ℕ) → List ℕ
ipv6_key port source destination dl_type t ipv6_src ipv6_dst protocol tos ttl frag tp_src tp_dst =
    with_numbers tp_src tp_dst
    (with_value IpFrag frag (with_value NwTtl ttl (with_value NwTos tos (with_value NwProto protocol
    (with_value Ipv6Dst ipv6_dst (with_value Ipv6Src ipv6_src (ethernet_key port source destination dl_type t)))))))

pub form : (frame : List ℕ) (h : L4) (d : Datagram) (at port source destination dl_type : ℕ) (t : Tags)
    → with_transport frame h (with_datagram d (with_ipv6 frame at (ethernet_key port source destination dl_type t)))
    ≡ ipv6_key port source destination dl_type t (big_endian_at 16 frame (at + 8)) (big_endian_at 16 frame (at + 24)) d.upper.protocol d.tos d.ttl
    (ip_frag d.upper.fragment) (source_in frame h) (destination_in frame h)
unfolding with_transport none
form frame l4.None d at port source destination dl_type t = refl
form frame (l4.Tcp x) d at port source destination dl_type t = refl
form frame (l4.Udp x) d at port source destination dl_type t = refl
form frame (l4.Icmp x) d at port source destination dl_type t = refl
form frame (l4.Icmp6 x) d at port source destination dl_type t = refl

abbrev pub header_of : Datagram → ℕ → L4
header_of d at = shown d.upper.fragment (transport (network.Ipv6 at d))

pub has-key : (port : ℕ) (frame : List ℕ) (at : ℕ) (d : Datagram) → HasIpv6 frame at d
    → key_of port frame
    ≡ ipv6_key port (big_endian_at 6 frame 6) (big_endian_at 6 frame 0) ipv6_type (shown_tags frame) (big_endian_at 16 frame (at + 8)) (big_endian_at 16 frame (at + 24))
    d.upper.protocol d.tos d.ttl (ip_frag d.upper.fragment) (source_in frame (header_of d at)) (destination_in frame (header_of d at))
unfolding with_network
has-key port frame at d h =
    whole-key port frame h.whole
    ∙ ap₂ (λ (c : Carried) (n : Network). with_network frame n (ethernet_key port (big_endian_at 6 frame 6) (big_endian_at 6 frame 0) c.dl_type (shown_tags frame))) h.carries (network-of frame at d h)
    ∙ form frame (header_of d at) d at port (big_endian_at 6 frame 6) (big_endian_at 6 frame 0) ipv6_type (shown_tags frame)

pub same-key : {s t d e : ℕ} {c f : Tags} {m n o p q r u v w x y z : ℕ} (port protocol frag : ℕ) → s ≡ t → d ≡ e → c ≡ f → m ≡ n → o ≡ p → q ≡ r → u ≡ v → w ≡ x → y ≡ z
    → ipv6_key port s d ipv6_type c m o protocol q u frag w y ≡ ipv6_key port t e ipv6_type f n p protocol r v frag x z
same-key port protocol frag a b g h i j k l n = rw (a, b, g, h, i, j, k, l, n) refl

-- ---- a frame in which other bytes of the header, or after the chain, differ

pub from-test : (d : Datagram) (w : UpperLayer → Datagram) (t : Bool) (o : Option UpperLayer) → (if t then option_map w o else None) ≡ Some d → t ≡ true
from-test d w true o e = refl
from-test d w false o e = absurd cc

module _ (a b : List ℕ) (at : ℕ) (d : Datagram) (has : HasIpv6 a at d) (follows : at + 40 ≤ d.upper.at) (sized : length b ≡ length a)
    (before : (i : ℕ) → i < at → slice_index b i ≡ slice_index a i) (version : ipv4.version b at ≡ ipv4.version a at)
    (critical : (i : ℕ) → at + 4 ≤ i → i < at + 7 → slice_index b i ≡ slice_index a i)
    (chain : (i : ℕ) → at + 40 ≤ i → i < d.upper.at → slice_index b i ≡ slice_index a i) where
  abbrev pub other : Datagram
  other = record { tos = ipv6.traffic_class b at; ttl = slice_index b (at + 7); end = d.end; upper = d.upper }

  pub still-there : ipv6.ipv6 b at ≡ Some other
  unfolding ipv6.ipv6
  still-there =
      let w : UpperLayer → Datagram = λ u. record { tos = ipv6.traffic_class a at; ttl = slice_index a (at + 7); end = ipv6.end_of a at; upper = u } in
      let e = has.is_there in
      let upper = from-some d w (λ u. refl) (nat_le (at + 40) (length a) && (ipv4.version a at == 6)) (upper_layer 8 a (ipv6.end_of a at) (slice_index a (at + 6)) (at + 40)) e in
      let test = from-test d w (nat_le (at + 40) (length a) && (ipv4.version a at == 6)) (upper_layer 8 a (ipv6.end_of a at) (slice_index a (at + 6)) (at + 40)) e in
      let kept = upper_layer-kept a b 8 (ipv6.end_of a at) (slice_index a (at + 6)) (at + 40) d.upper upper chain in
      let end-is = ap (λ (x : Datagram). x.end) (some-same (w d.upper) d (rw (test, upper) at e)) in
      rw (sized, version, number-same a b 2 (at + 4) (λ i m n. critical i m (omega arith)), critical (at + 6) (omega arith) (omega arith), test, kept)
      (ap (λ (z : ℕ). Some (record { tos = ipv6.traffic_class b at; ttl = slice_index b (at + 7); end = z; upper = d.upper })) end-is)

  pub begins : header_size ≤ at
  begins = omega (arith, carried-least a, ap (λ (c : Carried). c.at) has.carries)

  pub still-has : HasIpv6 b at other
  still-has =
      let after : (carried a).at ≤ at = omega (arith, ap (λ (c : Carried). c.at) has.carries) in
      let some : (carried a).dl_type ≢ no_type = λ e. absurd (omega (arith, e, ap (λ (c : Carried). c.dl_type) has.carries)) in
      record { whole = omega (arith, has.whole, sized); carries = carried-kept a b at sized before after begins some ∙ has.carries; is_there = still-there }

  pub still-key : (port : ℕ) → source_in b (header_of d at) ≡ source_in a (header_of d at) → destination_in b (header_of d at) ≡ destination_in a (header_of d at)
      → key_of port b
      ≡ ipv6_key port (big_endian_at 6 a 6) (big_endian_at 6 a 0) ipv6_type (shown_tags a) (big_endian_at 16 b (at + 8)) (big_endian_at 16 b (at + 24))
      d.upper.protocol (ipv6.traffic_class b at) (slice_index b (at + 7)) (ip_frag d.upper.fragment) (source_in a (header_of d at)) (destination_in a (header_of d at))
  unfolding transport
  still-key port s t =
      has-key port b at other still-has
      ∙ same-key port d.upper.protocol (ip_frag d.upper.fragment)
      (number-same a b 6 6 (λ i m n. before i (omega (arith, begins, n)))) (number-same a b 6 0 (λ i m n. before i (omega (arith, begins, n))))
      (tags-kept a b at sized before (omega (arith, ap (λ (c : Carried). c.at) has.carries)) begins) refl refl refl refl s t

  pub still-layout : layout_of b ≡ layout_of a
  unfolding transport
  still-layout =
      whole-layout b still-has.whole
      ∙ ap₂ layout_with (count-kept a b at sized before (omega (arith, ap (λ (c : Carried). c.at) has.carries)) begins) (network-of b at other still-has)
      ∙ ap (layout_with (tag_count a)) (sym (network-of a at d has)) ∙ sym (whole-layout a has.whole)

-- ---- what stands after the chain

pub told-after : (frame : List ℕ) (at : ℕ) (d : Datagram) (h : L4) → Told frame (network.Ipv6 at d) h → After4 d.upper.at h
told-after frame at d l4.None t = tt
told-after frame at d (l4.Tcp x) t = let e = t.begins in omega arith
told-after frame at d (l4.Udp x) t = let e = t.begins in omega arith
told-after frame at d (l4.Icmp x) t = let e = t.1.begins in omega arith
told-after frame at d (l4.Icmp6 x) t = let e = t.1.begins in omega arith
