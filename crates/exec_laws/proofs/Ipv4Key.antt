-- The key of a frame that carries IPv4.
use Rattle.std.proofs.Common.{◌≡◌, ◌≢◌, ℕ, ◌+◌, ◌<◌, ◌≤◌, true, List, length, slice_index, refl, ap, ap₂, ◌∙◌, subst, arith}
use Rattle.spec_base.specs.Bytes.{big_endian_at}
use Rattle.spec_keys.specs.declared.field_id.FieldId.TheVariants.{NwSrc, NwDst, NwProto, NwTos, NwTtl, IpFrag}
use Rattle.spec_keys.specs.Keys.{none}
use Rattle.spec_keys.specs.Protocols.{ipv4_type}
use Rattle.spec_frames.specs.declared.headers.Carried.{Carried}
use Rattle.spec_frames.specs.declared.headers.Datagram.{Datagram}
use Rattle.spec_frames.specs.declared.headers.Network.{Network}
use Rattle.spec_frames.specs.declared.headers.Network.TheVariants as network
use Rattle.spec_frames.specs.declared.layout.L3.TheVariants as l3
use Rattle.spec_frames.specs.declared.layout.L4.{L4}
use Rattle.spec_frames.specs.declared.layout.L4.TheVariants as l4
use Rattle.spec_frames.specs.Ethernet.{tag_count, carried, no_type, header_size}
use Rattle.spec_frames.specs.Ipv4 as ipv4
use Rattle.spec_frames.specs.Network.{network_at, network}
use Rattle.spec_frames.specs.Transport.{transport}
use Rattle.spec_frames.specs.Key.{with_value, ip_frag, shown, with_numbers, with_datagram, with_ipv4, with_transport, with_network, key_of}
use Rattle.spec_frames.specs.Layout.{place_of_network, layout_of}
use Rattle.frame_laws.proofs.keys.Forms.{Tags, by_length, by_network, ethernet_key, whole-key}
use Rattle.frame_laws.proofs.HeaderLaws.{carried-least}
use Rattle.exec_laws.proofs.Replacing.{number-same}
use Rattle.exec_laws.proofs.Addresses.{shown_tags}
use Rattle.exec_laws.proofs.Kept.{carried-kept, count-kept, tags-kept}
use Rattle.exec_laws.proofs.AfterHeaders.{source_in, destination_in}

-- a key by all numbers of such a frame
abbrev pub ipv4_key : (port source destination dl_type : ℕ) → Tags → (nw_src nw_dst protocol tos ttl frag tp_src tp_dst : ℕ) → List ℕ
ipv4_key port source destination dl_type t nw_src nw_dst protocol tos ttl frag tp_src tp_dst =
    with_numbers tp_src tp_dst
    (with_value IpFrag frag (with_value NwTtl ttl (with_value NwTos tos (with_value NwProto protocol
    (with_value NwDst nw_dst (with_value NwSrc nw_src (ethernet_key port source destination dl_type t)))))))

form : (frame : List ℕ) (h : L4) (d : Datagram) (at port source destination dl_type : ℕ) (t : Tags)
    → with_transport frame h (with_datagram d (with_ipv4 frame at (ethernet_key port source destination dl_type t)))
    ≡ ipv4_key port source destination dl_type t (big_endian_at 4 frame (at + 12)) (big_endian_at 4 frame (at + 16)) d.upper.protocol d.tos d.ttl
    (ip_frag d.upper.fragment) (source_in frame h) (destination_in frame h)
unfolding with_transport none
form frame l4.None d at port source destination dl_type t = refl
form frame (l4.Tcp x) d at port source destination dl_type t = refl
form frame (l4.Udp x) d at port source destination dl_type t = refl
form frame (l4.Icmp x) d at port source destination dl_type t = refl
form frame (l4.Icmp6 x) d at port source destination dl_type t = refl

-- what a frame has in which the layout names a header of IPv4 at an offset
pub record HasIpv4 (frame : List ℕ) (at : ℕ) : Type 0 where
  pub whole : header_size ≤ length frame
  pub carries : carried frame ≡ record { dl_type = ipv4_type; at = at }
  pub is_ipv4 : ipv4.is_ipv4 frame at ≡ true

pub network-of : (frame : List ℕ) (at : ℕ) → HasIpv4 frame at → network frame ≡ network.Ipv4 at (ipv4.ipv4 frame at)
unfolding network_at
network-of frame at h = ap (λ (c : Carried). network_at frame c.dl_type c.at) h.carries ∙ rw h.is_ipv4 refl

pub layout-has : (frame : List ℕ) (at : ℕ) → (layout_of frame).l3 ≡ l3.Ipv4 at → HasIpv4 frame at
layout-has frame at =
    by_length 0 frame (λ key layout. layout.l3 ≡ l3.Ipv4 at → HasIpv4 frame at) (λ short e. absurd cc)
    (λ whole. by_network frame (carried frame).dl_type (carried frame).at (λ n. place_of_network n ≡ l3.Ipv4 at → HasIpv4 frame at)
    (λ e. absurd cc) (λ t h e. absurd cc)
    (λ t h e. let same : (carried frame).at ≡ at = cc in
    record { whole = whole; carries = ap₂ (λ (x y : ℕ). record { dl_type = x; at = y }) t same; is_ipv4 = subst (λ (z : ℕ). ipv4.is_ipv4 frame z ≡ true) same h })
    (λ t d h e. absurd cc))

-- the transport header that the key of such a frame shows
abbrev pub header_of : Datagram → ℕ → L4
header_of d at = shown d.upper.fragment (transport (network.Ipv4 at d))

pub has-key : (port : ℕ) (frame : List ℕ) (at : ℕ) → HasIpv4 frame at
    → key_of port frame
    ≡ ipv4_key port (big_endian_at 6 frame 6) (big_endian_at 6 frame 0) ipv4_type (shown_tags frame) (big_endian_at 4 frame (at + 12)) (big_endian_at 4 frame (at + 16))
    (ipv4.ipv4 frame at).upper.protocol (ipv4.ipv4 frame at).tos (ipv4.ipv4 frame at).ttl (ip_frag (ipv4.ipv4 frame at).upper.fragment)
    (source_in frame (header_of (ipv4.ipv4 frame at) at)) (destination_in frame (header_of (ipv4.ipv4 frame at) at))
unfolding with_network
has-key port frame at h =
    whole-key port frame h.whole
    ∙ ap₂ (λ (c : Carried) (n : Network). with_network frame n (ethernet_key port (big_endian_at 6 frame 6) (big_endian_at 6 frame 0) c.dl_type (shown_tags frame))) h.carries (network-of frame at h)
    ∙ form frame (header_of (ipv4.ipv4 frame at) at) (ipv4.ipv4 frame at) at port (big_endian_at 6 frame 6) (big_endian_at 6 frame 0) ipv4_type (shown_tags frame)

pub tos-is : (frame : List ℕ) (at : ℕ) → (ipv4.ipv4 frame at).tos ≡ slice_index frame (at + 1)
unfolding ipv4.ipv4
tos-is frame at = refl

pub ttl-is : (frame : List ℕ) (at : ℕ) → (ipv4.ipv4 frame at).ttl ≡ slice_index frame (at + 8)
unfolding ipv4.ipv4
ttl-is frame at = refl

-- keys with the same numbers
pub same-key : {source destination : ℕ} {t t0 : Tags} {nw_src nw_dst protocol tos ttl frag tp_src tp_dst : ℕ} {source0 destination0 nw_src0 nw_dst0 protocol0 tos0 ttl0 frag0 tp_src0 tp_dst0 : ℕ} (port dl_type : ℕ)
    → source ≡ source0 → destination ≡ destination0 → t ≡ t0 → nw_src ≡ nw_src0 → nw_dst ≡ nw_dst0 → protocol ≡ protocol0 → tos ≡ tos0 → ttl ≡ ttl0 → frag ≡ frag0 → tp_src ≡ tp_src0 → tp_dst ≡ tp_dst0
    → ipv4_key port source destination dl_type t nw_src nw_dst protocol tos ttl frag tp_src tp_dst ≡ ipv4_key port source0 destination0 dl_type t0 nw_src0 nw_dst0 protocol0 tos0 ttl0 frag0 tp_src0 tp_dst0
same-key port dl_type e_source e_destination e_tags e_nw_src e_nw_dst e_protocol e_tos e_ttl e_frag e_tp_src e_tp_dst =
    rw (e_source, e_destination, e_tags, e_nw_src, e_nw_dst, e_protocol, e_tos, e_ttl, e_frag, e_tp_src, e_tp_dst) refl

-- ---- a frame in which other bytes of the header, or after it, differ

module _ (a b : List ℕ) (at : ℕ) (has : HasIpv4 a at) (sized : length b ≡ length a) (same : (i : ℕ) → i < at + 1 → slice_index b i ≡ slice_index a i)
    (critical : (i : ℕ) → at + 2 ≤ i → i < at + 8 → slice_index b i ≡ slice_index a i) (protocol : slice_index b (at + 9) ≡ slice_index a (at + 9)) where
  begins : header_size ≤ at
  begins = omega (arith, carried-least a, ap (λ (c : Carried). c.at) has.carries)

  pub kept-has : HasIpv4 b at
  unfolding ipv4.is_ipv4
  kept-has =
      let after : (carried a).at ≤ at = omega (arith, ap (λ (c : Carried). c.at) has.carries) in
      let some : (carried a).dl_type ≢ no_type = λ e. absurd (omega (arith, e, ap (λ (c : Carried). c.dl_type) has.carries)) in
      record {
        whole = omega (arith, has.whole, sized);
        carries = carried-kept a b at sized (λ i l. same i (omega arith)) after begins some ∙ has.carries;
        is_ipv4 = rw (sized, same at (omega arith), number-same a b 2 (at + 2) (λ i l m. critical i l (omega arith))) has.is_ipv4;
      }

  pub kept-upper : (ipv4.ipv4 b at).upper ≡ (ipv4.ipv4 a at).upper
  unfolding ipv4.ipv4
  kept-upper = rw (same at (omega arith), protocol, number-same a b 2 (at + 6) (λ i l m. critical i (omega arith) (omega arith))) refl

  pub kept-end : (ipv4.ipv4 b at).end ≡ (ipv4.ipv4 a at).end
  unfolding ipv4.ipv4
  kept-end = rw (sized, number-same a b 2 (at + 2) (λ i l m. critical i l (omega arith))) refl

  pub kept-count : tag_count b ≡ tag_count a
  kept-count = count-kept a b at sized (λ i l. same i (omega arith)) (omega (arith, ap (λ (c : Carried). c.at) has.carries)) begins

  pub kept-tags : shown_tags b ≡ shown_tags a
  kept-tags = tags-kept a b at sized (λ i l. same i (omega arith)) (omega (arith, ap (λ (c : Carried). c.at) has.carries)) begins
