-- What every key of a frame has in common.
use Rattle.std.proofs.Common.{◌≡◌, ◌≢◌, ℕ, zero, suc, ◌+◌, ◌*◌, ◌/◌, ◌^◌, ◌<◌, ◌≤◌, ◌&&◌, ◌==◌, nat_le, nat_lt, Bool, if◌then◌else◌, List, ◌∷◌, length, get_or, take, replicate, slice_index, Option, Some, None, option_map, IfSome, All, ◌⊎◌, inl, inr, refl, sym, ap, ◌∙◌, subst, arith}
use Rattle.std.proofs.Math.Nat.{mul-le-mul_right, pow-succ', mod-lt}
use Rattle.std.proofs.lemmas.Nat.{pow_pos, or_lt}
use Rattle.std.proofs.lemmas.Bool.{cases_lt, cases_eq, cond_both, ltb-true}
use Rattle.std.proofs.lemmas.List.{get_or-take, get_or-replicate, get_or_past, get_or-set_same, get_or-set_other, length-set}
use Rattle.std.proofs.lemmas.List.Elements.{All-get_or}
use Rattle.spec_base.specs.Bytes.{big_endian_at}
use Rattle.spec_keys.specs.declared.field_id.FieldId.{FieldId}
use Rattle.spec_keys.specs.declared.field_id.FieldId.TheVariants.{InPort, DlSrc, DlDst, DlType, VlanTci, VlanTpid, VlanTci2, VlanTpid2, NwSrc, NwDst, Ipv6Src, Ipv6Dst, NwProto, NwTos, NwTtl, IpFrag, ArpSha, ArpTha, TpSrc, TpDst}
use Rattle.spec_keys.specs.Fields.{place_of, width_of, widths, field_count}
use Rattle.spec_keys.specs.Keys.{number_at, none, IsKey, IsClean}
use Rattle.spec_frames.specs.declared.headers.Carried.{Carried}
use Rattle.spec_frames.specs.declared.headers.Datagram.{Datagram}
use Rattle.spec_frames.specs.declared.headers.Fragment.{Fragment}
use Rattle.spec_frames.specs.declared.headers.Fragment.TheVariants.{Whole, First, Later}
use Rattle.spec_frames.specs.declared.headers.UpperLayer.{UpperLayer}
use Rattle.spec_frames.specs.declared.headers.Network.{Network}
use Rattle.spec_frames.specs.declared.headers.Network.TheVariants.{Nothing, Arp, Ipv4, Ipv6}
use Rattle.spec_frames.specs.declared.layout.L4.{L4}
use Rattle.spec_frames.specs.declared.layout.L4.TheVariants as transport
use Rattle.spec_frames.specs.Ethernet.{type_at, type_size, tag_size, inner_at, least_type, is_snap, tag_count, tci_at, carried_by, carried}
use Rattle.spec_frames.specs.Arp as arp
use Rattle.spec_frames.specs.Ipv4 as ipv4
use Rattle.spec_frames.specs.Ipv6 as ipv6
use Rattle.spec_frames.specs.Network.{network}
use Rattle.spec_frames.specs.Key.{with_value, ip_frag, with_numbers, with_arp, with_datagram, with_transport, with_network, key_of}
use Rattle.frame_laws.proofs.keys.Forms.{Tags, no_tags, tags_of, by_network, ethernet_key, with_addresses, by_length}
use Rattle.frame_laws.proofs.keys.Chains.{upper_layer-keeps}

-- ---- metadata and registers

with_transport-IsClean : (frame : List ℕ) (h : L4) (d : Datagram) (port source destination dl_type : ℕ) (t : Tags) (nw_src nw_dst ipv6_src ipv6_dst : ℕ)
    → IsClean (with_transport frame h (with_datagram d (with_addresses nw_src nw_dst ipv6_src ipv6_dst (ethernet_key port source destination dl_type t))))
unfolding with_transport none
with_transport-IsClean frame transport.None d port source destination dl_type t nw_src nw_dst ipv6_src ipv6_dst = refl
with_transport-IsClean frame (transport.Tcp at) d port source destination dl_type t nw_src nw_dst ipv6_src ipv6_dst = refl
with_transport-IsClean frame (transport.Udp at) d port source destination dl_type t nw_src nw_dst ipv6_src ipv6_dst = refl
with_transport-IsClean frame (transport.Icmp at) d port source destination dl_type t nw_src nw_dst ipv6_src ipv6_dst = refl
with_transport-IsClean frame (transport.Icmp6 at) d port source destination dl_type t nw_src nw_dst ipv6_src ipv6_dst = refl

with_network-IsClean : (frame : List ℕ) (n : Network) (port source destination dl_type : ℕ) (t : Tags)
    → IsClean (with_network frame n (ethernet_key port source destination dl_type t))
unfolding with_network none
with_network-IsClean frame Nothing port source destination dl_type t = refl
with_network-IsClean frame (Arp at) port source destination dl_type t = refl
with_network-IsClean frame (Ipv4 at d) port source destination dl_type t = with_transport-IsClean frame _ d port source destination dl_type t _ _ 0 0
with_network-IsClean frame (Ipv6 at d) port source destination dl_type t = with_transport-IsClean frame _ d port source destination dl_type t 0 0 _ _

pub key_of-IsClean : (port : ℕ) (frame : List ℕ) → IsClean (key_of port frame)
key_of-IsClean port frame =
    by_length port frame (λ key layout. IsClean key) (λ short. with_network-IsClean frame Nothing port 0 0 0 no_tags)
    (λ whole. with_network-IsClean frame (network frame) port _ _ _ (tags_of frame))

-- ---- widths

none-IsKey : IsKey none
unfolding none
none-IsKey = record {
  fields = refl;
  fit = λ place. subst (λ (z : ℕ). z < 2 ^ number_at widths place) (sym (zero_at place (cases_lt place field_count))) (pow_pos (number_at widths place));
}
  where
    zero_at : (place : ℕ) → (place < field_count) ⊎ (field_count ≤ place) → number_at (replicate field_count 0) place ≡ 0
    zero_at place (inl l) = get_or-replicate field_count place 0 0 l
    zero_at place (inr l) = get_or_past (replicate field_count 0) place 0 l

widths-at : (f : FieldId) → number_at widths (place_of f) ≡ width_of f
unfolding widths
widths-at InPort = refl
widths-at f = refl

place-within : (f : FieldId) → place_of f < field_count
place-within InPort = omega arith
place-within f = omega arith

with_value-IsKey : (f : FieldId) (value : ℕ) (key : List ℕ) → value < 2 ^ width_of f → IsKey key → IsKey (with_value f value key)
with_value-IsKey f value key l k =
    record { fields = length-set key (place_of f) value ∙ k.fields; fit = λ place. at place (cases_eq place (place_of f)) }
  where
    within : place_of f < length key
    within = subst (λ (z : ℕ). place_of f < z) (sym k.fields) (place-within f)

    at : (place : ℕ) → (place ≡ place_of f) ⊎ (place ≢ place_of f) → number_at (with_value f value key) place < 2 ^ number_at widths place
    at place (inl e) =
        subst (λ (z : ℕ). number_at (with_value f value key) z < 2 ^ number_at widths z) (sym e)
        (rw (get_or-set_same key (place_of f) value 0 within, widths-at f) l)
    at place (inr ne) = rw (get_or-set_other key (place_of f) place value 0 ne) (k.fit place)

-- the numbers of tags are within their fields
record AreTagNumbers (t : Tags) : Type 0 where
  tci : t.tci < 2 ^ 16
  tpid : t.tpid < 2 ^ 16
  tci2 : t.tci2 < 2 ^ 16
  tpid2 : t.tpid2 < 2 ^ 16

no_tags-numbers : AreTagNumbers no_tags
no_tags-numbers = record { tci = omega arith; tpid = omega arith; tci2 = omega arith; tpid2 = omega arith }

ethernet_key-IsKey : (port source destination dl_type : ℕ) (t : Tags) → port < 2 ^ 16 → source < 2 ^ 48 → destination < 2 ^ 48 → dl_type < 2 ^ 16 → AreTagNumbers t
    → IsKey (ethernet_key port source destination dl_type t)
ethernet_key-IsKey port source destination dl_type t a b c d e =
    with_value-IsKey DlType dl_type _ d (with_value-IsKey VlanTci2 t.tci2 _ e.tci2 (with_value-IsKey VlanTpid2 t.tpid2 _ e.tpid2
    (with_value-IsKey VlanTci t.tci _ e.tci (with_value-IsKey VlanTpid t.tpid _ e.tpid
    (with_value-IsKey DlSrc source _ b (with_value-IsKey DlDst destination _ c (with_value-IsKey InPort port none a none-IsKey)))))))

-- ---- frames of bytes

module _ (frame : List ℕ) (bytes : All (λ byte. byte < 256) frame) where
  byte : (at : ℕ) → slice_index frame at < 256
  byte at = by (cases_lt at (length frame))
    where
      by : (at < length frame) ⊎ (length frame ≤ at) → slice_index frame at < 256
      by (inl l) = All-get_or (λ byte. byte < 256) frame at 0 l bytes
      by (inr l) = rw (get_or_past frame at 0 l) (omega arith)

  big_endian_at-lt : (n at : ℕ) → big_endian_at n frame at < 256 ^ n
  unfolding big_endian_at
  big_endian_at-lt zero at = omega arith
  big_endian_at-lt (suc n) at =
      let first = mul-le-mul_right (256 ^ n) (below (slice_index frame at) (byte at)) in
      let rest = big_endian_at-lt n (at + 1) in
      let power = pow-succ' 256 n in
      omega arith
    where
      below : (b : ℕ) → b < 256 → b ≤ 255
      below b l = omega arith

  -- ---- Ethernet

  carried_by-type : (at : ℕ) → (carried_by frame at).dl_type < 2 ^ 16
  unfolding carried_by
  carried_by-type at =
      cond_both (nat_le least_type (big_endian_at type_size frame at)) _ _ (λ (c : Carried). c.dl_type < 2 ^ 16) (λ e. big_endian_at-lt 2 at)
      (λ e. cond_both (is_snap frame (at + type_size)) _ _ (λ (c : Carried). c.dl_type < 2 ^ 16) (λ s. big_endian_at-lt 2 _) (λ s. omega arith))

  carried-type : (carried frame).dl_type < 2 ^ 16
  unfolding carried
  carried-type = carried_by-type (type_at + tag_count frame * tag_size)

  tci_at-lt : (at : ℕ) → tci_at frame at < 2 ^ 16
  unfolding tci_at
  tci_at-lt at = or_lt 16 _ _ (big_endian_at-lt 2 (at + type_size)) (omega arith)

  -- a number of the outer tag, and one of the inner tag, where there are these
  of_outer : (n : Bool) (number : ℕ) → number < 2 ^ 16 → (if n then 0 else number) < 2 ^ 16
  of_outer n number l = cond_both n 0 number (λ (z : ℕ). z < 2 ^ 16) (λ t. omega arith) (λ t. l)

  of_inner : (n o : Bool) (number : ℕ) → number < 2 ^ 16 → (if n then 0 else (if o then 0 else number)) < 2 ^ 16
  of_inner n o number l = of_outer n _ (of_outer o number l)

  tags-numbers : AreTagNumbers (tags_of frame)
  tags-numbers = record {
    tci = of_outer (tag_count frame == 0) _ (tci_at-lt type_at);
    tpid = of_outer (tag_count frame == 0) _ (big_endian_at-lt 2 type_at);
    tci2 = of_inner (tag_count frame == 0) (tag_count frame == 1) _ (tci_at-lt inner_at);
    tpid2 = of_inner (tag_count frame == 0) (tag_count frame == 1) _ (big_endian_at-lt 2 inner_at);
  }

  -- ---- IP

  -- the numbers of an IP header are within their fields
  abbrev Fit : Network → Type 0
  Fit Nothing = Unit {0}
  Fit (Arp at) = Unit {0}
  Fit (Ipv4 at d) = (d.tos < 256) × (d.ttl < 256) × (d.upper.protocol < 256)
  Fit (Ipv6 at d) = (d.tos < 256) × (d.ttl < 256) × (d.upper.protocol < 256)

  ipv4-Fit : (at : ℕ) → Fit (Ipv4 at (ipv4.ipv4 frame at))
  unfolding ipv4.ipv4
  ipv4-Fit at = (byte (at + 1), byte (at + 8), byte (at + 9))

  ipv6-Fit : (at : ℕ) → IfSome (ipv6.ipv6 frame at) (λ d. Fit (Ipv6 at d))
  unfolding ipv6.ipv6
  ipv6-Fit at =
      cond_both (nat_le (at + ipv6.header_size) (length frame) && (ipv4.version frame at == 6)) _ None (λ o. IfSome o (λ d. Fit (Ipv6 at d)))
      (λ e. by _ numbers) (λ e. tt)
    where
      numbers : IfSome (ipv6.upper_layer ipv6.most_extensions frame (ipv6.end_of frame at) (slice_index frame (at + 6)) (at + ipv6.header_size)) (λ u. (u.protocol < 256) × Unit {0})
      numbers =
          upper_layer-keeps (λ number. number < 256) (λ a. Unit {0}) frame byte (λ a n l. tt) ipv6.most_extensions (ipv6.end_of frame at)
          (slice_index frame (at + 6)) (at + ipv6.header_size) (byte (at + 6)) tt

      by : (o : Option UpperLayer) → IfSome o (λ u. (u.protocol < 256) × Unit {0})
          → IfSome (option_map (λ upper. record { tos = ipv6.traffic_class frame at; ttl = slice_index frame (at + 7); end = ipv6.end_of frame at; upper = upper }) o) (λ d. Fit (Ipv6 at d))
      by None h = tt
      by (Some u) h = (mod-lt (big_endian_at 2 frame at / 16) (omega arith), byte (at + 7), h.0)

  network-Fit : Fit (network frame)
  network-Fit =
      by_network frame (carried frame).dl_type (carried frame).at Fit tt (λ e h. tt) (λ e h. ipv4-Fit (carried frame).at)
      (λ e d h. subst (λ (o : Option Datagram). IfSome o (λ d. Fit (Ipv6 (carried frame).at d))) h (ipv6-Fit (carried frame).at))

  ip_frag-lt : (part : Fragment) → ip_frag part < 4
  ip_frag-lt Whole = omega arith
  ip_frag-lt First = omega arith
  ip_frag-lt Later = omega arith

  -- ---- the key

  numbers-IsKey : (source destination : ℕ) (key : List ℕ) → source < 2 ^ 16 → destination < 2 ^ 16 → IsKey key → IsKey (with_numbers source destination key)
  numbers-IsKey source destination key a b k = with_value-IsKey TpDst destination _ b (with_value-IsKey TpSrc source key a k)

  wide_byte : (at : ℕ) → slice_index frame at < 2 ^ 16
  wide_byte at = let l = byte at in omega arith

  with_transport-IsKey : (h : L4) (key : List ℕ) → IsKey key → IsKey (with_transport frame h key)
  unfolding with_transport
  with_transport-IsKey transport.None key k = k
  with_transport-IsKey (transport.Tcp at) key k = numbers-IsKey _ _ key (big_endian_at-lt 2 at) (big_endian_at-lt 2 (at + 2)) k
  with_transport-IsKey (transport.Udp at) key k = numbers-IsKey _ _ key (big_endian_at-lt 2 at) (big_endian_at-lt 2 (at + 2)) k
  with_transport-IsKey (transport.Icmp at) key k = numbers-IsKey _ _ key (wide_byte at) (wide_byte (at + 1)) k
  with_transport-IsKey (transport.Icmp6 at) key k = numbers-IsKey _ _ key (wide_byte at) (wide_byte (at + 1)) k

  with_datagram-IsKey : (d : Datagram) (key : List ℕ) → (d.tos < 256) × (d.ttl < 256) × (d.upper.protocol < 256) → IsKey key → IsKey (with_datagram d key)
  with_datagram-IsKey d key fit k =
      with_value-IsKey IpFrag _ _ (ip_frag-lt d.upper.fragment) (with_value-IsKey NwTtl _ _ fit.1 (with_value-IsKey NwTos _ _ fit.0 (with_value-IsKey NwProto _ key fit.2 k)))

  with_arp-IsKey : (at : ℕ) (key : List ℕ) → IsKey key → IsKey (with_arp frame at key)
  with_arp-IsKey at key k =
      with_value-IsKey ArpTha _ _ (big_endian_at-lt 6 _) (with_value-IsKey ArpSha _ _ (big_endian_at-lt 6 _)
      (with_value-IsKey NwProto _ _ (operation (arp.operation frame at)) (with_value-IsKey NwDst _ _ (big_endian_at-lt 4 _) (with_value-IsKey NwSrc _ key (big_endian_at-lt 4 _) k))))
    where
      operation : (number : ℕ) → arp.key_operation number < 256
      operation number = cond_both (nat_lt number 256) number 0 (λ z. z < 256) (ltb-true number 256) (λ e. omega arith)

  with_network-IsKey : (n : Network) (key : List ℕ) → Fit n → IsKey key → IsKey (with_network frame n key)
  unfolding with_network
  with_network-IsKey Nothing key fit k = k
  with_network-IsKey (Arp at) key fit k = with_arp-IsKey at key k
  with_network-IsKey (Ipv4 at d) key fit k =
      with_transport-IsKey _ _ (with_datagram-IsKey d _ fit (with_value-IsKey NwDst _ _ (big_endian_at-lt 4 _) (with_value-IsKey NwSrc _ key (big_endian_at-lt 4 _) k)))
  with_network-IsKey (Ipv6 at d) key fit k =
      with_transport-IsKey _ _ (with_datagram-IsKey d _ fit (with_value-IsKey Ipv6Dst _ _ (big_endian_at-lt 16 _) (with_value-IsKey Ipv6Src _ key (big_endian_at-lt 16 _) k)))

  pub key_of-IsKey : (port : ℕ) → port < 2 ^ 16 → IsKey (key_of port frame)
  key_of-IsKey port l =
      by_length port frame (λ key layout. IsKey key)
      (λ short. with_network-IsKey Nothing _ tt (ethernet_key-IsKey port 0 0 0 no_tags l (omega arith) (omega arith) (omega arith) no_tags-numbers))
      (λ whole. with_network-IsKey (network frame) _ network-Fit (ethernet_key-IsKey port _ _ _ (tags_of frame) l (big_endian_at-lt 6 _) (big_endian_at-lt 6 _) carried-type tags-numbers))
