-- The ports of TCP and UDP read back, over IPv4 and IPv6, and leave the headers where they stand. The key of a fragment
-- stays as it is.
use Rattle.std.proofs.Common.{◌≡◌, ◌≢◌, ℕ, ◌+◌, ◌*◌, ◌<◌, ◌≤◌, ◌^◌, List, length, set, slice_index, bit_and, inl, inr, refl, sym, ap, ap₂, ◌∙◌, subst, arith}
use Rattle.std.proofs.lemmas.List.{set-set, set_comm}
use Rattle.std.proofs.Math.Nat.{mod-eq_of_lt}
use Rattle.spec_base.specs.Bits.{all_bits, merged}
use Rattle.spec_base.specs.Bytes.{big_endian_at}
use Rattle.spec_keys.specs.declared.field_id.FieldId.TheVariants.{IpFrag, TpSrc, TpDst}
use Rattle.spec_keys.specs.Keys.{value_of}
use Rattle.spec_frames.specs.declared.headers.Carried.{Carried}
use Rattle.spec_frames.specs.declared.headers.Fragment.{Fragment}
use Rattle.spec_frames.specs.declared.headers.Fragment.TheVariants.{Whole, First, Later}
use Rattle.spec_frames.specs.declared.headers.Network.{Network}
use Rattle.spec_frames.specs.declared.headers.Network.TheVariants.{Nothing, Arp, Ipv4, Ipv6}
use Rattle.spec_frames.specs.declared.layout.Layout.{Layout}
use Rattle.spec_frames.specs.declared.layout.L3.{L3}
use Rattle.spec_frames.specs.declared.layout.L3.TheVariants as l3
use Rattle.spec_frames.specs.declared.layout.L4.{L4}
use Rattle.spec_frames.specs.declared.layout.L4.TheVariants as l4
use Rattle.spec_frames.specs.Ethernet.{carried, header_size}
use Rattle.spec_frames.specs.Network.{network}
use Rattle.spec_frames.specs.Transport.{transport}
use Rattle.spec_frames.specs.Layout.{layout_with, layout_of}
use Rattle.spec_frames.specs.Key.{with_value, ip_frag, shown, with_numbers, with_datagram, with_ipv4, with_ipv6, with_transport, with_network, key_of}
use Rattle.spec_actions.specs.declared.action.DpAction.TheVariants.{Set}
use Rattle.spec_exec.specs.Writing.{with_number}
use Rattle.spec_exec.specs.Places.{Place, Sum, port_at, port_sum}
use Rattle.spec_exec.specs.Rewriting.{corrected, set_at, set_field, after_action}
use Rattle.frame_laws.proofs.keys.Forms.{Tags, ethernet_key, ethernet_of, whole-key, whole-layout}
use Rattle.frame_laws.proofs.TransportLaws.{Told, transport-tells}
use Rattle.frame_laws.proofs.PortLaws.{part_of, network-Shows, ports_of_whole}
use Rattle.frame_laws.proofs.HeaderLaws.{IsPlaced, network-IsPlaced}
use Rattle.frame_laws.specs.Numbers.{HasPorts}
use Rattle.exec_laws.specs.ReadBack.{ReadsBack}
use Rattle.exec_laws.proofs.Replacing.{number-same, with_number-length, with_number-reads, with_number-before, with_number-apart}
use Rattle.exec_laws.proofs.Within.{SumsFit, port_sum-fits, l4-fits, Fits4, corrected-length, fit-moved}
use Rattle.exec_laws.proofs.Fields.{merged-lt, mask-fits, unit_one}
use Rattle.exec_laws.proofs.Addresses.{set-whole, shown_tags}
use Rattle.exec_laws.proofs.Kept.{count-kept, tags-kept}
use Rattle.exec_laws.proofs.Bytes.{EachByte, word-lt}
use Rattle.exec_laws.proofs.AfterHeaders.{SumsAfter, corrected-before}
use Rattle.exec_laws.proofs.Ports.{limit, IsIp, network-kept}

-- a header of TCP or UDP at this offset
abbrev pub PortsAt : ℕ → L4 → Type 0
PortsAt x l4.None = ⊥
PortsAt x (l4.Tcp y) = y ≡ x
PortsAt x (l4.Udp y) = y ≡ x
PortsAt x (l4.Icmp y) = ⊥
PortsAt x (l4.Icmp6 y) = ⊥

pub sums-after : (x : ℕ) (n : L3) (h : L4) → PortsAt x h → SumsAfter (x + 4) (port_sum n h)
sums-after x n l4.None p = absurd p
sums-after x n (l4.Tcp y) p = (omega arith, tt)
sums-after x (l3.Ipv4 at) (l4.Udp y) p = (omega arith, tt)
sums-after x n (l4.Udp y) p = (omega arith, tt)
sums-after x n (l4.Icmp y) p = absurd p
sums-after x n (l4.Icmp6 y) p = absurd p

pub room-of : (frame : List ℕ) (x : ℕ) (h : L4) → PortsAt x h → Fits4 frame h → x + 8 ≤ length frame
room-of frame x l4.None p l = absurd p
room-of frame x (l4.Tcp y) p l = omega arith
room-of frame x (l4.Udp y) p l = omega arith
room-of frame x (l4.Icmp y) p l = absurd p
room-of frame x (l4.Icmp6 y) p l = absurd p

-- a network header that has them
abbrev Reached : ℕ → Network → Type 0
Reached x n = IsIp n × (limit n ≡ x)

reaches : (a : List ℕ) (x : ℕ) (n : Network) (h : L4) → PortsAt x h → Told a n h → Reached x n
reaches a x n l4.None p t = absurd p
reaches a x Nothing (l4.Tcp y) p t = let s = t.is_there in absurd (omega arith)
reaches a x (Arp at) (l4.Tcp y) p t = let s = t.is_there in absurd (omega arith)
reaches a x (Ipv4 at d) (l4.Tcp y) p t = (tt, sym t.begins ∙ p)
reaches a x (Ipv6 at d) (l4.Tcp y) p t = (tt, sym t.begins ∙ p)
reaches a x Nothing (l4.Udp y) p t = let s = t.is_there in absurd (omega arith)
reaches a x (Arp at) (l4.Udp y) p t = let s = t.is_there in absurd (omega arith)
reaches a x (Ipv4 at d) (l4.Udp y) p t = (tt, sym t.begins ∙ p)
reaches a x (Ipv6 at d) (l4.Udp y) p t = (tt, sym t.begins ∙ p)
reaches a x n (l4.Icmp y) p t = absurd p
reaches a x n (l4.Icmp6 y) p t = absurd p

-- ---- the key

-- what a key says before the ports
abbrev base : List ℕ → Network → List ℕ → List ℕ
base frame Nothing key = key
base frame (Arp at) key = key
base frame (Ipv4 at d) key = with_datagram d (with_ipv4 frame at key)
base frame (Ipv6 at d) key = with_datagram d (with_ipv6 frame at key)

as-numbers : (frame : List ℕ) (x : ℕ) (part : Fragment) (h : L4) (key : List ℕ) → part ≡ Whole → PortsAt x h
    → with_transport frame (shown part h) key ≡ with_numbers (big_endian_at 2 frame x) (big_endian_at 2 frame (x + 2)) key
unfolding with_transport
as-numbers frame x Whole l4.None key e p = absurd p
as-numbers frame x Whole (l4.Tcp y) key e p = ap (λ (z : ℕ). with_numbers (big_endian_at 2 frame z) (big_endian_at 2 frame (z + 2)) key) p
as-numbers frame x Whole (l4.Udp y) key e p = ap (λ (z : ℕ). with_numbers (big_endian_at 2 frame z) (big_endian_at 2 frame (z + 2)) key) p
as-numbers frame x Whole (l4.Icmp y) key e p = absurd p
as-numbers frame x Whole (l4.Icmp6 y) key e p = absurd p
as-numbers frame x First h key e p = absurd cc
as-numbers frame x Later h key e p = absurd cc

as-ports : (frame : List ℕ) (x : ℕ) (n : Network) (key : List ℕ) → part_of n ≡ Whole → PortsAt x (transport n)
    → with_network frame n key ≡ with_numbers (big_endian_at 2 frame x) (big_endian_at 2 frame (x + 2)) (base frame n key)
unfolding with_network transport
as-ports frame x Nothing key e p = absurd p
as-ports frame x (Arp at) key e p = absurd p
as-ports frame x (Ipv4 at d) key e p = as-numbers frame x d.upper.fragment _ _ e p
as-ports frame x (Ipv6 at d) key e p = as-numbers frame x d.upper.fragment _ _ e p

base-same : (a b : List ℕ) (n : Network) → IsPlaced a n → ((i : ℕ) → i < limit n → slice_index b i ≡ slice_index a i) → (key : List ℕ) → base b n key ≡ base a n key
base-same a b Nothing p same key = refl
base-same a b (Arp at) p same key = refl
base-same a b (Ipv4 at d) p same key =
    rw (number-same a b 4 (at + 12) (λ i m n. same i (omega (arith, p.1, n))), number-same a b 4 (at + 16) (λ i m n. same i (omega (arith, p.1, n)))) refl
base-same a b (Ipv6 at d) p same key =
    rw (number-same a b 16 (at + 8) (λ i m n. same i (omega (arith, p.1, n))), number-same a b 16 (at + 24) (λ i m n. same i (omega (arith, p.1, n)))) refl

-- a fragment shows no ports
as-fragment : (frame : List ℕ) (n : Network) (key : List ℕ) → IsIp n → part_of n ≢ Whole → with_network frame n key ≡ base frame n key
unfolding with_network with_transport
as-fragment frame Nothing key ip ne = absurd ip
as-fragment frame (Arp at) key ip ne = absurd ip
as-fragment frame (Ipv4 at d) key ip ne = by d.upper.fragment ne _
  where
    by : (part : Fragment) → part ≢ Whole → (h : L4) → with_transport frame (shown part h) (base frame (Ipv4 at d) key) ≡ base frame (Ipv4 at d) key
    by Whole ne h = absurd (ne refl)
    by First ne h = refl
    by Later ne h = refl
as-fragment frame (Ipv6 at d) key ip ne = by d.upper.fragment ne _
  where
    by : (part : Fragment) → part ≢ Whole → (h : L4) → with_transport frame (shown part h) (base frame (Ipv6 at d) key) ≡ base frame (Ipv6 at d) key
    by Whole ne h = absurd (ne refl)
    by First ne h = refl
    by Later ne h = refl

whole-part : (part : Fragment) → ip_frag part ≡ 0 → part ≡ Whole
whole-part Whole e = refl
whole-part First e = absurd (omega (arith, e))
whole-part Later e = absurd (omega (arith, e))

replaced-source : (key : List ℕ) (source destination other : ℕ) → with_numbers other destination key ≡ with_value TpSrc other (with_numbers source destination key)
replaced-source key source destination other =
    sym (set_comm (set key 32 source) 33 32 destination other (omega arith) ∙ ap (λ (z : List ℕ). set z 33 destination) (set-set key 32 source other))

replaced-destination : (key : List ℕ) (source destination other : ℕ) → with_numbers source other key ≡ with_value TpDst other (with_numbers source destination key)
replaced-destination key source destination other = sym (set-set (set key 32 source) 33 destination other)

module _ (frame : List ℕ) (large : header_size ≤ length frame) (x : ℕ) (named : PortsAt x (layout_of frame).l4) (value mask : ℕ) where
  -- ---- the frame with a port at an offset of the header

  abbrev sums : List Sum
  sums = port_sum (layout_of frame).l3 (layout_of frame).l4

  abbrev place : ℕ → Place
  place off = record { at = x + off; size = 2; unit = 1; word_at = x + off; words = 1 }

  abbrev new : ℕ → ℕ
  new off = merged (big_endian_at 2 frame (x + off)) (value * 1) (bit_and mask (all_bits 16) * 1)

  abbrev now : ℕ → List ℕ
  now off = with_number 2 frame (x + off) (new off)

  abbrev pub ported : ℕ → List ℕ
  ported off = corrected sums (place off) frame (now off)

  pub source-form : set_field TpSrc value mask frame ≡ ported 0
  unfolding set_field
  source-form = by (layout_of frame).l4 refl named
    where
      by : (h : L4) → (layout_of frame).l4 ≡ h → PortsAt x h → set_at (port_at 0 (layout_of frame).l4) sums value (bit_and mask (all_bits 16)) frame ≡ ported 0
      by l4.None e p = absurd p
      by (l4.Tcp y) e p = rw (e, p) refl
      by (l4.Udp y) e p = rw (e, p) refl
      by (l4.Icmp y) e p = absurd p
      by (l4.Icmp6 y) e p = absurd p

  pub destination-form : set_field TpDst value mask frame ≡ ported 2
  unfolding set_field
  destination-form = by (layout_of frame).l4 refl named
    where
      by : (h : L4) → (layout_of frame).l4 ≡ h → PortsAt x h → set_at (port_at 2 (layout_of frame).l4) sums value (bit_and mask (all_bits 16)) frame ≡ ported 2
      by l4.None e p = absurd p
      by (l4.Tcp y) e p = rw (e, p) refl
      by (l4.Udp y) e p = rw (e, p) refl
      by (l4.Icmp y) e p = absurd p
      by (l4.Icmp6 y) e p = absurd p

  room : x + 8 ≤ length frame
  room = room-of frame x (layout_of frame).l4 named (l4-fits frame)

  l4-is : (layout_of frame).l4 ≡ transport (network frame)
  l4-is = ap (λ (l : Layout). l.l4) (whole-layout frame large)

  reached : Reached x (network frame)
  reached = reaches frame x (network frame) (transport (network frame)) (subst (PortsAt x) l4-is named) (transport-tells frame (network frame))

  module _ (off : ℕ) (near : off ≤ 2) where
    fits : x + off + 2 ≤ length frame
    fits = omega (arith, room, near)

    now-length : length (now off) ≡ length frame
    now-length = with_number-length 2 frame (x + off) (new off) fits

    sums-fit : SumsFit (now off) sums
    sums-fit = fit-moved frame (now off) now-length sums (port_sum-fits frame (layout_of frame).l3 (layout_of frame).l4 (l4-fits frame))

    sized : length (ported off) ≡ length frame
    sized = corrected-length sums (place off) frame (now off) sums-fit ∙ now-length

    result-now : (k : ℕ) → k < x + 4 → slice_index (ported off) k ≡ slice_index (now off) k
    result-now k l = corrected-before sums (place off) frame (now off) (x + 4) sums-fit (sums-after x (layout_of frame).l3 (layout_of frame).l4 named) k l

    same : (i : ℕ) → i < limit (network frame) → slice_index (ported off) i ≡ slice_index frame i
    same i l = result-now i (omega (arith, reached.1, l)) ∙ with_number-before 2 frame (x + off) (new off) fits i (omega (arith, reached.1, l))

    network-same : (network (ported off) ≡ network frame) × (carried (ported off) ≡ carried frame) × (header_size ≤ limit (network frame)) × ((carried frame).at ≤ limit (network frame))
    network-same = network-kept frame (ported off) sized reached.0 same

    ported-layout : layout_of (ported off) ≡ layout_of frame
    ported-layout =
        whole-layout (ported off) (omega (arith, sized, large))
        ∙ ap₂ layout_with (count-kept frame (ported off) (limit (network frame)) sized same network-same.3 network-same.2) network-same.0 ∙ sym (whole-layout frame large)

    -- ---- the key

    module _ (port : ℕ) where
      ethernet-same : ethernet_of port (ported off) ≡ ethernet_of port frame
      ethernet-same =
          let t = tags-kept frame (ported off) (limit (network frame)) sized same network-same.3 network-same.2 in
          let source = number-same frame (ported off) 6 6 (λ i m n. same i (omega (arith, network-same.2, n))) in
          let destination = number-same frame (ported off) 6 0 (λ i m n. same i (omega (arith, network-same.2, n))) in
          ap₂ (λ (y z : ℕ). ethernet_key port y z (carried (ported off)).dl_type (shown_tags (ported off))) source destination
          ∙ ap₂ (λ (c : Carried) (z : Tags). ethernet_key port (big_endian_at 6 frame 6) (big_endian_at 6 frame 0) c.dl_type z) network-same.1 t

      abbrev before_ports : List ℕ
      before_ports = base frame (network frame) (ethernet_of port frame)

      network-key : key_of port (ported off) ≡ with_network (ported off) (network frame) (ethernet_of port frame)
      network-key = whole-key port (ported off) (omega (arith, sized, large)) ∙ ap₂ (λ (n : Network) (e : List ℕ). with_network (ported off) n e) network-same.0 ethernet-same

      base-kept : base (ported off) (network frame) (ethernet_of port frame) ≡ before_ports
      base-kept = base-same frame (ported off) (network frame) (network-IsPlaced frame) same (ethernet_of port frame)

      fragment-is : ip_frag (part_of (network frame)) ≡ value_of (key_of port frame) IpFrag
      fragment-is =
          sym ((network-Shows frame (network frame) port (big_endian_at 6 frame 6) (big_endian_at 6 frame 0) (carried frame).dl_type _).fragment)
          ∙ ap (λ (k : List ℕ). value_of k IpFrag) (sym (whole-key port frame large))

      fragment-key : value_of (key_of port frame) IpFrag ≢ 0 → key_of port (ported off) ≡ key_of port frame
      fragment-key ne =
          let part : part_of (network frame) ≢ Whole = λ e. ne (sym fragment-is ∙ ap ip_frag e) in
          network-key ∙ as-fragment (ported off) (network frame) (ethernet_of port frame) reached.0 part ∙ base-kept
          ∙ sym (as-fragment frame (network frame) (ethernet_of port frame) reached.0 part) ∙ sym (whole-key port frame large)

      module _ (unfragmented : value_of (key_of port frame) IpFrag ≡ 0) where
        part : part_of (network frame) ≡ Whole
        part = whole-part (part_of (network frame)) (fragment-is ∙ unfragmented)

        frame-key : key_of port frame ≡ with_numbers (big_endian_at 2 frame x) (big_endian_at 2 frame (x + 2)) before_ports
        frame-key = whole-key port frame large ∙ as-ports frame x (network frame) (ethernet_of port frame) part (subst (PortsAt x) l4-is named)

        ported-key : key_of port (ported off) ≡ with_numbers (big_endian_at 2 (now off) x) (big_endian_at 2 (now off) (x + 2)) before_ports
        ported-key =
            network-key ∙ as-ports (ported off) x (network frame) (ethernet_of port frame) part (subst (PortsAt x) l4-is named)
            ∙ ap (with_numbers (big_endian_at 2 (ported off) x) (big_endian_at 2 (ported off) (x + 2))) base-kept
            ∙ ap₂ (λ (y z : ℕ). with_numbers y z before_ports) (number-same (now off) (ported off) 2 x (λ i m n. result-now i (omega arith)))
            (number-same (now off) (ported off) 2 (x + 2) (λ i m n. result-now i (omega arith)))

    port-written : EachByte frame → mask < 2 ^ 16 → big_endian_at 2 (now off) (x + off) ≡ merged (big_endian_at 2 frame (x + off)) value mask
    port-written bytes l =
        with_number-reads 2 frame (x + off) (new off) fits
        ∙ rw (unit_one value, mask-fits 16 mask l, unit_one mask) (mod-eq_of_lt (merged-lt 16 (big_endian_at 2 frame (x + off)) value mask (word-lt frame bytes (x + off)) l))

  -- ---- the laws

  pub source-layout : layout_of (after_action (Set TpSrc value mask) frame) ≡ layout_of frame
  source-layout = ap layout_of (set-whole frame large TpSrc value mask ∙ source-form) ∙ ported-layout 0 (omega arith)

  pub destination-layout : layout_of (after_action (Set TpDst value mask) frame) ≡ layout_of frame
  destination-layout = ap layout_of (set-whole frame large TpDst value mask ∙ destination-form) ∙ ported-layout 2 (omega arith)

  module _ (port : ℕ) where
    pub source-fragment : value_of (key_of port frame) IpFrag ≢ 0 → key_of port (after_action (Set TpSrc value mask) frame) ≡ key_of port frame
    source-fragment ne = ap (key_of port) (set-whole frame large TpSrc value mask ∙ source-form) ∙ fragment-key 0 (omega arith) port ne

    pub destination-fragment : value_of (key_of port frame) IpFrag ≢ 0 → key_of port (after_action (Set TpDst value mask) frame) ≡ key_of port frame
    destination-fragment ne = ap (key_of port) (set-whole frame large TpDst value mask ∙ destination-form) ∙ fragment-key 2 (omega arith) port ne

    module _ (bytes : EachByte frame) (unfragmented : value_of (key_of port frame) IpFrag ≡ 0) (l : mask < 2 ^ 16) where
      ports-shown : HasPorts (key_of port frame) (big_endian_at 2 frame x) (big_endian_at 2 frame (x + 2))
      ports-shown = by (layout_of frame).l4 refl named
        where
          shows : (y : ℕ) → y ≡ x → HasPorts (key_of port frame) (big_endian_at 2 frame y) (big_endian_at 2 frame (y + 2))
              → HasPorts (key_of port frame) (big_endian_at 2 frame x) (big_endian_at 2 frame (x + 2))
          shows y p h = subst (λ (z : ℕ). HasPorts (key_of port frame) (big_endian_at 2 frame z) (big_endian_at 2 frame (z + 2))) p h

          by : (h : L4) → (layout_of frame).l4 ≡ h → PortsAt x h → HasPorts (key_of port frame) (big_endian_at 2 frame x) (big_endian_at 2 frame (x + 2))
          by l4.None e p = absurd p
          by (l4.Tcp y) e p = shows y p (ports_of_whole port frame (l4.Tcp y) unfragmented e)
          by (l4.Udp y) e p = shows y p (ports_of_whole port frame (l4.Udp y) unfragmented e)
          by (l4.Icmp y) e p = absurd p
          by (l4.Icmp6 y) e p = absurd p

      pub source-reads-back : ReadsBack port frame TpSrc value mask
      source-reads-back =
          let before = before_ports 0 (omega arith) port in
          let here : x + 0 ≡ x = omega arith in
          let written = ap (big_endian_at 2 (now 0)) (sym here) ∙ port-written 0 (omega arith) bytes l ∙ ap (λ (z : ℕ). merged (big_endian_at 2 frame z) value mask) here in
          let other = with_number-apart 2 frame (x + 0) (new 0) (omega (arith, room)) 2 (x + 2) (inr (omega arith)) in
          let shown = ports-shown in
          ap (key_of port) (set-whole frame large TpSrc value mask ∙ source-form) ∙ ported-key 0 (omega arith) port unfragmented
          ∙ ap₂ (λ (y z : ℕ). with_numbers y z before) written other
          ∙ replaced-source before (big_endian_at 2 frame x) (big_endian_at 2 frame (x + 2)) (merged (big_endian_at 2 frame x) value mask)
          ∙ ap₂ (λ (y : ℕ) (k : List ℕ). with_value TpSrc (merged y value mask) k) (sym shown.tp_src) (sym (frame-key 0 (omega arith) port unfragmented))

      pub destination-reads-back : ReadsBack port frame TpDst value mask
      destination-reads-back =
          let before = before_ports 2 (omega arith) port in
          let other = with_number-apart 2 frame (x + 2) (new 2) (omega (arith, room)) 2 x (inl (omega arith)) in
          let shown = ports-shown in
          ap (key_of port) (set-whole frame large TpDst value mask ∙ destination-form) ∙ ported-key 2 (omega arith) port unfragmented
          ∙ ap₂ (λ (y z : ℕ). with_numbers y z before) other (port-written 2 (omega arith) bytes l)
          ∙ replaced-destination before (big_endian_at 2 frame x) (big_endian_at 2 frame (x + 2)) (merged (big_endian_at 2 frame (x + 2)) value mask)
          ∙ ap₂ (λ (y : ℕ) (k : List ℕ). with_value TpDst (merged y value mask) k) (sym shown.tp_dst) (sym (frame-key 2 (omega arith) port unfragmented))
