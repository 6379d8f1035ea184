-- Where the layout of a frame names a transport header.
use Rattle.std.proofs.Common.{◌≡◌, ◌≢◌, ◌↔◌, ℕ, ◌+◌, ◌-◌, ◌≤◌, Bool, true, false, ◌==◌, nat_le, if◌then◌else◌, List, IsTrue, refl, sym, ap, ◌∙◌, subst, arith}
use Rattle.std.proofs.lemmas.Bool.{eqb-true, eq-eqb, ne_eqb, leb-true, le-leb, and_parts, and_from, and_left, cond-true, cond-false}
use Rattle.spec_keys.specs.Protocols.{tcp_protocol, udp_protocol, icmp_protocol, icmp6_protocol}
use Rattle.spec_frames.specs.declared.headers.Datagram.{Datagram}
use Rattle.spec_frames.specs.declared.headers.Fragment.{Fragment}
use Rattle.spec_frames.specs.declared.headers.Fragment.TheVariants.{Whole, First, Later}
use Rattle.spec_frames.specs.declared.headers.Network.{Network}
use Rattle.spec_frames.specs.declared.headers.Network.TheVariants.{Nothing, Arp, Ipv4, Ipv6}
use Rattle.spec_frames.specs.declared.layout.L3.{L3}
use Rattle.spec_frames.specs.declared.layout.L4.{L4}
use Rattle.spec_frames.specs.declared.layout.L4.TheVariants.{None, Tcp, Udp, Icmp, Icmp6}
use Rattle.spec_frames.specs.Network.{network}
use Rattle.spec_frames.specs.Transport.{tcp_size, udp_size, icmp_size, icmp6_size, carries, tcp_or_udp, unless_later, transport}
use Rattle.spec_frames.specs.Layout.{place_of_network, layout_of}
use Rattle.spec_frames.specs.Key.{ip_frag, key_of}
use Rattle.frame_laws.specs.Headers.{is_ipv4, is_ipv6, is_ip, upper_at, upper_size}
use Rattle.frame_laws.specs.Numbers.{Carries}
use Rattle.frame_laws.proofs.keys.Forms.{by_length}
use Rattle.frame_laws.proofs.PortLaws.{part_of, protocol_in, Shows, network-Shows}

-- A packet is no later fragment and carries this protocol, with so many bytes at least, from this offset on.
pub record Fits (frame : List ℕ) (n : Network) (number size at : ℕ) : Type 0 where
  pub part : ip_frag (part_of n) ≢ ip_frag Later
  pub protocol : protocol_in frame n ≡ number
  pub begins : at ≡ upper_at n
  pub is_there : size ≤ upper_size n

-- what a transport header says of its packet
abbrev pub Told : List ℕ → Network → L4 → Type 0
Told frame n None = Unit {0}
Told frame n (Tcp at) = Fits frame n tcp_protocol tcp_size at
Told frame n (Udp at) = Fits frame n udp_protocol udp_size at
Told frame n (Icmp at) = IsTrue (is_ipv4 (place_of_network n)) × Fits frame n icmp_protocol icmp_size at
Told frame n (Icmp6 at) = IsTrue (is_ipv6 (place_of_network n)) × Fits frame n icmp6_protocol icmp6_size at

-- ---- tests

carries-tells : (d : Datagram) (number size : ℕ) → carries d number size ≡ true → (d.upper.protocol ≡ number) × (size ≤ d.end - d.upper.at)
carries-tells d number size e =
    let both = and_parts (d.upper.protocol == number) (nat_le (d.upper.at + size) d.end) e in
    let fits = leb-true (d.upper.at + size) d.end both.1 in
    (eqb-true d.upper.protocol number both.0, omega arith)

-- a size that is not 0, so that the difference is not one of a packet that ended before
carries-from : (d : Datagram) (number size : ℕ) → 1 ≤ size → d.upper.protocol ≡ number → size ≤ d.end - d.upper.at → carries d number size ≡ true
carries-from d number size some e l =
    and_from (d.upper.protocol == number) (nat_le (d.upper.at + size) d.end) (eq-eqb d.upper.protocol number e)
    (le-leb (d.upper.at + size) d.end (omega arith))

carries_not : (d : Datagram) (number size other : ℕ) → d.upper.protocol ≡ other → other ≢ number → carries d number size ≡ false
carries_not d number size other e ne = and_left (d.upper.protocol == number) _ (ne_eqb d.upper.protocol number (λ f. ne (sym e ∙ f)))

-- ---- from a header

-- by the part that an IP header says, and what it carries
module _ (frame : List ℕ) (n : Network) (d : Datagram) (part : part_of n ≡ d.upper.fragment) (protocol : protocol_in frame n ≡ d.upper.protocol)
    (begins : d.upper.at ≡ upper_at n) (there : d.end - d.upper.at ≡ upper_size n) where
  fits : (number size : ℕ) → ip_frag d.upper.fragment ≢ ip_frag Later → carries d number size ≡ true → Fits frame n number size d.upper.at
  fits number size whole e =
      let c = carries-tells d number size e in
      record { part = λ l. whole (sym (ap ip_frag part) ∙ l); protocol = protocol ∙ c.0; begins = begins; is_there = subst (λ (z : ℕ). size ≤ z) there c.1 }

  tcp_or_udp-tells : (other : L4) → ip_frag d.upper.fragment ≢ ip_frag Later → Told frame n other → Told frame n (tcp_or_udp d other)
  tcp_or_udp-tells other whole h = at (carries d tcp_protocol tcp_size) (carries d udp_protocol udp_size) refl refl
    where
      at : (t u : Bool) → carries d tcp_protocol tcp_size ≡ t → carries d udp_protocol udp_size ≡ u
          → Told frame n (if t then Tcp d.upper.at else (if u then Udp d.upper.at else other))
      at true u e f = fits tcp_protocol tcp_size whole e
      at false true e f = fits udp_protocol udp_size whole f
      at false false e f = h

  unless_later-tells : (other : L4) → (ip_frag d.upper.fragment ≢ ip_frag Later → Told frame n other) → Told frame n (unless_later d.upper.fragment (tcp_or_udp d other))
  unless_later-tells other h = at d.upper.fragment (λ whole. tcp_or_udp-tells other whole (h whole))
    where
      at : (f : Fragment) → (ip_frag f ≢ ip_frag Later → Told frame n (tcp_or_udp d other)) → Told frame n (unless_later f (tcp_or_udp d other))
      at Whole k = k (λ e. cc)
      at First k = k (λ e. cc)
      at Later k = tt

pub transport-tells : (frame : List ℕ) (n : Network) → Told frame n (transport n)
unfolding transport
transport-tells frame Nothing = tt
transport-tells frame (Arp at) = tt
transport-tells frame (Ipv4 at d) = unless_later-tells frame (Ipv4 at d) d refl refl refl refl _ (λ whole. by whole (carries d icmp_protocol icmp_size) refl)
  where
    by : ip_frag d.upper.fragment ≢ ip_frag Later → (t : Bool) → carries d icmp_protocol icmp_size ≡ t → Told frame (Ipv4 at d) (if t then Icmp d.upper.at else None)
    by whole true e = (refl, fits frame (Ipv4 at d) d refl refl refl refl icmp_protocol icmp_size whole e)
    by whole false e = tt
transport-tells frame (Ipv6 at d) = unless_later-tells frame (Ipv6 at d) d refl refl refl refl _ (λ whole. by whole (carries d icmp6_protocol icmp6_size) refl)
  where
    by : ip_frag d.upper.fragment ≢ ip_frag Later → (t : Bool) → carries d icmp6_protocol icmp6_size ≡ t → Told frame (Ipv6 at d) (if t then Icmp6 d.upper.at else None)
    by whole true e = (refl, fits frame (Ipv6 at d) d refl refl refl refl icmp6_protocol icmp6_size whole e)
    by whole false e = tt

-- ---- to a header

not_later : (part : Fragment) (header : L4) → ip_frag part ≢ ip_frag Later → unless_later part header ≡ header
not_later Whole header e = refl
not_later First header e = refl
not_later Later header e = absurd (e refl)

to_tcp : (d : Datagram) (other : L4) → d.upper.protocol ≡ tcp_protocol → tcp_size ≤ d.end - d.upper.at → tcp_or_udp d other ≡ Tcp d.upper.at
to_tcp d other e l = cond-true _ _ _ (carries-from d tcp_protocol tcp_size (omega arith) e l)

to_udp : (d : Datagram) (other : L4) → d.upper.protocol ≡ udp_protocol → udp_size ≤ d.end - d.upper.at → tcp_or_udp d other ≡ Udp d.upper.at
to_udp d other e l =
    cond-false _ _ _ (carries_not d tcp_protocol tcp_size udp_protocol e (omega arith)) ∙ cond-true _ _ _ (carries-from d udp_protocol udp_size (omega arith) e l)

to_other : (d : Datagram) (other : L4) (number : ℕ) → d.upper.protocol ≡ number → number ≢ tcp_protocol → number ≢ udp_protocol → tcp_or_udp d other ≡ other
to_other d other number e t u =
    cond-false _ _ _ (carries_not d tcp_protocol tcp_size number e t) ∙ cond-false _ _ _ (carries_not d udp_protocol udp_size number e u)

-- the header of a packet that says what a header says
module _ (frame : List ℕ) (at : ℕ) where
  transport-tcp : (n : Network) → IsTrue (is_ip (place_of_network n)) → Fits frame n tcp_protocol tcp_size at → transport n ≡ Tcp at
  unfolding transport
  transport-tcp Nothing ip h = cc
  transport-tcp (Arp b) ip h = cc
  transport-tcp (Ipv4 b d) ip h = not_later d.upper.fragment _ h.part ∙ to_tcp d _ h.protocol h.is_there ∙ ap Tcp (sym h.begins)
  transport-tcp (Ipv6 b d) ip h = not_later d.upper.fragment _ h.part ∙ to_tcp d _ h.protocol h.is_there ∙ ap Tcp (sym h.begins)

  transport-udp : (n : Network) → IsTrue (is_ip (place_of_network n)) → Fits frame n udp_protocol udp_size at → transport n ≡ Udp at
  unfolding transport
  transport-udp Nothing ip h = cc
  transport-udp (Arp b) ip h = cc
  transport-udp (Ipv4 b d) ip h = not_later d.upper.fragment _ h.part ∙ to_udp d _ h.protocol h.is_there ∙ ap Udp (sym h.begins)
  transport-udp (Ipv6 b d) ip h = not_later d.upper.fragment _ h.part ∙ to_udp d _ h.protocol h.is_there ∙ ap Udp (sym h.begins)

  transport-icmp : (n : Network) → IsTrue (is_ipv4 (place_of_network n)) → Fits frame n icmp_protocol icmp_size at → transport n ≡ Icmp at
  unfolding transport
  transport-icmp Nothing ip h = cc
  transport-icmp (Arp b) ip h = cc
  transport-icmp (Ipv4 b d) ip h =
      not_later d.upper.fragment _ h.part ∙ to_other d _ icmp_protocol h.protocol (omega arith) (omega arith)
      ∙ cond-true _ _ _ (carries-from d icmp_protocol icmp_size (omega arith) h.protocol h.is_there) ∙ ap Icmp (sym h.begins)
  transport-icmp (Ipv6 b d) ip h = cc

  transport-icmp6 : (n : Network) → IsTrue (is_ipv6 (place_of_network n)) → Fits frame n icmp6_protocol icmp6_size at → transport n ≡ Icmp6 at
  unfolding transport
  transport-icmp6 Nothing ip h = cc
  transport-icmp6 (Arp b) ip h = cc
  transport-icmp6 (Ipv4 b d) ip h = cc
  transport-icmp6 (Ipv6 b d) ip h =
      not_later d.upper.fragment _ h.part ∙ to_other d _ icmp6_protocol h.protocol (omega arith) (omega arith)
      ∙ cond-true _ _ _ (carries-from d icmp6_protocol icmp6_size (omega arith) h.protocol h.is_there) ∙ ap Icmp6 (sym h.begins)

-- ---- the law

-- a header in the words of the law
abbrev Named : (frame key : List ℕ) → L3 → L4 → Type 0
Named frame key l3 None = Unit {0}
Named frame key l3 (Tcp at) = Carries frame key tcp_protocol tcp_size at
Named frame key l3 (Udp at) = Carries frame key udp_protocol udp_size at
Named frame key l3 (Icmp at) = IsTrue (is_ipv4 l3) × Carries frame key icmp_protocol icmp_size at
Named frame key l3 (Icmp6 at) = IsTrue (is_ipv6 l3) × Carries frame key icmp6_protocol icmp6_size at

-- by what the key shows
module _ (frame key : List ℕ) (shown : L4) (s : Shows frame (part_of (network frame)) (protocol_in frame (network frame)) shown key) where
  to_Carries : (number size at : ℕ) → Fits frame (network frame) number size at → Carries frame key number size at
  to_Carries number size at h =
      record { part = λ l. h.part (sym s.fragment ∙ l); nw_proto = s.protocol ∙ h.protocol; begins = h.begins; is_there = h.is_there }

  from_Carries : (number size at : ℕ) → Carries frame key number size at → Fits frame (network frame) number size at
  from_Carries number size at h =
      record { part = λ l. h.part (s.fragment ∙ l); protocol = sym s.protocol ∙ h.nw_proto; begins = h.begins; is_there = h.is_there }

  to_Named : (header : L4) → Told frame (network frame) header → Named frame key (place_of_network (network frame)) header
  to_Named None h = tt
  to_Named (Tcp at) h = to_Carries tcp_protocol tcp_size at h
  to_Named (Udp at) h = to_Carries udp_protocol udp_size at h
  to_Named (Icmp at) h = (h.0, to_Carries icmp_protocol icmp_size at h.1)
  to_Named (Icmp6 at) h = (h.0, to_Carries icmp6_protocol icmp6_size at h.1)

  from_Named : (header : L4) → header ≢ None → IsTrue (is_ip (place_of_network (network frame)))
      → Named frame key (place_of_network (network frame)) header → transport (network frame) ≡ header
  from_Named None some ip h = absurd (some refl)
  from_Named (Tcp at) some ip h = transport-tcp frame at (network frame) ip (from_Carries tcp_protocol tcp_size at h)
  from_Named (Udp at) some ip h = transport-udp frame at (network frame) ip (from_Carries udp_protocol udp_size at h)
  from_Named (Icmp at) some ip h = transport-icmp frame at (network frame) h.0 (from_Carries icmp_protocol icmp_size at h.1)
  from_Named (Icmp6 at) some ip h = transport-icmp6 frame at (network frame) h.0 (from_Carries icmp6_protocol icmp6_size at h.1)

pub named-iff : (port : ℕ) (frame : List ℕ) (header : L4) → header ≢ None → IsTrue (is_ip (layout_of frame).l3)
    → (layout_of frame).l4 ≡ header ↔ Named frame (key_of port frame) (layout_of frame).l3 header
named-iff port frame header some =
    by_length port frame (λ key layout. IsTrue (is_ip layout.l3) → layout.l4 ≡ header ↔ Named frame key layout.l3 header)
    (λ l ip. absurd (cc))
    (λ l ip.
    let s = network-Shows frame (network frame) port _ _ _ _ in (
      λ e. to_Named frame _ _ s header (subst (Told frame (network frame)) e (transport-tells frame (network frame))),
      from_Named frame _ _ s header some ip,
    ))
