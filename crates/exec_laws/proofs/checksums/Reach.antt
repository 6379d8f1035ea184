-- How far a packet reaches from its transport header on.
use Rattle.std.proofs.Common.{◌≡◌, ℕ, ◌+◌, ◌≤◌, ◌&&◌, ◌==◌, nat_le, List, length, slice_index, Option, Some, None, option_map, IfSome, subst, arith}
use Rattle.std.proofs.lemmas.Bool.{cond_both}
use Rattle.spec_frames.specs.declared.headers.Datagram.{Datagram}
use Rattle.spec_frames.specs.declared.headers.UpperLayer.{UpperLayer}
use Rattle.spec_frames.specs.declared.headers.Network.{Network}
use Rattle.spec_frames.specs.declared.headers.Network.TheVariants.{Nothing, Arp, Ipv4, Ipv6}
use Rattle.spec_frames.specs.declared.layout.L3.{L3}
use Rattle.spec_frames.specs.declared.layout.L3.TheVariants as l3
use Rattle.spec_frames.specs.declared.layout.L4.{L4}
use Rattle.spec_frames.specs.declared.layout.L4.TheVariants as l4
use Rattle.spec_frames.specs.Ethernet.{carried}
use Rattle.spec_frames.specs.Ipv4 as ipv4
use Rattle.spec_frames.specs.Ipv6 as ipv6
use Rattle.spec_frames.specs.Network.{network}
use Rattle.spec_frames.specs.Transport.{tcp_size, udp_size, icmp_size, icmp6_size, transport}
use Rattle.spec_frames.specs.Layout.{place_of_network, layout_of}
use Rattle.frame_laws.proofs.keys.Forms.{by_length, by_network}
use Rattle.frame_laws.specs.Headers.{end_by}
use Rattle.frame_laws.proofs.TransportLaws.{Fits, Told, transport-tells}

-- the end that is read of a packet is not after the one that its header says
abbrev EndsBy : List ℕ → Network → Type 0
EndsBy frame Nothing = Unit {0}
EndsBy frame (Arp at) = Unit {0}
EndsBy frame (Ipv4 at d) = d.end ≤ end_by frame (l3.Ipv4 at)
EndsBy frame (Ipv6 at d) = d.end ≤ end_by frame (l3.Ipv6 at)

ipv4-ends : (frame : List ℕ) (at : ℕ) → EndsBy frame (Ipv4 at (ipv4.ipv4 frame at))
unfolding ipv4.ipv4
ipv4-ends frame at = omega arith

ipv6-ends : (frame : List ℕ) (at : ℕ) → IfSome (ipv6.ipv6 frame at) (λ d. EndsBy frame (Ipv6 at d))
unfolding ipv6.ipv6
ipv6-ends frame at =
    cond_both (nat_le (at + ipv6.header_size) (length frame) && (ipv4.version frame at == 6)) _ None (λ o. IfSome o (λ d. EndsBy frame (Ipv6 at d)))
    (λ e. by (ipv6.upper_layer ipv6.most_extensions frame (ipv6.end_of frame at) (slice_index frame (at + 6)) (at + ipv6.header_size))) (λ e. tt)
  where
    by : (o : Option UpperLayer)
        → IfSome (option_map (λ upper. record { tos = ipv6.traffic_class frame at; ttl = slice_index frame (at + 7); end = ipv6.end_of frame at; upper = upper }) o) (λ d. EndsBy frame (Ipv6 at d))
    by None = tt
    by (Some u) = omega arith

network-ends : (frame : List ℕ) → EndsBy frame (network frame)
network-ends frame =
    by_network frame (carried frame).dl_type (carried frame).at (EndsBy frame) tt (λ e h. tt) (λ e h. ipv4-ends frame (carried frame).at)
    (λ e d h. subst (λ (o : Option Datagram). IfSome o (λ d. EndsBy frame (Ipv6 (carried frame).at d))) h (ipv6-ends frame (carried frame).at))

-- so much of a transport header stands before that end
abbrev pub Reaches : List ℕ → L3 → L4 → Type 0
Reaches frame n l4.None = Unit {0}
Reaches frame n (l4.Tcp x) = x + tcp_size ≤ end_by frame n
Reaches frame n (l4.Udp x) = x + udp_size ≤ end_by frame n
Reaches frame n (l4.Icmp x) = x + icmp_size ≤ end_by frame n
Reaches frame n (l4.Icmp6 x) = x + icmp6_size ≤ end_by frame n

fits-reaches : (frame : List ℕ) (n : Network) → EndsBy frame n → (number size x : ℕ) → 1 ≤ size → Fits frame n number size x → x + size ≤ end_by frame (place_of_network n)
fits-reaches frame Nothing e number size x some f = let there = f.is_there in absurd (omega arith)
fits-reaches frame (Arp at) e number size x some f = let there = f.is_there in absurd (omega arith)
fits-reaches frame (Ipv4 at d) e number size x some f = let there = f.is_there in let begins = f.begins in omega arith
fits-reaches frame (Ipv6 at d) e number size x some f = let there = f.is_there in let begins = f.begins in omega arith

told-reaches : (frame : List ℕ) (n : Network) → EndsBy frame n → (h : L4) → Told frame n h → Reaches frame (place_of_network n) h
told-reaches frame n e l4.None t = tt
told-reaches frame n e (l4.Tcp x) t = fits-reaches frame n e 6 tcp_size x (omega arith) t
told-reaches frame n e (l4.Udp x) t = fits-reaches frame n e 17 udp_size x (omega arith) t
told-reaches frame n e (l4.Icmp x) t = fits-reaches frame n e 1 icmp_size x (omega arith) t.1
told-reaches frame n e (l4.Icmp6 x) t = fits-reaches frame n e 58 icmp6_size x (omega arith) t.1

pub layout-reaches : (frame : List ℕ) (h : L4) → (layout_of frame).l4 ≡ h → Reaches frame (layout_of frame).l3 h
unfolding transport
layout-reaches frame h e =
    subst (Reaches frame (layout_of frame).l3) e
    (by_length 0 frame (λ key layout. Reaches frame layout.l3 layout.l4) (λ short. tt)
    (λ whole. told-reaches frame (network frame) (network-ends frame) (transport (network frame)) (transport-tells frame (network frame))))
