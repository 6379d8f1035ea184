-- The headers of a layout stand in the frame where the network header and the packet that it begins do.
use Rattle.std.proofs.Common.{ℕ, ◌≤◌, Bool, List, length, arith}
use Rattle.spec_frames.specs.declared.headers.Network.{Network}
use Rattle.spec_frames.specs.declared.headers.Network.TheVariants.{Nothing, Arp, Ipv4, Ipv6}
use Rattle.spec_frames.specs.declared.layout.Layout.{Layout}
use Rattle.spec_frames.specs.declared.layout.L3.{L3}
use Rattle.spec_frames.specs.declared.layout.L3.TheVariants as l3
use Rattle.spec_frames.specs.declared.layout.L4.{L4}
use Rattle.spec_frames.specs.declared.layout.L4.TheVariants as l4
use Rattle.spec_frames.specs.Transport.{transport}
use Rattle.spec_frames.specs.Layout.{place_of_network, layout_with}
use Rattle.frame_keys.specs.Within.{IsWithin, end_of, IsBefore}
use Rattle.frame_keys.specs.Laid.{NetworkIsBefore, AreBefore}

place-within : (frame : List ℕ) (n : Network) → IsWithin frame n → NetworkIsBefore (length frame) (place_of_network n)
place-within frame Nothing within = tt
place-within frame (Arp at) within = within
place-within frame (Ipv4 at d) within = within.0
place-within frame (Ipv6 at d) within = within.0

end-within : (frame : List ℕ) (n : Network) → IsWithin frame n → end_of n ≤ length frame
end-within frame Nothing within = omega arith
end-within frame (Arp at) within = omega arith
end-within frame (Ipv4 at d) within = within.1
end-within frame (Ipv6 at d) within = within.1

before-later : (a b : ℕ) (header : L4) → a ≤ b → IsBefore a header → IsBefore b header
before-later a b l4.None le before = tt
before-later a b (l4.Tcp at) le before = omega arith
before-later a b (l4.Udp at) le before = omega arith
before-later a b (l4.Icmp at) le before = omega arith
before-later a b (l4.Icmp6 at) le before = omega arith

network-later : (a b : ℕ) (header : L3) → a ≤ b → NetworkIsBefore a header → NetworkIsBefore b header
network-later a b l3.None le before = tt
network-later a b (l3.Arp at) le before = omega arith
network-later a b (l3.Ipv4 at) le before = omega arith
network-later a b (l3.Ipv6 at) le before = omega arith

-- what stands before an offset stands before each later one
pub later : (a b : ℕ) (layout : Layout) → a ≤ b → AreBefore a layout → AreBefore b layout
later a b layout le before = record {
  network = network-later a b layout.l3 le before.network;
  transport = before-later a b layout.l4 le before.transport;
}

pub layout_with-within : (frame : List ℕ) (tags : ℕ) (n : Network) → IsWithin frame n → IsBefore (end_of n) (transport n)
    → AreBefore (length frame) (layout_with tags n)
layout_with-within frame tags n within before = record {
  network = place-within frame n within;
  transport = before-later (end_of n) (length frame) (transport n) (end-within frame n within) before;
}
