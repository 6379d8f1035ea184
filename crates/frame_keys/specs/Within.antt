-- How far the headers of a frame reach.
use Rattle.std.specs.Prelude.{ℕ, ◌+◌, ◌≤◌, List, length}
use Rattle.spec_frames.specs.declared.headers.Network.{Network}
use Rattle.spec_frames.specs.declared.headers.Network.TheVariants.{Nothing, Arp, Ipv4, Ipv6}
use Rattle.spec_frames.specs.declared.layout.L4.{L4}
use Rattle.spec_frames.specs.declared.layout.L4.TheVariants.{None, Tcp, Udp, Icmp, Icmp6}
use Rattle.spec_frames.specs.Arp as arp
use Rattle.spec_frames.specs.Ipv4 as ipv4
use Rattle.spec_frames.specs.Ipv6 as ipv6
use Rattle.spec_frames.specs.Transport.{tcp_size, udp_size, icmp_size, icmp6_size}

-- a network header, and the packet that it begins, stand within the frame
abbrev pub IsWithin : List ℕ → Network → Type 0
IsWithin frame Nothing = Unit {0}
IsWithin frame (Arp at) = at + arp.packet_size ≤ length frame
IsWithin frame (Ipv4 at d) = (at + ipv4.least_header_size ≤ length frame) × (d.end ≤ length frame)
IsWithin frame (Ipv6 at d) = (at + ipv6.header_size ≤ length frame) × (d.end ≤ length frame)

-- where the packet ends that a network header begins
abbrev pub end_of : Network → ℕ
end_of Nothing = 0
end_of (Arp at) = 0
end_of (Ipv4 at d) = d.end
end_of (Ipv6 at d) = d.end

-- a transport header stands before an offset
abbrev pub IsBefore : ℕ → L4 → Type 0
IsBefore end None = Unit {0}
IsBefore end (Tcp at) = at + tcp_size ≤ end
IsBefore end (Udp at) = at + udp_size ≤ end
IsBefore end (Icmp at) = at + icmp_size ≤ end
IsBefore end (Icmp6 at) = at + icmp6_size ≤ end
