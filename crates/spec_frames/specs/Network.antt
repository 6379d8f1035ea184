-- The network header of a frame.
use Rattle.std.specs.Prelude.{ℕ, ◌==◌, if◌then◌else◌, List, Option, Some, None}
use Rattle.spec_keys.specs.Protocols.{arp_type, ipv4_type, ipv6_type}
use Rattle.spec_frames.specs.declared.headers.Datagram.{Datagram}
use Rattle.spec_frames.specs.declared.headers.Network.{Network}
use Rattle.spec_frames.specs.declared.headers.Network.TheVariants.{Nothing, Arp, Ipv4, Ipv6}
use Rattle.spec_frames.specs.Ethernet.{carried}
use Rattle.spec_frames.specs.Arp.{is_arp}
use Rattle.spec_frames.specs.Ipv4.{is_ipv4, ipv4}
use Rattle.spec_frames.specs.Ipv6.{ipv6}

abbrev pub by_ipv6 : ℕ → Option Datagram → Network
by_ipv6 at (Some d) = Ipv6 at d
by_ipv6 at None = Nothing

-- the header of this type at an offset; nothing where it is malformed, or of another type
unfoldable pub network_at : List ℕ → ℕ → ℕ → Network
network_at frame dl_type at =
    if dl_type == arp_type then (if is_arp frame at then Arp at else Nothing)
    else (if dl_type == ipv4_type then (if is_ipv4 frame at then Ipv4 at (ipv4 frame at) else Nothing)
    else (if dl_type == ipv6_type then by_ipv6 at (ipv6 frame at) else Nothing))

-- the header of a frame, which has a whole Ethernet header
abbrev pub network : List ℕ → Network
network frame = network_at frame (carried frame).dl_type (carried frame).at
