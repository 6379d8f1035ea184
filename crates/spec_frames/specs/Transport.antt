-- The transport header after an IP header: TCP (RFC 9293, 3.1), UDP (RFC 768), ICMP (RFC 792) over IPv4 and ICMPv6
-- (RFC 4443, 2.1) over IPv6.
use Rattle.std.specs.Prelude.{ℕ, ◌+◌, Bool, ◌&&◌, ◌==◌, nat_le, if◌then◌else◌}
use Rattle.spec_keys.specs.Protocols.{tcp_protocol, udp_protocol, icmp_protocol, icmp6_protocol}
use Rattle.spec_frames.specs.declared.headers.Datagram.{Datagram}
use Rattle.spec_frames.specs.declared.headers.Fragment.{Fragment}
use Rattle.spec_frames.specs.declared.headers.Fragment.TheVariants.{Whole, First, Later}
use Rattle.spec_frames.specs.declared.headers.Network.{Network}
use Rattle.spec_frames.specs.declared.headers.Network.TheVariants.{Nothing, Arp, Ipv4, Ipv6}
use Rattle.spec_frames.specs.declared.layout.L4.{L4}
use Rattle.spec_frames.specs.declared.layout.L4.TheVariants.{None, Tcp, Udp, Icmp, Icmp6}

-- how many bytes of a header must be there (this profile)
abbrev pub tcp_size : ℕ
tcp_size = 20

abbrev pub udp_size : ℕ
udp_size = 8

abbrev pub icmp_size : ℕ
icmp_size = 8

abbrev pub icmp6_size : ℕ
icmp6_size = 4

-- whether a packet carries this protocol, with so many bytes before its end
abbrev pub carries : Datagram → ℕ → ℕ → Bool
carries d protocol size = (d.upper.protocol == protocol) && nat_le (d.upper.at + size) d.end

-- the header of TCP or UDP that a packet carries, or else another
abbrev pub tcp_or_udp : Datagram → L4 → L4
tcp_or_udp d other =
    if carries d tcp_protocol tcp_size then Tcp d.upper.at
    else (if carries d udp_protocol udp_size then Udp d.upper.at else other)

-- a later fragment has no transport header
abbrev pub unless_later : Fragment → L4 → L4
unless_later Later header = None
unless_later Whole header = header
unless_later First header = header

-- the transport header of a frame by its network header
unfoldable pub transport : Network → L4
transport Nothing = None
transport (Arp at) = None
transport (Ipv4 at d) =
    unless_later d.upper.fragment (tcp_or_udp d (if carries d icmp_protocol icmp_size then Icmp d.upper.at else None))
transport (Ipv6 at d) =
    unless_later d.upper.fragment (tcp_or_udp d (if carries d icmp6_protocol icmp6_size then Icmp6 d.upper.at else None))
