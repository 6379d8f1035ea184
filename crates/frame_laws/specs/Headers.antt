-- Where the headers of a frame stand, and where they end.
use Rattle.std.specs.Prelude.{◌≡◌, ℕ, ◌+◌, ◌*◌, ◌-◌, ◌≤◌, Bool, true, false, ◌||◌, List, length, IsTrue}
use Rattle.spec_base.specs.Bytes.{big_endian_at}
use Rattle.spec_frames.specs.declared.headers.Network.{Network}
use Rattle.spec_frames.specs.declared.headers.Network.TheVariants as network
use Rattle.spec_frames.specs.declared.layout.Layout.{Layout}
use Rattle.spec_frames.specs.declared.layout.L3.{L3}
use Rattle.spec_frames.specs.declared.layout.L3.TheVariants.{None, Arp, Ipv4, Ipv6}
use Rattle.spec_frames.specs.Ethernet.{header_size, type_size, tag_size}
use Rattle.spec_frames.specs.Arp.{packet_size}
use Rattle.spec_frames.specs.Ipv4 as ipv4
use Rattle.spec_frames.specs.Ipv6 as ipv6
use Rattle.spec_frames.specs.Layout.{layout_of}

abbrev pub is_ipv4 : L3 → Bool
is_ipv4 (Ipv4 at) = true
is_ipv4 other = false

abbrev pub is_ipv6 : L3 → Bool
is_ipv6 (Ipv6 at) = true
is_ipv6 other = false

abbrev pub is_ip : L3 → Bool
is_ip header = is_ipv4 header || is_ipv6 header

-- The layout of a frame names a header of IPv4, one of IPv6, or one of either.
abbrev pub HasIpv4 : List ℕ → Type 0
HasIpv4 frame = IsTrue (is_ipv4 (layout_of frame).l3)

abbrev pub HasIpv6 : List ℕ → Type 0
HasIpv6 frame = IsTrue (is_ipv6 (layout_of frame).l3)

abbrev pub HasIp : List ℕ → Type 0
HasIp frame = IsTrue (is_ip (layout_of frame).l3)

-- where a packet with this network header ends, by the size that the header gives
abbrev pub end_by : List ℕ → L3 → ℕ
end_by frame None = length frame
end_by frame (Arp at) = at + packet_size
end_by frame (Ipv4 at) = at + ipv4.total_size frame at
end_by frame (Ipv6 at) = at + ipv6.header_size + ipv6.payload_size frame at

-- where the packet of a frame ends; in a frame without such a header nothing stands after it
abbrev pub packet_end : List ℕ → ℕ
packet_end frame = end_by frame (layout_of frame).l3

-- where the upper layer of a packet begins
abbrev pub upper_at : Network → ℕ
upper_at (network.Ipv4 at d) = d.upper.at
upper_at (network.Ipv6 at d) = d.upper.at
upper_at other = 0

-- how many bytes of it are there: up to the end of the packet, or of the frame, whichever comes first
abbrev pub upper_size : Network → ℕ
upper_size (network.Ipv4 at d) = d.end - d.upper.at
upper_size (network.Ipv6 at d) = d.end - d.upper.at
upper_size other = 0

-- A network header of this type begins after the type field that says so, which stands after the tags. So many bytes of
-- it at least lie in the frame.
pub record FollowsType (frame : List ℕ) (layout : Layout) (dl_type size at : ℕ) : Type 0 where
  pub after_tags : header_size + layout.tags * tag_size ≤ at
  pub after_type : big_endian_at type_size frame (at - type_size) ≡ dl_type
  pub is_within : at + size ≤ length frame

-- An offset is after what every IP header has: 20 bytes of IPv4, 40 of IPv6.
abbrev pub IsAfter : L3 → ℕ → Type 0
IsAfter (Ipv4 begin) at = begin + ipv4.least_header_size ≤ at
IsAfter (Ipv6 begin) at = begin + ipv6.header_size ≤ at
IsAfter other at = ⊥

-- A transport header begins after the IP header. So many bytes of it at least lie in the frame.
pub record FollowsIp (frame : List ℕ) (layout : Layout) (size at : ℕ) : Type 0 where
  pub after : IsAfter layout.l3 at
  pub is_within : at + size ≤ length frame
