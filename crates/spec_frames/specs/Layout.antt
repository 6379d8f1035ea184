-- Where the headers of a frame stand.
use Rattle.std.specs.Prelude.{ℕ, Bool, false, nat_lt, if◌then◌else◌, List, length}
use Rattle.spec_frames.specs.declared.headers.Network.{Network}
use Rattle.spec_frames.specs.declared.headers.Network.TheVariants as network
use Rattle.spec_frames.specs.declared.layout.Layout.{Layout}
use Rattle.spec_frames.specs.declared.layout.L3.{L3}
use Rattle.spec_frames.specs.declared.layout.L3.TheVariants.{None, Arp, Ipv4, Ipv6}
use Rattle.spec_frames.specs.Ethernet.{header_size, tag_count}
use Rattle.spec_frames.specs.Network.{network}
use Rattle.spec_frames.specs.Transport.{transport}

abbrev pub place_of_network : Network → L3
place_of_network network.Nothing = None
place_of_network (network.Arp at) = Arp at
place_of_network (network.Ipv4 at d) = Ipv4 at
place_of_network (network.Ipv6 at d) = Ipv6 at

abbrev pub is_routed : Network → Bool
is_routed network.Nothing = false
is_routed (network.Arp at) = false
is_routed (network.Ipv4 at d) = d.upper.routed
is_routed (network.Ipv6 at d) = d.upper.routed

-- where headers stand in a frame with so many tags and this network header
abbrev pub layout_with : ℕ → Network → Layout
layout_with tags n = record { tags = tags; l3 = place_of_network n; l4 = transport n; routed = is_routed n }

-- where they stand in a frame; nowhere in one that is shorter than an Ethernet header
unfoldable pub layout_of : List ℕ → Layout
layout_of frame =
    if nat_lt (length frame) header_size then layout_with 0 network.Nothing
    else layout_with (tag_count frame) (network frame)
