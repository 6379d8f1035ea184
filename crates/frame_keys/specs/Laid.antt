-- How far the headers of a layout reach.
use Rattle.std.specs.Prelude.{ℕ, ◌+◌, ◌≤◌}
use Rattle.spec_frames.specs.declared.layout.Layout.{Layout}
use Rattle.spec_frames.specs.declared.layout.L3.{L3}
use Rattle.spec_frames.specs.declared.layout.L3.TheVariants.{None, Arp, Ipv4, Ipv6}
use Rattle.spec_frames.specs.Arp as arp
use Rattle.spec_frames.specs.Ipv4 as ipv4
use Rattle.spec_frames.specs.Ipv6 as ipv6
use Rattle.frame_keys.specs.Within.{IsBefore}

-- a network header stands before an offset
abbrev pub NetworkIsBefore : ℕ → L3 → Type 0
NetworkIsBefore end None = Unit {0}
NetworkIsBefore end (Arp at) = at + arp.packet_size ≤ end
NetworkIsBefore end (Ipv4 at) = at + ipv4.least_header_size ≤ end
NetworkIsBefore end (Ipv6 at) = at + ipv6.header_size ≤ end

-- both headers of a layout stand before an offset
pub record AreBefore (end : ℕ) (layout : Layout) : Type 0 where
  pub network : NetworkIsBefore end layout.l3
  pub transport : IsBefore end layout.l4
