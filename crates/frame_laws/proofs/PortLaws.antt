-- What a key shows of a transport header.
use Rattle.std.proofs.Common.{◌≡◌, ◌≢◌, ℕ, ◌+◌, List, slice_index, refl, sym, ◌∙◌, subst}
use Rattle.spec_base.specs.Bytes.{big_endian_at}
use Rattle.spec_keys.specs.declared.field_id.FieldId.TheVariants.{NwProto, IpFrag}
use Rattle.spec_keys.specs.Keys.{none, value_of}
use Rattle.spec_frames.specs.declared.headers.Datagram.{Datagram}
use Rattle.spec_frames.specs.declared.headers.Fragment.{Fragment}
use Rattle.spec_frames.specs.declared.headers.Fragment.TheVariants.{Whole, First, Later}
use Rattle.spec_frames.specs.declared.headers.Network.{Network}
use Rattle.spec_frames.specs.declared.headers.Network.TheVariants.{Nothing, Arp, Ipv4, Ipv6}
use Rattle.spec_frames.specs.declared.layout.Layout.{Layout}
use Rattle.spec_frames.specs.declared.layout.L4.{L4}
use Rattle.spec_frames.specs.declared.layout.L4.TheVariants as transport
use Rattle.spec_frames.specs.Arp.{key_operation, operation}
use Rattle.spec_frames.specs.Ipv4 as ipv4
use Rattle.spec_frames.specs.Ipv6 as ipv6
use Rattle.spec_frames.specs.Network.{network}
use Rattle.spec_frames.specs.Transport.{unless_later, transport}
use Rattle.spec_frames.specs.Layout.{layout_of}
use Rattle.spec_frames.specs.Key.{port_size, ip_frag, shown, with_datagram, with_transport, with_network, key_of}
use Rattle.frame_laws.specs.Numbers.{HasPorts}
use Rattle.frame_laws.proofs.keys.Forms.{Tags, no_tags, tags_of, ethernet_key, with_addresses, by_length}

-- ---- the fields of a key by its network header

-- the two numbers of a transport header that a key shows
abbrev source_in : List ℕ → L4 → ℕ
source_in frame transport.None = 0
source_in frame (transport.Tcp at) = big_endian_at port_size frame at
source_in frame (transport.Udp at) = big_endian_at port_size frame at
source_in frame (transport.Icmp at) = slice_index frame at
source_in frame (transport.Icmp6 at) = slice_index frame at

abbrev destination_in : List ℕ → L4 → ℕ
destination_in frame transport.None = 0
destination_in frame (transport.Tcp at) = big_endian_at port_size frame (at + port_size)
destination_in frame (transport.Udp at) = big_endian_at port_size frame (at + port_size)
destination_in frame (transport.Icmp at) = slice_index frame (at + 1)
destination_in frame (transport.Icmp6 at) = slice_index frame (at + 1)

-- which part of a packet a network header says that it has
abbrev pub part_of : Network → Fragment
part_of Nothing = Whole
part_of (Arp at) = Whole
part_of (Ipv4 at d) = d.upper.fragment
part_of (Ipv6 at d) = d.upper.fragment

abbrev pub protocol_in : List ℕ → Network → ℕ
protocol_in frame Nothing = 0
protocol_in frame (Arp at) = key_operation (operation frame at)
protocol_in frame (Ipv4 at d) = d.upper.protocol
protocol_in frame (Ipv6 at d) = d.upper.protocol

-- A key shows this part of a packet, this protocol and this transport header.
pub record Shows (frame : List ℕ) (part : Fragment) (number : ℕ) (header : L4) (key : List ℕ) : Type 0 where
  pub fragment : value_of key IpFrag ≡ ip_frag part
  pub protocol : value_of key NwProto ≡ number
  pub ports : HasPorts key (source_in frame header) (destination_in frame header)

with_transport-Shows : (frame : List ℕ) (h : L4) (d : Datagram) (port source destination dl_type : ℕ) (t : Tags) (nw_src nw_dst ipv6_src ipv6_dst : ℕ)
    → Shows frame d.upper.fragment d.upper.protocol h
    (with_transport frame h (with_datagram d (with_addresses nw_src nw_dst ipv6_src ipv6_dst (ethernet_key port source destination dl_type t))))
unfolding with_transport none
with_transport-Shows frame transport.None d port source destination dl_type t nw_src nw_dst ipv6_src ipv6_dst =
    record { fragment = refl; protocol = refl; ports = record { tp_src = refl; tp_dst = refl } }
with_transport-Shows frame (transport.Tcp at) d port source destination dl_type t nw_src nw_dst ipv6_src ipv6_dst =
    record { fragment = refl; protocol = refl; ports = record { tp_src = refl; tp_dst = refl } }
with_transport-Shows frame (transport.Udp at) d port source destination dl_type t nw_src nw_dst ipv6_src ipv6_dst =
    record { fragment = refl; protocol = refl; ports = record { tp_src = refl; tp_dst = refl } }
with_transport-Shows frame (transport.Icmp at) d port source destination dl_type t nw_src nw_dst ipv6_src ipv6_dst =
    record { fragment = refl; protocol = refl; ports = record { tp_src = refl; tp_dst = refl } }
with_transport-Shows frame (transport.Icmp6 at) d port source destination dl_type t nw_src nw_dst ipv6_src ipv6_dst =
    record { fragment = refl; protocol = refl; ports = record { tp_src = refl; tp_dst = refl } }

-- the transport header that a key shows
abbrev header_in : Network → L4
header_in n = shown (part_of n) (transport n)

pub network-Shows : (frame : List ℕ) (n : Network) (port source destination dl_type : ℕ) (t : Tags)
    → Shows frame (part_of n) (protocol_in frame n) (header_in n) (with_network frame n (ethernet_key port source destination dl_type t))
unfolding with_network none transport
network-Shows frame Nothing port source destination dl_type t = record { fragment = refl; protocol = refl; ports = record { tp_src = refl; tp_dst = refl } }
network-Shows frame (Arp at) port source destination dl_type t = record { fragment = refl; protocol = refl; ports = record { tp_src = refl; tp_dst = refl } }
network-Shows frame (Ipv4 at d) port source destination dl_type t =
    with_transport-Shows frame (header_in (Ipv4 at d)) d port source destination dl_type t (ipv4.source frame at) (ipv4.destination frame at) 0 0
network-Shows frame (Ipv6 at d) port source destination dl_type t =
    with_transport-Shows frame (header_in (Ipv6 at d)) d port source destination dl_type t 0 0 (ipv6.source frame at) (ipv6.destination frame at)

-- ---- the laws

-- what a key shows of its frame's headers, and what the layout names
record Seen (frame key : List ℕ) (layout : Layout) : Type 0 where
  n : Network
  shows : Shows frame (part_of n) (protocol_in frame n) (header_in n) key
  named : layout.l4 ≡ transport n

seen : (port : ℕ) (frame : List ℕ) → Seen frame (key_of port frame) (layout_of frame)
seen port frame =
    by_length port frame (Seen frame)
    (λ l. record { n = Nothing; shows = network-Shows frame Nothing port 0 0 0 no_tags; named = refl })
    (λ l. record { n = network frame; shows = network-Shows frame (network frame) port _ _ _ (tags_of frame); named = refl })

-- the header that is named is shown in a packet that is no fragment
whole-header : (n : Network) → ip_frag (part_of n) ≡ ip_frag Whole → header_in n ≡ transport n
whole-header n e = at (part_of n) e
  where
    at : (part : Fragment) → ip_frag part ≡ ip_frag Whole → shown part (transport n) ≡ transport n
    at Whole e = refl
    at First e = cc
    at Later e = cc

fragment-header : (n : Network) → ip_frag (part_of n) ≢ ip_frag Whole → header_in n ≡ transport.None
fragment-header n e = at (part_of n) e
  where
    at : (part : Fragment) → ip_frag part ≢ ip_frag Whole → shown part (transport n) ≡ transport.None
    at Whole e = absurd (e refl)
    at First e = refl
    at Later e = refl

unless_later-later : (part : Fragment) (header : L4) → ip_frag part ≡ ip_frag Later → unless_later part header ≡ transport.None
unless_later-later Whole header e = cc
unless_later-later First header e = cc
unless_later-later Later header e = refl

later-header : (n : Network) → ip_frag (part_of n) ≡ ip_frag Later → transport n ≡ transport.None
unfolding transport
later-header Nothing e = cc
later-header (Arp at) e = cc
later-header (Ipv4 at d) e = unless_later-later d.upper.fragment _ e
later-header (Ipv6 at d) e = unless_later-later d.upper.fragment _ e

pub ports_of_whole : (port : ℕ) (frame : List ℕ) (header : L4) → value_of (key_of port frame) IpFrag ≡ ip_frag Whole → (layout_of frame).l4 ≡ header
    → HasPorts (key_of port frame) (source_in frame header) (destination_in frame header)
ports_of_whole port frame header e named =
    let s = seen port frame in
    subst (λ (h : L4). HasPorts (key_of port frame) (source_in frame h) (destination_in frame h))
    (whole-header s.n (sym s.shows.fragment ∙ e) ∙ sym s.named ∙ named) s.shows.ports

pub ports_of_fragment : (port : ℕ) (frame : List ℕ) → value_of (key_of port frame) IpFrag ≢ ip_frag Whole → HasPorts (key_of port frame) 0 0
ports_of_fragment port frame e =
    let s = seen port frame in
    subst (λ (h : L4). HasPorts (key_of port frame) (source_in frame h) (destination_in frame h))
    (fragment-header s.n (λ f. e (s.shows.fragment ∙ f))) s.shows.ports

pub header_of_later : (port : ℕ) (frame : List ℕ) → value_of (key_of port frame) IpFrag ≡ ip_frag Later → (layout_of frame).l4 ≡ transport.None
header_of_later port frame e = let s = seen port frame in s.named ∙ later-header s.n (sym s.shows.fragment ∙ e)
