-- The class of a packet of IPv4, by what its headers say.
use Rattle.std.proofs.Common.{◌≡◌, ℕ, ◌+◌, List, [], ◌∷◌, slice_index, refl, subst}
use Rattle.spec_keys.specs.Keys.{none}
use Rattle.spec_frames.specs.declared.headers.Datagram.{Datagram}
use Rattle.spec_frames.specs.declared.headers.Fragment.{Fragment}
use Rattle.spec_frames.specs.declared.headers.Fragment.TheVariants.{Whole, First, Later}
use Rattle.spec_frames.specs.declared.headers.Network.{Network}
use Rattle.spec_frames.specs.declared.headers.Network.TheVariants.{Ipv4}
use Rattle.spec_frames.specs.declared.layout.L3.TheVariants as network
use Rattle.spec_frames.specs.declared.layout.L4.{L4}
use Rattle.spec_frames.specs.declared.layout.L4.TheVariants as transport
use Rattle.spec_frames.specs.Ethernet.{carried}
use Rattle.spec_frames.specs.Ipv4 as ipv4
use Rattle.spec_frames.specs.Transport.{transport}
use Rattle.spec_frames.specs.Layout.{layout_of, place_of_network}
use Rattle.spec_frames.specs.Key.{shown, with_datagram, with_transport, with_network, key_of}
use Rattle.spec_netflow.specs.Flows.{class_of}
use Rattle.frame_laws.proofs.keys.Forms.{Tags, ethernet_key, ethernet_of, with_addresses, tags_of, by_length, by_network}
use Rattle.frame_keys.specs.Within.{IsBefore}
use Rattle.netflow_v5.specs.Views.{source_in, destination_in}

-- the numbers of a class that the headers of a frame say
abbrev pub class_in : ℕ → List ℕ → ℕ → L4 → List ℕ
class_in port frame at header =
    port ∷ ipv4.source frame at ∷ ipv4.destination frame at ∷ slice_index frame (at + 9) ∷ slice_index frame (at + 1)
    ∷ source_in frame header ∷ destination_in frame header ∷ []

with_transport-class : (frame : List ℕ) (header : L4) (d : Datagram) (port source destination dl_type : ℕ) (t : Tags) (nw_src nw_dst : ℕ)
    → class_of (with_transport frame header (with_datagram d (with_addresses nw_src nw_dst 0 0 (ethernet_key port source destination dl_type t))))
    ≡ port ∷ nw_src ∷ nw_dst ∷ d.upper.protocol ∷ d.tos ∷ source_in frame header ∷ destination_in frame header ∷ []
unfolding with_transport none
with_transport-class frame transport.None d port source destination dl_type t nw_src nw_dst = refl
with_transport-class frame (transport.Tcp at) d port source destination dl_type t nw_src nw_dst = refl
with_transport-class frame (transport.Udp at) d port source destination dl_type t nw_src nw_dst = refl
with_transport-class frame (transport.Icmp at) d port source destination dl_type t nw_src nw_dst = refl
with_transport-class frame (transport.Icmp6 at) d port source destination dl_type t nw_src nw_dst = refl

module _ (port : ℕ) (frame : List ℕ) (at : ℕ) where
  -- where the network header is one of IPv4 at the offset, the class is that
  abbrev IsClass : Network → Type 0
  IsClass n = place_of_network n ≡ network.Ipv4 at
      → class_of (with_network frame n (ethernet_of port frame)) ≡ class_in port frame at (shown (ipv4.fragment frame at) (transport n))

  ipv4-IsClass : (here : ℕ) → IsClass (Ipv4 here (ipv4.ipv4 frame here))
  unfolding with_network none ipv4.ipv4
  ipv4-IsClass here is =
      let same : here ≡ at = cc in
      subst (λ (a : ℕ). class_of (with_network frame (Ipv4 here (ipv4.ipv4 frame here)) (ethernet_of port frame))
      ≡ class_in port frame a (shown (ipv4.fragment frame a) (transport (Ipv4 here (ipv4.ipv4 frame here))))) same
      (with_transport-class frame (shown (ipv4.fragment frame here) (transport (Ipv4 here (ipv4.ipv4 frame here)))) (ipv4.ipv4 frame here) port _ _ _
      (tags_of frame) (ipv4.source frame here) (ipv4.destination frame here))

  network-IsClass : IsClass (Rattle.spec_frames.specs.Network.network frame)
  network-IsClass =
      by_network frame (carried frame).dl_type (carried frame).at IsClass (λ is. absurd cc) (λ e h is. absurd cc)
      (λ e h. ipv4-IsClass (carried frame).at) (λ e d h is. absurd cc)

  pub class_of_packet : (layout_of frame).l3 ≡ network.Ipv4 at
      → class_of (key_of port frame) ≡ class_in port frame at (shown (ipv4.fragment frame at) (layout_of frame).l4)
  class_of_packet =
      by_length port frame
      (λ key layout. layout.l3 ≡ network.Ipv4 at → class_of key ≡ class_in port frame at (shown (ipv4.fragment frame at) layout.l4))
      (λ l is. absurd cc) (λ l. network-IsClass)

-- what a packet shows stands where its header does
pub shown_before : (part : Fragment) (header : L4) (end : ℕ) → IsBefore end header → IsBefore end (shown part header)
shown_before Whole header end before = before
shown_before First header end before = tt
shown_before Later header end before = tt
