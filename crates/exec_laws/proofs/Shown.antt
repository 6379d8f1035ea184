-- Frames that show the same fields: those with the same headers, be they further on, that are fragments alike.
use Rattle.std.proofs.Common.{◌≡◌, ℕ, ◌+◌, ◌≤◌, Bool, ◌&&◌, ◌==◌, is_some, List, length, slice_index, refl, sym, ap, ap₂, ◌∙◌, arith}
use Rattle.spec_keys.specs.declared.field_id.FieldId.{FieldId}
use Rattle.spec_keys.specs.declared.field_id.FieldId.TheVariants.{NwSrc, NwTos, IpFrag, ArpSha, DlSrc, DlDst, TpSrc, TpDst}
use Rattle.spec_keys.specs.Keys.{value_of}
use Rattle.spec_frames.specs.declared.headers.Network.{Network}
use Rattle.spec_frames.specs.declared.headers.Network.TheVariants.{Nothing, Arp, Ipv4, Ipv6}
use Rattle.spec_frames.specs.declared.layout.Layout.{Layout}
use Rattle.spec_frames.specs.declared.layout.L4.{L4}
use Rattle.spec_frames.specs.declared.layout.L4.TheVariants as l4
use Rattle.spec_frames.specs.Ethernet.{tag_count, carried, header_size}
use Rattle.spec_frames.specs.Network.{network}
use Rattle.spec_frames.specs.Transport.{transport}
use Rattle.spec_frames.specs.Layout.{place_of_network, layout_with, layout_of}
use Rattle.spec_frames.specs.Key.{key_of}
use Rattle.spec_exec.specs.Places.{in_arp, in_ipv4, in_ipv6, in_network, port_at, place_in}
use Rattle.frame_laws.proofs.keys.Forms.{whole-layout}
use Rattle.exec_laws.specs.ReadBack.{shows}
use Rattle.exec_laws.proofs.Moved.{carried_on, network_on, l4_on, transport-on}
use Rattle.exec_laws.proofs.Addresses.{network-from}

-- a field is there in both or in neither
abbrev pub SamePlaces : Layout → Layout → Type 0
SamePlaces a b = (f : FieldId) → is_some (place_in b f) ≡ is_some (place_in a f)

pub same-shown : (port : ℕ) (a b : List ℕ) → SamePlaces (layout_of a) (layout_of b) → value_of (key_of port b) IpFrag ≡ value_of (key_of port a) IpFrag
    → (f : FieldId) → shows port b f ≡ shows port a f
same-shown port a b places part TpSrc = ap₂ (λ (t : Bool) (z : ℕ). t && (z == 0)) (places TpSrc) part
same-shown port a b places part TpDst = ap₂ (λ (t : Bool) (z : ℕ). t && (z == 0)) (places TpDst) part
same-shown port a b places part f = places f

-- ---- the headers of a frame further on

arp-places : (x y : ℕ) (f : FieldId) → is_some (in_arp y f) ≡ is_some (in_arp x f)
arp-places x y ArpSha = refl
arp-places x y f = refl

ipv4-places : (x y : ℕ) (f : FieldId) → is_some (in_ipv4 y f) ≡ is_some (in_ipv4 x f)
ipv4-places x y NwSrc = refl
ipv4-places x y f = refl

ipv6-places : (x y : ℕ) (f : FieldId) → is_some (in_ipv6 y f) ≡ is_some (in_ipv6 x f)
ipv6-places x y NwTos = refl
ipv6-places x y f = refl

network-places : (s : ℕ) (n : Network) (f : FieldId) → is_some (in_network (place_of_network (network_on s n)) f) ≡ is_some (in_network (place_of_network n) f)
network-places s Nothing f = refl
network-places s (Arp at) f = arp-places at (at + s) f
network-places s (Ipv4 at d) f = ipv4-places at (at + s) f
network-places s (Ipv6 at d) f = ipv6-places at (at + s) f

module _ (a b : List ℕ) (from s : ℕ) (sized : length b ≡ length a + s) (same : (i : ℕ) → from ≤ i → slice_index b (i + s) ≡ slice_index a i) (whole : header_size ≤ length a)
    (begins : from ≤ (carried a).at) (carries : carried b ≡ carried_on s (carried a)) where
  port-places : (offset : ℕ) (h : L4) → is_some (port_at offset (l4_on a b from s sized same h)) ≡ is_some (port_at offset h)
  port-places offset l4.None = refl
  port-places offset (l4.Tcp at) = refl
  port-places offset (l4.Udp at) = refl
  port-places offset (l4.Icmp at) = refl
  port-places offset (l4.Icmp6 at) = refl

  layouts : (t u : ℕ) → SamePlaces (layout_with u (network a)) (layout_with t (network_on s (network a)))
  layouts t u DlSrc = refl
  layouts t u DlDst = refl
  layouts t u TpSrc = ap (λ (h : L4). is_some (port_at 0 h)) (transport-on a b from s sized same (network a)) ∙ port-places 0 (transport (network a))
  layouts t u TpDst = ap (λ (h : L4). is_some (port_at 2 h)) (transport-on a b from s sized same (network a)) ∙ port-places 2 (transport (network a))
  layouts t u f = network-places s (network a) f

  pub moved-places : SamePlaces (layout_of a) (layout_of b)
  moved-places f =
      let b-is = whole-layout b (omega (arith, sized, whole)) ∙ ap (layout_with (tag_count b)) (network-from a b from s sized same whole begins carries) in
      ap (λ (l : Layout). is_some (place_in l f)) b-is ∙ layouts (tag_count b) (tag_count a) f ∙ ap (λ (l : Layout). is_some (place_in l f)) (sym (whole-layout a whole))
