-- Where the headers are there that a key tells of, the frame shows each field that a flow action can write.
use Rattle.std.proofs.Common.{◌≡◌, ℕ, Bool, true, false, ◌||◌, ◌&&◌, ◌==◌, is_some, List, ◌⊎◌, inl, inr, refl, ap₂}
use Rattle.std.proofs.lemmas.Bool.{and_parts}
use Rattle.spec_keys.specs.declared.field_id.FieldId.{FieldId}
use Rattle.spec_keys.specs.declared.field_id.FieldId.TheVariants as field
use Rattle.spec_keys.specs.Keys.{value_of}
use Rattle.spec_keys.specs.Protocols.{ipv4_type, ipv6_type, arp_type, tcp_protocol, udp_protocol}
use Rattle.spec_frames.specs.declared.layout.L3.{L3}
use Rattle.spec_frames.specs.declared.layout.L3.TheVariants as l3
use Rattle.spec_frames.specs.declared.layout.L4.{L4}
use Rattle.spec_frames.specs.declared.layout.L4.TheVariants as l4
use Rattle.spec_frames.specs.Layout.{layout_of}
use Rattle.spec_frames.specs.Key.{key_of}
use Rattle.spec_xlate.specs.Needs.{is_ip, is_unfragmented, is_protocol, is_met}
use Rattle.spec_exec.specs.Places.{in_network, port_at}
use Rattle.frame_laws.specs.Headers.{is_ipv4, is_ipv6}
use Rattle.exec_laws.specs.ReadBack.{shows}
use Rattle.exec_laws.specs.Become.{is_of_tags, is_register}
use Rattle.exec_laws.specs.Made.{can_change}
use Rattle.exec_laws.specs.Received.{is_arp, has_ports, HasItsHeaders}

-- ---- what a header has

arp-source : (h : L3) → is_arp h ≡ true → (is_some (in_network h field.NwSrc) ≡ true) × (is_some (in_network h field.NwDst) ≡ true)
arp-source (l3.Arp at) e = (refl, refl)
arp-source h e = absurd cc

arp-hardware : (h : L3) → is_arp h ≡ true → (is_some (in_network h field.ArpSha) ≡ true) × (is_some (in_network h field.ArpTha) ≡ true)
arp-hardware (l3.Arp at) e = (refl, refl)
arp-hardware h e = absurd cc

ipv4-source : (h : L3) → is_ipv4 h ≡ true → (is_some (in_network h field.NwSrc) ≡ true) × (is_some (in_network h field.NwDst) ≡ true)
ipv4-source (l3.Ipv4 at) e = (refl, refl)
ipv4-source h e = absurd cc

ipv4-rest : (h : L3) → is_ipv4 h ≡ true → (is_some (in_network h field.NwTos) ≡ true) × (is_some (in_network h field.NwTtl) ≡ true)
ipv4-rest (l3.Ipv4 at) e = (refl, refl)
ipv4-rest h e = absurd cc

ipv6-source : (h : L3) → is_ipv6 h ≡ true → (is_some (in_network h field.Ipv6Src) ≡ true) × (is_some (in_network h field.Ipv6Dst) ≡ true)
ipv6-source (l3.Ipv6 at) e = (refl, refl)
ipv6-source h e = absurd cc

ipv6-rest : (h : L3) → is_ipv6 h ≡ true → (is_some (in_network h field.NwTos) ≡ true) × (is_some (in_network h field.NwTtl) ≡ true)
ipv6-rest (l3.Ipv6 at) e = (refl, refl)
ipv6-rest h e = absurd cc

port-there : (offset : ℕ) (h : L4) → has_ports h ≡ true → is_some (port_at offset h) ≡ true
port-there offset (l4.Tcp at) e = refl
port-there offset (l4.Udp at) e = refl
port-there offset h e = absurd cc

either-true : (t u : Bool) → (t || u) ≡ true → (t ≡ true) ⊎ (u ≡ true)
either-true true u e = inl refl
either-true false u e = inr e

-- ---- fields

module _ (port : ℕ) (frame : List ℕ) (headers : HasItsHeaders port frame) where
  abbrev key : List ℕ
  key = key_of port frame

  abbrev network : L3
  network = (layout_of frame).l3

  abbrev is_type : ℕ → Bool
  is_type number = value_of key field.DlType == number

  source : (is_type ipv4_type || is_type arp_type) ≡ true → (is_some (in_network network field.NwSrc) ≡ true) × (is_some (in_network network field.NwDst) ≡ true)
  unfolding is_met
  source e = at (either-true (is_type ipv4_type) (is_type arp_type) e)
    where
      at : (is_type ipv4_type ≡ true) ⊎ (is_type arp_type ≡ true) → (is_some (in_network network field.NwSrc) ≡ true) × (is_some (in_network network field.NwDst) ≡ true)
      at (inl h) = ipv4-source network (headers.ipv4 h)
      at (inr h) = arp-source network (headers.arp h)

  rest : (is_type ipv4_type || is_type ipv6_type) ≡ true → (is_some (in_network network field.NwTos) ≡ true) × (is_some (in_network network field.NwTtl) ≡ true)
  unfolding is_met
  rest e = at (either-true (is_type ipv4_type) (is_type ipv6_type) e)
    where
      at : (is_type ipv4_type ≡ true) ⊎ (is_type ipv6_type ≡ true) → (is_some (in_network network field.NwTos) ≡ true) × (is_some (in_network network field.NwTtl) ≡ true)
      at (inl h) = ipv4-rest network (headers.ipv4 h)
      at (inr h) = ipv6-rest network (headers.ipv6 h)

  ports : (offset : ℕ) → (is_ip key && ((is_protocol tcp_protocol key || is_protocol udp_protocol key) && is_unfragmented key)) ≡ true
      → (is_some (port_at offset (layout_of frame).l4) && is_unfragmented key) ≡ true
  unfolding is_met
  ports offset e =
      let parts = and_parts (is_ip key) ((is_protocol tcp_protocol key || is_protocol udp_protocol key) && is_unfragmented key) e in
      let whole = and_parts (is_protocol tcp_protocol key || is_protocol udp_protocol key) (is_unfragmented key) parts.1 in
      ap₂ (λ (t u : Bool). t && u) (port-there offset (layout_of frame).l4 (headers.transport e)) whole.1

  pub shown-change : (f : FieldId) → is_register f ≡ false → is_of_tags f ≡ false → can_change key f ≡ true → shows port frame f ≡ true
  unfolding is_met
  shown-change field.InPort r t e = absurd cc
  shown-change field.DlType r t e = absurd cc
  shown-change field.NwProto r t e = absurd cc
  shown-change field.IpFrag r t e = absurd cc
  shown-change field.VlanTci r t e = absurd cc
  shown-change field.VlanTpid r t e = absurd cc
  shown-change field.VlanTci2 r t e = absurd cc
  shown-change field.VlanTpid2 r t e = absurd cc
  shown-change field.DlSrc r t e = refl
  shown-change field.DlDst r t e = refl
  shown-change field.NwSrc r t e = (source e).0
  shown-change field.NwDst r t e = (source e).1
  shown-change field.Ipv6Src r t e = (ipv6-source network (headers.ipv6 e)).0
  shown-change field.Ipv6Dst r t e = (ipv6-source network (headers.ipv6 e)).1
  shown-change field.NwTos r t e = (rest e).0
  shown-change field.NwTtl r t e = (rest e).1
  shown-change field.ArpSha r t e = (arp-hardware network (headers.arp e)).0
  shown-change field.ArpTha r t e = (arp-hardware network (headers.arp e)).1
  shown-change field.TpSrc r t e = ports 0 e
  shown-change field.TpDst r t e = ports 2 e
  shown-change f r t e = absurd cc
