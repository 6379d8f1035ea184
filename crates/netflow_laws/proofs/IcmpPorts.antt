-- Of a packet of ICMP over IPv4, type and code have 8 bits each.
use Rattle.std.proofs.Common.{◌≡◌, ℕ, ◌+◌, ◌<◌, List, refl, sym, ◌∙◌, inl, inr, arith}
use Rattle.std.specs.Prelude.{slice_index, ◌==◌, IsTrue}
use Rattle.std.proofs.lemmas.Bool.{cases_Bool, eqb-true, false≢true, eq-eqb}
use Rattle.spec_keys.specs.declared.field_id.FieldId.TheVariants.{NwProto, IpFrag, TpSrc, TpDst}
use Rattle.spec_keys.specs.Keys.{value_of}
use Rattle.spec_keys.specs.Protocols.{icmp_protocol, tcp_protocol, udp_protocol}
use Rattle.spec_frames.specs.declared.layout.L3.TheVariants as network
use Rattle.spec_frames.specs.declared.layout.L4.{L4}
use Rattle.spec_frames.specs.declared.layout.L4.TheVariants as transport
use Rattle.spec_frames.specs.Key.{key_of}
use Rattle.spec_frames.specs.Layout.{layout_of}
use Rattle.frame_laws.specs.Headers.{is_ip}
use Rattle.frame_laws.specs.Numbers.{HasPorts}
use Rattle.frame_laws.proofs.PortLaws.{ports_of_whole, ports_of_fragment}
use Rattle.frame_laws.proofs.TransportLaws.{named-iff}

module _ (port : ℕ) (frame : List ℕ) (at : ℕ) (bytes : (k : ℕ) → slice_index frame k < 256)
    (ipv4 : (layout_of frame).l3 ≡ network.Ipv4 at) (icmp : value_of (key_of port frame) NwProto ≡ icmp_protocol) where
  abbrev key : List ℕ
  key = key_of port frame

  abbrev AreBytes : Type 0
  AreBytes = (value_of key TpSrc < 256) × (value_of key TpDst < 256)

  from_ports : (source destination : ℕ) → source < 256 → destination < 256 → HasPorts key source destination → AreBytes
  from_ports source destination first second has = (rw (has.tp_src) first, rw (has.tp_dst) second)

  is_ip_here : IsTrue (is_ip (layout_of frame).l3)
  is_ip_here = rw ipv4 refl

  by_header : value_of key IpFrag ≡ 0 → (header : L4) → (layout_of frame).l4 ≡ header → AreBytes
  by_header whole transport.None is = from_ports 0 0 (omega arith) (omega arith) (ports_of_whole port frame transport.None whole is)
  by_header whole (transport.Tcp a) is =
      let tcp : value_of key NwProto ≡ tcp_protocol = ((named-iff port frame (transport.Tcp a) (λ e. cc) is_ip_here).0 is).nw_proto in
      absurd (omega (arith, tcp, icmp))
  by_header whole (transport.Udp a) is =
      let udp : value_of key NwProto ≡ udp_protocol = ((named-iff port frame (transport.Udp a) (λ e. cc) is_ip_here).0 is).nw_proto in
      absurd (omega (arith, udp, icmp))
  by_header whole (transport.Icmp a) is = from_ports (slice_index frame a) (slice_index frame (a + 1)) (bytes a) (bytes (a + 1)) (ports_of_whole port frame (transport.Icmp a) whole is)
  by_header whole (transport.Icmp6 a) is = from_ports (slice_index frame a) (slice_index frame (a + 1)) (bytes a) (bytes (a + 1)) (ports_of_whole port frame (transport.Icmp6 a) whole is)

  pub type_and_code : AreBytes
  type_and_code = elim (cases_Bool (value_of key IpFrag == 0)) [
    | inl whole ↦ by_header (eqb-true (value_of key IpFrag) 0 whole) (layout_of frame).l4 refl
    | inr part ↦ from_ports 0 0 (omega arith) (omega arith) (ports_of_fragment port frame (λ e. false≢true (sym part ∙ eq-eqb (value_of key IpFrag) 0 e)))
  ]
