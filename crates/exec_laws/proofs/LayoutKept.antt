-- A write leaves the headers where they stand.
use Rattle.std.proofs.Common.{◌≡◌, ℕ, ◌+◌, ◌^◌, ◌<◌, ◌≤◌, List, length, slice_index, refl, sym, ap, ap₂, ◌∙◌, arith}
use Rattle.spec_frames.specs.declared.headers.Datagram.{Datagram}
use Rattle.spec_frames.specs.declared.headers.UpperLayer.{UpperLayer}
use Rattle.spec_frames.specs.declared.headers.Network.{Network}
use Rattle.spec_frames.specs.declared.headers.Network.TheVariants.{Nothing, Arp, Ipv4, Ipv6}
use Rattle.spec_frames.specs.Ethernet.{tag_count, header_size, type_at}
use Rattle.spec_frames.specs.Network.{network}
use Rattle.spec_frames.specs.Transport.{transport}
use Rattle.spec_frames.specs.Layout.{layout_with, layout_of}
use Rattle.spec_base.specs.Bytes.{big_endian_at}
use Rattle.spec_keys.specs.declared.field_id.FieldId.TheVariants.{DlSrc, DlDst}
use Rattle.spec_actions.specs.declared.action.DpAction.TheVariants.{Set}
use Rattle.spec_base.specs.Bits.{merged}
use Rattle.spec_exec.specs.Writing.{with_number}
use Rattle.spec_exec.specs.Rewriting.{after_action}
use Rattle.exec_laws.specs.ReadBack.{AreBytes}
use Rattle.exec_laws.proofs.Replacing.{with_number-length, with_number-after}
use Rattle.frame_laws.proofs.keys.Forms.{whole-layout}
use Rattle.exec_laws.proofs.Moved.{upper_on, datagram_on, network_on}
use Rattle.exec_laws.proofs.Addresses.{set-whole, src-set, dst-set, network-moved, count-same, carried-same, sized_on, same_on}
use Rattle.exec_laws.proofs.Ipv4Key.{HasIpv4, network-of, kept-has, kept-count, kept-upper, kept-end}

plus_none : (n : ℕ) → n + 0 ≡ n
plus_none n = omega arith

upper-on-none : (u : UpperLayer) → upper_on 0 u ≡ u
upper-on-none u = ap (λ (z : ℕ). record { protocol = u.protocol; at = z; fragment = u.fragment; routed = u.routed }) (plus_none u.at)

datagram-on-none : (d : Datagram) → datagram_on 0 d ≡ d
datagram-on-none d = ap₂ (λ (z : ℕ) (u : UpperLayer). record { tos = d.tos; ttl = d.ttl; end = z; upper = u }) (plus_none d.end) (upper-on-none d.upper)

network-on-none : (n : Network) → network_on 0 n ≡ n
network-on-none Nothing = refl
network-on-none (Arp at) = ap Arp (plus_none at)
network-on-none (Ipv4 at d) = ap₂ Ipv4 (plus_none at) (datagram-on-none d)
network-on-none (Ipv6 at d) = ap₂ Ipv6 (plus_none at) (datagram-on-none d)

pub addressed-layout : (a b : List ℕ) (sized : length b ≡ length a) (same : (i : ℕ) → type_at ≤ i → slice_index b i ≡ slice_index a i) (whole : header_size ≤ length a)
    → layout_of b ≡ layout_of a
addressed-layout a b sized same whole =
    let n = network-moved a b 0 (sized_on a b sized same whole) (same_on a b sized same whole) whole (carried-same a b sized same whole) ∙ network-on-none (network a) in
    whole-layout b (omega (arith, sized, whole)) ∙ ap₂ layout_with (count-same a b sized same whole) n ∙ sym (whole-layout a whole)

module _ (port : ℕ) (frame : List ℕ) (bytes : AreBytes frame) (whole : header_size ≤ length frame) (value mask : ℕ) (fits : mask < 2 ^ 48) where
  pub dl_src-layout : layout_of (after_action (Set DlSrc value mask) frame) ≡ layout_of frame
  dl_src-layout =
      let new = merged (big_endian_at 6 frame 6) value mask in
      ap layout_of (set-whole frame whole DlSrc value mask ∙ src-set port frame bytes whole value mask fits)
      ∙ addressed-layout frame (with_number 6 frame 6 new) (with_number-length 6 frame 6 new (omega arith)) (λ i l. with_number-after 6 frame 6 new (omega arith) i l) whole

  pub dl_dst-layout : layout_of (after_action (Set DlDst value mask) frame) ≡ layout_of frame
  dl_dst-layout =
      let new = merged (big_endian_at 6 frame 0) value mask in
      ap layout_of (set-whole frame whole DlDst value mask ∙ dst-set port frame bytes whole value mask fits)
      ∙ addressed-layout frame (with_number 6 frame 0 new) (with_number-length 6 frame 0 new (omega arith)) (λ i l. with_number-after 6 frame 0 new (omega arith) i (omega arith)) whole

-- of a packet of IPv4, other bytes of the header or after it
pub ipv4-layout : (a b : List ℕ) (at : ℕ) (has : HasIpv4 a at) (sized : length b ≡ length a) (same : (i : ℕ) → i < at + 1 → slice_index b i ≡ slice_index a i)
    (critical : (i : ℕ) → at + 2 ≤ i → i < at + 8 → slice_index b i ≡ slice_index a i) (protocol : slice_index b (at + 9) ≡ slice_index a (at + 9)) → header_size ≤ at
    → layout_of b ≡ layout_of a
unfolding transport
ipv4-layout a b at has sized same critical protocol far =
    let now = kept-has a b at has sized same critical protocol in
    whole-layout b now.whole ∙ ap₂ layout_with (kept-count a b at has sized same critical protocol) (network-of b at now)
    ∙ ap₂ (λ (u : UpperLayer) (e : ℕ). layout_with (tag_count a) (Ipv4 at (record { tos = 0; ttl = 0; end = e; upper = u })))
    (kept-upper a b at has sized same critical protocol) (kept-end a b at has sized same critical protocol)
    ∙ ap (layout_with (tag_count a)) (sym (network-of a at has)) ∙ sym (whole-layout a has.whole)
