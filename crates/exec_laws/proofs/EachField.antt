-- What is shown of each header is shown of each field: a write leaves the headers where they stand, and reads back.
use Rattle.std.proofs.Common.{◌≡◌, ℕ, ◌^◌, ◌<◌, ◌≤◌, Bool, true, false, ◌&&◌, is_some, nat_lt, List, length, slice_index, Option, Some, None, bit_and, ◌⊎◌, inl, inr, refl, ap, ◌∙◌}
use Rattle.std.proofs.lemmas.Bool.{cases_lt, cond_both, cond-true, lt-ltb, eqb-true, eqb-false, and_parts}
use Rattle.std.proofs.lemmas.Nat.{and_mask, mod_below, pow_pos}
use Rattle.spec_base.specs.Bits.{all_bits}
use Rattle.spec_keys.specs.declared.field_id.FieldId.{FieldId}
use Rattle.spec_keys.specs.declared.field_id.FieldId.TheVariants.{DlSrc, DlDst, NwSrc, NwDst, Ipv6Src, Ipv6Dst, NwTos, NwTtl, IpFrag, ArpSha, ArpTha, TpSrc, TpDst}
use Rattle.spec_keys.specs.Fields.{width_of}
use Rattle.spec_keys.specs.Keys.{value_of}
use Rattle.spec_frames.specs.declared.layout.L3.{L3}
use Rattle.spec_frames.specs.declared.layout.L3.TheVariants as l3
use Rattle.spec_frames.specs.declared.layout.L4.{L4}
use Rattle.spec_frames.specs.declared.layout.L4.TheVariants as l4
use Rattle.spec_frames.specs.Ethernet.{header_size}
use Rattle.spec_frames.specs.Layout.{layout_of}
use Rattle.spec_frames.specs.Key.{key_of}
use Rattle.spec_exec.specs.Places.{port_at, in_network, Place, place_in, sums_of}
use Rattle.spec_actions.specs.declared.action.DpAction.{DpAction}
use Rattle.spec_actions.specs.declared.action.DpAction.TheVariants.{Set}
use Rattle.spec_xlate.specs.Needs.{is_unfragmented}
use Rattle.spec_exec.specs.Rewriting.{set_field, changed, after_action}
use Rattle.exec_laws.specs.ReadBack.{AreBytes, shows, ReadsBack}
use Rattle.exec_laws.specs.Elsewhere.{IsNoPlace, IsNoSum}
use Rattle.exec_laws.proofs.Untouched.{set-untouched}
use Rattle.exec_laws.proofs.Bytes.{byte}
use Rattle.exec_laws.proofs.Fields.{mask-fits}
use Rattle.exec_laws.proofs.Addresses.{dl_src-reads-back, dl_dst-reads-back}
use Rattle.exec_laws.proofs.LayoutKept.{dl_src-layout, dl_dst-layout}
use Rattle.exec_laws.proofs.ArpBack.{arp_sha-layout, arp_tha-layout, arp_spa-layout, arp_tpa-layout, arp_sha-reads-back, arp_tha-reads-back, arp_spa-reads-back, arp_tpa-reads-back}
use Rattle.exec_laws.proofs.Ipv4Back.{nw_src-layout, nw_dst-layout, nw_tos-layout, nw_ttl-layout, nw_src-reads-back, nw_dst-reads-back, nw_tos-reads-back, nw_ttl-reads-back}
use Rattle.exec_laws.proofs.Ipv6Back.{ipv6_src-layout, ipv6_dst-layout, ipv6_tos-layout, ipv6_ttl-layout, ipv6_src-reads-back, ipv6_dst-reads-back, ipv6_tos-reads-back, ipv6_ttl-reads-back}
use Rattle.exec_laws.proofs.PortBack.{PortsAt, source-layout, destination-layout, source-fragment, destination-fragment, source-reads-back, destination-reads-back}

-- ---- a field whose header isn't there

-- no bits of a mask beyond the width of the field are written
cut : FieldId → ℕ → ℕ
cut f mask = bit_and mask (all_bits (width_of f))

cut-lt : (f : FieldId) (mask : ℕ) → cut f mask < 2 ^ width_of f
unfolding cut
cut-lt f mask = rw (and_mask mask (width_of f)) (mod_below mask (2 ^ width_of f) (pow_pos (width_of f)))

cut-same : (f : FieldId) (value mask : ℕ) (frame : List ℕ) → after_action (Set f value mask) frame ≡ after_action (Set f value (cut f mask)) frame
unfolding after_action set_field cut
cut-same f value mask frame = rw (mask-fits (width_of f) (bit_and mask (all_bits (width_of f))) (cut-lt f mask)) refl

pub short-stays : (action : DpAction) (frame : List ℕ) → length frame < header_size → after_action action frame ≡ frame
unfolding after_action
short-stays action frame short = cond-true (nat_lt (length frame) header_size) frame (changed action frame) (lt-ltb (length frame) header_size short)

pub unplaced-stays : (f : FieldId) (value mask : ℕ) (frame : List ℕ) → place_in (layout_of frame) f ≡ None → after_action (Set f value mask) frame ≡ frame
unfolding after_action set_field
unplaced-stays f value mask frame none =
    cond_both (nat_lt (length frame) header_size) frame _ (λ (z : List ℕ). z ≡ frame) (λ e. refl) (λ e. rw none refl)

pub not-some : (o : Option Place) → is_some o ≡ false → o ≡ None
not-some None e = refl
not-some (Some p) e = absurd cc

-- what a layout says that names a place for ports
ports-named : (offset : ℕ) (h : L4) → is_some (port_at offset h) ≡ true → (x : ℕ) × PortsAt x h
ports-named offset l4.None s = absurd cc
ports-named offset (l4.Tcp x) s = (x, refl)
ports-named offset (l4.Udp x) s = (x, refl)
ports-named offset (l4.Icmp x) s = absurd cc
ports-named offset (l4.Icmp6 x) s = absurd cc

module _ (port : ℕ) (frame : List ℕ) (bytes : AreBytes frame) (whole : header_size ≤ length frame) (value mask : ℕ) where
  -- ---- the layout

  network-layout : (h : L3) (f : FieldId) → (layout_of frame).l3 ≡ h → is_some (in_network h f) ≡ true → mask < 2 ^ width_of f
      → layout_of (after_action (Set f value mask) frame) ≡ layout_of frame
  network-layout l3.None f e s l = absurd cc
  network-layout (l3.Arp at) ArpSha e s l = arp_sha-layout 0 frame bytes at e value mask
  network-layout (l3.Arp at) ArpTha e s l = arp_tha-layout 0 frame bytes at e value mask
  network-layout (l3.Arp at) NwSrc e s l = arp_spa-layout 0 frame bytes at e value mask
  network-layout (l3.Arp at) NwDst e s l = arp_tpa-layout 0 frame bytes at e value mask
  network-layout (l3.Arp at) f e s l = absurd cc
  network-layout (l3.Ipv4 at) NwSrc e s l = nw_src-layout frame at e value mask
  network-layout (l3.Ipv4 at) NwDst e s l = nw_dst-layout frame at e value mask
  network-layout (l3.Ipv4 at) NwTos e s l = nw_tos-layout frame at e value mask
  network-layout (l3.Ipv4 at) NwTtl e s l = nw_ttl-layout frame at e value mask
  network-layout (l3.Ipv4 at) f e s l = absurd cc
  network-layout (l3.Ipv6 at) Ipv6Src e s l = ipv6_src-layout frame at e 0 bytes value mask
  network-layout (l3.Ipv6 at) Ipv6Dst e s l = ipv6_dst-layout frame at e 0 bytes value mask
  network-layout (l3.Ipv6 at) NwTos e s l = ipv6_tos-layout frame at e 0 bytes value mask l
  network-layout (l3.Ipv6 at) NwTtl e s l = ipv6_ttl-layout frame at e 0 bytes value mask
  network-layout (l3.Ipv6 at) f e s l = absurd cc

  placed-layout : (f : FieldId) → is_some (place_in (layout_of frame) f) ≡ true → mask < 2 ^ width_of f → layout_of (after_action (Set f value mask) frame) ≡ layout_of frame
  placed-layout DlSrc s l = dl_src-layout 0 frame bytes whole value mask l
  placed-layout DlDst s l = dl_dst-layout 0 frame bytes whole value mask l
  placed-layout TpSrc s l = let named = ports-named 0 (layout_of frame).l4 s in source-layout frame whole named.0 named.1 value mask
  placed-layout TpDst s l = let named = ports-named 2 (layout_of frame).l4 s in destination-layout frame whole named.0 named.1 value mask
  placed-layout f s l = network-layout (layout_of frame).l3 f refl s l

  -- ---- the key

  network-back : (h : L3) (f : FieldId) → (layout_of frame).l3 ≡ h → is_some (in_network h f) ≡ true → mask < 2 ^ width_of f → ReadsBack port frame f value mask
  network-back l3.None f e s l = absurd cc
  network-back (l3.Arp at) ArpSha e s l = arp_sha-reads-back port frame bytes at e value mask l
  network-back (l3.Arp at) ArpTha e s l = arp_tha-reads-back port frame bytes at e value mask l
  network-back (l3.Arp at) NwSrc e s l = arp_spa-reads-back port frame bytes at e value mask l
  network-back (l3.Arp at) NwDst e s l = arp_tpa-reads-back port frame bytes at e value mask l
  network-back (l3.Arp at) f e s l = absurd cc
  network-back (l3.Ipv4 at) NwSrc e s l = nw_src-reads-back frame at e value mask (byte frame bytes) port l
  network-back (l3.Ipv4 at) NwDst e s l = nw_dst-reads-back frame at e value mask (byte frame bytes) port l
  network-back (l3.Ipv4 at) NwTos e s l = nw_tos-reads-back frame at e value mask (byte frame bytes) port l
  network-back (l3.Ipv4 at) NwTtl e s l = nw_ttl-reads-back frame at e value mask (byte frame bytes) port l
  network-back (l3.Ipv4 at) f e s l = absurd cc
  network-back (l3.Ipv6 at) Ipv6Src e s l = ipv6_src-reads-back frame at e port bytes value mask l
  network-back (l3.Ipv6 at) Ipv6Dst e s l = ipv6_dst-reads-back frame at e port bytes value mask l
  network-back (l3.Ipv6 at) NwTos e s l = ipv6_tos-reads-back frame at e port bytes value mask l
  network-back (l3.Ipv6 at) NwTtl e s l = ipv6_ttl-reads-back frame at e port bytes value mask l
  network-back (l3.Ipv6 at) f e s l = absurd cc

  pub field-back : (f : FieldId) → shows port frame f ≡ true → mask < 2 ^ width_of f → ReadsBack port frame f value mask
  field-back DlSrc s l = dl_src-reads-back port frame bytes whole value mask l
  field-back DlDst s l = dl_dst-reads-back port frame bytes whole value mask l
  field-back TpSrc s l =
      let parts = and_parts (is_some (port_at 0 (layout_of frame).l4)) _ s in
      let named = ports-named 0 (layout_of frame).l4 parts.0 in
      source-reads-back frame whole named.0 named.1 value mask port (byte frame bytes) (eqb-true (value_of (key_of port frame) IpFrag) 0 parts.1) l
  field-back TpDst s l =
      let parts = and_parts (is_some (port_at 2 (layout_of frame).l4)) _ s in
      let named = ports-named 2 (layout_of frame).l4 parts.0 in
      destination-reads-back frame whole named.0 named.1 value mask port (byte frame bytes) (eqb-true (value_of (key_of port frame) IpFrag) 0 parts.1) l
  field-back f s l = network-back (layout_of frame).l3 f refl s l

  -- ---- a field that the key doesn't show

  unnamed-key : (f : FieldId) → is_some (place_in (layout_of frame) f) ≡ false → key_of port (after_action (Set f value mask) frame) ≡ key_of port frame
  unnamed-key f none = ap (key_of port) (unplaced-stays f value mask frame (not-some (place_in (layout_of frame) f) none))

  pub unshown-key : (f : FieldId) → shows port frame f ≡ false → key_of port (after_action (Set f value mask) frame) ≡ key_of port frame
  unshown-key TpSrc s = by (is_some (place_in (layout_of frame) TpSrc)) refl s
    where
      by : (t : Bool) → is_some (place_in (layout_of frame) TpSrc) ≡ t → (t && is_unfragmented (key_of port frame)) ≡ false
          → key_of port (after_action (Set TpSrc value mask) frame) ≡ key_of port frame
      by true e s =
          let named = ports-named 0 (layout_of frame).l4 e in
          source-fragment frame whole named.0 named.1 value mask port (eqb-false (value_of (key_of port frame) IpFrag) 0 s)
      by false e s = unnamed-key TpSrc e
  unshown-key TpDst s = by (is_some (place_in (layout_of frame) TpDst)) refl s
    where
      by : (t : Bool) → is_some (place_in (layout_of frame) TpDst) ≡ t → (t && is_unfragmented (key_of port frame)) ≡ false
          → key_of port (after_action (Set TpDst value mask) frame) ≡ key_of port frame
      by true e s =
          let named = ports-named 2 (layout_of frame).l4 e in
          destination-fragment frame whole named.0 named.1 value mask port (eqb-false (value_of (key_of port frame) IpFrag) 0 s)
      by false e s = unnamed-key TpDst e
  unshown-key f s = unnamed-key f s

-- a write leaves the headers of any frame of bytes where they stand
pub field-layout : (frame : List ℕ) → AreBytes frame → (f : FieldId) (value mask : ℕ) → layout_of (after_action (Set f value mask) frame) ≡ layout_of frame
field-layout frame bytes f value mask = by (cases_lt (length frame) header_size)
  where
    named : header_size ≤ length frame → (t : Bool) → is_some (place_in (layout_of frame) f) ≡ t → layout_of (after_action (Set f value mask) frame) ≡ layout_of frame
    named whole true s = ap layout_of (cut-same f value mask frame) ∙ placed-layout 0 frame bytes whole value (cut f mask) f s (cut-lt f mask)
    named whole false s = ap layout_of (unplaced-stays f value mask frame (not-some (place_in (layout_of frame) f) s))

    by : (length frame < header_size) ⊎ (header_size ≤ length frame) → layout_of (after_action (Set f value mask) frame) ≡ layout_of frame
    by (inl short) = ap layout_of (short-stays (Set f value mask) frame short)
    by (inr whole) = named whole (is_some (place_in (layout_of frame) f)) refl

-- and all bytes but those of the field and of its checksums
pub any-untouched : (f : FieldId) (value mask : ℕ) (frame : List ℕ) (i : ℕ) → IsNoPlace i (place_in (layout_of frame) f) → IsNoSum i (sums_of (layout_of frame) f)
    → slice_index (after_action (Set f value mask) frame) i ≡ slice_index frame i
any-untouched f value mask frame i o q = by (cases_lt (length frame) header_size)
  where
    by : (length frame < header_size) ⊎ (header_size ≤ length frame) → slice_index (after_action (Set f value mask) frame) i ≡ slice_index frame i
    by (inl short) = ap (λ (z : List ℕ). slice_index z i) (short-stays (Set f value mask) frame short)
    by (inr whole) = set-untouched f value mask frame i whole o q
