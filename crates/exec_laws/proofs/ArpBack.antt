-- The fields of ARP read back, and leave the headers where they stand.
use Rattle.std.proofs.Common.{◌≡◌, ◌≢◌, ℕ, ◌+◌, ◌*◌, ◌^◌, ◌<◌, ◌≤◌, true, List, length, slice_index, All, bit_and, ◌⊎◌, inl, inr, refl, sym, ap, ap₂, ◌∙◌, subst, arith}
use Rattle.std.proofs.Math.Nat.{mod-eq_of_lt}
use Rattle.spec_base.specs.Bits.{all_bits, merged}
use Rattle.spec_base.specs.Bytes.{big_endian_at}
use Rattle.spec_keys.specs.declared.field_id.FieldId.TheVariants.{NwSrc, NwDst, NwProto, ArpSha, ArpTha}
use Rattle.spec_keys.specs.Keys.{none, value_of}
use Rattle.spec_keys.specs.Protocols.{arp_type}
use Rattle.spec_frames.specs.declared.headers.Carried.{Carried}
use Rattle.spec_frames.specs.declared.headers.Network.{Network}
use Rattle.spec_frames.specs.declared.headers.Network.TheVariants as network
use Rattle.spec_frames.specs.declared.layout.L3.TheVariants as l3
use Rattle.spec_frames.specs.declared.layout.L4.TheVariants as l4
use Rattle.spec_frames.specs.Ethernet.{tag_count, carried, no_type, header_size}
use Rattle.spec_frames.specs.Arp.{is_arp, key_operation}
use Rattle.spec_frames.specs.Network.{network_at, network}
use Rattle.spec_frames.specs.Transport.{transport}
use Rattle.spec_frames.specs.Key.{with_value, with_network, key_of}
use Rattle.spec_frames.specs.Layout.{place_of_network, layout_with, layout_of}
use Rattle.spec_actions.specs.declared.action.DpAction.TheVariants.{Set}
use Rattle.spec_exec.specs.Writing.{with_number}
use Rattle.spec_exec.specs.Rewriting.{corrected, set_field, after_action}
use Rattle.frame_laws.proofs.keys.Forms.{Tags, by_length, by_network, ethernet_key, whole-key, whole-layout}
use Rattle.frame_laws.proofs.HeaderLaws.{carried-least}
use Rattle.exec_laws.proofs.Bytes.{big_endian_at-lt}
use Rattle.exec_laws.specs.ReadBack.{ReadsBack}
use Rattle.exec_laws.proofs.Replacing.{number-same, with_number-length, with_number-reads, with_number-before, with_number-apart}
use Rattle.exec_laws.proofs.Within.{Fits3, l3-fits}
use Rattle.exec_laws.proofs.Fields.{merged-lt, mask-fits, unit_one}
use Rattle.exec_laws.proofs.Addresses.{set-whole, shown_tags}
use Rattle.exec_laws.proofs.Kept.{count-kept, carried-kept, tags-kept}

-- what a frame has in which the layout names ARP at an offset
record HasArp (frame : List ℕ) (at : ℕ) : Type 0 where
  whole : header_size ≤ length frame
  carries : carried frame ≡ record { dl_type = arp_type; at = at }
  is_there : is_arp frame at ≡ true

layout-has : (frame : List ℕ) (at : ℕ) → (layout_of frame).l3 ≡ l3.Arp at → HasArp frame at
layout-has frame at =
    by_length 0 frame (λ key layout. layout.l3 ≡ l3.Arp at → HasArp frame at) (λ short e. absurd cc)
    (λ whole. by_network frame (carried frame).dl_type (carried frame).at (λ n. place_of_network n ≡ l3.Arp at → HasArp frame at)
    (λ e. absurd cc)
    (λ t h e. let same : (carried frame).at ≡ at = cc in
    record { whole = whole; carries = ap₂ (λ (x y : ℕ). record { dl_type = x; at = y }) t same; is_there = subst (λ (z : ℕ). is_arp frame z ≡ true) same h })
    (λ t h e. absurd cc) (λ t d h e. absurd cc))

no-transport : (frame : List ℕ) (at : ℕ) → (layout_of frame).l3 ≡ l3.Arp at → (layout_of frame).l4 ≡ l4.None
unfolding transport
no-transport frame at =
    by_length 0 frame (λ key layout. layout.l3 ≡ l3.Arp at → layout.l4 ≡ l4.None) (λ short e. refl)
    (λ whole. by_network frame (carried frame).dl_type (carried frame).at (λ n. place_of_network n ≡ l3.Arp at → transport n ≡ l4.None)
    (λ e. refl) (λ t h e. refl) (λ t h e. absurd cc) (λ t d h e. absurd cc))

abbrev arp_key : (port source destination : ℕ) → Tags → (nw_src nw_dst protocol sha tha : ℕ) → List ℕ
arp_key port source destination t nw_src nw_dst protocol sha tha =
    with_value ArpTha tha (with_value ArpSha sha (with_value NwProto protocol (with_value NwDst nw_dst (with_value NwSrc nw_src (ethernet_key port source destination arp_type t)))))

network-of : (frame : List ℕ) (at : ℕ) → HasArp frame at → network frame ≡ network.Arp at
unfolding network_at
network-of frame at h = ap (λ (c : Carried). network_at frame c.dl_type c.at) h.carries ∙ rw h.is_there refl

has-key : (port : ℕ) (frame : List ℕ) (at : ℕ) → HasArp frame at
    → key_of port frame
    ≡ arp_key port (big_endian_at 6 frame 6) (big_endian_at 6 frame 0) (shown_tags frame) (big_endian_at 4 frame (at + 14)) (big_endian_at 4 frame (at + 24))
    (key_operation (big_endian_at 2 frame (at + 6))) (big_endian_at 6 frame (at + 8)) (big_endian_at 6 frame (at + 18))
unfolding with_network
has-key port frame at h =
    whole-key port frame h.whole
    ∙ ap₂ (λ (c : Carried) (n : Network). with_network frame n (ethernet_key port (big_endian_at 6 frame 6) (big_endian_at 6 frame 0) c.dl_type (shown_tags frame))) h.carries
    (network-of frame at h)

module _ (port : ℕ) (frame : List ℕ) (bytes : All (λ byte. byte < 256) frame) (at : ℕ) (l3-is : (layout_of frame).l3 ≡ l3.Arp at) where
  has : HasArp frame at
  has = layout-has frame at l3-is

  room : at + 28 ≤ length frame
  room = subst (Fits3 frame) l3-is (l3-fits frame)

  abbrev key_with : (nw_src nw_dst sha tha : ℕ) → List ℕ
  key_with nw_src nw_dst sha tha =
      arp_key port (big_endian_at 6 frame 6) (big_endian_at 6 frame 0) (shown_tags frame) nw_src nw_dst (key_operation (big_endian_at 2 frame (at + 6))) sha tha

  -- n bytes from this offset on are written
  module _ (n off v : ℕ) (after : 8 ≤ off) (within : off + n ≤ 28) where
    abbrev now : List ℕ
    now = with_number n frame (at + off) v

    fits : at + off + n ≤ length frame
    fits = omega (arith, room, within)

    sized : length now ≡ length frame
    sized = with_number-length n frame (at + off) v fits

    before : (i : ℕ) → i < at + 8 → slice_index now i ≡ slice_index frame i
    before i l = with_number-before n frame (at + off) v fits i (omega (arith, l, after))

    begins : header_size ≤ at
    begins = omega (arith, carried-least frame, ap (λ (c : Carried). c.at) has.carries)

    now-has : HasArp now at
    unfolding is_arp
    now-has =
        let here : (carried frame).at ≤ at = omega (arith, ap (λ (c : Carried). c.at) has.carries) in
        let some : (carried frame).dl_type ≢ no_type = λ e. absurd (omega (arith, e, ap (λ (c : Carried). c.dl_type) has.carries)) in
        record {
          whole = omega (arith, has.whole, sized);
          carries = carried-kept frame now at sized (λ i l. before i (omega arith)) here begins some ∙ has.carries;
          is_there = rw (
            sized,
            number-same frame now 2 at (λ i l m. before i (omega arith)),
            number-same frame now 2 (at + 2) (λ i l m. before i (omega arith)),
            before (at + 4) (omega arith),
            before (at + 5) (omega arith),
          ) has.is_there;
        }

    now-layout : layout_of now ≡ layout_of frame
    now-layout =
        whole-layout now now-has.whole
        ∙ ap₂ layout_with (count-kept frame now at sized (λ i l. before i (omega arith)) (omega (arith, ap (λ (c : Carried). c.at) has.carries)) begins) (network-of now at now-has)
        ∙ ap (layout_with (tag_count frame)) (sym (network-of frame at has)) ∙ sym (whole-layout frame has.whole)

    now-key : key_of port now ≡ key_with (big_endian_at 4 now (at + 14)) (big_endian_at 4 now (at + 24)) (big_endian_at 6 now (at + 8)) (big_endian_at 6 now (at + 18))
    now-key =
        has-key port now at now-has
        ∙ same-ethernet (number-same frame now 6 6 (λ i l m. before i (omega (arith, begins, m)))) (number-same frame now 6 0 (λ i l m. before i (omega (arith, begins, m))))
        (tags-kept frame now at sized (λ i l. before i (omega arith)) (omega (arith, ap (λ (c : Carried). c.at) has.carries)) begins)
        (ap key_operation (number-same frame now 2 (at + 6) (λ i l m. before i (omega arith))))
      where
        same-ethernet : {s t d e : ℕ} {c f : Tags} {o q : ℕ} → s ≡ t → d ≡ e → c ≡ f → o ≡ q
            → arp_key port s d c (big_endian_at 4 now (at + 14)) (big_endian_at 4 now (at + 24)) o (big_endian_at 6 now (at + 8)) (big_endian_at 6 now (at + 18))
            ≡ arp_key port t e f (big_endian_at 4 now (at + 14)) (big_endian_at 4 now (at + 24)) q (big_endian_at 6 now (at + 8)) (big_endian_at 6 now (at + 18))
        same-ethernet a b g h = rw (a, b, g, h) refl

  module _ (value mask : ℕ) where
    abbrev new : (n off : ℕ) → ℕ
    new n off = merged (big_endian_at n frame (at + off)) (value * 1) (bit_and mask (all_bits (8 * n)) * 1)

    six : mask < 2 ^ 48 → (off : ℕ) → off + 6 ≤ 28 → big_endian_at 6 (with_number 6 frame (at + off) (new 6 off)) (at + off) ≡ merged (big_endian_at 6 frame (at + off)) value mask
    six l off w =
        with_number-reads 6 frame (at + off) (new 6 off) (omega (arith, room, w))
        ∙ rw (unit_one value, mask-fits 48 mask l, unit_one mask) (mod-eq_of_lt (merged-lt 48 (big_endian_at 6 frame (at + off)) value mask (big_endian_at-lt frame bytes 6 (at + off)) l))

    four : mask < 2 ^ 32 → (off : ℕ) → off + 4 ≤ 28 → big_endian_at 4 (with_number 4 frame (at + off) (new 4 off)) (at + off) ≡ merged (big_endian_at 4 frame (at + off)) value mask
    four l off w =
        with_number-reads 4 frame (at + off) (new 4 off) (omega (arith, room, w))
        ∙ rw (unit_one value, mask-fits 32 mask l, unit_one mask) (mod-eq_of_lt (merged-lt 32 (big_endian_at 4 frame (at + off)) value mask (big_endian_at-lt frame bytes 4 (at + off)) l))

    large : header_size ≤ length frame
    large = has.whole

    -- the numbers that stay
    stays : (n off : ℕ) → off + n ≤ 28 → (k i : ℕ) → (i + k ≤ off) ⊎ (off + n ≤ i) → big_endian_at k (with_number n frame (at + off) (new n off)) (at + i) ≡ big_endian_at k frame (at + i)
    stays n off w k i apart =
        with_number-apart n frame (at + off) (new n off) (omega (arith, room, w)) k (at + i)
        (elim apart [ inl l ↦ inl (omega (arith, l)) | inr l ↦ inr (omega (arith, l)) ])

    pub sha-form : set_field ArpSha value mask frame ≡ with_number 6 frame (at + 8) (new 6 8)
    unfolding set_field corrected
    sha-form = rw l3-is refl

    pub arp_sha-layout : layout_of (after_action (Set ArpSha value mask) frame) ≡ layout_of frame
    arp_sha-layout = ap layout_of (set-whole frame large ArpSha value mask ∙ sha-form) ∙ now-layout 6 8 (new 6 8) (omega arith) (omega arith)

    pub arp_sha-reads-back : mask < 2 ^ 48 → ReadsBack port frame ArpSha value mask
    unfolding none
    arp_sha-reads-back l =
        ap (key_of port) (set-whole frame large ArpSha value mask ∙ sha-form) ∙ now-key 6 8 (new 6 8) (omega arith) (omega arith)
        ∙ rw (six l 8 (omega arith), stays 6 8 (omega arith) 4 14 (inr (omega arith)), stays 6 8 (omega arith) 4 24 (inr (omega arith)), stays 6 8 (omega arith) 6 18 (inr (omega arith))) refl
        ∙ ap (λ (k : List ℕ). with_value ArpSha (merged (value_of k ArpSha) value mask) k) (sym (has-key port frame at has))

    pub tha-form : set_field ArpTha value mask frame ≡ with_number 6 frame (at + 18) (new 6 18)
    unfolding set_field corrected
    tha-form = rw l3-is refl

    pub arp_tha-layout : layout_of (after_action (Set ArpTha value mask) frame) ≡ layout_of frame
    arp_tha-layout = ap layout_of (set-whole frame large ArpTha value mask ∙ tha-form) ∙ now-layout 6 18 (new 6 18) (omega arith) (omega arith)

    pub arp_tha-reads-back : mask < 2 ^ 48 → ReadsBack port frame ArpTha value mask
    unfolding none
    arp_tha-reads-back l =
        ap (key_of port) (set-whole frame large ArpTha value mask ∙ tha-form) ∙ now-key 6 18 (new 6 18) (omega arith) (omega arith)
        ∙ rw (six l 18 (omega arith), stays 6 18 (omega arith) 4 14 (inl (omega arith)), stays 6 18 (omega arith) 4 24 (inr (omega arith)), stays 6 18 (omega arith) 6 8 (inl (omega arith))) refl
        ∙ ap (λ (k : List ℕ). with_value ArpTha (merged (value_of k ArpTha) value mask) k) (sym (has-key port frame at has))

    pub spa-form : set_field NwSrc value mask frame ≡ with_number 4 frame (at + 14) (new 4 14)
    unfolding set_field corrected
    spa-form = rw (l3-is, no-transport frame at l3-is) refl

    pub arp_spa-layout : layout_of (after_action (Set NwSrc value mask) frame) ≡ layout_of frame
    arp_spa-layout = ap layout_of (set-whole frame large NwSrc value mask ∙ spa-form) ∙ now-layout 4 14 (new 4 14) (omega arith) (omega arith)

    pub arp_spa-reads-back : mask < 2 ^ 32 → ReadsBack port frame NwSrc value mask
    unfolding none
    arp_spa-reads-back l =
        ap (key_of port) (set-whole frame large NwSrc value mask ∙ spa-form) ∙ now-key 4 14 (new 4 14) (omega arith) (omega arith)
        ∙ rw (four l 14 (omega arith), stays 4 14 (omega arith) 4 24 (inr (omega arith)), stays 4 14 (omega arith) 6 8 (inl (omega arith)), stays 4 14 (omega arith) 6 18 (inr (omega arith))) refl
        ∙ ap (λ (k : List ℕ). with_value NwSrc (merged (value_of k NwSrc) value mask) k) (sym (has-key port frame at has))

    pub tpa-form : set_field NwDst value mask frame ≡ with_number 4 frame (at + 24) (new 4 24)
    unfolding set_field corrected
    tpa-form = rw (l3-is, no-transport frame at l3-is) refl

    pub arp_tpa-layout : layout_of (after_action (Set NwDst value mask) frame) ≡ layout_of frame
    arp_tpa-layout = ap layout_of (set-whole frame large NwDst value mask ∙ tpa-form) ∙ now-layout 4 24 (new 4 24) (omega arith) (omega arith)

    pub arp_tpa-reads-back : mask < 2 ^ 32 → ReadsBack port frame NwDst value mask
    unfolding none
    arp_tpa-reads-back l =
        ap (key_of port) (set-whole frame large NwDst value mask ∙ tpa-form) ∙ now-key 4 24 (new 4 24) (omega arith) (omega arith)
        ∙ rw (four l 24 (omega arith), stays 4 24 (omega arith) 4 14 (inl (omega arith)), stays 4 24 (omega arith) 6 8 (inl (omega arith)), stays 4 24 (omega arith) 6 18 (inl (omega arith))) refl
        ∙ ap (λ (k : List ℕ). with_value NwDst (merged (value_of k NwDst) value mask) k) (sym (has-key port frame at has))
