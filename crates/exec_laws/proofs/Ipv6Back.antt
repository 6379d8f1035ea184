-- The fields of IPv6 read back, and leave the headers where they stand.
use Rattle.std.proofs.Common.{◌≡◌, ℕ, ◌+◌, ◌*◌, ◌/◌, ◌^◌, ◌%◌, ◌<◌, ◌≤◌, ◌&&◌, ◌==◌, nat_le, if◌then◌else◌, List, [], length, slice_index, All, bit_and, ◌⊎◌, inl, inr, refl, sym, ap, ◌∙◌, subst, arith}
use Rattle.std.proofs.lemmas.Bool.{cond_both}
use Rattle.std.proofs.Math.Nat.{mod-eq_of_lt}
use Rattle.spec_base.specs.Bits.{all_bits, merged}
use Rattle.spec_base.specs.Bytes.{big_endian_at}
use Rattle.spec_keys.specs.declared.field_id.FieldId.TheVariants.{Ipv6Src, Ipv6Dst, NwTos, NwTtl}
use Rattle.spec_keys.specs.Keys.{none, value_of}
use Rattle.spec_keys.specs.Protocols.{ipv6_type}
use Rattle.spec_frames.specs.declared.headers.Datagram.{Datagram}
use Rattle.spec_frames.specs.declared.headers.UpperLayer.{UpperLayer}
use Rattle.spec_frames.specs.declared.headers.Network.TheVariants as network
use Rattle.spec_frames.specs.declared.layout.Layout.{Layout}
use Rattle.spec_frames.specs.declared.layout.L3.TheVariants as l3
use Rattle.spec_frames.specs.Ipv4 as ipv4
use Rattle.spec_frames.specs.Ipv6 as ipv6
use Rattle.spec_frames.specs.Ipv6.{upper_layer}
use Rattle.spec_frames.specs.Transport.{transport}
use Rattle.spec_frames.specs.Key.{with_value, ip_frag, key_of}
use Rattle.spec_frames.specs.Layout.{layout_of}
use Rattle.spec_actions.specs.declared.action.DpAction.TheVariants.{Set}
use Rattle.spec_exec.specs.Writing.{with_number}
use Rattle.spec_exec.specs.Places.{Place, Sum, address_sum}
use Rattle.spec_exec.specs.Rewriting.{corrected, set_field, after_action}
use Rattle.frame_laws.proofs.keys.Forms.{whole-layout}
use Rattle.frame_laws.proofs.TransportLaws.{Told, transport-tells}
use Rattle.spec_frames.specs.Ethernet.{header_size}
use Rattle.exec_laws.proofs.Bytes.{byte, big_endian_at-lt}
use Rattle.exec_laws.specs.ReadBack.{ReadsBack}
use Rattle.exec_laws.proofs.Replacing.{number-same, with_number-length, with_number-reads, with_number-before, with_number-after, with_number-apart, with_number-in}
use Rattle.exec_laws.proofs.Within.{SumsFit, address_sum-fits, Fits3, l3-fits, l4-fits, corrected-length, fit-moved}
use Rattle.exec_laws.proofs.Fields.{merged-lt, mask-fits, unit_one, merged-shifted, merged-cut, merged-high}
use Rattle.exec_laws.proofs.Addresses.{set-whole, shown_tags}
use Rattle.exec_laws.proofs.Ports.{from-some, some-same}
use Rattle.exec_laws.proofs.AfterHeaders.{After4, SumsAfter, address_sum-after, corrected-before, Clear, clear-addresses, clear-none, shown-clear, shown-after, source_in, destination_in, source-same, destination-same}
use Rattle.exec_laws.proofs.Ipv6Key.{network-of, Named, layout-has, ipv6_key, header_of, has-key, same-key, from-test, still-key, still-layout, told-after}

-- ---- n bytes of the header are written from an offset on

module _ (frame : List ℕ) (at : ℕ) (l3-is : (layout_of frame).l3 ≡ l3.Ipv6 at) where
  pub named : Named frame at
  named = layout-has frame at l3-is

  pub room : at + 40 ≤ length frame
  room = subst (Fits3 frame) l3-is (l3-fits frame)

  pub l4-is : (layout_of frame).l4 ≡ transport (network.Ipv6 at named.d)
  l4-is = ap (λ (l : Layout). l.l4) (whole-layout frame named.has.whole) ∙ ap transport (network-of frame at named.d named.has)

  pub told : Told frame (network.Ipv6 at named.d) (layout_of frame).l4
  told = subst (Told frame (network.Ipv6 at named.d)) (sym l4-is) (transport-tells frame (network.Ipv6 at named.d))

  module _ (n off v : ℕ) (far : 7 ≤ off) (within : off + n ≤ 40) (p : Place) (others : List Sum) (fit : SumsFit frame others)
      (after : SumsAfter named.d.upper.at others) (clear : Clear others (layout_of frame).l4) where
    abbrev pub now : List ℕ
    now = with_number n frame (at + off) v

    abbrev pub result : List ℕ
    result = corrected others p frame now

    pub fits : at + off + n ≤ length frame
    fits = omega (arith, room, within)

    pub now-length : length now ≡ length frame
    now-length = with_number-length n frame (at + off) v fits

    pub now-fit : SumsFit now others
    now-fit = fit-moved frame now now-length others fit

    pub sized : length result ≡ length frame
    sized = corrected-length others p frame now now-fit ∙ now-length

    pub header-now : (i : ℕ) → i < named.d.upper.at → slice_index result i ≡ slice_index now i
    header-now i l = corrected-before others p frame now named.d.upper.at now-fit after i l

    before : (i : ℕ) → i < at + 7 → slice_index result i ≡ slice_index frame i
    before i l = header-now i (omega (arith, l, named.follows)) ∙ with_number-before n frame (at + off) v fits i (omega (arith, l, far))

    chain : (i : ℕ) → at + 40 ≤ i → i < named.d.upper.at → slice_index result i ≡ slice_index frame i
    chain i l m = header-now i m ∙ with_number-after n frame (at + off) v fits i (omega (arith, l, within))

    -- what is read of the transport header, before the checksums there
    pub read : (end : ℕ) → SumsAfter end others → (i : ℕ) → named.d.upper.at ≤ i → i < end → slice_index result i ≡ slice_index frame i
    read end c i l m = corrected-before others p frame now end now-fit c i m ∙ with_number-after n frame (at + off) v fits i (omega (arith, l, named.follows, within))

    header-clear : Clear others (header_of named.d at)
    header-clear = shown-clear others named.d.upper.fragment (transport (network.Ipv6 at named.d)) (subst (Clear others) l4-is clear)

    header-after : After4 named.d.upper.at (header_of named.d at)
    header-after = shown-after named.d.upper.at named.d.upper.fragment (transport (network.Ipv6 at named.d)) (subst (After4 named.d.upper.at) l4-is (told-after frame at named.d _ told))

    result-layout : layout_of result ≡ layout_of frame
    result-layout =
        still-layout frame result at named.d named.has named.follows sized (λ i l. before i (omega arith)) (ap (λ (z : ℕ). z / 16) (before at (omega arith)))
        (λ i l m. before i m) chain

    result-key : (port : ℕ) → key_of port result
        ≡ ipv6_key port (big_endian_at 6 frame 6) (big_endian_at 6 frame 0) ipv6_type (shown_tags frame) (big_endian_at 16 now (at + 8)) (big_endian_at 16 now (at + 24))
        named.d.upper.protocol (ipv6.traffic_class frame at) (slice_index now (at + 7)) (ip_frag named.d.upper.fragment)
        (source_in frame (header_of named.d at)) (destination_in frame (header_of named.d at))
    result-key port =
        let f = named.follows in
        still-key frame result at named.d named.has named.follows sized (λ i l. before i (omega arith)) (ap (λ (z : ℕ). z / 16) (before at (omega arith)))
        (λ i l m. before i m) chain port (source-same frame result named.d.upper.at others read (header_of named.d at) header-after header-clear)
        (destination-same frame result named.d.upper.at others read (header_of named.d at) header-after header-clear)
        ∙ same-key port named.d.upper.protocol (ip_frag named.d.upper.fragment) refl refl refl
        (number-same now result 16 (at + 8) (λ i l m. header-now i (omega (arith, f, m)))) (number-same now result 16 (at + 24) (λ i l m. header-now i (omega (arith, f, m))))
        (ap (λ (z : ℕ). z / 16 % 256) (number-same frame result 2 at (λ i l m. before i (omega (arith, m))))) (header-now (at + 7) (omega (arith, f))) refl refl

  -- ---- the checksums that cover the addresses

  pub addresses : List Sum
  addresses = address_sum (l3.Ipv6 at) (layout_of frame).l4

  pub addresses-fit : SumsFit frame addresses
  unfolding addresses
  addresses-fit = address_sum-fits frame (l3.Ipv6 at) (layout_of frame).l4 (l4-fits frame)

  pub addresses-after : SumsAfter named.d.upper.at addresses
  unfolding addresses
  addresses-after = address_sum-after named.d.upper.at (l3.Ipv6 at) (layout_of frame).l4 (told-after frame at named.d _ told)

  addresses-clear : Clear addresses (layout_of frame).l4
  unfolding addresses
  addresses-clear = clear-addresses (l3.Ipv6 at) (layout_of frame).l4

  -- those of the destination: none after a routing header
  abbrev pub dst_sums : List Sum
  dst_sums = if (layout_of frame).routed then [] else addresses

  dst_sums-fit : SumsFit frame dst_sums
  dst_sums-fit = cond_both (layout_of frame).routed [] addresses (SumsFit frame) (λ e. tt) (λ e. addresses-fit)

  dst_sums-after : SumsAfter named.d.upper.at dst_sums
  dst_sums-after = cond_both (layout_of frame).routed [] addresses (SumsAfter named.d.upper.at) (λ e. tt) (λ e. addresses-after)

  dst_sums-clear : Clear dst_sums (layout_of frame).l4
  dst_sums-clear =
      cond_both (layout_of frame).routed [] addresses (λ sums. Clear sums (layout_of frame).l4) (λ e. clear-none (layout_of frame).l4) (λ e. addresses-clear)

  -- ---- the fields

  fields-of : (ipv6.traffic_class frame at ≡ named.d.tos) × (slice_index frame (at + 7) ≡ named.d.ttl)
  unfolding ipv6.ipv6
  fields-of =
      let w : UpperLayer → Datagram = λ u. record { tos = ipv6.traffic_class frame at; ttl = slice_index frame (at + 7); end = ipv6.end_of frame at; upper = u } in
      let e = named.has.is_there in
      let upper = from-some named.d w (λ u. refl) (nat_le (at + 40) (length frame) && (ipv4.version frame at == 6))
      (upper_layer 8 frame (ipv6.end_of frame at) (slice_index frame (at + 6)) (at + 40)) e in
      let test = from-test named.d w (nat_le (at + 40) (length frame) && (ipv4.version frame at == 6))
      (upper_layer 8 frame (ipv6.end_of frame at) (slice_index frame (at + 6)) (at + 40)) e in
      let d-is = some-same (w named.d.upper) named.d (rw (test, upper) at e) in
      (ap (λ (x : Datagram). x.tos) d-is, ap (λ (x : Datagram). x.ttl) d-is)

  module _ (port : ℕ) (bytes : All (λ byte. byte < 256) frame) (value mask : ℕ) where
    abbrev new : (n off : ℕ) → ℕ
    new n off = merged (big_endian_at n frame (at + off)) (value * 1) (bit_and mask (all_bits (8 * n)) * 1)

    large : header_size ≤ length frame
    large = named.has.whole

    wide : mask < 2 ^ 128 → (off : ℕ) → off + 16 ≤ 40 → big_endian_at 16 (with_number 16 frame (at + off) (new 16 off)) (at + off) ≡ merged (big_endian_at 16 frame (at + off)) value mask
    wide l off w =
        with_number-reads 16 frame (at + off) (new 16 off) (omega (arith, room, w))
        ∙ rw (unit_one value, mask-fits 128 mask l, unit_one mask)
        (mod-eq_of_lt (merged-lt 128 (big_endian_at 16 frame (at + off)) value mask (big_endian_at-lt frame bytes 16 (at + off)) l))

    abbrev address_at : ℕ → Place
    address_at off = record { at = at + off; size = 16; unit = 1; word_at = at + off; words = 8 }

    pub src-form : set_field Ipv6Src value mask frame ≡ corrected addresses (address_at 8) frame (with_number 16 frame (at + 8) (new 16 8))
    unfolding set_field addresses
    src-form = rw l3-is refl

    pub ipv6_src-layout : layout_of (after_action (Set Ipv6Src value mask) frame) ≡ layout_of frame
    ipv6_src-layout =
        ap layout_of (set-whole frame large Ipv6Src value mask ∙ src-form)
        ∙ result-layout 16 8 (new 16 8) (omega arith) (omega arith) (address_at 8) addresses addresses-fit addresses-after addresses-clear

    pub ipv6_src-reads-back : mask < 2 ^ 128 → ReadsBack port frame Ipv6Src value mask
    unfolding none
    ipv6_src-reads-back l =
        ap (key_of port) (set-whole frame large Ipv6Src value mask ∙ src-form)
        ∙ result-key 16 8 (new 16 8) (omega arith) (omega arith) (address_at 8) addresses addresses-fit addresses-after addresses-clear port
        ∙ same-key port named.d.upper.protocol (ip_frag named.d.upper.fragment) refl refl refl (wide l 8 (omega arith))
        (with_number-apart 16 frame (at + 8) (new 16 8) (omega (arith, room)) 16 (at + 24) (inr (omega arith))) fields-of.0
        (with_number-before 16 frame (at + 8) (new 16 8) (omega (arith, room)) (at + 7) (omega arith) ∙ fields-of.1) refl refl
        ∙ ap (λ (k : List ℕ). with_value Ipv6Src (merged (value_of k Ipv6Src) value mask) k) (sym (has-key port frame at named.d named.has))

    pub dst-form : set_field Ipv6Dst value mask frame ≡ corrected dst_sums (address_at 24) frame (with_number 16 frame (at + 24) (new 16 24))
    unfolding set_field addresses
    dst-form = rw l3-is refl

    pub ipv6_dst-layout : layout_of (after_action (Set Ipv6Dst value mask) frame) ≡ layout_of frame
    ipv6_dst-layout =
        ap layout_of (set-whole frame large Ipv6Dst value mask ∙ dst-form)
        ∙ result-layout 16 24 (new 16 24) (omega arith) (omega arith) (address_at 24) dst_sums dst_sums-fit dst_sums-after dst_sums-clear

    pub ipv6_dst-reads-back : mask < 2 ^ 128 → ReadsBack port frame Ipv6Dst value mask
    unfolding none
    ipv6_dst-reads-back l =
        ap (key_of port) (set-whole frame large Ipv6Dst value mask ∙ dst-form)
        ∙ result-key 16 24 (new 16 24) (omega arith) (omega arith) (address_at 24) dst_sums dst_sums-fit dst_sums-after dst_sums-clear port
        ∙ same-key port named.d.upper.protocol (ip_frag named.d.upper.fragment) refl refl refl
        (with_number-apart 16 frame (at + 24) (new 16 24) (omega (arith, room)) 16 (at + 8) (inl (omega arith))) (wide l 24 (omega arith)) fields-of.0
        (with_number-before 16 frame (at + 24) (new 16 24) (omega (arith, room)) (at + 7) (omega arith) ∙ fields-of.1) refl refl
        ∙ ap (λ (k : List ℕ). with_value Ipv6Dst (merged (value_of k Ipv6Dst) value mask) k) (sym (has-key port frame at named.d named.has))

    pub ttl-form : set_field NwTtl value mask frame ≡ with_number 1 frame (at + 7) (new 1 7)
    unfolding set_field corrected
    ttl-form = rw l3-is refl

    abbrev ttl_at : Place
    ttl_at = record { at = at + 7; size = 1; unit = 1; word_at = at + 6; words = 1 }

    pub ipv6_ttl-layout : layout_of (after_action (Set NwTtl value mask) frame) ≡ layout_of frame
    unfolding corrected
    ipv6_ttl-layout =
        ap layout_of (set-whole frame large NwTtl value mask ∙ ttl-form)
        ∙ result-layout 1 7 (new 1 7) (omega arith) (omega arith) ttl_at [] tt tt (clear-none (layout_of frame).l4)

    one-is : (x : ℕ) → big_endian_at 1 frame x ≡ slice_index frame x
    unfolding big_endian_at
    one-is x = omega arith

    ttl-written : mask < 2 ^ 8 → slice_index (with_number 1 frame (at + 7) (new 1 7)) (at + 7) ≡ merged (slice_index frame (at + 7)) value mask
    ttl-written l =
        let e : at + 7 ≡ at + 7 + 0 = omega arith in
        ap (slice_index (with_number 1 frame (at + 7) (new 1 7))) e ∙ with_number-in 1 frame (at + 7) (new 1 7) (omega (arith, room)) 0 (omega arith)
        ∙ rw (one-is (at + 7), unit_one value, mask-fits 8 mask l, unit_one mask) (mod-eq_of_lt (merged-lt 8 (slice_index frame (at + 7)) value mask (byte frame bytes (at + 7)) l))

    pub ipv6_ttl-reads-back : mask < 2 ^ 8 → ReadsBack port frame NwTtl value mask
    unfolding none corrected
    ipv6_ttl-reads-back l =
        ap (key_of port) (set-whole frame large NwTtl value mask ∙ ttl-form)
        ∙ result-key 1 7 (new 1 7) (omega arith) (omega arith) ttl_at [] tt tt (clear-none (layout_of frame).l4) port
        ∙ same-key port named.d.upper.protocol (ip_frag named.d.upper.fragment) refl refl refl
        (with_number-apart 1 frame (at + 7) (new 1 7) (omega (arith, room)) 16 (at + 8) (inr (omega arith)))
        (with_number-apart 1 frame (at + 7) (new 1 7) (omega (arith, room)) 16 (at + 24) (inr (omega arith))) fields-of.0
        (ttl-written l ∙ ap (λ (z : ℕ). merged z value mask) fields-of.1) refl refl
        ∙ ap (λ (k : List ℕ). with_value NwTtl (merged (value_of k NwTtl) value mask) k) (sym (has-key port frame at named.d named.has))

    -- ---- the traffic class, in the middle of the first word

    abbrev pub first : ℕ
    first = merged (big_endian_at 2 frame at) (value * 16) (bit_and mask (all_bits 8) * 16)

    abbrev pub classed : List ℕ
    classed = with_number 2 frame at first

    pub class-form : set_field NwTos value mask frame ≡ classed
    unfolding set_field corrected
    class-form = rw l3-is refl

    module _ (l : mask < 2 ^ 8) where
      first-room : at + 2 ≤ length frame
      first-room = omega (arith, room)

      first-lt : first < 65536
      first-lt = rw (mask-fits 8 mask l) (merged-lt 16 (big_endian_at 2 frame at) (value * 16) (mask * 16) (big_endian_at-lt frame bytes 2 at) (omega arith))

      first-is : first / 16 ≡ merged (big_endian_at 2 frame at / 16) value mask
      first-is = rw (mask-fits 8 mask l) (merged-shifted (big_endian_at 2 frame at) value mask)

      class-written : ipv6.traffic_class classed at ≡ merged (ipv6.traffic_class frame at) value mask
      class-written =
          ap (λ (z : ℕ). z / 16 % 256) (with_number-reads 2 frame at first first-room ∙ mod-eq_of_lt first-lt) ∙ ap (λ (z : ℕ). z % 256) first-is
          ∙ merged-cut (big_endian_at 2 frame at / 16) value mask l

      two-is : (x : ℕ) → big_endian_at 2 frame x ≡ slice_index frame x * 256 + slice_index frame (x + 1)
      unfolding big_endian_at
      two-is x = omega arith

      class-version : ipv4.version classed at ≡ ipv4.version frame at
      class-version =
          let e : at ≡ at + 0 = omega arith in
          let byte-is = ap (slice_index classed) e ∙ with_number-in 2 frame at first first-room 0 (omega arith) in
          numbers (slice_index classed at) first (slice_index frame at) (slice_index frame (at + 1)) (big_endian_at 2 frame at) byte-is first-lt (two-is at)
          (byte frame bytes (at + 1)) (byte frame bytes at)
          (ap (λ (z : ℕ). z / 256) first-is ∙ merged-high (big_endian_at 2 frame at / 16) value mask l)
        where
          numbers : (c v s t w : ℕ) → c ≡ v / 256 % 256 → v < 65536 → w ≡ s * 256 + t → t < 256 → s < 256 → v / 16 / 256 ≡ w / 16 / 256 → c / 16 ≡ s / 16
          numbers c v s t w a b d e f g = omega arith

      class-apart : (i : ℕ) → (i < at) ⊎ (at + 2 ≤ i) → slice_index classed i ≡ slice_index frame i
      class-apart i (inl m) = with_number-before 2 frame at first first-room i m
      class-apart i (inr m) = with_number-after 2 frame at first first-room i m

      class-read : (end : ℕ) → SumsAfter end [] → (i : ℕ) → named.d.upper.at ≤ i → i < end → slice_index classed i ≡ slice_index frame i
      class-read end c i m o = class-apart i (inr (omega (arith, m, named.follows)))

      shown-is-after : After4 named.d.upper.at (header_of named.d at)
      shown-is-after = shown-after named.d.upper.at named.d.upper.fragment (transport (network.Ipv6 at named.d)) (subst (After4 named.d.upper.at) l4-is (told-after frame at named.d _ told))

      pub ipv6_tos-layout : layout_of (after_action (Set NwTos value mask) frame) ≡ layout_of frame
      ipv6_tos-layout =
          ap layout_of (set-whole frame large NwTos value mask ∙ class-form)
          ∙ still-layout frame classed at named.d named.has named.follows (with_number-length 2 frame at first first-room) (λ i m. class-apart i (inl m)) class-version
          (λ i m o. class-apart i (inr (omega arith))) (λ i m o. class-apart i (inr (omega arith)))

      pub ipv6_tos-reads-back : ReadsBack port frame NwTos value mask
      unfolding none
      ipv6_tos-reads-back =
          ap (key_of port) (set-whole frame large NwTos value mask ∙ class-form)
          ∙ still-key frame classed at named.d named.has named.follows (with_number-length 2 frame at first first-room) (λ i m. class-apart i (inl m)) class-version
          (λ i m o. class-apart i (inr (omega arith))) (λ i m o. class-apart i (inr (omega arith))) port
          (source-same frame classed named.d.upper.at [] class-read (header_of named.d at) shown-is-after (clear-none (header_of named.d at)))
          (destination-same frame classed named.d.upper.at [] class-read (header_of named.d at) shown-is-after (clear-none (header_of named.d at)))
          ∙ same-key port named.d.upper.protocol (ip_frag named.d.upper.fragment) refl refl refl
          (number-same frame classed 16 (at + 8) (λ i m o. class-apart i (inr (omega arith)))) (number-same frame classed 16 (at + 24) (λ i m o. class-apart i (inr (omega arith))))
          (class-written ∙ ap (λ (z : ℕ). merged z value mask) fields-of.0) (class-apart (at + 7) (inr (omega arith)) ∙ fields-of.1) refl refl
          ∙ ap (λ (k : List ℕ). with_value NwTos (merged (value_of k NwTos) value mask) k) (sym (has-key port frame at named.d named.has))
