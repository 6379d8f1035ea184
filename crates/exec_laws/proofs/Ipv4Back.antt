-- The fields of IPv4 read back, and leave the headers where they stand.
use Rattle.std.proofs.Common.{◌≡◌, ◌≢◌, ℕ, ◌+◌, ◌*◌, ◌^◌, ◌<◌, ◌≤◌, List, [], length, slice_index, ◌⊎◌, inl, inr, bit_and, refl, sym, ap, ap₂, ◌∙◌, arith}
use Rattle.std.proofs.lemmas.Bool.{cases_lt}
use Rattle.std.proofs.Math.Nat.{mod-eq_of_lt}
use Rattle.spec_base.specs.Bits.{all_bits, merged}
use Rattle.spec_base.specs.Bytes.{big_endian_at}
use Rattle.spec_keys.specs.declared.field_id.FieldId.TheVariants.{NwSrc, NwDst, NwTos, NwTtl}
use Rattle.spec_keys.specs.Keys.{none, value_of}
use Rattle.spec_keys.specs.Protocols.{ipv4_type}
use Rattle.spec_frames.specs.declared.headers.Datagram.{Datagram}
use Rattle.spec_frames.specs.declared.layout.L3.TheVariants as l3
use Rattle.spec_frames.specs.Ipv4 as ipv4
use Rattle.spec_frames.specs.Layout.{layout_of}
use Rattle.spec_frames.specs.Key.{with_value, ip_frag, key_of}
use Rattle.spec_actions.specs.declared.action.DpAction.TheVariants.{Set}
use Rattle.spec_exec.specs.Writing.{with_number}
use Rattle.spec_exec.specs.Places.{Place, Plain, Sum, address_sum}
use Rattle.spec_exec.specs.Rewriting.{after_words, corrected, set_field, after_action}
use Rattle.spec_frames.specs.Ethernet.{header_size}
use Rattle.exec_laws.specs.ReadBack.{ReadsBack}
use Rattle.exec_laws.proofs.Replacing.{with_number-reads, with_number-before, with_number-after, with_number-apart, with_number-in}
use Rattle.exec_laws.proofs.Bytes.{EachByte}
use Rattle.exec_laws.proofs.Within.{SumsFit, address_sum-fits, l4-fits}
use Rattle.exec_laws.proofs.Fields.{merged-lt, mask-fits, unit_one}
use Rattle.exec_laws.proofs.Addresses.{set-whole, shown_tags}
use Rattle.exec_laws.proofs.Ipv4Key.{ipv4_key, header_of, layout-has, has-key, tos-is, ttl-is, same-key}
use Rattle.exec_laws.proofs.AfterHeaders.{says-ipv4, SumsAfter, address_sum-after, Clear, clear-addresses, clear-none, source_in, destination_in}
use Rattle.exec_laws.proofs.Ipv4Written.{result-key, result-layout}

module _ (frame : List ℕ) (at : ℕ) (l3-is : (layout_of frame).l3 ≡ l3.Ipv4 at) (value mask : ℕ) where
  -- ---- what a write makes of the frame

  room : at + 20 ≤ length frame
  room = (says-ipv4 frame at l3-is).0.whole

  pub large : header_size ≤ length frame
  large = omega (arith, room)

  -- the checksums after the header that cover its addresses
  pub addresses : List Sum
  addresses = address_sum (l3.Ipv4 at) (layout_of frame).l4

  pub addresses-fit : SumsFit frame addresses
  unfolding addresses
  addresses-fit = address_sum-fits frame (l3.Ipv4 at) (layout_of frame).l4 (l4-fits frame)

  pub addresses-after : SumsAfter (at + ipv4.header_size frame at) addresses
  unfolding addresses
  addresses-after = address_sum-after (at + ipv4.header_size frame at) (l3.Ipv4 at) (layout_of frame).l4 (says-ipv4 frame at l3-is).1

  addresses-clear : Clear addresses (layout_of frame).l4
  unfolding addresses
  addresses-clear = clear-addresses (l3.Ipv4 at) (layout_of frame).l4

  -- where an address stands, and a byte of a word
  abbrev pub address_at : ℕ → Place
  address_at place = record { at = place; size = 4; unit = 1; word_at = place; words = 2 }

  abbrev pub byte_in : ℕ → ℕ → Place
  byte_in word place = record { at = place; size = 1; unit = 1; word_at = word; words = 1 }

  -- a number with bits replaced, and the frame with it
  abbrev pub new : Place → ℕ
  new p = merged (big_endian_at p.size frame p.at) (value * 1) (bit_and mask (all_bits (8 * p.size)) * 1)

  abbrev pub now : Place → List ℕ
  now p = with_number p.size frame p.at (new p)

  -- the header's checksum after that
  abbrev pub sum_of : Place → ℕ
  sum_of p = after_words Plain p.words p.word_at frame (now p) (big_endian_at 2 frame (at + 10))

  -- the frame with all that, and with these other checksums
  abbrev pub written : List Sum → Place → List ℕ
  written others p = corrected others p frame (with_number 2 (now p) (at + 10) (sum_of p))

  pub nw_src-form : set_field NwSrc value mask frame ≡ written addresses (address_at (at + 12))
  unfolding set_field corrected addresses
  nw_src-form = rw l3-is refl

  pub nw_dst-form : set_field NwDst value mask frame ≡ written addresses (address_at (at + 16))
  unfolding set_field corrected addresses
  nw_dst-form = rw l3-is refl

  pub nw_tos-form : set_field NwTos value mask frame ≡ written [] (byte_in at (at + 1))
  unfolding set_field corrected
  nw_tos-form = rw l3-is refl

  pub nw_ttl-form : set_field NwTtl value mask frame ≡ written [] (byte_in (at + 8) (at + 8))
  unfolding set_field corrected
  nw_ttl-form = rw l3-is refl

  -- ---- a byte

  one-is : (x : ℕ) → big_endian_at 1 frame x ≡ slice_index frame x
  unfolding big_endian_at
  one-is x = omega arith

  byte-apart : (word x : ℕ) → x + 1 ≤ length frame → (k : ℕ) → k ≢ x → slice_index (now (byte_in word x)) k ≡ slice_index frame k
  byte-apart word x fits k ne = by (cases_lt k x)
    where
      by : (k < x) ⊎ (x ≤ k) → slice_index (now (byte_in word x)) k ≡ slice_index frame k
      by (inl m) = with_number-before 1 frame x (new (byte_in word x)) fits k m
      by (inr m) = with_number-after 1 frame x (new (byte_in word x)) fits k (omega (arith, m, ne))

  -- of the two bytes that are fields, one is written
  field-apart : (off : ℕ) → (off ≡ 1) ⊎ (off ≡ 8) → (k : ℕ) → k ≢ at + 1 → k ≢ at + 8 → k ≢ at + off
  field-apart off (inl e) k m n = λ f. m (f ∙ ap (λ (z : ℕ). at + z) e)
  field-apart off (inr e) k m n = λ f. n (f ∙ ap (λ (z : ℕ). at + z) e)

  -- ---- the layout

  address-layout : (off : ℕ) → 12 ≤ off → off + 4 ≤ 20 → layout_of (written addresses (address_at (at + off))) ≡ layout_of frame
  address-layout off far near =
      let p = address_at (at + off) in
      result-layout frame at l3-is p (new p) (sum_of p) (omega arith) (omega arith) addresses addresses-fit addresses-after
      (λ k o m n. with_number-before 4 frame (at + off) (new p) (omega (arith, room)) k (omega arith)) addresses-clear

  byte-layout : (word off : ℕ) → (off ≡ 1) ⊎ (off ≡ 8) → layout_of (written [] (byte_in word (at + off))) ≡ layout_of frame
  byte-layout word off which =
      let p = byte_in word (at + off) in
      let far : 1 ≤ off = elim which [ inl e ↦ omega arith | inr e ↦ omega arith ] in
      let near : off ≤ 8 = elim which [ inl e ↦ omega arith | inr e ↦ omega arith ] in
      result-layout frame at l3-is p (new p) (sum_of p) (omega arith) (omega arith) [] tt tt
      (λ k o m n. byte-apart word (at + off) (omega (arith, room)) k (field-apart off which k m n)) (clear-none (layout_of frame).l4)

  pub nw_src-layout : layout_of (after_action (Set NwSrc value mask) frame) ≡ layout_of frame
  nw_src-layout = ap layout_of (set-whole frame large NwSrc value mask ∙ nw_src-form) ∙ address-layout 12 (omega arith) (omega arith)

  pub nw_dst-layout : layout_of (after_action (Set NwDst value mask) frame) ≡ layout_of frame
  nw_dst-layout = ap layout_of (set-whole frame large NwDst value mask ∙ nw_dst-form) ∙ address-layout 16 (omega arith) (omega arith)

  pub nw_tos-layout : layout_of (after_action (Set NwTos value mask) frame) ≡ layout_of frame
  nw_tos-layout = ap layout_of (set-whole frame large NwTos value mask ∙ nw_tos-form) ∙ byte-layout at 1 (inl refl)

  pub nw_ttl-layout : layout_of (after_action (Set NwTtl value mask) frame) ≡ layout_of frame
  nw_ttl-layout = ap layout_of (set-whole frame large NwTtl value mask ∙ nw_ttl-form) ∙ byte-layout (at + 8) 8 (inr refl)

  -- ---- the key

  module _ (bytes : EachByte frame) (port : ℕ) where
    abbrev header : Datagram
    header = ipv4.ipv4 frame at

    -- the key of such a frame, by what can be written
    abbrev key_with : (nw_src nw_dst tos ttl : ℕ) → List ℕ
    key_with nw_src nw_dst tos ttl =
        ipv4_key port (big_endian_at 6 frame 6) (big_endian_at 6 frame 0) ipv4_type (shown_tags frame) nw_src nw_dst header.upper.protocol tos ttl
        (ip_frag header.upper.fragment) (source_in frame (header_of header at)) (destination_in frame (header_of header at))

    key : key_of port frame ≡ key_with (big_endian_at 4 frame (at + 12)) (big_endian_at 4 frame (at + 16)) header.tos header.ttl
    key = has-key port frame at (layout-has frame at l3-is)

    four-lt : (x : ℕ) → big_endian_at 4 frame x < 2 ^ 32
    unfolding big_endian_at
    four-lt x = let a = bytes x in let b = bytes (x + 1) in let c = bytes (x + 1 + 1) in let d = bytes (x + 1 + 1 + 1) in omega arith

    address-written : mask < 2 ^ 32 → (x : ℕ) → x + 4 ≤ length frame → big_endian_at 4 (now (address_at x)) x ≡ merged (big_endian_at 4 frame x) value mask
    address-written l x fits =
        with_number-reads 4 frame x (new (address_at x)) fits
        ∙ rw (unit_one value, mask-fits 32 mask l, unit_one mask) (mod-eq_of_lt (merged-lt 32 (big_endian_at 4 frame x) value mask (four-lt x) l))

    address-apart : (x i : ℕ) → x + 4 ≤ length frame → (i + 4 ≤ x) ⊎ (x + 4 ≤ i) → big_endian_at 4 (now (address_at x)) i ≡ big_endian_at 4 frame i
    address-apart x i fits apart = with_number-apart 4 frame x (new (address_at x)) fits 4 i apart

    byte-written : mask < 2 ^ 8 → (word x : ℕ) → x + 1 ≤ length frame → slice_index (now (byte_in word x)) x ≡ merged (slice_index frame x) value mask
    byte-written l word x fits =
        let e : x ≡ x + 0 = omega arith in
        ap (slice_index (now (byte_in word x))) e ∙ with_number-in 1 frame x (new (byte_in word x)) fits 0 (omega arith)
        ∙ rw (one-is x, unit_one value, mask-fits 8 mask l, unit_one mask) (mod-eq_of_lt (merged-lt 8 (slice_index frame x) value mask (bytes x) l))

    -- the key after an address is written, and after a byte is
    address-key : (off : ℕ) → 12 ≤ off → off + 4 ≤ 20 → key_of port (written addresses (address_at (at + off)))
        ≡ key_with (big_endian_at 4 (now (address_at (at + off))) (at + 12)) (big_endian_at 4 (now (address_at (at + off))) (at + 16)) header.tos header.ttl
    address-key off far near =
        let p = address_at (at + off) in
        let fits : at + off + 4 ≤ length frame = omega (arith, room) in
        result-key frame at l3-is p (new p) (sum_of p) (omega arith) (omega arith) addresses addresses-fit addresses-after
        (λ k o m n. with_number-before 4 frame (at + off) (new p) fits k (omega arith)) addresses-clear port
        ∙ same-key port ipv4_type refl refl refl refl refl refl
        (with_number-before 4 frame (at + off) (new p) fits (at + 1) (omega arith) ∙ sym (tos-is frame at))
        (with_number-before 4 frame (at + off) (new p) fits (at + 8) (omega arith) ∙ sym (ttl-is frame at)) refl refl refl

    byte-key : (word off : ℕ) → (off ≡ 1) ⊎ (off ≡ 8) → key_of port (written [] (byte_in word (at + off)))
        ≡ key_with (big_endian_at 4 frame (at + 12)) (big_endian_at 4 frame (at + 16)) (slice_index (now (byte_in word (at + off))) (at + 1))
        (slice_index (now (byte_in word (at + off))) (at + 8))
    byte-key word off which =
        let p = byte_in word (at + off) in
        let far : 1 ≤ off = elim which [ inl e ↦ omega arith | inr e ↦ omega arith ] in
        let near : off ≤ 8 = elim which [ inl e ↦ omega arith | inr e ↦ omega arith ] in
        let fits : at + off + 1 ≤ length frame = omega (arith, room) in
        result-key frame at l3-is p (new p) (sum_of p) (omega arith) (omega arith) [] tt tt
        (λ k o m n. byte-apart word (at + off) fits k (field-apart off which k m n)) (clear-none (layout_of frame).l4) port
        ∙ same-key port ipv4_type refl refl refl
        (with_number-apart 1 frame (at + off) (new p) fits 4 (at + 12) (inr (omega arith)))
        (with_number-apart 1 frame (at + off) (new p) fits 4 (at + 16) (inr (omega arith))) refl refl refl refl refl refl

    pub nw_src-reads-back : mask < 2 ^ 32 → ReadsBack port frame NwSrc value mask
    unfolding none
    nw_src-reads-back l =
        ap (key_of port) (set-whole frame large NwSrc value mask ∙ nw_src-form) ∙ address-key 12 (omega arith) (omega arith)
        ∙ ap₂ (λ (x y : ℕ). key_with x y header.tos header.ttl) (address-written l (at + 12) (omega (arith, room)))
        (address-apart (at + 12) (at + 16) (omega (arith, room)) (inr (omega arith)))
        ∙ ap (λ (k : List ℕ). with_value NwSrc (merged (value_of k NwSrc) value mask) k) (sym key)

    pub nw_dst-reads-back : mask < 2 ^ 32 → ReadsBack port frame NwDst value mask
    unfolding none
    nw_dst-reads-back l =
        ap (key_of port) (set-whole frame large NwDst value mask ∙ nw_dst-form) ∙ address-key 16 (omega arith) (omega arith)
        ∙ ap₂ (λ (x y : ℕ). key_with x y header.tos header.ttl) (address-apart (at + 16) (at + 12) (omega (arith, room)) (inl (omega arith)))
        (address-written l (at + 16) (omega (arith, room)))
        ∙ ap (λ (k : List ℕ). with_value NwDst (merged (value_of k NwDst) value mask) k) (sym key)

    pub nw_tos-reads-back : mask < 2 ^ 8 → ReadsBack port frame NwTos value mask
    unfolding none
    nw_tos-reads-back l =
        ap (key_of port) (set-whole frame large NwTos value mask ∙ nw_tos-form) ∙ byte-key at 1 (inl refl)
        ∙ ap₂ (key_with (big_endian_at 4 frame (at + 12)) (big_endian_at 4 frame (at + 16)))
        (byte-written l at (at + 1) (omega (arith, room)) ∙ ap (λ (z : ℕ). merged z value mask) (sym (tos-is frame at)))
        (byte-apart at (at + 1) (omega (arith, room)) (at + 8) (omega arith) ∙ sym (ttl-is frame at))
        ∙ ap (λ (k : List ℕ). with_value NwTos (merged (value_of k NwTos) value mask) k) (sym key)

    pub nw_ttl-reads-back : mask < 2 ^ 8 → ReadsBack port frame NwTtl value mask
    unfolding none
    nw_ttl-reads-back l =
        ap (key_of port) (set-whole frame large NwTtl value mask ∙ nw_ttl-form) ∙ byte-key (at + 8) 8 (inr refl)
        ∙ ap₂ (key_with (big_endian_at 4 frame (at + 12)) (big_endian_at 4 frame (at + 16)))
        (byte-apart (at + 8) (at + 8) (omega (arith, room)) (at + 1) (omega arith) ∙ sym (tos-is frame at))
        (byte-written l (at + 8) (at + 8) (omega (arith, room)) ∙ ap (λ (z : ℕ). merged z value mask) (sym (ttl-is frame at)))
        ∙ ap (λ (k : List ℕ). with_value NwTtl (merged (value_of k NwTtl) value mask) k) (sym key)
