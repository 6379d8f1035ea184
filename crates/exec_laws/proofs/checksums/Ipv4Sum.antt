-- The checksum of an IPv4 header stays right, and so does that of ICMP over IPv4.
use Rattle.std.proofs.Common.{◌≡◌, ℕ, zero, suc, ◌+◌, ◌-◌, ◌*◌, ◌/◌, ◌<◌, ◌≤◌, Bool, List, [], ◌∷◌, ◌++◌, IsTrue, length, slice_index, ◌⊎◌, Some, inl, inr, refl, sym, ap, ap₂, ◌∙◌, subst, arith, append-nil}
use Rattle.std.specs.Prelude.{sum}
use Rattle.std.proofs.lemmas.Bool.{eqb-true}
use Rattle.std.proofs.lemmas.List.Elements.{All-nil}
use Rattle.spec_base.specs.Bytes.{big_endian_at}
use Rattle.spec_keys.specs.declared.field_id.FieldId.{FieldId}
use Rattle.spec_keys.specs.declared.field_id.FieldId.TheVariants.{DlSrc, DlDst, NwSrc, NwDst, NwTos, NwTtl, TpSrc, TpDst}
use Rattle.spec_frames.specs.declared.layout.Layout.{Layout}
use Rattle.spec_frames.specs.declared.layout.L3.{L3}
use Rattle.spec_frames.specs.declared.layout.L3.TheVariants as l3
use Rattle.spec_frames.specs.declared.layout.L4.{L4}
use Rattle.spec_frames.specs.declared.layout.L4.TheVariants as l4
use Rattle.spec_frames.specs.Ethernet.{header_size}
use Rattle.spec_frames.specs.Ipv4 as ipv4
use Rattle.spec_frames.specs.Layout.{layout_of}
use Rattle.spec_actions.specs.declared.action.DpAction.TheVariants.{Set}
use Rattle.spec_exec.specs.Places.{Place, port_at, place_in, Plain, Sum, port_sum, address_sum, sums_of}
use Rattle.spec_exec.specs.Rewriting.{after_action}
use Rattle.frame_laws.specs.Headers.{is_ip, is_ipv4, IsAfter, end_by}
use Rattle.frame_laws.proofs.TransportLaws.{named-iff}
use Rattle.frame_laws.proofs.HeaderLaws.{network_follows, transport_follows}
use Rattle.exec_laws.proofs.Replacing.{number-same}
use Rattle.exec_laws.specs.Elsewhere.{IsNoPlace, IsNoSum}
use Rattle.exec_laws.proofs.Bytes.{EachByte}
use Rattle.exec_laws.proofs.AfterHeaders.{After4, says-ipv4, SumsAfter, address_sum-after}
use Rattle.exec_laws.proofs.checksums.Sums.{sum-first}
use Rattle.exec_laws.proofs.checksums.Cover.{cover, total}
use Rattle.exec_laws.proofs.checksums.Writes.{Check, Counts, Write, QuietWrite, told-kept, stays-same, stays-right}
use Rattle.exec_laws.proofs.checksums.Transport.{far-off, laid}
use Rattle.exec_laws.specs.Right.{words_at, words_of, rest_of, IsRight, ipv4_words}

-- ---- transport headers and their checksums, from the header on

module _ (i end : ℕ) (before : i < end) where
  sums-apart : (sums : List Sum) → SumsAfter end sums → IsNoSum i sums
  sums-apart [] after = tt
  sums-apart (s ∷ sums) after = (inl (omega (arith, before, after.0)), sums-apart sums after.1)

  port-apart : (offset : ℕ) (h : L4) → After4 end h → IsNoPlace i (port_at offset h)
  port-apart offset l4.None after = tt
  port-apart offset (l4.Tcp x) after = inl (omega (arith, before, after))
  port-apart offset (l4.Udp x) after = inl (omega (arith, before, after))
  port-apart offset (l4.Icmp x) after = tt
  port-apart offset (l4.Icmp6 x) after = tt

  port_sum-apart : (at : ℕ) (h : L4) → After4 end h → IsNoSum i (port_sum (l3.Ipv4 at) h)
  port_sum-apart at l4.None after = tt
  port_sum-apart at (l4.Tcp x) after = (inl (omega (arith, before, after)), tt)
  port_sum-apart at (l4.Udp x) after = (inl (omega (arith, before, after)), tt)
  port_sum-apart at (l4.Icmp x) after = tt
  port_sum-apart at (l4.Icmp6 x) after = tt

-- ---- the header

-- so many words of a header, of which the first byte says how many they are
abbrev header_check : (at words : ℕ) → Check
header_check at words = record {
  at = at + 10;
  zero_says = Plain;
  header = at;
  words = words;
  body = at + 2 * words;
  size = 0;
  told_at = at;
  told = 1;
}

module _ (at words : ℕ) (least : 10 ≤ words) (far : header_size ≤ at) (h : L4) (after : After4 (at + 2 * words) h) (tags : ℕ) (routed : Bool) where
  before : (i : ℕ) → Counts (header_check at words) i → i < at + 2 * words
  before i counts = grind arith

  -- m words from the j-th of the header on have the field, which is none of the first byte; the words aren't the sixth
  header-write : (p : Place) (j : ℕ) (last : List Sum) → SumsAfter (at + 2 * words) last → p.word_at ≡ at + 2 * j → (p.word_at ≤ p.at) × (p.at + p.size ≤ p.word_at + 2 * p.words)
      → at + 1 ≤ p.at → (j + p.words ≤ 5) ⊎ ((6 ≤ j) × (j + p.words ≤ 10)) → (f : FieldId)
      → place_in (laid tags (l3.Ipv4 at) h routed) f ≡ Some p → sums_of (laid tags (l3.Ipv4 at) h routed) f ≡ record { at = at + 10; zero_says = Plain } ∷ last
      → Write (header_check at words) (laid tags (l3.Ipv4 at) h routed) f
  header-write p j last clear begins has second apart f stands sums = inr (inr (record {
    p = p;
    first = [];
    last = last;
    stands = stands;
    sums = sums;
    within = inl (j, begins, within apart);
    has = has;
    besides = besides apart;
    first_apart = λ i l. tt;
    last_apart = λ i counts. sums-apart i (at + 2 * words) (before i counts) last clear;
    told_apart = λ i l. (inl (omega (arith, l, second)), (tt, inl (omega (arith, l))));
  }))
    where
      within : (j + p.words ≤ 5) ⊎ ((6 ≤ j) × (j + p.words ≤ 10)) → j + p.words ≤ words
      within (inl l) = omega arith
      within (inr l) = omega (arith, l)

      besides : (j + p.words ≤ 5) ⊎ ((6 ≤ j) × (j + p.words ≤ 10)) → (at + 10 + 2 ≤ p.word_at) ⊎ (p.word_at + 2 * p.words ≤ at + 10)
      besides (inl l) = inr (omega (arith, begins))
      besides (inr l) = inl (omega (arith, begins, l))

  over-header : (f : FieldId) → Write (header_check at words) (laid tags (l3.Ipv4 at) h routed) f
  over-header DlSrc = inr (inl (λ i counts. grind arith))
  over-header DlDst = inr (inl (λ i counts. grind arith))
  over-header NwTos =
      header-write (record { at = at + 1; size = 1; unit = 1; word_at = at; words = 1 }) 0 [] tt (omega arith) (omega arith, omega arith) (omega arith) (inl (omega arith)) NwTos refl refl
  over-header NwTtl =
      header-write (record { at = at + 8; size = 1; unit = 1; word_at = at + 8; words = 1 }) 4 [] tt (omega arith) (omega arith, omega arith) (omega arith) (inl (omega arith)) NwTtl refl refl
  over-header NwSrc =
      header-write (record { at = at + 12; size = 4; unit = 1; word_at = at + 12; words = 2 }) 6 (address_sum (l3.Ipv4 at) h) (address_sum-after (at + 2 * words) (l3.Ipv4 at) h after)
      (omega arith) (omega arith, omega arith) (omega arith) (inr (omega arith, omega arith)) NwSrc refl refl
  over-header NwDst =
      header-write (record { at = at + 16; size = 4; unit = 1; word_at = at + 16; words = 2 }) 8 (address_sum (l3.Ipv4 at) h) (address_sum-after (at + 2 * words) (l3.Ipv4 at) h after)
      (omega arith) (omega arith, omega arith) (omega arith) (inr (omega arith, omega arith)) NwDst refl refl
  over-header TpSrc = inr (inl (λ i counts. (port-apart i (at + 2 * words) (before i counts) 0 h after, port_sum-apart i (at + 2 * words) (before i counts) at h after)))
  over-header TpDst = inr (inl (λ i counts. (port-apart i (at + 2 * words) (before i counts) 2 h after, port_sum-apart i (at + 2 * words) (before i counts) at h after)))
  over-header f = inl refl

-- ---- the law

-- words of which the first byte isn't 0
sum-positive : (frame : List ℕ) (n at : ℕ) → 0 < n → 0 < slice_index frame at → 0 < sum (words_at n frame at)
unfolding words_at big_endian_at
sum-positive frame zero at l m = absurd (omega arith)
sum-positive frame (suc n) at l m = let e = sum-first (big_endian_at 2 frame at) (words_at n frame (at + 2)) in omega (arith, e, m)

bare : (frame : List ℕ) (at words : ℕ) → cover at words [] 0 (at + 2 * words) frame ≡ words_at words frame at
unfolding words_at
bare frame at words = append-nil (words_at words frame at ++ []) ∙ append-nil (words_at words frame at)

module _ (frame : List ℕ) (bytes : EachByte frame) (at : ℕ) (over : (layout_of frame).l3 ≡ l3.Ipv4 at) (f : FieldId) (value mask : ℕ) where
  abbrev result : List ℕ
  result = after_action (Set f value mask) frame

  count : ℕ
  count = ipv4.header_size frame at / 2

  pub ipv4-right : IsRight (ipv4_words frame at) → IsRight (ipv4_words result at)
  unfolding count
  ipv4-right right =
      let says = says-ipv4 frame at over in
      let follows = network_follows frame (l3.Ipv4 at) over in
      let h = (layout_of frame).l4 in
      let least : 10 ≤ count = omega (arith, says.0.least) in
      let even : at + ipv4.header_size frame at ≡ at + 2 * count = omega arith in
      let after : After4 (at + 2 * count) h = subst (λ (end : ℕ). After4 end h) even says.1 in
      let laid-is = ap (λ (n : L3). laid (layout_of frame).tags n h (layout_of frame).routed) over in
      let write : Write (header_check at count) (layout_of frame) f = subst (λ (l : Layout). Write (header_check at count) l f) (sym laid-is)
      (over-header at count least (far-off follows) h after (layout_of frame).tags (layout_of frame).routed f) in
      let whole : header_size ≤ length frame = omega (arith, (far-off follows), follows.is_within) in
      let first = told-kept (header_check at count) frame bytes whole f value mask write at (omega arith, omega arith) in
      let version = eqb-true (slice_index frame at / 16) 4 says.0.version in
      let some = sum-positive result count at (omega (arith, least)) (omega (arith, first, version)) in
      let now = stays-right (header_check at count) frame bytes whole f value mask write [] (All-nil (λ word. word < 65536)) (omega arith) (inl (5, omega arith, omega (arith, least))) tt
      (let t = total at count [] 0 (at + 2 * count) (omega arith) result in omega (arith, t, some)) (subst IsRight (sym (bare frame at count)) right) in
      rw first (subst IsRight (bare result at count) now)

-- ---- ICMP

abbrev icmp_words : List ℕ → L3 → ℕ → List ℕ
icmp_words frame network x = words_of (rest_of frame network x) frame x

-- a message of ICMP, which is covered alone
abbrev icmp_check : (at x size : ℕ) → Check
icmp_check at x size = record {
  at = x + 2;
  zero_says = Plain;
  header = x;
  words = 0;
  body = x;
  size = size;
  told_at = at + 2;
  told = 2;
}

over-icmp : (at x size : ℕ) → header_size ≤ at → at + 20 ≤ x → (tags : ℕ) (routed : Bool) (f : FieldId) → QuietWrite (icmp_check at x size) (laid tags (l3.Ipv4 at) (l4.Icmp x) routed) f
over-icmp at x size far after tags routed DlSrc = inr (λ i counts. grind arith)
over-icmp at x size far after tags routed DlDst = inr (λ i counts. grind arith)
over-icmp at x size far after tags routed NwTos = inr (λ i counts. grind arith)
over-icmp at x size far after tags routed NwTtl = inr (λ i counts. grind arith)
over-icmp at x size far after tags routed NwSrc = inr (λ i counts. grind arith)
over-icmp at x size far after tags routed NwDst = inr (λ i counts. grind arith)
over-icmp at x size far after tags routed f = inl refl

module _ (frame : List ℕ) (bytes : EachByte frame) (x : ℕ) (f : FieldId) (value mask : ℕ) (is : (layout_of frame).l4 ≡ l4.Icmp x) where
  abbrev icmp_result : List ℕ
  icmp_result = after_action (Set f value mask) frame

  over-ipv4 : (at : ℕ) → (layout_of frame).l3 ≡ l3.Ipv4 at → at + 20 ≤ x → IsRight (icmp_words frame (l3.Ipv4 at) x) → IsRight (icmp_words icmp_result (l3.Ipv4 at) x)
  unfolding words_at
  over-ipv4 at e after right =
      let follows = network_follows frame (l3.Ipv4 at) e in
      let size = end_by frame (l3.Ipv4 at) - x in
      let c = icmp_check at x size in
      let laid-is = ap₂ (λ (n : L3) (h : L4). laid (layout_of frame).tags n h (layout_of frame).routed) e is in
      let whole : header_size ≤ length frame = omega (arith, (far-off follows), follows.is_within) in
      let write : QuietWrite c (layout_of frame) f = subst (λ (l : Layout). QuietWrite c l f) (sym laid-is)
      (over-icmp at x size (far-off follows) after (layout_of frame).tags (layout_of frame).routed f) in
      let told = number-same frame icmp_result 2 (at + 2) (λ i l m. told-kept c frame bytes whole f value mask (loud write) i (l, m)) in
      let same = stays-same c frame bytes whole f value mask write [] (omega arith) in
      rw told (subst IsRight (sym same) right)
    where
      loud : {c : Check} {l : Layout} → QuietWrite c l f → Write c l f
      loud (inl e) = inl e
      loud (inr u) = inr (inl u)

  pub icmp-right : IsRight (icmp_words frame (layout_of frame).l3 x) → IsRight (icmp_words icmp_result (layout_of frame).l3 x)
  icmp-right = by (layout_of frame).l3 refl (transport_follows frame (l4.Icmp x) is).after
    where
      by : (n : L3) → (layout_of frame).l3 ≡ n → IsAfter n x → IsRight (icmp_words frame n x) → IsRight (icmp_words icmp_result n x)
      by l3.None e after right = absurd after
      by (l3.Arp at) e after right = absurd after
      by (l3.Ipv4 at) e after right = over-ipv4 at e after right
      by (l3.Ipv6 at) e after right =
          let named = (named-iff 0 frame (l4.Icmp x) (λ e. cc) (subst (λ (n : L3). IsTrue (is_ip n)) (sym e) refl)).0 is in
          absurd (cc (subst (λ (n : L3). IsTrue (is_ipv4 n)) e named.0))
