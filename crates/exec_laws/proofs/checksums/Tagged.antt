-- A tag that is pushed or popped moves what checksums cover, and changes none of it.
use Rattle.std.proofs.Common.{◌≡◌, ℕ, zero, suc, ◌+◌, ◌-◌, ◌/◌, ◌<◌, ◌≤◌, List, ◌∷◌, ◌++◌, length, take, slice_index, ◌⊎◌, inl, inr, refl, sym, ap, ap₂, ◌∙◌, subst, arith}
use Rattle.std.proofs.lemmas.Bool.{cases_lt}
use Rattle.spec_base.specs.Bytes.{big_endian_at}
use Rattle.spec_frames.specs.declared.headers.Network.{Network}
use Rattle.spec_frames.specs.declared.headers.Network.TheVariants.{Nothing, Arp, Ipv4, Ipv6}
use Rattle.spec_frames.specs.declared.layout.Layout.{Layout}
use Rattle.spec_frames.specs.declared.layout.L3.{L3}
use Rattle.spec_frames.specs.declared.layout.L3.TheVariants as l3
use Rattle.spec_frames.specs.declared.layout.L4.{L4}
use Rattle.spec_frames.specs.declared.layout.L4.TheVariants as l4
use Rattle.spec_frames.specs.Ethernet.{header_size, type_at, tag_count}
use Rattle.spec_frames.specs.Ipv4 as ipv4
use Rattle.spec_frames.specs.Transport.{transport}
use Rattle.spec_frames.specs.Network.{network}
use Rattle.spec_frames.specs.Layout.{place_of_network, layout_of}
use Rattle.frame_laws.proofs.keys.Forms.{whole-layout}
use Rattle.frame_laws.specs.Headers.{IsAfter, end_by}
use Rattle.frame_laws.proofs.HeaderLaws.{network_follows, transport_follows}
use Rattle.exec_laws.proofs.Moved.{network_on, l4_on, transport-on}
use Rattle.exec_laws.proofs.checksums.Cover.{take-byte, take-past}
use Rattle.exec_laws.specs.Right.{words_at, words_of, header_words_by, header_words, pseudo_header, covered, words_by, transport_words, HasSumBy, HasTransportSum}

abbrev l3_on : L3 → L3
l3_on l3.None = l3.None
l3_on (l3.Arp at) = l3.Arp (at + 4)
l3_on (l3.Ipv4 at) = l3.Ipv4 (at + 4)
l3_on (l3.Ipv6 at) = l3.Ipv6 (at + 4)

place-on : (n : Network) → place_of_network (network_on 4 n) ≡ l3_on (place_of_network n)
place-on Nothing = refl
place-on (Arp at) = refl
place-on (Ipv4 at d) = refl
place-on (Ipv6 at d) = refl

-- a network header after the addresses of Ethernet
abbrev Begins : L3 → Type 0
Begins l3.None = Unit {0}
Begins (l3.Arp at) = type_at ≤ at
Begins (l3.Ipv4 at) = type_at ≤ at
Begins (l3.Ipv6 at) = type_at ≤ at

-- ---- frames in which everything after the addresses stands 4 bytes further on

module _ (a b : List ℕ) (same : (i : ℕ) → type_at ≤ i → slice_index b (i + 4) ≡ slice_index a i) where
  word-on : (i j : ℕ) → j ≡ i + 4 → type_at ≤ i → big_endian_at 2 b j ≡ big_endian_at 2 a i
  unfolding big_endian_at
  word-on i j e l =
      let p = ap (slice_index b) e ∙ same i l in
      let next : j + 1 ≡ i + 1 + 4 = omega arith in
      let q = ap (slice_index b) next ∙ same (i + 1) (omega arith) in
      omega (arith, p, q)

  words-on : (n i j : ℕ) → j ≡ i + 4 → type_at ≤ i → words_at n b j ≡ words_at n a i
  unfolding words_at
  words-on zero i j e l = refl
  words-on (suc n) i j e l = ap₂ (λ (w : ℕ) (ws : List ℕ). w ∷ ws) (word-on i j e l) (words-on n (i + 2) (j + 2) (omega arith) (omega arith))

  take-on : (end other i : ℕ) → other ≡ end + 4 → type_at ≤ i → slice_index (take other b) (i + 4) ≡ slice_index (take end a) i
  take-on end other i e l = by (cases_lt i end)
    where
      by : (i < end) ⊎ (end ≤ i) → slice_index (take other b) (i + 4) ≡ slice_index (take end a) i
      by (inl m) = take-byte other b (i + 4) (omega arith) ∙ same i l ∙ sym (take-byte end a i m)
      by (inr m) = take-past other b (i + 4) (omega arith) ∙ sym (take-past end a i m)

words_of-on : (a b : List ℕ) → ((i : ℕ) → type_at ≤ i → slice_index b (i + 4) ≡ slice_index a i) → (size i : ℕ) → type_at ≤ i → words_of size b (i + 4) ≡ words_of size a i
words_of-on a b same size i l =
    words-on (take (i + size) a) (take (i + 4 + size) b) (λ k m. take-on a b same (i + size) (i + 4 + size) k (omega arith) m) ((size + 1) / 2) i (i + 4) refl l

module _ (a b : List ℕ) (sized : length b ≡ length a + 4) (same : (i : ℕ) → type_at ≤ i → slice_index b (i + 4) ≡ slice_index a i) where
  header-on : (n : L3) → Begins n → header_words_by b (l3_on n) ≡ header_words_by a n
  header-on l3.None l = refl
  header-on (l3.Arp at) l = refl
  header-on (l3.Ipv4 at) l = rw (same at l) (words-on a b same (ipv4.header_size a at / 2) at (at + 4) refl l)
  header-on (l3.Ipv6 at) l = refl

  pseudo-on : (n : L3) → Begins n → (protocol size : ℕ) → pseudo_header b (l3_on n) protocol size ≡ pseudo_header a n protocol size
  pseudo-on l3.None l protocol size = refl
  pseudo-on (l3.Arp at) l protocol size = refl
  pseudo-on (l3.Ipv4 at) l protocol size = rw (words-on a b same 4 (at + 12) (at + 4 + 12) (omega arith) (omega arith)) refl
  pseudo-on (l3.Ipv6 at) l protocol size = rw (words-on a b same 16 (at + 8) (at + 4 + 8) (omega arith) (omega arith)) refl

  rest-on : (n : L3) → Begins n → (x : ℕ) → end_by b (l3_on n) - (x + 4) ≡ end_by a n - x
  rest-on l3.None l x = omega (arith, sized)
  rest-on (l3.Arp at) l x = omega arith
  rest-on (l3.Ipv4 at) l x = let e = word-on a b same (at + 2) (at + 4 + 2) (omega arith) (omega arith) in omega (arith, e)
  rest-on (l3.Ipv6 at) l x = let e = word-on a b same (at + 4) (at + 4 + 4) (omega arith) (omega arith) in omega (arith, e)

  covered-on : (n : L3) → Begins n → (protocol size other x : ℕ) → other ≡ size → type_at ≤ x → covered pseudo_header b (l3_on n) protocol other (x + 4) ≡ covered pseudo_header a n protocol size x
  covered-on n l protocol size other x e m =
      ap (λ (k : ℕ). covered pseudo_header b (l3_on n) protocol k (x + 4)) e ∙ ap₂ ◌++◌ (pseudo-on n l protocol size) (words_of-on a b same size x m)

  abbrev moved : L4 → L4
  moved h = l4_on a b 12 4 sized same h

  -- where the transport header begins
  abbrev BeginsLater : L4 → Type 0
  BeginsLater l4.None = Unit {0}
  BeginsLater (l4.Tcp x) = type_at ≤ x
  BeginsLater (l4.Udp x) = type_at ≤ x
  BeginsLater (l4.Icmp x) = type_at ≤ x
  BeginsLater (l4.Icmp6 x) = type_at ≤ x

  transport-words-on : (n : L3) (h : L4) → Begins n → BeginsLater h → words_by pseudo_header b (l3_on n) (moved h) ≡ words_by pseudo_header a n h
  transport-words-on n l4.None l m = refl
  transport-words-on n (l4.Tcp x) l m = covered-on n l 6 _ _ x (rest-on n l x) m
  transport-words-on n (l4.Udp x) l m = covered-on n l 17 _ _ x (word-on a b same (x + 4) (x + 4 + 4) refl (omega arith)) m
  transport-words-on n (l4.Icmp x) l m = ap (λ (k : ℕ). words_of k b (x + 4)) (rest-on n l x) ∙ words_of-on a b same _ x m
  transport-words-on n (l4.Icmp6 x) l m = covered-on n l 58 _ _ x (rest-on n l x) m

  has-on : (h : L4) → BeginsLater h → HasSumBy a h → HasSumBy b (moved h)
  has-on l4.None m has = tt
  has-on (l4.Tcp x) m has = tt
  has-on (l4.Udp x) m has =
      (rw (word-on a b same (x + 4) (x + 4 + 4) refl (omega arith)) has.0, λ none. has.1 (sym (word-on a b same (x + 6) (x + 4 + 6) (omega arith) (omega arith)) ∙ none))
  has-on (l4.Icmp x) m has = tt
  has-on (l4.Icmp6 x) m has = tt

  has-back : (h : L4) → BeginsLater h → HasSumBy b (moved h) → HasSumBy a h
  has-back l4.None m has = tt
  has-back (l4.Tcp x) m has = tt
  has-back (l4.Udp x) m has =
      (subst (λ (k : ℕ). 8 ≤ k) (word-on a b same (x + 4) (x + 4 + 4) refl (omega arith)) has.0, λ none. has.1 (word-on a b same (x + 6) (x + 4 + 6) (omega arith) (omega arith) ∙ none))
  has-back (l4.Icmp x) m has = tt
  has-back (l4.Icmp6 x) m has = tt

  -- ---- where the network header is the same, 4 bytes further on

  module _ (whole : header_size ≤ length a) (moves : network b ≡ network_on 4 (network a)) where
    layout-on : layout_of b ≡ record { tags = tag_count b; l3 = l3_on (layout_of a).l3; l4 = moved (layout_of a).l4; routed = (layout_of b).routed }
    layout-on =
        let is-a = whole-layout a whole in
        let is-b = whole-layout b (omega (arith, sized, whole)) in
        let n = ap (λ (l : Layout). l.l3) is-b ∙ ap place_of_network moves ∙ place-on (network a) ∙ ap (λ (l : Layout). l3_on l.l3) (sym is-a) in
        let h = ap (λ (l : Layout). l.l4) is-b ∙ ap transport moves ∙ transport-on a b 12 4 sized same (network a) ∙ ap (λ (l : Layout). moved l.l4) (sym is-a) in
        let t = ap (λ (l : Layout). l.tags) is-b in
        ap₂ (λ (t : ℕ) (n : L3). record { tags = t; l3 = n; l4 = (layout_of b).l4; routed = (layout_of b).routed }) t n
        ∙ ap (λ (h : L4). record { tags = tag_count b; l3 = l3_on (layout_of a).l3; l4 = h; routed = (layout_of b).routed }) h

    begins : Begins (layout_of a).l3
    begins = by (layout_of a).l3 refl
      where
        by : (n : L3) → (layout_of a).l3 ≡ n → Begins n
        by l3.None e = tt
        by (l3.Arp at) e = let l = (network_follows a (l3.Arp at) e).after_tags in omega (arith, l)
        by (l3.Ipv4 at) e = let l = (network_follows a (l3.Ipv4 at) e).after_tags in omega (arith, l)
        by (l3.Ipv6 at) e = let l = (network_follows a (l3.Ipv6 at) e).after_tags in omega (arith, l)

    after-begins : (n : L3) → Begins n → (x : ℕ) → IsAfter n x → type_at ≤ x
    after-begins l3.None l x after = absurd after
    after-begins (l3.Arp at) l x after = absurd after
    after-begins (l3.Ipv4 at) l x after = omega arith
    after-begins (l3.Ipv6 at) l x after = omega arith

    begins-later : BeginsLater (layout_of a).l4
    begins-later = by (layout_of a).l4 refl
      where
        by : (h : L4) → (layout_of a).l4 ≡ h → BeginsLater h
        by l4.None e = tt
        by (l4.Tcp x) e = after-begins (layout_of a).l3 begins x (transport_follows a (l4.Tcp x) e).after
        by (l4.Udp x) e = after-begins (layout_of a).l3 begins x (transport_follows a (l4.Udp x) e).after
        by (l4.Icmp x) e = after-begins (layout_of a).l3 begins x (transport_follows a (l4.Icmp x) e).after
        by (l4.Icmp6 x) e = after-begins (layout_of a).l3 begins x (transport_follows a (l4.Icmp6 x) e).after

    pub header-same : header_words b ≡ header_words a
    header-same = ap (λ (l : Layout). header_words_by b l.l3) layout-on ∙ header-on (layout_of a).l3 begins

    pub transport-same : transport_words b ≡ transport_words a
    transport-same = ap (λ (l : Layout). words_by pseudo_header b l.l3 l.l4) layout-on ∙ transport-words-on (layout_of a).l3 (layout_of a).l4 begins begins-later

    pub has-same : HasTransportSum a → HasTransportSum b
    has-same has = subst (λ (l : Layout). HasSumBy b l.l4) (sym layout-on) (has-on (layout_of a).l4 begins-later has)

    pub has-same-back : HasTransportSum b → HasTransportSum a
    has-same-back has = has-back (layout_of a).l4 begins-later (subst (λ (l : Layout). HasSumBy b l.l4) layout-on has)
