-- Fields and checksums stand within a frame, so that a write keeps its length.
use Rattle.std.proofs.Common.{◌≡◌, ℕ, ◌+◌, ◌≤◌, Bool, true, false, nat_le, nat_lt, if◌then◌else◌, List, [], ◌∷◌, ◌++◌, length, take, drop, Option, Some, None, bit_and, refl, ap, ◌∙◌, arith}
use Rattle.std.proofs.lemmas.Bool.{cond_both, cond-true, cond-false, ltb-false, le-ltb, leb-true, and_parts}
use Rattle.std.proofs.lemmas.List.{length-append, length-drop, length-take-le}
use Rattle.spec_base.specs.Bytes.{big_endian, big_endian_at}
use Rattle.spec_keys.specs.declared.field_id.FieldId.{FieldId}
use Rattle.spec_keys.specs.declared.field_id.FieldId.TheVariants.{DlSrc, DlDst, NwSrc, NwDst, Ipv6Src, Ipv6Dst, NwTos, NwTtl, ArpSha, ArpTha, TpSrc, TpDst}
use Rattle.spec_frames.specs.Ethernet.{header_size, tag_size, type_at, inner_at, is_tag_at, tag_count}
use Rattle.spec_frames.specs.declared.layout.Layout.{Layout}
use Rattle.spec_frames.specs.declared.layout.L3.{L3}
use Rattle.spec_frames.specs.declared.layout.L3.TheVariants as l3
use Rattle.spec_frames.specs.declared.layout.L4.{L4}
use Rattle.spec_frames.specs.declared.layout.L4.TheVariants as l4
use Rattle.spec_frames.specs.Layout.{layout_of}
use Rattle.spec_actions.specs.declared.action.DpAction.{DpAction}
use Rattle.spec_actions.specs.declared.action.DpAction.TheVariants.{Set}
use Rattle.spec_exec.specs.Writing.{with_number}
use Rattle.spec_exec.specs.Places.{Place, in_arp, in_ipv4, in_ipv6, in_network, port_at, place_in, Sum, ipv4_sum, header_sum, port_sum, address_sum, transport_sum, sums_of}
use Rattle.spec_exec.specs.Rewriting.{followed, corrected, with_bits, set_at, set_field, content_bits, push_tag, pop_tag, changed, after_action}
use Rattle.frame_laws.proofs.keys.Forms.{whole-layout}
use Rattle.frame_laws.proofs.HeaderLaws.{network_follows, transport_follows}
use Rattle.exec_laws.proofs.Replacing.{big_endian-length, with_number-length}

-- ---- headers lie in the frame

abbrev pub Fits3 : List ℕ → L3 → Type 0
Fits3 frame l3.None = Unit {0}
Fits3 frame (l3.Arp at) = at + 28 ≤ length frame
Fits3 frame (l3.Ipv4 at) = at + 20 ≤ length frame
Fits3 frame (l3.Ipv6 at) = at + 40 ≤ length frame

abbrev pub Fits4 : List ℕ → L4 → Type 0
Fits4 frame l4.None = Unit {0}
Fits4 frame (l4.Tcp at) = at + 20 ≤ length frame
Fits4 frame (l4.Udp at) = at + 8 ≤ length frame
Fits4 frame (l4.Icmp at) = at + 8 ≤ length frame
Fits4 frame (l4.Icmp6 at) = at + 4 ≤ length frame

pub l3-fits : (frame : List ℕ) → Fits3 frame (layout_of frame).l3
l3-fits frame = at (layout_of frame).l3 refl
  where
    at : (h : L3) → (layout_of frame).l3 ≡ h → Fits3 frame h
    at l3.None e = tt
    at (l3.Arp x) e = (network_follows frame (l3.Arp x) e).is_within
    at (l3.Ipv4 x) e = (network_follows frame (l3.Ipv4 x) e).is_within
    at (l3.Ipv6 x) e = (network_follows frame (l3.Ipv6 x) e).is_within

pub l4-fits : (frame : List ℕ) → Fits4 frame (layout_of frame).l4
l4-fits frame = at (layout_of frame).l4 refl
  where
    at : (h : L4) → (layout_of frame).l4 ≡ h → Fits4 frame h
    at l4.None e = tt
    at (l4.Tcp x) e = (transport_follows frame (l4.Tcp x) e).is_within
    at (l4.Udp x) e = (transport_follows frame (l4.Udp x) e).is_within
    at (l4.Icmp x) e = (transport_follows frame (l4.Icmp x) e).is_within
    at (l4.Icmp6 x) e = (transport_follows frame (l4.Icmp6 x) e).is_within

-- ---- fields

abbrev pub PlaceFits : List ℕ → Option Place → Type 0
PlaceFits frame None = Unit {0}
PlaceFits frame (Some p) = p.at + p.size ≤ length frame

module _ (frame : List ℕ) where
  arp-fits : (at : ℕ) (f : FieldId) → at + 28 ≤ length frame → PlaceFits frame (in_arp at f)
  arp-fits at ArpSha l = omega arith
  arp-fits at NwSrc l = omega arith
  arp-fits at ArpTha l = omega arith
  arp-fits at NwDst l = omega arith
  arp-fits at f l = tt

  ipv4-fits : (at : ℕ) (f : FieldId) → at + 20 ≤ length frame → PlaceFits frame (in_ipv4 at f)
  ipv4-fits at NwTos l = omega arith
  ipv4-fits at NwTtl l = omega arith
  ipv4-fits at NwSrc l = omega arith
  ipv4-fits at NwDst l = omega arith
  ipv4-fits at f l = tt

  ipv6-fits : (at : ℕ) (f : FieldId) → at + 40 ≤ length frame → PlaceFits frame (in_ipv6 at f)
  ipv6-fits at NwTos l = omega arith
  ipv6-fits at NwTtl l = omega arith
  ipv6-fits at Ipv6Src l = omega arith
  ipv6-fits at Ipv6Dst l = omega arith
  ipv6-fits at f l = tt

  network-fits : (h : L3) (f : FieldId) → Fits3 frame h → PlaceFits frame (in_network h f)
  network-fits l3.None f l = tt
  network-fits (l3.Arp at) f l = arp-fits at f l
  network-fits (l3.Ipv4 at) f l = ipv4-fits at f l
  network-fits (l3.Ipv6 at) f l = ipv6-fits at f l

  port-fits : (offset : ℕ) (h : L4) → offset ≤ 2 → Fits4 frame h → PlaceFits frame (port_at offset h)
  port-fits offset l4.None o l = tt
  port-fits offset (l4.Tcp at) o l = omega arith
  port-fits offset (l4.Udp at) o l = omega arith
  port-fits offset (l4.Icmp at) o l = tt
  port-fits offset (l4.Icmp6 at) o l = tt

  pub place-fits : (f : FieldId) → header_size ≤ length frame → PlaceFits frame (place_in (layout_of frame) f)
  place-fits DlDst l = omega arith
  place-fits DlSrc l = omega arith
  place-fits TpSrc l = port-fits 0 (layout_of frame).l4 (omega arith) (l4-fits frame)
  place-fits TpDst l = port-fits 2 (layout_of frame).l4 (omega arith) (l4-fits frame)
  place-fits f l = network-fits (layout_of frame).l3 f (l3-fits frame)

  -- ---- checksums

  abbrev pub SumsFit : List Sum → Type 0
  SumsFit [] = Unit {0}
  SumsFit (s ∷ sums) = (s.at + 2 ≤ length frame) × SumsFit sums

  ipv4_sum-fits : (h : L3) → Fits3 frame h → SumsFit (ipv4_sum h)
  ipv4_sum-fits (l3.Ipv4 at) l = (omega arith, tt)
  ipv4_sum-fits other l = tt

  header_sum-fits : (f : FieldId) (h : L3) → Fits3 frame h → SumsFit (header_sum f h)
  header_sum-fits NwSrc h l = ipv4_sum-fits h l
  header_sum-fits NwDst h l = ipv4_sum-fits h l
  header_sum-fits NwTos h l = ipv4_sum-fits h l
  header_sum-fits NwTtl h l = ipv4_sum-fits h l
  header_sum-fits f h l = tt

  pub port_sum-fits : (n : L3) (h : L4) → Fits4 frame h → SumsFit (port_sum n h)
  port_sum-fits n (l4.Tcp at) l = (omega arith, tt)
  port_sum-fits (l3.Ipv4 begin) (l4.Udp at) l = (omega arith, tt)
  port_sum-fits n (l4.Udp at) l = (omega arith, tt)
  port_sum-fits n h l = tt

  pub address_sum-fits : (n : L3) (h : L4) → Fits4 frame h → SumsFit (address_sum n h)
  address_sum-fits n (l4.Icmp6 at) l = (omega arith, tt)
  address_sum-fits n h l = port_sum-fits n h l

  transport_sum-fits : (layout : Layout) (f : FieldId) → Fits4 frame layout.l4 → SumsFit (transport_sum layout f)
  transport_sum-fits layout NwSrc l = address_sum-fits layout.l3 layout.l4 l
  transport_sum-fits layout NwDst l = address_sum-fits layout.l3 layout.l4 l
  transport_sum-fits layout Ipv6Src l = address_sum-fits layout.l3 layout.l4 l
  transport_sum-fits layout Ipv6Dst l = cond_both layout.routed [] _ SumsFit (λ e. tt) (λ e. address_sum-fits layout.l3 layout.l4 l)
  transport_sum-fits layout TpSrc l = port_sum-fits layout.l3 layout.l4 l
  transport_sum-fits layout TpDst l = port_sum-fits layout.l3 layout.l4 l
  transport_sum-fits layout f l = tt

  both-fit : (s t : List Sum) → SumsFit s → SumsFit t → SumsFit (s ++ t)
  both-fit [] t a b = b
  both-fit (x ∷ s) t a b = (a.0, both-fit s t a.1 b)

  pub sums-fit : (f : FieldId) → SumsFit (sums_of (layout_of frame) f)
  sums-fit f =
      both-fit (header_sum f (layout_of frame).l3) _ (header_sum-fits f (layout_of frame).l3 (l3-fits frame))
      (transport_sum-fits (layout_of frame) f (l4-fits frame))

-- ---- the length

pub fit-moved : (a b : List ℕ) → length b ≡ length a → (sums : List Sum) → SumsFit a sums → SumsFit b sums
fit-moved a b e [] fit = tt
fit-moved a b e (s ∷ sums) fit = (omega (arith, e, fit.0), fit-moved a b e sums fit.1)

pub corrected-length : (sums : List Sum) (p : Place) (before now : List ℕ) → SumsFit now sums → length (corrected sums p before now) ≡ length now
unfolding corrected
corrected-length [] p before now fit = refl
corrected-length (s ∷ sums) p before now fit =
    let v = followed s.zero_says p.words p.word_at before now (big_endian_at 2 before s.at) in
    let e = with_number-length 2 now s.at v fit.0 in
    corrected-length sums p before (with_number 2 now s.at v) (fit-moved now (with_number 2 now s.at v) e sums fit.1) ∙ e

set_at-length : (frame : List ℕ) (p : Option Place) (sums : List Sum) (value mask : ℕ) → PlaceFits frame p → SumsFit frame sums
    → length (set_at p sums value mask frame) ≡ length frame
set_at-length frame None sums value mask l m = refl
set_at-length frame (Some p) sums value mask l m =
    let e = with_number-length p.size frame p.at _ l in corrected-length sums p frame (with_bits p value mask frame) (fit-moved frame _ e sums m) ∙ e

-- a write keeps the length of any frame
pub set-length : (f : FieldId) (value mask : ℕ) (frame : List ℕ) → length (after_action (Set f value mask) frame) ≡ length frame
unfolding after_action set_field
set-length f value mask frame =
    cond_both (nat_lt (length frame) header_size) frame _ (λ (z : List ℕ). length z ≡ length frame) (λ e. refl)
    (λ e. set_at-length frame _ _ value _ (place-fits frame f (ltb-false (length frame) header_size e)) (sums-fit frame f))

pub push-length : (tpid tci : ℕ) (frame : List ℕ) → header_size ≤ length frame → length (push_tag tpid tci frame) ≡ length frame + tag_size
unfolding push_tag
push-length tpid tci frame l =
    let a = length-append (take 12 frame) (big_endian 2 tpid ++ (big_endian 2 (bit_and tci content_bits) ++ drop 12 frame)) in
    let b = length-append (big_endian 2 tpid) (big_endian 2 (bit_and tci content_bits) ++ drop 12 frame) in
    let c = length-append (big_endian 2 (bit_and tci content_bits)) (drop 12 frame) in
    let d = length-drop 12 frame in
    let e = length-take-le 12 frame (omega arith) in
    let f = big_endian-length 2 tpid in
    let g = big_endian-length 2 (bit_and tci content_bits) in
    omega arith

-- ---- in a frame with a whole Ethernet header

pub act-whole : (action : DpAction) (frame : List ℕ) → header_size ≤ length frame → after_action action frame ≡ changed action frame
unfolding after_action
act-whole action frame l = cond-false (nat_lt (length frame) header_size) frame (changed action frame) (le-ltb (length frame) header_size l)

-- how many tags there are, by whether one stands after the addresses and another after that
abbrev pub count_of : (outer inner : Bool) → ℕ
count_of outer inner = if outer then (if inner then 2 else 1) else 0

pub tagged-layout : (frame : List ℕ) → header_size ≤ length frame → is_tag_at frame type_at ≡ true → nat_lt 0 (layout_of frame).tags ≡ true
unfolding tag_count
tagged-layout frame whole tagged = ap (λ (l : Layout). nat_lt 0 l.tags) (whole-layout frame whole) ∙ at (is_tag_at frame inner_at) (is_tag_at frame type_at) tagged
  where
    at : (inner outer : Bool) → outer ≡ true → nat_lt 0 (count_of outer inner) ≡ true
    at true true e = refl
    at false true e = refl
    at inner false e = absurd cc

-- a tag that is counted stands after the addresses
pub counted-tagged : (frame : List ℕ) → 1 ≤ tag_count frame → is_tag_at frame type_at ≡ true
unfolding tag_count
counted-tagged frame some = at (is_tag_at frame type_at) some
  where
    at : (outer : Bool) → 1 ≤ count_of outer (is_tag_at frame inner_at) → outer ≡ true
    at true l = refl
    at false l = absurd (omega arith)

pub uncounted-untagged : (frame : List ℕ) → tag_count frame ≡ 0 → is_tag_at frame type_at ≡ false
unfolding tag_count
uncounted-untagged frame none = at (is_tag_at frame type_at) (is_tag_at frame inner_at) none
  where
    at : (outer inner : Bool) → count_of outer inner ≡ 0 → outer ≡ false
    at true true e = absurd (omega arith)
    at true false e = absurd (omega arith)
    at false inner e = refl

pub tagged-size : (frame : List ℕ) → is_tag_at frame type_at ≡ true → header_size + tag_size ≤ length frame
unfolding is_tag_at
tagged-size frame tagged = leb-true (header_size + tag_size) (length frame) (and_parts (nat_le (header_size + tag_size) (length frame)) _ tagged).0

pub popped-form : (frame : List ℕ) → is_tag_at frame type_at ≡ true → pop_tag frame ≡ take 12 frame ++ drop 16 frame
unfolding pop_tag
popped-form frame tagged =
    let size = tagged-size frame tagged in
    cond-true (nat_lt 0 (layout_of frame).tags) (take 12 frame ++ drop 16 frame) frame (tagged-layout frame (omega (arith, size)) tagged)

pub pop-length : (frame : List ℕ) → is_tag_at frame type_at ≡ true → length (pop_tag frame) + tag_size ≡ length frame
pop-length frame tagged =
    let size = tagged-size frame tagged in
    let a = length-append (take 12 frame) (drop 16 frame) in
    let b = length-drop 16 frame in
    let c = length-take-le 12 frame (omega arith) in
    ap (λ (z : List ℕ). length z + 4) (popped-form frame tagged) ∙ omega arith
