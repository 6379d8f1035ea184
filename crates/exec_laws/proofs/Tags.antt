-- Tags that are pushed and popped read back, and those in place of others too. The other headers are still there.
use Rattle.std.proofs.Common.{◌≡◌, ℕ, zero, suc, ◌+◌, ◌-◌, ◌*◌, ◌/◌, ◌%◌, ◌^◌, ◌<◌, ◌≤◌, ◌≢◌, ◌==◌, not, Bool, true, false, ◌&&◌, ◌||◌, if◌then◌else◌, List, ◌++◌, length, take, drop, slice_index, bit_and, bit_or, ◌⊎◌, inl, inr, refl, sym, ap, ap₂, ◌∙◌, subst, arith}
use Rattle.std.proofs.lemmas.Bool.{le-leb, eqb-true}
use Rattle.std.proofs.lemmas.List.{get_or_append_left, get_or-append_right, get_or-append-add, get_or-take, get_or-drop, length-take-le}
use Rattle.std.proofs.lemmas.Nat.{and_block, or_block, and_mask, and_le_l, and_or_self}
use Rattle.std.proofs.lemmas.Nat.Bits.{and_pow, bit_at-lt}
use Rattle.std.specs.Int.Bits.{or_add_and}
use Rattle.std.proofs.Math.Nat.{mod-eq_of_lt}
use Rattle.spec_base.specs.Bytes.{big_endian, big_endian_at}
use Rattle.spec_keys.specs.Protocols.{tag_bit, customer_tag, service_tag, is_tag_type}
use Rattle.spec_frames.specs.Ethernet.{header_size, tag_size, type_at, inner_at, is_tag_at, tag_count, tpid_at, tci_at, carried}
use Rattle.spec_frames.specs.Key.{key_of}
use Rattle.spec_frames.specs.Layout.{layout_of}
use Rattle.spec_xlate.specs.Tags.{VlanTag, is_tag, no_tag, is_same_tag}
use Rattle.table_laws.specs.Applied.{is_tag_or_none}
use Rattle.exec_laws.proofs.Fields.{outer_of, inner_of}
use Rattle.spec_actions.specs.declared.action.DpAction.TheVariants.{PopVlan, PushVlan}
use Rattle.spec_exec.specs.Rewriting.{content_bits, push_tag, pop_tag, after_action}
use Rattle.frame_laws.proofs.keys.Forms.{Tags}
use Rattle.frame_laws.proofs.HeaderLaws.{carried-IsTyped}
use Rattle.exec_laws.specs.Become.{has_third_tag}
use Rattle.exec_laws.proofs.Replacing.{number-of, number-same}
use Rattle.exec_laws.proofs.Within.{count_of, push-length, pop-length, popped-form, tagged-size, act-whole}
use Rattle.exec_laws.proofs.Moved.{number-moved, tag_at-moved, carried_on, carried_by-moved}
use Rattle.exec_laws.proofs.Shown.{SamePlaces, moved-places}
use Rattle.exec_laws.proofs.Addresses.{shown_tags, keyed_by, key-is, key-from}

-- ---- the content of a tag

or-tag : (b low : ℕ) → b < 2 → low < 4096 → bit_or low 4096 ≡ bit_or (b * 4096 + low) 4096
or-tag b low l m =
    let e : low ≡ 0 * 4096 + low = omega arith in
    ap (λ (z : ℕ). bit_or z 4096) e ∙ or_block 12 0 1 low 0 m (omega arith) ∙ ap (λ (z : ℕ). z * 4096 + bit_or low 0) (sym (one b l))
    ∙ sym (or_block 12 b 1 low 0 m (omega arith))
  where
    one : (b : ℕ) → b < 2 → bit_or b 1 ≡ 1
    one zero l = refl
    one (suc zero) l = refl
    one (suc (suc b)) l = absurd (omega arith)

-- without bit tag_bit and with it
tag-kept : (tci : ℕ) → tci < 65536 → bit_or (bit_and tci content_bits) tag_bit ≡ bit_or tci tag_bit
tag-kept tci l =
    let split : tci ≡ tci / 8192 * 8192 + tci % 8192 = omega arith in
    let low : tci % 8192 < 8192 = omega arith in
    let high : tci / 8192 < 8 = omega arith in
    ap (λ (z : ℕ). bit_or (bit_and z content_bits) tag_bit) split ∙ by (tci / 8192) (tci % 8192) high low ∙ ap (λ (z : ℕ). bit_or z tag_bit) (sym split)
  where
    by : (q r : ℕ) → q < 8 → r < 8192 → bit_or (bit_and (q * 8192 + r) content_bits) tag_bit ≡ bit_or (q * 8192 + r) tag_bit
    by q r l m =
        let parts = and_block 13 q 7 r 4095 m (omega arith) in
        let q-is : bit_and q 7 ≡ q = and_mask q 3 ∙ mod-eq_of_lt l in
        let r-is = and_mask r 12 in
        let low : r % 4096 < 8192 = omega arith in
        let lower : r % 4096 < 4096 = omega arith in
        let bit : r / 4096 < 2 = omega arith in
        let split : r / 4096 * 4096 + r % 4096 ≡ r = omega arith in
        ap (λ (z : ℕ). bit_or z 4096) (parts ∙ ap₂ (λ (x y : ℕ). x * 8192 + y) q-is r-is) ∙ or_block 13 q 0 (r % 4096) 4096 low (omega arith)
        ∙ ap (λ (z : ℕ). bit_or q 0 * 8192 + z) (or-tag (r / 4096) (r % 4096) bit lower ∙ ap (λ (z : ℕ). bit_or z 4096) split)
        ∙ sym (or_block 13 q 0 r 4096 m (omega arith))

-- a tag's content is read with the bit that says that there is one
pub with-bit : (tci : ℕ) → is_tag tci ≡ true → bit_or tci tag_bit ≡ tci
with-bit tci e =
    let some : bit_and tci 4096 ≢ 0 = λ z. no (ap (λ (n : ℕ). not (n == 0)) z) in
    let parts = and_pow tci 12 in
    let bit = bit_at-lt tci 12 in
    let sum = or_add_and tci 4096 in
    omega (arith, parts, bit, sum, some)
  where
    no : is_tag tci ≡ false → ⊥
    no f = cc

-- whether an outer and an inner tag are those of a proper key
abbrev pub are_proper : VlanTag → VlanTag → Bool
are_proper outer inner = if is_tag outer.tci then is_tag_or_none inner else is_same_tag outer no_tag && is_same_tag inner no_tag

-- there are two types of tags
pub either-tag : (number : ℕ) → is_tag_type number ≡ true → (number ≡ customer_tag) ⊎ (number ≡ service_tag)
either-tag number e = by (number == customer_tag) refl (number == service_tag) refl e
  where
    by : (t : Bool) → (number == customer_tag) ≡ t → (u : Bool) → (number == service_tag) ≡ u → (t || u) ≡ true → (number ≡ customer_tag) ⊎ (number ≡ service_tag)
    by true p u q h = inl (eqb-true number customer_tag p)
    by false p true q h = inr (eqb-true number service_tag q)
    by false p false q h = absurd cc

tag_type-lt : (number : ℕ) → is_tag_type number ≡ true → number < 65536
tag_type-lt number e = elim (either-tag number e) [ inl c ↦ omega arith | inr s ↦ omega arith ]

-- ---- the tags of a frame, by whether a tag stands after the addresses, and another after that

abbrev pub tags_when : List ℕ → (outer inner : Bool) → Tags
tags_when frame outer inner = record {
  tci = if outer then tci_at frame type_at else 0;
  tpid = if outer then tpid_at frame type_at else 0;
  tci2 = if outer then (if inner then tci_at frame inner_at else 0) else 0;
  tpid2 = if outer then (if inner then tpid_at frame inner_at else 0) else 0;
}

module _ (frame : List ℕ) (outer inner : Bool) (e : is_tag_at frame type_at ≡ outer) (f : is_tag_at frame inner_at ≡ inner) where
  pub count-is : tag_count frame ≡ count_of outer inner
  unfolding tag_count
  count-is = rw (e, f) refl

  pub tags-are : shown_tags frame ≡ tags_when frame outer inner
  tags-are = rw count-is (by outer inner)
    where
      by : (t u : Bool)
          → record {
            tci = if count_of t u == 0 then 0 else tci_at frame type_at;
            tpid = if count_of t u == 0 then 0 else tpid_at frame type_at;
            tci2 = if count_of t u == 0 then 0 else (if count_of t u == 1 then 0 else tci_at frame inner_at);
            tpid2 = if count_of t u == 0 then 0 else (if count_of t u == 1 then 0 else tpid_at frame inner_at);
          } ≡ tags_when frame t u
      by true true = refl
      by true false = refl
      by false u = refl

-- a content that is read is that of a tag
pub read-is_tag : (frame : List ℕ) (at : ℕ) → is_tag (tci_at frame at) ≡ true
unfolding tci_at
read-is_tag frame at = ap (λ (z : ℕ). not (z == 0)) (and_or_self tag_bit (big_endian_at 2 frame (at + 2)))

-- a frame's key shows as many tags as it has
pub shown-count : (frame : List ℕ) → count_of (is_tag (shown_tags frame).tci) (is_tag (shown_tags frame).tci2) ≡ tag_count frame
shown-count frame = by (is_tag_at frame type_at) refl (is_tag_at frame inner_at) refl
  where
    shown : (u v : Bool) → count_of (is_tag (tags_when frame u v).tci) (is_tag (tags_when frame u v).tci2) ≡ count_of u v
    shown true true = ap₂ count_of (read-is_tag frame type_at) (read-is_tag frame inner_at)
    shown true false = ap (λ (t : Bool). count_of t false) (read-is_tag frame type_at)
    shown false v = refl

    by : (u : Bool) → is_tag_at frame type_at ≡ u → (v : Bool) → is_tag_at frame inner_at ≡ v
        → count_of (is_tag (shown_tags frame).tci) (is_tag (shown_tags frame).tci2) ≡ tag_count frame
    by u e v f =
        ap (λ (t : Tags). count_of (is_tag t.tci) (is_tag t.tci2)) (tags-are frame u v e f) ∙ shown u v ∙ sym (count-is frame u v e f)

-- they are proper
pub shown-proper : (frame : List ℕ) → are_proper (outer_of (shown_tags frame)) (inner_of (shown_tags frame)) ≡ true
shown-proper frame =
    ap (λ (t : Tags). are_proper (outer_of t) (inner_of t)) (tags-are frame (is_tag_at frame type_at) (is_tag_at frame inner_at) refl refl)
    ∙ shown (is_tag_at frame type_at) (is_tag_at frame inner_at)
  where
    shown : (u v : Bool) → are_proper (outer_of (tags_when frame u v)) (inner_of (tags_when frame u v)) ≡ true
    shown true true =
        ap₂ (λ (t u : Bool). if t then u || is_same_tag (inner_of (tags_when frame true true)) no_tag
        else is_same_tag (outer_of (tags_when frame true true)) no_tag && is_same_tag (inner_of (tags_when frame true true)) no_tag) (read-is_tag frame type_at) (read-is_tag frame inner_at)
    shown true false = ap (λ (u : Bool). if u then true else is_same_tag (outer_of (tags_when frame true false)) no_tag && true) (read-is_tag frame type_at)
    shown false v = refl

-- ---- the key and the layout of a frame with other tags

-- Bytes before an offset that are those of the addresses, and all bytes from there on as in the other frame, where the tags
-- end as much further on.
module _ (a b : List ℕ) (from s : ℕ) (sized : length b ≡ length a + s) (same : (i : ℕ) → from ≤ i → slice_index b (i + s) ≡ slice_index a i) (whole : header_size ≤ length a)
    (begins : from ≤ type_at + tag_count a * tag_size) (counted : tag_count b * tag_size ≡ tag_count a * tag_size + s) where
  pub counted-carried : carried b ≡ carried_on s (carried a)
  unfolding carried
  counted-carried = carried_by-moved a b from s sized same (type_at + tag_count a * tag_size) (type_at + tag_count b * tag_size) (omega (arith, counted)) begins

  begins-before : from ≤ (carried a).at
  begins-before = omega (arith, begins, (carried-IsTyped a).begins)

  pub retagged-key : ((i : ℕ) → i < type_at → slice_index b i ≡ slice_index a i) → (port : ℕ)
      → key_of port b ≡ keyed_by a port (big_endian_at 6 a 6) (big_endian_at 6 a 0) (shown_tags b)
  retagged-key addresses port =
      let source = number-same a b 6 6 (λ i m n. addresses i (omega arith)) in
      let destination = number-same a b 6 0 (λ i m n. addresses i (omega arith)) in
      key-from a b from s sized same whole begins-before counted-carried port ∙ ap₂ (λ (x y : ℕ). keyed_by a port x y (shown_tags b)) source destination

  pub retagged-places : SamePlaces (layout_of a) (layout_of b)
  retagged-places = moved-places a b from s sized same whole begins-before counted-carried

-- ---- the bytes of a pushed tag

module _ (frame : List ℕ) (whole : header_size ≤ length frame) (tpid tci : ℕ) where
  abbrev sent : ℕ
  sent = bit_and tci content_bits

  abbrev rest : List ℕ
  rest = big_endian 2 tpid ++ (big_endian 2 sent ++ drop 12 frame)

  front : length (take 12 frame) ≡ 12
  front = length-take-le 12 frame (omega arith)

  pub push-before : (i : ℕ) → i < type_at → slice_index (push_tag tpid tci frame) i ≡ slice_index frame i
  unfolding push_tag
  push-before i l = get_or_append_left (take 12 frame) rest 0 i (omega (arith, front)) ∙ get_or-take 12 frame i 0 l

  push-at : (i j : ℕ) → i ≡ 12 + j → slice_index (push_tag tpid tci frame) i ≡ slice_index rest j
  unfolding push_tag
  push-at i j e = let f : i - 12 ≡ j = omega arith in get_or-append_right (take 12 frame) rest 12 i 0 front (omega arith) ∙ ap (slice_index rest) f

  pub push-after : (i : ℕ) → type_at ≤ i → slice_index (push_tag tpid tci frame) (i + 4) ≡ slice_index frame i
  push-after i l =
      let e : 12 + (i - 12) ≡ i = omega arith in
      push-at (i + 4) (4 + (i - 12)) (omega arith) ∙ get_or-append-add (big_endian 2 tpid ++ big_endian 2 sent) (drop 12 frame) (i - 12) 0
      ∙ get_or-drop 12 frame (i - 12) 0 ∙ ap (slice_index frame) e

  module _ (typed : is_tag_type tpid ≡ true) where
    pub push-type : big_endian_at 2 (push_tag tpid tci frame) 12 ≡ tpid
    push-type =
        number-of 2 tpid (push_tag tpid tci frame) 12 (λ i l. push-at (12 + i) i refl ∙ get_or_append_left (big_endian 2 tpid) (big_endian 2 sent ++ drop 12 frame) 0 i l)
        ∙ mod-eq_of_lt (tag_type-lt tpid typed)

    pub push-tagged : is_tag_at (push_tag tpid tci frame) type_at ≡ true
    unfolding is_tag_at
    push-tagged =
        ap₂ (λ (t : Bool) (n : ℕ). t && is_tag_type n) (le-leb 18 (length (push_tag tpid tci frame)) (omega (arith, whole, push-length tpid tci frame whole))) push-type ∙ typed

  push-content : big_endian_at 2 (push_tag tpid tci frame) 14 ≡ sent % 256 ^ 2
  push-content =
      number-of 2 sent (push_tag tpid tci frame) 14
      (λ i l. push-at (14 + i) (2 + i) (omega arith) ∙ get_or-append-add (big_endian 2 tpid) (big_endian 2 sent ++ drop 12 frame) i 0 ∙ get_or_append_left (big_endian 2 sent) (drop 12 frame) 0 i l)

  -- the content that is read, of one of 16 bits
  pub push-read : tci < 65536 → tci_at (push_tag tpid tci frame) type_at ≡ bit_or tci tag_bit
  unfolding tci_at
  push-read l =
      let fits : sent < 65536 = omega (arith, and_le_l tci content_bits, l) in
      ap (λ (z : ℕ). bit_or z tag_bit) (push-content ∙ mod-eq_of_lt fits) ∙ tag-kept tci l

  -- a tag that stood after the addresses stands after the new one
  push-next : (i : ℕ) → type_at ≤ i → is_tag_at (push_tag tpid tci frame) (i + 4) ≡ is_tag_at frame i
  push-next i l = tag_at-moved frame (push_tag tpid tci frame) 12 4 (push-length tpid tci frame whole) push-after i (i + 4) refl l

-- ---- a tag that is pushed

-- the tags with one more outside
abbrev pub pushed_tags : ℕ → ℕ → Tags → Tags
pushed_tags tpid tci t = record { tci = tci; tpid = tpid; tci2 = t.tci; tpid2 = t.tpid }

module _ (frame : List ℕ) (whole : header_size ≤ length frame) (tpid tci : ℕ) (typed : is_tag_type tpid ≡ true) (room : tag_count frame ≤ 1) where
  abbrev pushed : List ℕ
  pushed = push_tag tpid tci frame

  sized : length pushed ≡ length frame + 4
  sized = push-length tpid tci frame whole

  -- under a tag that stands alone there is no other
  alone : is_tag_at frame type_at ≡ true → is_tag_at frame inner_at ≡ false
  alone e = by (is_tag_at frame inner_at) refl
    where
      by : (u : Bool) → is_tag_at frame inner_at ≡ u → u ≡ false
      by true f = absurd (omega (arith, room, count-is frame true true e f))
      by false f = refl

  pub push-count : tag_count pushed ≡ tag_count frame + 1
  push-count = by (is_tag_at frame type_at) refl
    where
      by : (t : Bool) → is_tag_at frame type_at ≡ t → tag_count pushed ≡ tag_count frame + 1
      by t e =
          count-is pushed true t (push-tagged frame whole tpid tci typed) (push-next frame whole tpid tci 12 (omega arith) ∙ e)
          ∙ among t e
        where
          among : (t : Bool) → is_tag_at frame type_at ≡ t → count_of true t ≡ tag_count frame + 1
          among true e = ap (λ (z : ℕ). z + 1) (sym (count-is frame true false e (alone e)))
          among false e = ap (λ (z : ℕ). z + 1) (sym (count-is frame false (is_tag_at frame inner_at) e refl))

  pub push-carried : carried pushed ≡ carried_on 4 (carried frame)
  push-carried = counted-carried frame pushed 12 4 sized (push-after frame whole tpid tci) whole (omega arith) (omega (arith, push-count))

  pub push-places : SamePlaces (layout_of frame) (layout_of pushed)
  push-places = retagged-places frame pushed 12 4 sized (push-after frame whole tpid tci) whole (omega arith) (omega (arith, push-count))

  pub push-single : has_third_tag pushed ≡ false
  push-single = by (is_tag_at frame type_at) refl
    where
      by : (t : Bool) → is_tag_at frame type_at ≡ t → has_third_tag pushed ≡ false
      by true e = ap (λ (u : Bool). (tag_count pushed == 2) && u) (push-next frame whole tpid tci 16 (omega arith) ∙ alone e) ∙ none (tag_count pushed == 2)
        where
          none : (t : Bool) → (t && false) ≡ false
          none true = refl
          none false = refl
      by false e =
          ap (λ (z : ℕ). (z == 2) && is_tag_at pushed (inner_at + tag_size)) (count-is pushed true false (push-tagged frame whole tpid tci typed) (push-next frame whole tpid tci 12 (omega arith) ∙ e))

  pub push-shown : tci < 65536 → shown_tags pushed ≡ pushed_tags tpid (bit_or tci tag_bit) (shown_tags frame)
  unfolding tci_at
  push-shown l = by (is_tag_at frame type_at) refl
    where
      by : (t : Bool) → is_tag_at frame type_at ≡ t → shown_tags pushed ≡ pushed_tags tpid (bit_or tci tag_bit) (shown_tags frame)
      by true e =
          tags-are pushed true true (push-tagged frame whole tpid tci typed) (push-next frame whole tpid tci 12 (omega arith) ∙ e)
          ∙ rw (
            push-read frame whole tpid tci l,
            push-type frame whole tpid tci typed,
            number-moved frame pushed 12 4 sized (push-after frame whole tpid tci) 2 12 16 refl (omega arith),
            number-moved frame pushed 12 4 sized (push-after frame whole tpid tci) 2 14 18 refl (omega arith),
          ) refl
          ∙ ap (pushed_tags tpid (bit_or tci tag_bit)) (sym (tags-are frame true false e (alone e)))
      by false e =
          tags-are pushed true false (push-tagged frame whole tpid tci typed) (push-next frame whole tpid tci 12 (omega arith) ∙ e)
          ∙ rw (push-read frame whole tpid tci l, push-type frame whole tpid tci typed) refl
          ∙ ap (pushed_tags tpid (bit_or tci tag_bit)) (sym (tags-are frame false (is_tag_at frame inner_at) e refl))

  pub push-key : tci < 65536 → (port : ℕ)
      → key_of port pushed ≡ keyed_by frame port (big_endian_at 6 frame 6) (big_endian_at 6 frame 0) (pushed_tags tpid (bit_or tci tag_bit) (shown_tags frame))
  push-key l port =
      retagged-key frame pushed 12 4 sized (push-after frame whole tpid tci) whole (omega arith) (omega (arith, push-count)) (push-before frame whole tpid tci) port
      ∙ ap (keyed_by frame port (big_endian_at 6 frame 6) (big_endian_at 6 frame 0)) (push-shown l)

-- ---- the bytes of a frame of which a tag is popped

module _ (frame : List ℕ) (tagged : is_tag_at frame type_at ≡ true) where
  size : header_size + tag_size ≤ length frame
  size = tagged-size frame tagged

  pub pop-before : (i : ℕ) → i < type_at → slice_index (pop_tag frame) i ≡ slice_index frame i
  pop-before i l =
      ap (λ (z : List ℕ). slice_index z i) (popped-form frame tagged)
      ∙ get_or_append_left (take 12 frame) (drop 16 frame) 0 i (omega (arith, size, length-take-le 12 frame (omega (arith, size)))) ∙ get_or-take 12 frame i 0 l

  pub pop-after : (i : ℕ) → type_at ≤ i → slice_index frame (i + 4) ≡ slice_index (pop_tag frame) i
  pop-after i l =
      let e : 16 + (i - 12) ≡ i + 4 = omega arith in
      sym (ap (λ (z : List ℕ). slice_index z i) (popped-form frame tagged)
      ∙ get_or-append_right (take 12 frame) (drop 16 frame) 12 i 0 (length-take-le 12 frame (omega (arith, size))) l ∙ get_or-drop 16 frame (i - 12) 0 ∙ ap (slice_index frame) e)

  pub pop-sized : length frame ≡ length (pop_tag frame) + 4
  pop-sized = sym (pop-length frame tagged)

  pub least : header_size ≤ length (pop_tag frame)
  least = omega (arith, pop-sized, size)

  -- a tag that stood after the one that is gone stands after the addresses
  pub pop-next : (i : ℕ) → type_at ≤ i → is_tag_at frame (i + 4) ≡ is_tag_at (pop_tag frame) i
  pop-next i l = tag_at-moved (pop_tag frame) frame 12 4 pop-sized pop-after i (i + 4) refl l

-- ---- a tag that is popped

-- the tags without the outer one
abbrev pub popped_tags : Tags → Tags
popped_tags t = record { tci = t.tci2; tpid = t.tpid2; tci2 = 0; tpid2 = 0 }

module _ (frame : List ℕ) (tagged : is_tag_at frame type_at ≡ true) (single : has_third_tag frame ≡ false) where
  abbrev popped : List ℕ
  popped = pop_tag frame

  -- no other tag comes to stand where the inner one was
  uncovered : is_tag_at frame inner_at ≡ true → is_tag_at popped inner_at ≡ false
  uncovered e =
      sym (pop-next frame tagged 16 (omega arith))
      ∙ (sym (ap (λ (z : ℕ). (z == 2) && is_tag_at frame (inner_at + tag_size)) (count-is frame true true tagged e)) ∙ single)

  pub pop-count : tag_count frame ≡ tag_count popped + 1
  pop-count = by (is_tag_at frame inner_at) refl
    where
      by : (t : Bool) → is_tag_at frame inner_at ≡ t → tag_count frame ≡ tag_count popped + 1
      by true e =
          count-is frame true true tagged e
          ∙ ap (λ (z : ℕ). z + 1) (sym (count-is popped true false (sym (pop-next frame tagged 12 (omega arith)) ∙ e) (uncovered e)))
      by false e =
          count-is frame true false tagged e
          ∙ ap (λ (z : ℕ). z + 1) (sym (count-is popped false (is_tag_at popped inner_at) (sym (pop-next frame tagged 12 (omega arith)) ∙ e) refl))

  pub pop-carried : carried frame ≡ carried_on 4 (carried popped)
  pop-carried = counted-carried popped frame 12 4 (pop-sized frame tagged) (pop-after frame tagged) (least frame tagged) (omega arith) (omega (arith, pop-count))

  pub pop-places : SamePlaces (layout_of frame) (layout_of popped)
  pop-places f =
      sym (retagged-places popped frame 12 4 (pop-sized frame tagged) (pop-after frame tagged) (least frame tagged) (omega arith) (omega (arith, pop-count)) f)

  pub pop-single : has_third_tag popped ≡ false
  pop-single = by (is_tag_at frame inner_at) refl
    where
      by : (t : Bool) → is_tag_at frame inner_at ≡ t → has_third_tag popped ≡ false
      by true e = ap (λ (z : ℕ). (z == 2) && is_tag_at popped (inner_at + tag_size)) (count-is popped true false (sym (pop-next frame tagged 12 (omega arith)) ∙ e) (uncovered e))
      by false e =
          ap (λ (z : ℕ). (z == 2) && is_tag_at popped (inner_at + tag_size))
          (count-is popped false (is_tag_at popped inner_at) (sym (pop-next frame tagged 12 (omega arith)) ∙ e) refl)

  pub pop-shown : shown_tags popped ≡ popped_tags (shown_tags frame)
  unfolding tci_at
  pop-shown = by (is_tag_at frame inner_at) refl
    where
      by : (t : Bool) → is_tag_at frame inner_at ≡ t → shown_tags popped ≡ popped_tags (shown_tags frame)
      by true e =
          tags-are popped true false (sym (pop-next frame tagged 12 (omega arith)) ∙ e) (uncovered e)
          ∙ rw (
            sym (number-moved popped frame 12 4 (pop-sized frame tagged) (pop-after frame tagged) 2 12 16 refl (omega arith)),
            sym (number-moved popped frame 12 4 (pop-sized frame tagged) (pop-after frame tagged) 2 14 18 refl (omega arith)),
          ) refl
          ∙ ap popped_tags (sym (tags-are frame true true tagged e))
      by false e =
          tags-are popped false (is_tag_at popped inner_at) (sym (pop-next frame tagged 12 (omega arith)) ∙ e) refl
          ∙ ap popped_tags (sym (tags-are frame true false tagged e))

  -- the key of the first frame, with the tags of the other
  pub pop-key : (port : ℕ) → key_of port popped ≡ keyed_by popped port (big_endian_at 6 frame 6) (big_endian_at 6 frame 0) (popped_tags (shown_tags frame))
  pop-key port =
      let source = number-same frame popped 6 6 (λ i m n. pop-before frame tagged i (omega arith)) in
      let destination = number-same frame popped 6 0 (λ i m n. pop-before frame tagged i (omega arith)) in
      key-is port popped (least frame tagged) ∙ ap₂ (λ (x y : ℕ). keyed_by popped port x y (shown_tags popped)) source destination
      ∙ ap (keyed_by popped port (big_endian_at 6 frame 6) (big_endian_at 6 frame 0)) pop-shown

  pub pop-from : (port : ℕ) → key_of port frame ≡ keyed_by popped port (big_endian_at 6 frame 6) (big_endian_at 6 frame 0) (shown_tags frame)
  pop-from port =
      let source = number-same frame popped 6 6 (λ i m n. pop-before frame tagged i (omega arith)) in
      let destination = number-same frame popped 6 0 (λ i m n. pop-before frame tagged i (omega arith)) in
      retagged-key popped frame 12 4 (pop-sized frame tagged) (pop-after frame tagged) (least frame tagged) (omega arith) (omega (arith, pop-count))
      (λ i l. sym (pop-before frame tagged i l)) port ∙ ap₂ (λ (x y : ℕ). keyed_by popped port x y (shown_tags frame)) source destination

-- ---- a tag in place of another

-- the tags with another outer one
abbrev pub replaced_tags : ℕ → ℕ → Tags → Tags
replaced_tags tpid tci t = record { tci = tci; tpid = tpid; tci2 = t.tci2; tpid2 = t.tpid2 }

module _ (frame : List ℕ) (tagged : is_tag_at frame type_at ≡ true) (tpid tci : ℕ) where
  abbrev pub other : List ℕ
  other = push_tag tpid tci (pop_tag frame)

  pub other-length : length other ≡ length frame + 0
  other-length = omega (arith, push-length tpid tci (pop_tag frame) (least frame tagged), pop-sized frame tagged)

  pub other-before : (i : ℕ) → i < type_at → slice_index other i ≡ slice_index frame i
  other-before i l = push-before (pop_tag frame) (least frame tagged) tpid tci i l ∙ pop-before frame tagged i l

  pub other-after : (i : ℕ) → type_at + tag_size ≤ i → slice_index other (i + 0) ≡ slice_index frame i
  other-after i l =
      let e : i + 0 ≡ i - 4 + 4 = omega arith in
      let f : i - 4 + 4 ≡ i = omega arith in
      ap (slice_index other) e ∙ push-after (pop_tag frame) (least frame tagged) tpid tci (i - 4) (omega arith) ∙ sym (pop-after frame tagged (i - 4) (omega arith)) ∙ ap (slice_index frame) f

  pub other-form : after_action (PushVlan tpid tci) (after_action PopVlan frame) ≡ other
  other-form =
      let first = act-whole PopVlan frame (omega (arith, tagged-size frame tagged)) in
      act-whole (PushVlan tpid tci) (after_action PopVlan frame) (subst (λ (z : List ℕ). header_size ≤ length z) (sym first) (least frame tagged)) ∙ ap (push_tag tpid tci) first

  module _ (typed : is_tag_type tpid ≡ true) where
    first : is_tag_at other type_at ≡ true
    first = push-tagged (pop_tag frame) (least frame tagged) tpid tci typed

    next : (i : ℕ) → type_at + tag_size ≤ i → is_tag_at other i ≡ is_tag_at frame i
    next i l = tag_at-moved frame other 16 0 other-length other-after i i (omega arith) l

    pub other-count : tag_count other ≡ tag_count frame
    other-count = count-is other true (is_tag_at frame inner_at) first (next 16 (omega arith)) ∙ sym (count-is frame true (is_tag_at frame inner_at) tagged refl)

    begins-after : 16 ≤ type_at + tag_count frame * tag_size
    begins-after = by (is_tag_at frame inner_at) (count-is frame true (is_tag_at frame inner_at) tagged refl)
      where
        by : (u : Bool) → tag_count frame ≡ count_of true u → 16 ≤ type_at + tag_count frame * tag_size
        by true e = omega arith
        by false e = omega arith

    pub other-places : SamePlaces (layout_of frame) (layout_of other)
    other-places = retagged-places frame other 16 0 other-length other-after (omega (arith, tagged-size frame tagged)) begins-after (omega (arith, other-count))

    pub other-third : has_third_tag other ≡ has_third_tag frame
    other-third = ap₂ (λ (z : ℕ) (t : Bool). (z == 2) && t) other-count (next 20 (omega arith))

    pub other-shown : tci < 65536 → shown_tags other ≡ replaced_tags tpid (bit_or tci tag_bit) (shown_tags frame)
    unfolding tci_at
    other-shown l = by (is_tag_at frame inner_at) refl
      where
        by : (t : Bool) → is_tag_at frame inner_at ≡ t → shown_tags other ≡ replaced_tags tpid (bit_or tci tag_bit) (shown_tags frame)
        by true e =
            tags-are other true true first (next 16 (omega arith) ∙ e)
            ∙ rw (
              push-read (pop_tag frame) (least frame tagged) tpid tci l,
              push-type (pop_tag frame) (least frame tagged) tpid tci typed,
              number-moved frame other 16 0 other-length other-after 2 16 16 refl (omega arith),
              number-moved frame other 16 0 other-length other-after 2 18 18 refl (omega arith),
            ) refl
            ∙ ap (replaced_tags tpid (bit_or tci tag_bit)) (sym (tags-are frame true true tagged e))
        by false e =
            tags-are other true false first (next 16 (omega arith) ∙ e)
            ∙ rw (push-read (pop_tag frame) (least frame tagged) tpid tci l, push-type (pop_tag frame) (least frame tagged) tpid tci typed) refl
            ∙ ap (replaced_tags tpid (bit_or tci tag_bit)) (sym (tags-are frame true false tagged e))

    pub other-key : tci < 65536 → (port : ℕ)
        → key_of port other ≡ keyed_by frame port (big_endian_at 6 frame 6) (big_endian_at 6 frame 0) (replaced_tags tpid (bit_or tci tag_bit) (shown_tags frame))
    other-key l port =
        retagged-key frame other 16 0 other-length other-after (omega (arith, tagged-size frame tagged)) begins-after (omega (arith, other-count)) other-before port
        ∙ ap (keyed_by frame port (big_endian_at 6 frame 6) (big_endian_at 6 frame 0)) (other-shown l)

-- ---- two tags in place of two others

module _ (frame : List ℕ) (tagged : is_tag_at frame type_at ≡ true) (twice : is_tag_at frame inner_at ≡ true) (tpid2 tci2 tpid tci : ℕ) where
  abbrev under : List ℕ
  under = pop_tag frame

  under-tagged : is_tag_at under type_at ≡ true
  under-tagged = sym (pop-next frame tagged 12 (omega arith)) ∙ twice

  abbrev inside : List ℕ
  inside = push_tag tpid2 tci2 (pop_tag under)

  inside-whole : header_size ≤ length inside
  inside-whole = omega (arith, other-length under under-tagged tpid2 tci2, least frame tagged)

  abbrev pub both : List ℕ
  both = push_tag tpid tci inside

  pub both-length : length both ≡ length frame + 0
  both-length = omega (arith, push-length tpid tci inside inside-whole, other-length under under-tagged tpid2 tci2, pop-sized frame tagged)

  both-before : (i : ℕ) → i < type_at → slice_index both i ≡ slice_index frame i
  both-before i l = push-before inside inside-whole tpid tci i l ∙ other-before under under-tagged tpid2 tci2 i l ∙ pop-before frame tagged i l

  both-after : (i : ℕ) → inner_at + tag_size ≤ i → slice_index both (i + 0) ≡ slice_index frame i
  both-after i l =
      let e : i + 0 ≡ i - 4 + 4 = omega arith in
      let f : i - 4 + 4 ≡ i = omega arith in
      let g : i - 4 ≡ i - 4 + 0 = omega arith in
      ap (slice_index both) e ∙ push-after inside inside-whole tpid tci (i - 4) (omega arith) ∙ ap (slice_index inside) g
      ∙ other-after under under-tagged tpid2 tci2 (i - 4) (omega arith) ∙ sym (pop-after frame tagged (i - 4) (omega arith)) ∙ ap (slice_index frame) f

  pub both-form : after_action (PushVlan tpid tci) (after_action (PushVlan tpid2 tci2) (after_action PopVlan (after_action PopVlan frame))) ≡ both
  both-form =
      let first = act-whole PopVlan frame (omega (arith, tagged-size frame tagged)) in
      let next = ap (λ (z : List ℕ). after_action (PushVlan tpid2 tci2) (after_action PopVlan z)) first ∙ other-form under under-tagged tpid2 tci2 in
      ap (after_action (PushVlan tpid tci)) next ∙ act-whole (PushVlan tpid tci) inside inside-whole

  module _ (typed2 : is_tag_type tpid2 ≡ true) (typed : is_tag_type tpid ≡ true) where
    outer-is : is_tag_at both type_at ≡ true
    outer-is = push-tagged inside inside-whole tpid tci typed

    inner-is : is_tag_at both inner_at ≡ true
    inner-is = push-next inside inside-whole tpid tci 12 (omega arith) ∙ push-tagged (pop_tag under) (least under under-tagged) tpid2 tci2 typed2

    both-count : tag_count both ≡ tag_count frame
    both-count = count-is both true true outer-is inner-is ∙ sym (count-is frame true true tagged twice)

    behind : 20 ≤ type_at + tag_count frame * tag_size
    behind = omega (arith, count-is frame true true tagged twice)

    pub both-places : SamePlaces (layout_of frame) (layout_of both)
    both-places = retagged-places frame both 20 0 both-length both-after (omega (arith, tagged-size frame tagged)) behind (omega (arith, both-count))

    pub both-third : has_third_tag both ≡ has_third_tag frame
    both-third = ap₂ (λ (z : ℕ) (t : Bool). (z == 2) && t) both-count (tag_at-moved frame both 20 0 both-length both-after 20 20 refl (omega arith))

    module _ (l2 : tci2 < 65536) (l : tci < 65536) where
      abbrev written : Tags
      written = record { tci = bit_or tci tag_bit; tpid = tpid; tci2 = bit_or tci2 tag_bit; tpid2 = tpid2 }

      inner-number : (n i : ℕ) → type_at ≤ i → big_endian_at n both (i + 4) ≡ big_endian_at n inside i
      inner-number n i m = number-moved inside both 12 4 (push-length tpid tci inside inside-whole) (push-after inside inside-whole tpid tci) n i (i + 4) refl m

      inner-content : tci_at both inner_at ≡ tci_at inside type_at
      unfolding tci_at
      inner-content = ap (λ (z : ℕ). bit_or z tag_bit) (inner-number 2 14 (omega arith))

      inner-read : tci_at both inner_at ≡ bit_or tci2 tag_bit
      inner-read = inner-content ∙ push-read (pop_tag under) (least under under-tagged) tpid2 tci2 l2

      both-shown : shown_tags both ≡ written
      both-shown =
          tags-are both true true outer-is inner-is
          ∙ rw (
            push-read inside inside-whole tpid tci l,
            push-type inside inside-whole tpid tci typed,
            inner-read,
            inner-number 2 12 (omega arith),
            push-type (pop_tag under) (least under under-tagged) tpid2 tci2 typed2,
          ) refl

      pub both-key : (port : ℕ) → key_of port both ≡ keyed_by frame port (big_endian_at 6 frame 6) (big_endian_at 6 frame 0) written
      both-key port =
          retagged-key frame both 20 0 both-length both-after (omega (arith, tagged-size frame tagged)) behind (omega (arith, both-count)) both-before port
          ∙ ap (keyed_by frame port (big_endian_at 6 frame 6) (big_endian_at 6 frame 0)) both-shown
