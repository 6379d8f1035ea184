-- What a write does to a checksum: nothing to what it covers, or it changes some of that, and the checksum follows.
use Rattle.std.proofs.Common.{◌≡◌, ◌≢◌, ℕ, zero, suc, ◌+◌, ◌*◌, ◌%◌, ◌^◌, ◌<◌, ◌≤◌, ◌==◌, List, [], ◌∷◌, ◌++◌, length, slice_index, Option, Some, None, ◌⊎◌, inl, inr, bit_and, refl, sym, ap, ap₂, ◌∙◌, subst, arith}
use Rattle.std.specs.Prelude.{sum}
use Rattle.std.proofs.lemmas.Bool.{cond_both, cond-false, eqb-false, ne_eqb}
use Rattle.std.proofs.Math.Nat.{mod-eq_of_lt}
use Rattle.spec_base.specs.Bits.{all_bits}
use Rattle.spec_base.specs.Bytes.{big_endian_at}
use Rattle.spec_keys.specs.declared.field_id.FieldId.{FieldId}
use Rattle.spec_keys.specs.Fields.{width_of}
use Rattle.spec_frames.specs.declared.layout.Layout.{Layout}
use Rattle.spec_frames.specs.Ethernet.{header_size}
use Rattle.spec_frames.specs.Layout.{layout_of}
use Rattle.spec_actions.specs.declared.action.DpAction.TheVariants.{Set}
use Rattle.spec_exec.specs.Writing.{with_number}
use Rattle.spec_exec.specs.Places.{Place, place_in, Zero, Plain, Ones, Absent, Sum, sums_of}
use Rattle.spec_exec.specs.Rewriting.{sent_as, after_word, after_words, followed, corrected, with_bits, set_at, set_field, after_action}
use Rattle.exec_laws.specs.Elsewhere.{IsOutside, IsNoPlace, IsNoSum}
use Rattle.exec_laws.proofs.Replacing.{number-same, with_number-length, with_number-reads}
use Rattle.exec_laws.proofs.Bytes.{EachByte, word-lt, with_number-bytes}
use Rattle.exec_laws.proofs.BytesKept.{corrected-bytes}
use Rattle.exec_laws.proofs.Within.{PlaceFits, place-fits, SumsFit, sums-fit, fit-moved, corrected-length, act-whole}
use Rattle.exec_laws.proofs.Untouched.{with_number-outside, corrected-outside, set-untouched}
use Rattle.exec_laws.proofs.checksums.Sums.{words-congruent}
use Rattle.exec_laws.proofs.checksums.Cover.{cover, IsAligned, cover-same, follows-right}
use Rattle.exec_laws.specs.Right.{AreWords, IsRight}

-- A checksum: where it stands and what 0 says in it, which words of the IP header it covers, which bytes after that
-- header, and which bytes say how much it covers.
pub record Check : Type 0 where
  pub at : ℕ
  pub zero_says : Zero
  pub header : ℕ
  pub words : ℕ
  pub body : ℕ
  pub size : ℕ
  pub told_at : ℕ
  pub told : ℕ

abbrev pub IsToldBy : Check → ℕ → Type 0
IsToldBy c i = (c.told_at ≤ i) × (i < c.told_at + c.told)

-- a byte on which the words that are covered depend
abbrev pub Counts : Check → ℕ → Type 0
Counts c i = ((c.header ≤ i) × (i < c.header + 2 * c.words)) ⊎ (((c.body ≤ i) × (i < c.body + c.size)) ⊎ IsToldBy c i)

abbrev pub IsWithin : Check → ℕ → ℕ → Type 0
IsWithin c j m = IsAligned c.header c.words c.size c.body j m

-- The field is covered, so many whole words that have it and that aren't the checksum's. The checksum is the one of the
-- field's that is corrected after the first ones, which stand before what is covered; those after it are not covered.
pub record Follows (c : Check) (layout : Layout) (f : FieldId) : Type 0 where
  pub p : Place
  pub first : List Sum
  pub last : List Sum
  pub stands : place_in layout f ≡ Some p
  pub sums : sums_of layout f ≡ first ++ (record { at = c.at; zero_says = c.zero_says } ∷ last)
  pub within : IsWithin c p.word_at p.words
  pub has : (p.word_at ≤ p.at) × (p.at + p.size ≤ p.word_at + 2 * p.words)
  pub besides : (c.at + 2 ≤ p.word_at) ⊎ (p.word_at + 2 * p.words ≤ c.at)
  pub first_apart : (i : ℕ) → c.header ≤ i → IsNoSum i first
  pub last_apart : (i : ℕ) → Counts c i → IsNoSum i last
  pub told_apart : (i : ℕ) → IsToldBy c i → IsOutside i p.at p.size × (IsNoSum i first × IsOutside i c.at 2)

abbrev pub IsUntouched : Check → Layout → FieldId → Type 0
IsUntouched c layout f = (i : ℕ) → Counts c i → IsNoPlace i (place_in layout f) × IsNoSum i (sums_of layout f)

-- a write that changes nothing, since the field isn't there; or nothing that counts; or what the checksum follows
abbrev pub Write : Check → Layout → FieldId → Type 0
Write c layout f = (place_in layout f ≡ None) ⊎ (IsUntouched c layout f ⊎ Follows c layout f)

abbrev pub QuietWrite : Check → Layout → FieldId → Type 0
QuietWrite c layout f = (place_in layout f ≡ None) ⊎ IsUntouched c layout f

-- ---- lists of checksums

split-fit : (frame : List ℕ) (s t : List Sum) → SumsFit frame (s ++ t) → SumsFit frame s × SumsFit frame t
split-fit frame [] t fit = (tt, fit)
split-fit frame (x ∷ s) t fit = let rest = split-fit frame s t fit.1 in ((fit.0, rest.0), rest.1)

corrected-split : (first last : List Sum) (t : Sum) (p : Place) (before now : List ℕ)
    → corrected (first ++ (t ∷ last)) p before now
    ≡ corrected last p before (with_number 2 (corrected first p before now) t.at (followed t.zero_says p.words p.word_at before (corrected first p before now) (big_endian_at 2 before t.at)))
unfolding corrected
corrected-split [] last t p before now = refl
corrected-split (s ∷ first) last t p before now = corrected-split first last t p before _

-- ---- whether there is a checksum

abbrev pub IsThere : Zero → ℕ → Type 0
IsThere Absent h = h ≢ 0
IsThere z h = Unit {0}

followed-there : (z : Zero) (n at h : ℕ) (before now : List ℕ) → IsThere z h → followed z n at before now h ≡ after_words z n at before now h
followed-there Plain n at h before now there = refl
followed-there Ones n at h before now there = refl
followed-there Absent n at h before now there = cond-false _ _ _ (ne_eqb h 0 there)

there : (z : Zero) (h : ℕ) → h ≢ 0 → IsThere z h
there Plain h some = tt
there Ones h some = tt
there Absent h some = some

-- a checksum in which 0 can't be sent doesn't become 0
sent_as-some : (z : Zero) → z ≢ Plain → (sum : ℕ) → sent_as z sum ≢ 0
sent_as-some Plain ones sum = absurd (ones refl)
sent_as-some Ones ones sum = cond_both (sum == 0) 0xffff sum (λ h. h ≢ 0) (λ e. omega arith) (λ e. eqb-false sum 0 e)
sent_as-some Absent ones sum = cond_both (sum == 0) 0xffff sum (λ h. h ≢ 0) (λ e. omega arith) (λ e. eqb-false sum 0 e)

after_words-some : (z : Zero) → z ≢ Plain → (n at : ℕ) (before now : List ℕ) (h : ℕ) → h ≢ 0 → after_words z n at before now h ≢ 0
unfolding after_words after_word
after_words-some z ones zero at before now h some = some
after_words-some z ones (suc n) at before now h some =
    after_words-some z ones n (at + 2) before now _
    (cond_both (big_endian_at 2 before at == big_endian_at 2 now at) h _ (λ k. k ≢ 0) (λ e. some) (λ e. sent_as-some z ones _))

-- ---- a write

module _ (c : Check) (frame : List ℕ) (bytes : EachByte frame) (whole : header_size ≤ length frame) (f : FieldId) (value mask : ℕ) where
  abbrev pub result : List ℕ
  result = after_action (Set f value mask) frame

  nothing : place_in (layout_of frame) f ≡ None → result ≡ frame
  unfolding set_field
  nothing e = act-whole (Set f value mask) frame whole ∙ rw e refl

  untouched : IsUntouched c (layout_of frame) f → (i : ℕ) → Counts c i → slice_index result i ≡ slice_index frame i
  untouched u i counts = let apart = u i counts in set-untouched f value mask frame i whole apart.0 apart.1

  module _ (w : Follows c (layout_of frame) f) where
    abbrev now : List ℕ
    now = with_bits w.p value (bit_and mask (all_bits (width_of f))) frame

    abbrev with_first : List ℕ
    with_first = corrected w.first w.p frame now

    abbrev new_sum : ℕ
    new_sum = followed c.zero_says w.p.words w.p.word_at frame with_first (big_endian_at 2 frame c.at)

    abbrev with_sum : List ℕ
    with_sum = with_number 2 with_first c.at new_sum

    form : result ≡ corrected w.last w.p frame with_sum
    unfolding set_field
    form =
        act-whole (Set f value mask) frame whole
        ∙ ap₂ (λ (p : Option Place) (sums : List Sum). set_at p sums value (bit_and mask (all_bits (width_of f))) frame) w.stands w.sums
        ∙ corrected-split w.first w.last (record { at = c.at; zero_says = c.zero_says }) w.p frame now

    fits : w.p.at + w.p.size ≤ length frame
    fits = subst (PlaceFits frame) w.stands (place-fits frame f whole)

    now-length : length now ≡ length frame
    now-length = with_number-length w.p.size frame w.p.at _ fits

    all-fit : SumsFit frame w.first × SumsFit frame (record { at = c.at; zero_says = c.zero_says } ∷ w.last)
    all-fit = split-fit frame w.first (record { at = c.at; zero_says = c.zero_says } ∷ w.last) (subst (SumsFit frame) w.sums (sums-fit frame f))

    first-fit : SumsFit now w.first
    first-fit = fit-moved frame now now-length w.first all-fit.0

    first-length : length with_first ≡ length frame
    first-length = corrected-length w.first w.p frame now first-fit ∙ now-length

    first-bytes : EachByte with_first
    first-bytes = corrected-bytes w.first w.p frame now first-fit (with_number-bytes w.p.size frame w.p.at _ fits bytes)

    room : c.at + 2 ≤ length with_first
    room = omega (arith, all-fit.1.0, first-length)

    with_sum-length : length with_sum ≡ length frame
    with_sum-length = with_number-length 2 with_first c.at new_sum room ∙ first-length

    last-fit : SumsFit with_sum w.last
    last-fit = fit-moved frame with_sum with_sum-length w.last all-fit.1.1

    -- the checksums that are corrected last don't count
    last-same : (i : ℕ) → Counts c i → slice_index result i ≡ slice_index with_sum i
    last-same i counts = ap (λ (z : List ℕ). slice_index z i) form ∙ corrected-outside w.last w.p frame with_sum last-fit i (w.last_apart i counts)

    first-same : (i : ℕ) → IsOutside i w.p.at w.p.size → IsNoSum i w.first → slice_index with_first i ≡ slice_index frame i
    first-same i o n = corrected-outside w.first w.p frame now first-fit i n ∙ with_number-outside w.p.size frame w.p.at _ fits i o

    told-same : (i : ℕ) → IsToldBy c i → slice_index result i ≡ slice_index frame i
    told-same i told =
        let apart = w.told_apart i told in
        last-same i (inr (inr told)) ∙ with_number-outside 2 with_first c.at new_sum room i apart.1.1 ∙ first-same i apart.0 apart.1.0

    outside : (i : ℕ) → (i < w.p.word_at) ⊎ (w.p.word_at + 2 * w.p.words ≤ i) → IsOutside i w.p.at w.p.size
    outside i (inl l) = inl (omega (arith, l, w.has.0))
    outside i (inr l) = inr (omega (arith, l, w.has.1))

    follows : (given : List ℕ) → AreWords given → c.header + 2 * c.words ≤ c.body → IsWithin c c.at 1 → IsThere c.zero_says (big_endian_at 2 frame c.at)
        → 0 < sum (cover c.header c.words given c.size c.body result)
        → IsRight (cover c.header c.words given c.size c.body frame) → IsRight (cover c.header c.words given c.size c.body result)
    follows given fit apart stands there some right =
        let same = cover-same c.header c.words given c.size c.body apart with_sum result (λ i l m. last-same i (inl (l, m))) (λ i l m. last-same i (inr (inl (l, m)))) in
        let is = followed-there c.zero_says w.p.words w.p.word_at (big_endian_at 2 frame c.at) frame with_first there in
        let new = with_number 2 with_first c.at (after_words c.zero_says w.p.words w.p.word_at frame with_first (big_endian_at 2 frame c.at)) in
        let moved : with_sum ≡ new = ap (with_number 2 with_first c.at) is in
        let covered : cover c.header c.words given c.size c.body result ≡ cover c.header c.words given c.size c.body new = same ∙ ap (cover c.header c.words given c.size c.body) moved in
        subst IsRight (sym covered)
        (follows-right c.header c.words given c.size c.body apart c.zero_says frame with_first bytes first-bytes w.p.word_at w.p.words c.at w.within stands w.besides room
        (λ i l o. first-same i (outside i o) (w.first_apart i l)) fit (with_number-bytes 2 with_first c.at _ room first-bytes)
        (subst (λ (list : List ℕ). 0 < sum list) covered some) right)

  -- ---- any write

  pub told-kept : Write c (layout_of frame) f → (i : ℕ) → IsToldBy c i → slice_index result i ≡ slice_index frame i
  told-kept (inl e) i told = ap (λ (z : List ℕ). slice_index z i) (nothing e)
  told-kept (inr (inl u)) i told = untouched u i (inr (inr told))
  told-kept (inr (inr w)) i told = told-same w i told

  pub stays-same : QuietWrite c (layout_of frame) f → (given : List ℕ) → c.header + 2 * c.words ≤ c.body
      → cover c.header c.words given c.size c.body result ≡ cover c.header c.words given c.size c.body frame
  stays-same (inl e) given apart = ap (cover c.header c.words given c.size c.body) (nothing e)
  stays-same (inr u) given apart =
      cover-same c.header c.words given c.size c.body apart frame result (λ i l m. untouched u i (inl (l, m))) (λ i l m. untouched u i (inr (inl (l, m))))

  pub stays-right : Write c (layout_of frame) f → (given : List ℕ) → AreWords given → c.header + 2 * c.words ≤ c.body → IsWithin c c.at 1
      → IsThere c.zero_says (big_endian_at 2 frame c.at) → 0 < sum (cover c.header c.words given c.size c.body result)
      → IsRight (cover c.header c.words given c.size c.body frame) → IsRight (cover c.header c.words given c.size c.body result)
  stays-right (inl e) given fit apart stands there some right = subst IsRight (sym (stays-same (inl e) given apart)) right
  stays-right (inr (inl u)) given fit apart stands there some right = subst IsRight (sym (stays-same (inr u) given apart)) right
  stays-right (inr (inr w)) given fit apart stands there some right = follows w given fit apart stands there some right

  -- ---- the checksum

  module _ (w : Follows c (layout_of frame) f) (counts : (i : ℕ) → c.at ≤ i → i < c.at + 2 → Counts c i) where
    follows-reads : big_endian_at 2 result c.at ≡ new_sum w % 256 ^ 2
    follows-reads = number-same (with_sum w) result 2 c.at (λ i l m. last-same w i (counts i l m)) ∙ with_number-reads 2 (with_first w) c.at (new_sum w) (room w)

    follows-absent : c.zero_says ≡ Absent → big_endian_at 2 frame c.at ≡ 0 → big_endian_at 2 result c.at ≡ 0
    follows-absent e none =
        let zero_is : new_sum w ≡ 0 = rw (e, none) refl in
        follows-reads ∙ ap (λ (h : ℕ). h % 256 ^ 2) zero_is

    follows-present : c.zero_says ≢ Plain → big_endian_at 2 frame c.at ≢ 0 → big_endian_at 2 result c.at ≢ 0
    follows-present ones some none =
        let h = big_endian_at 2 frame c.at in
        let is = followed-there c.zero_says w.p.words w.p.word_at h frame (with_first w) (there c.zero_says h some) in
        let fits = (words-congruent c.zero_says frame (with_first w) bytes (first-bytes w) w.p.words w.p.word_at h (word-lt frame bytes c.at)).1 in
        after_words-some c.zero_says ones w.p.words w.p.word_at frame (with_first w) h some
        (sym (mod-eq_of_lt fits) ∙ ap (λ (k : ℕ). k % 256 ^ 2) (sym is) ∙ sym follows-reads ∙ none)

  -- a checksum that is there stays there, and one that isn't stays away
  module _ (write : Write c (layout_of frame) f) (counts : (i : ℕ) → c.at ≤ i → i < c.at + 2 → Counts c i) where
    sum-same : IsUntouched c (layout_of frame) f → big_endian_at 2 result c.at ≡ big_endian_at 2 frame c.at
    sum-same u = number-same frame result 2 c.at (λ i l m. untouched u i (counts i l m))

    pub sum-absent : c.zero_says ≡ Absent → big_endian_at 2 frame c.at ≡ 0 → big_endian_at 2 result c.at ≡ 0
    sum-absent e none = by write
      where
        by : Write c (layout_of frame) f → big_endian_at 2 result c.at ≡ 0
        by (inl n) = ap (λ (z : List ℕ). big_endian_at 2 z c.at) (nothing n) ∙ none
        by (inr (inl u)) = sum-same u ∙ none
        by (inr (inr w)) = follows-absent w counts e none

    pub sum-present : c.zero_says ≢ Plain → big_endian_at 2 frame c.at ≢ 0 → big_endian_at 2 result c.at ≢ 0
    sum-present ones some = by write
      where
        by : Write c (layout_of frame) f → big_endian_at 2 result c.at ≢ 0
        by (inl n) none = some (sym (ap (λ (z : List ℕ). big_endian_at 2 z c.at) (nothing n)) ∙ none)
        by (inr (inl u)) none = some (sym (sum-same u) ∙ none)
        by (inr (inr w)) none = follows-present w counts ones some none
