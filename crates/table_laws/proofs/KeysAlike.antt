-- The keys of two translations that differ only in bits which neither has touched.
use Rattle.std.proofs.Common.{◌≡◌, ◌≢◌, ℕ, zero, suc, ◌+◌, ◌%◌, ◌<◌, ◌≤◌, min, Bool, true, false, ◌&&◌, ◌==◌, if◌then◌else◌, List, [], ◌∷◌, ◌++◌, length, map, set, bit_and, bit_xor, ◌⊎◌, inl, inr, refl, sym, ap, ap₂, ◌∙◌, subst, eq-eqb, eqb-true, arith, length-set, get_or-set_same, get_or-set_other}
use Rattle.std.specs.Int.{bit_at}
use Rattle.std.specs.Int.Bits.{xor_self}
use Rattle.std.specs.List.{list_any}
use Rattle.std.proofs.lemmas.Nat.Bits.{bit_at_and, bit_at_xor, bit_at-lt, same_from_bits}
use Rattle.spec_keys.specs.declared.field_id.FieldId.{FieldId}
use Rattle.spec_keys.specs.declared.field_id.FieldId.TheVariants.{VlanTci, VlanTpid, VlanTci2, VlanTpid2}
use Rattle.spec_keys.specs.Fields.{place_of}
use Rattle.spec_keys.specs.Keys.{number_at, value_of, masked}
use Rattle.spec_actions.specs.declared.action.DpAction.{DpAction}
use Rattle.spec_actions.specs.declared.action.DpAction.TheVariants.{Set, PopVlan, PushVlan}
use Rattle.spec_xlate.specs.Tags.{VlanTag, tag_fields, tags_of, outer_tag, inner_tag, is_tag, is_same_tag, outer_tags, commit_tags}
use Rattle.spec_xlate.specs.Commit.{fields_before_tags, fields_after_tags, commit, commit_field, commit_fields}
use Rattle.spec_base.specs.Bits.{merged}
use Rattle.table_laws.proofs.KeyLaws.{SameBits, masked_from-places, places_from-masked}

-- ---- the invariant

-- A bit of the keys of two translations, that of the first keys being x and y, that of the current ones cx and cy, and
-- that of the base ones bx and by. Either it is the same in both, or neither has touched it.
abbrev pub BitAlike : (x y cx cy bx by : ℕ) → Type 0
BitAlike x y cx cy bx by = ((cy ≡ cx) × (by ≡ bx)) ⊎ (((cx ≡ x) × (bx ≡ x)) × ((cy ≡ y) × (by ≡ y)))

-- the same of bit i at place q
abbrev pub BitAlikeAt : (a b c c' d d' : List ℕ) (q i : ℕ) → Type 0
BitAlikeAt a b c c' d d' q i =
    BitAlike (bit_at (number_at a q) i) (bit_at (number_at b q) i)
    (bit_at (number_at c q) i) (bit_at (number_at c' q) i) (bit_at (number_at d q) i) (bit_at (number_at d' q) i)

-- whether a place of a key is that of a tag field
abbrev pub is_tag_place : ℕ → Bool
is_tag_place q = list_any (λ f. q == place_of f) tag_fields

-- The tags of two keys are the same.
pub SameTags : List ℕ → List ℕ → Type 0
SameTags x y = (q : ℕ) → is_tag_place q ≡ true → number_at y q ≡ number_at x q

-- The tags as a whole: the same in both translations, or untouched since the last commit in both.
pub TagsAlike : List ℕ → List ℕ → List ℕ → List ℕ → Type 0
TagsAlike c c' d d' = (SameTags c c' × SameTags d d') ⊎ (SameTags c d × SameTags c' d')

-- a and b are the first keys, c and c' the current ones, d and d' the base ones
pub record KeysAlike (a b c d c' d' : List ℕ) : Type 0 where
  pub lengths : length c' ≡ length c
  pub bits : (q i : ℕ)
      → BitAlikeAt a b c c' d d' q i
  pub tags : TagsAlike c c' d d'

-- ---- one bit

and-bit : (x y cx cy bx by m : ℕ) → BitAlike x y cx cy bx by → min x m ≡ min y m → min cx m ≡ min cy m
and-bit x y cx cy bx by m (inl h) e = ap (λ (z : ℕ). min z m) (sym h.0)
and-bit x y cx cy bx by m (inr h) e = ap (λ (z : ℕ). min z m) h.0.0 ∙ e ∙ ap (λ (z : ℕ). min z m) (sym h.1.0)

xor-bit : (x y cx cy bx by : ℕ) → BitAlike x y cx cy bx by → (by + cy) % 2 ≡ (bx + cx) % 2
xor-bit x y cx cy bx by (inl h) = ap₂ (λ (u v : ℕ). (u + v) % 2) h.1 h.0
xor-bit x y cx cy bx by (inr h) = let p = h.0.0 in let q = h.0.1 in let r = h.1.0 in let s = h.1.1 in omega arith

changed-bit : (x y cx cy bx by : ℕ) → BitAlike x y cx cy bx by → min cy ((by + cy) % 2) ≡ min cx ((bx + cx) % 2)
changed-bit x y cx cy bx by (inl h) = ap₂ (λ (u v : ℕ). min v ((u + v) % 2)) h.1 h.0
changed-bit x y cx cy bx by (inr h) = let p = h.0.0 in let q = h.0.1 in let r = h.1.0 in let s = h.1.1 in omega arith

abbrev merged_bit : ℕ → ℕ → ℕ → ℕ
merged_bit o v m = (o + min ((o + v) % 2) m) % 2

pub bit_at-merged : (o v m i : ℕ) → bit_at (merged o v m) i ≡ merged_bit (bit_at o i) (bit_at v i) (bit_at m i)
bit_at-merged o v m i = bit_at_xor o (bit_and (bit_xor o v) m) i ∙ ap (λ (z : ℕ). (bit_at o i + z) % 2) (bit_at_and (bit_xor o v) m i ∙ ap (λ (z : ℕ). min z (bit_at m i)) (bit_at_xor o v i))

zero_or_one : (m : ℕ) → m < 2 → (m ≡ 0) ⊎ (m ≡ 1)
zero_or_one m h = grind arith

merged-bit : (x y cx cy bx by v m : ℕ) → x < 2 → y < 2 → cx < 2 → cy < 2 → (m ≡ 0) ⊎ (m ≡ 1) → BitAlike x y cx cy bx by
    → min x m ≡ min y m → BitAlike x y (merged_bit cx v m) (merged_bit cy v m) bx by
merged-bit x y cx cy bx by v m lx ly lcx lcy (inl z) (inl h) e = inl (ap (λ (u : ℕ). merged_bit u v m) h.0, h.1)
merged-bit x y cx cy bx by v m lx ly lcx lcy (inl z) (inr h) e = let p = h.0.0 in let r = h.1.0 in inr ((omega arith, h.0.1), (omega arith, h.1.1))
merged-bit x y cx cy bx by v m lx ly lcx lcy (inr z) (inl h) e = inl (ap (λ (u : ℕ). merged_bit u v m) h.0, h.1)
merged-bit x y cx cy bx by v m lx ly lcx lcy (inr z) (inr h) e =
    let p = h.0.0 in let q = h.0.1 in let r = h.1.0 in let s = h.1.1 in
    let xy : y ≡ x = omega arith in
    inl (ap (λ (u : ℕ). merged_bit u v m) (r ∙ xy ∙ sym p), s ∙ xy ∙ sym q)

moved-bit : (x y cx cy bx by dx dy : ℕ) → dx ≡ cx → dy ≡ cy → BitAlike x y cx cy bx by → BitAlike x y dx dy bx by
moved-bit x y cx cy bx by dx dy e f (inl h) = inl (f ∙ h.0 ∙ sym e, h.1)
moved-bit x y cx cy bx by dx dy e f (inr h) = inr ((e ∙ h.0.0, h.0.1), (f ∙ h.1.0, h.1.1))

-- ---- numbers and their bits that differ

xor_zero-eq : (x y : ℕ) → bit_xor x y ≡ 0 → x ≡ y
xor_zero-eq x y e = same_from_bits _ _ (λ i. at (bit_at x i) (bit_at y i) (bit_at-lt x i) (bit_at-lt y i) (sym (bit_at_xor x y i) ∙ ap (λ (z : ℕ). bit_at z i) e ∙ zeros i))
  where
    at : (u v : ℕ) → u < 2 → v < 2 → (u + v) % 2 ≡ 0 → u ≡ v
    at u v lu lv h = omega arith

    zeros : (i : ℕ) → bit_at 0 i ≡ 0
    zeros i = let h = bit_at_xor 0 0 i in let l = bit_at-lt 0 i in omega arith

eq-xor_zero : (x y : ℕ) → x ≡ y → bit_xor x y ≡ 0
eq-xor_zero x y e = ap (λ (z : ℕ). bit_xor z y) e ∙ xor_self y

-- two numbers are equal exactly where no bit differs
eqb-xor : (x y : ℕ) → (x == y) ≡ (bit_xor x y == 0)
eqb-xor x y = at (x == y) refl (bit_xor x y == 0) refl
  where
    at : (t : Bool) → (x == y) ≡ t → (u : Bool) → (bit_xor x y == 0) ≡ u → t ≡ u
    at true e true f = refl
    at false e false f = refl
    at true e false f = let g : false ≡ true = sym f ∙ eq-eqb _ _ (eq-xor_zero x y (eqb-true x y e)) in absurd (cc)
    at false e true f = let g : false ≡ true = sym e ∙ eq-eqb _ _ (xor_zero-eq x y (eqb-true _ _ f)) in absurd (cc)

-- ---- fields and keys

is_same_tag-same : (t : VlanTag) → is_same_tag t t ≡ true
is_same_tag-same t = ap₂ (λ (x y : Bool). x && y) (eq-eqb t.tci t.tci refl) (eq-eqb t.tpid t.tpid refl)

outer_tags-same : (ts : List VlanTag) → outer_tags ts ts ≡ []
unfolding outer_tags
outer_tags-same [] = refl
outer_tags-same (t ∷ ts) = ap (λ (b : Bool). if b then outer_tags ts ts else t ∷ ts) (is_same_tag-same t) ∙ outer_tags-same ts

commit_tags-same : (ts : List VlanTag) → commit_tags ts ts ≡ []
unfolding commit_tags
commit_tags-same ts = ap₂ (λ (u v : List VlanTag). map (λ t. PopVlan) u ++ map (λ t. PushVlan t.tpid t.tci) v) (outer_tags-same ts) (outer_tags-same ts)

outer_tag-same : (x y : List ℕ) → SameTags x y → outer_tag y ≡ outer_tag x
unfolding SameTags
outer_tag-same x y h = ap₂ (λ (p c : ℕ). record { tpid = p; tci = c }) (h (place_of VlanTpid) refl) (h (place_of VlanTci) refl)

inner_tag-same : (x y : List ℕ) → SameTags x y → inner_tag y ≡ inner_tag x
unfolding SameTags
inner_tag-same x y h = ap₂ (λ (p c : ℕ). record { tpid = p; tci = c }) (h (place_of VlanTpid2) refl) (h (place_of VlanTci2) refl)

-- the tags that a key has by these, an outer and an inner one
abbrev tags_by : VlanTag → VlanTag → List VlanTag
tags_by outer inner = if is_tag outer.tci then (if is_tag inner.tci then inner ∷ outer ∷ [] else outer ∷ []) else []

pub tags_of-same : (x y : List ℕ) → SameTags x y → tags_of y ≡ tags_of x
tags_of-same x y h = ap₂ tags_by (outer_tag-same x y h) (inner_tag-same x y h)

module _ (a b c d c' d' : List ℕ) (k : KeysAlike a b c d c' d') where
  pub and-alike : (q m : ℕ) → bit_and (number_at a q) m ≡ bit_and (number_at b q) m → bit_and (number_at c q) m ≡ bit_and (number_at c' q) m
  and-alike q m e = same_from_bits _ _ (λ i.
      bit_at_and (number_at c q) m i
      ∙ and-bit (bit_at (number_at a q) i) (bit_at (number_at b q) i) _ _ (bit_at (number_at d q) i) (bit_at (number_at d' q) i) (bit_at m i) (k.bits q i)
      (sym (bit_at_and (number_at a q) m i) ∙ ap (λ (z : ℕ). bit_at z i) e ∙ bit_at_and (number_at b q) m i)
      ∙ sym (bit_at_and (number_at c' q) m i))

  masked-alike : (m : List ℕ) → masked a m ≡ masked b m → masked c m ≡ masked c' m
  masked-alike m e = masked_from-places c c' m k.lengths (λ q. and-alike q (number_at m q) (places_from-masked a b m q e))

  pub SameBits-alike : (ms : List (List ℕ)) → SameBits a b ms → SameBits c c' ms
  SameBits-alike [] h = tt
  SameBits-alike (m ∷ ms) h = (masked-alike m h.0, SameBits-alike ms h.1)

  -- where the first keys have the same number, so have the others
  pub whole-alike : (q : ℕ) → number_at a q ≡ number_at b q → (number_at c' q ≡ number_at c q) × (number_at d' q ≡ number_at d q)
  whole-alike q e = (same_from_bits _ _ (λ i. (at i (k.bits q i)).0), same_from_bits _ _ (λ i. (at i (k.bits q i)).1))
    where
      at : (i : ℕ)
          → BitAlikeAt a b c c' d d' q i
          → (bit_at (number_at c' q) i ≡ bit_at (number_at c q) i) × (bit_at (number_at d' q) i ≡ bit_at (number_at d q) i)
      at i (inl h) = h
      at i (inr h) = let xy = ap (λ (z : ℕ). bit_at z i) e in (h.1.0 ∙ sym xy ∙ sym h.0.0, h.1.1 ∙ sym xy ∙ sym h.0.1)

  -- ---- what commit makes of them

  xor-alike : (q : ℕ) → bit_xor (number_at d' q) (number_at c' q) ≡ bit_xor (number_at d q) (number_at c q)
  xor-alike q = same_from_bits _ _ (λ i. bit_at_xor (number_at d' q) (number_at c' q) i ∙ xor-bit _ _ _ _ _ _ (k.bits q i) ∙ sym (bit_at_xor (number_at d q) (number_at c q) i))

  changed-alike : (q : ℕ)
      → bit_and (number_at c' q) (bit_xor (number_at d' q) (number_at c' q)) ≡ bit_and (number_at c q) (bit_xor (number_at d q) (number_at c q))
  changed-alike q = same_from_bits _ _ (λ i. at c' d' i ∙ changed-bit _ _ _ _ _ _ (k.bits q i) ∙ sym (at c d i))
    where
      at : (x y : List ℕ) (i : ℕ)
          → bit_at (bit_and (number_at x q) (bit_xor (number_at y q) (number_at x q))) i ≡ min (bit_at (number_at x q) i) ((bit_at (number_at y q) i + bit_at (number_at x q) i) % 2)
      at x y i = bit_at_and (number_at x q) (bit_xor (number_at y q) (number_at x q)) i ∙ ap (min (bit_at (number_at x q) i)) (bit_at_xor (number_at y q) (number_at x q) i)

  commit_field-alike : (f : FieldId) → commit_field f (value_of d' f) (value_of c' f) ≡ commit_field f (value_of d f) (value_of c f)
  unfolding commit_field
  commit_field-alike f =
      ap (λ (t : Bool). if t then [] else Set f (bit_and (value_of c' f) (bit_xor (value_of d' f) (value_of c' f))) (bit_xor (value_of d' f) (value_of c' f)) ∷ []) (eqb-xor (value_of d' f) (value_of c' f))
      ∙ ap₂ (λ (x v : ℕ). if x == 0 then [] else Set f v x ∷ []) (xor-alike (place_of f)) (changed-alike (place_of f))
      ∙ ap (λ (t : Bool). if t then [] else Set f (bit_and (value_of c f) (bit_xor (value_of d f) (value_of c f))) (bit_xor (value_of d f) (value_of c f)) ∷ []) (sym (eqb-xor (value_of d f) (value_of c f)))

  commit_fields-alike : (fs : List FieldId) → commit_fields fs d' c' ≡ commit_fields fs d c
  unfolding commit_fields
  commit_fields-alike [] = refl
  commit_fields-alike (f ∷ fs) = ap₂ (λ (x y : List DpAction). x ++ y) (commit_field-alike f) (commit_fields-alike fs)

  commit_tags-alike : commit_tags (tags_of d') (tags_of c') ≡ commit_tags (tags_of d) (tags_of c)
  unfolding TagsAlike
  commit_tags-alike = at k.tags
    where
      at : TagsAlike c c' d d' → commit_tags (tags_of d') (tags_of c') ≡ commit_tags (tags_of d) (tags_of c)
      at (inl h) = ap₂ commit_tags (tags_of-same d d' h.1) (tags_of-same c c' h.0)
      at (inr h) =
          ap (λ (z : List VlanTag). commit_tags z (tags_of c')) (tags_of-same c' d' h.1) ∙ commit_tags-same (tags_of c')
          ∙ sym (ap (λ (z : List VlanTag). commit_tags z (tags_of c)) (tags_of-same c d h.0) ∙ commit_tags-same (tags_of c))

  pub commit-alike : commit d' c' ≡ commit d c
  unfolding commit
  commit-alike =
      ap₂ (λ (x y : List DpAction). x ++ y) (commit_fields-alike fields_before_tags)
      (ap₂ (λ (x y : List DpAction). x ++ y) commit_tags-alike (commit_fields-alike fields_after_tags))

  -- the current keys become the base keys
  pub rebased-alike : KeysAlike a b c c c' c'
  unfolding TagsAlike SameTags
  rebased-alike = record { lengths = k.lengths; bits = λ q i. at q i (k.bits q i); tags = tags_at k.tags }
    where
      at : (q i : ℕ)
          → BitAlikeAt a b c c' d d' q i
          → BitAlikeAt a b c c' c c' q i
      at q i (inl h) = inl (h.0, h.0)
      at q i (inr h) = inr ((h.0.0, h.0.0), (h.1.0, h.1.0))

      tags_at : TagsAlike c c' d d' → TagsAlike c c' c c'
      tags_at (inl h) = inl (h.0, h.0)
      tags_at (inr h) = inr (λ q t. refl, λ q t. refl)

-- ---- writes

pub set-beyond : (l : List ℕ) (q x : ℕ) → length l ≤ q → set l q x ≡ l
set-beyond [] q x h = refl
set-beyond (y ∷ ys) zero x h = absurd (omega arith)
set-beyond (y ∷ ys) (suc q) x h = ap (λ (z : List ℕ). y ∷ z) (set-beyond ys q x (omega arith))

lt_or_le : (m n : ℕ) → (m < n) ⊎ (n ≤ m)
lt_or_le m n = grind arith

pub eqb-false : (m n : ℕ) → (m == n) ≡ false → m ≢ n
eqb-false m n h e = let t = eq-eqb m n e in cc

-- A place after a write to two keys of one length: both keep what they had, or both have what was written.
PlaceSet : List ℕ → List ℕ → ℕ → ℕ → ℕ → ℕ → Type 0
PlaceSet l l' f q x x' = ((number_at (set l f x) q ≡ number_at l q) × (number_at (set l' f x') q ≡ number_at l' q)) ⊎ ((q ≡ f) × ((number_at (set l f x) q ≡ x) × (number_at (set l' f x') q ≡ x')))

place-set : (l l' : List ℕ) (f q x x' : ℕ) → length l' ≡ length l → PlaceSet l l' f q x x'
unfolding PlaceSet
place-set l l' f q x x' n = at (q == f) refl (lt_or_le f (length l))
  where
    at : (t : Bool) → (q == f) ≡ t → (f < length l) ⊎ (length l ≤ f) → PlaceSet l l' f q x x'
    at true e (inl h) =
        let qf = eqb-true q f e in
        inr (qf, (ap (λ (z : ℕ). number_at (set l f x) z) qf ∙ get_or-set_same l f x 0 h, ap (λ (z : ℕ). number_at (set l' f x') z) qf ∙ get_or-set_same l' f x' 0 (omega arith)))
    at true e (inr h) = inl (ap (λ (z : List ℕ). number_at z q) (set-beyond l f x h), ap (λ (z : List ℕ). number_at z q) (set-beyond l' f x' (omega arith)))
    at false e h = let ne = eqb-false q f e in inl (get_or-set_other l f q x 0 ne, get_or-set_other l' f q x' 0 ne)

module _ (a b c d c' d' : List ℕ) (k : KeysAlike a b c d c' d') where
  -- a field that holds no tag is written
  beside-tags : (f x x' : ℕ) → is_tag_place f ≡ false → (q : ℕ) → is_tag_place q ≡ true
      → (number_at (set c f x) q ≡ number_at c q) × (number_at (set c' f x') q ≡ number_at c' q)
  unfolding PlaceSet
  beside-tags f x x' n q t = at (place-set c c' f q x x' k.lengths)
    where
      at : PlaceSet c c' f q x x' → (number_at (set c f x) q ≡ number_at c q) × (number_at (set c' f x') q ≡ number_at c' q)
      at (inl h) = h
      at (inr h) = let e : true ≡ false = sym t ∙ ap is_tag_place h.0 ∙ n in absurd (cc)

  beside-tags-alike : (f x x' : ℕ) → is_tag_place f ≡ false → TagsAlike c c' d d' → TagsAlike (set c f x) (set c' f x') d d'
  unfolding TagsAlike SameTags
  beside-tags-alike f x x' n (inl h) = inl (λ q t. let w = beside-tags f x x' n q t in w.1 ∙ h.0 q t ∙ sym w.0, h.1)
  beside-tags-alike f x x' n (inr h) = inr (λ q t. h.0 q t ∙ sym (beside-tags f x x' n q t).0, λ q t. h.1 q t ∙ sym (beside-tags f x x' n q t).1)

  -- the same number is written into a field that the first keys have alike; where it holds a tag, they have all tags alike
  pub set-alike : (f x x' : ℕ) → x' ≡ x → number_at a f ≡ number_at b f
      → (is_tag_place f ≡ true → (q : ℕ) → is_tag_place q ≡ true → number_at a q ≡ number_at b q)
      → KeysAlike a b (set c f x) d (set c' f x') d'
  unfolding PlaceSet TagsAlike SameTags
  set-alike f x x' e same all = record {
    lengths = length-set c' f x' ∙ k.lengths ∙ sym (length-set c f x);
    bits = λ q i. at q i (place-set c c' f q x x' k.lengths);
    tags = tags_at (is_tag_place f) refl k.tags;
  }
    where
      base : (q : ℕ) → q ≡ f → number_at d' q ≡ number_at d q
      base q e = (whole-alike a b c d c' d' k q (ap (number_at a) e ∙ same ∙ sym (ap (number_at b) e))).1

      at : (q i : ℕ) → PlaceSet c c' f q x x'
          → BitAlikeAt a b (set c f x) (set c' f x') d d' q i
      at q i (inl h) = moved-bit _ _ _ _ _ _ _ _ (ap (λ (z : ℕ). bit_at z i) h.0) (ap (λ (z : ℕ). bit_at z i) h.1) (k.bits q i)
      at q i (inr h) = inl (ap (λ (z : ℕ). bit_at z i) (h.1.1 ∙ e ∙ sym h.1.0), ap (λ (z : ℕ). bit_at z i) (base q h.0))

      tags_at : (t : Bool) → is_tag_place f ≡ t → TagsAlike c c' d d' → TagsAlike (set c f x) (set c' f x') d d'
      tags_at true t k' = inl (λ q u. here q u (place-set c c' f q x x' k.lengths), λ q u. (whole-alike a b c d c' d' k q (all t q u)).1)
        where
          here : (q : ℕ) → is_tag_place q ≡ true → PlaceSet c c' f q x x' → number_at (set c' f x') q ≡ number_at (set c f x) q
          here q u (inl h) = h.1 ∙ (whole-alike a b c d c' d' k q (all t q u)).0 ∙ sym h.0
          here q u (inr h) = h.1.1 ∙ e ∙ sym h.1.0
      tags_at false t k' = beside-tags-alike f x x' t k'

  -- the same bits are written into bits that the first keys have alike
  pub merged-alike : (f v m : ℕ) → is_tag_place f ≡ false → bit_and (number_at a f) m ≡ bit_and (number_at b f) m
      → KeysAlike a b (set c f (merged (number_at c f) v m)) d (set c' f (merged (number_at c' f) v m)) d'
  unfolding PlaceSet
  merged-alike f v m other same = record {
    lengths = length-set c' f y' ∙ k.lengths ∙ sym (length-set c f y);
    bits = λ q i. at q i (place-set c c' f q y y' k.lengths);
    tags = beside-tags-alike f y y' other k.tags;
  }
    where
      y : ℕ
      y = merged (number_at c f) v m

      y' : ℕ
      y' = merged (number_at c' f) v m

      new : (i : ℕ)
          → BitAlike (bit_at (number_at a f) i) (bit_at (number_at b f) i) (bit_at y i) (bit_at y' i) (bit_at (number_at d f) i) (bit_at (number_at d' f) i)
      new i = moved-bit _ _ _ _ _ _ _ _ (bit_at-merged (number_at c f) v m i) (bit_at-merged (number_at c' f) v m i)
          (merged-bit (bit_at (number_at a f) i) (bit_at (number_at b f) i) (bit_at (number_at c f) i) (bit_at (number_at c' f) i) (bit_at (number_at d f) i) (bit_at (number_at d' f) i) (bit_at v i) (bit_at m i)
          (bit_at-lt (number_at a f) i) (bit_at-lt (number_at b f) i) (bit_at-lt (number_at c f) i) (bit_at-lt (number_at c' f) i) (zero_or_one _ (bit_at-lt m i)) (k.bits f i)
          (sym (bit_at_and (number_at a f) m i) ∙ ap (λ (z : ℕ). bit_at z i) same ∙ bit_at_and (number_at b f) m i))

      at : (q i : ℕ) → PlaceSet c c' f q y y'
          → BitAlikeAt a b (set c f y) (set c' f y') d d' q i
      at q i (inl h) = moved-bit _ _ _ _ _ _ _ _ (ap (λ (z : ℕ). bit_at z i) h.0) (ap (λ (z : ℕ). bit_at z i) h.1) (k.bits q i)
      at q i (inr h) = moved-bit _ _ _ _ _ _ _ _ (ap (λ (z : ℕ). bit_at z i) h.1.0) (ap (λ (z : ℕ). bit_at z i) h.1.1)
          (subst (λ (z : ℕ). BitAlike (bit_at (number_at a z) i) (bit_at (number_at b z) i) (bit_at y i) (bit_at y' i) (bit_at (number_at d z) i) (bit_at (number_at d' z) i)) (sym h.0) (new i))

pub start-alike : (a b : List ℕ) → length b ≡ length a → KeysAlike a b a a b b
unfolding TagsAlike SameTags
start-alike a b n = record { lengths = n; bits = λ q i. inr ((refl, refl), (refl, refl)); tags = inr (λ q t. refl, λ q t. refl) }
