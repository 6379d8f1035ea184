-- The tags of a key are of types that tags have, and what actions make of it has such tags, if what they push is of such a type.
use Rattle.std.proofs.Common.{◌≡◌, ℕ, ◌+◌, Bool, true, false, nat_le, ◌&&◌, ◌==◌, if◌then◌else◌, IsTrue, List, [], ◌∷◌, length, set, All, inl, inr, refl, sym, ap, ap₂, ◌∙◌, subst, arith, eqb-true, eq-eqb, length-set, get_or-set_same, get_or-set_other}
use Rattle.std.proofs.lemmas.Bool.{eqb-false, and_parts}
use Rattle.std.proofs.lemmas.List.Elements.{All-nil, All-cons, All-head, All-tail}
use Rattle.spec_keys.specs.declared.field_id.FieldId.{FieldId}
use Rattle.spec_keys.specs.declared.field_id.FieldId.TheVariants as field
use Rattle.spec_keys.specs.Fields.{place_of, field_count}
use Rattle.spec_keys.specs.Keys.{number_at, value_of}
use Rattle.spec_keys.specs.Protocols.{tag_bit, is_tag_type}
use Rattle.spec_xlate.specs.Tags.{VlanTag, is_tag, is_tag_field, outer_tag, inner_tag, no_tag, is_same_tag, with_tags, popped, pushed, type_of_written, tagged}
use Rattle.spec_base.specs.Bits.{merged}
use Rattle.spec_xlate.specs.Translation.{written}
use Rattle.table_laws.specs.Applied.{is_tag_or_none, is_proper}
use Rattle.table_laws.proofs.KeysAlike.{is_tag_place}
use Rattle.table_laws.proofs.ActLaws.{IsWritable}
use Rattle.exec_laws.specs.Become.{has_third_tag, HasTagTypes}
use Rattle.spec_frames.specs.Ethernet.{type_at, type_size, tag_size, inner_at, is_tag_at, tpid_at}
use Rattle.frame_laws.proofs.keys.Forms.{Tags}
use Rattle.exec_laws.proofs.Addresses.{shown_tags}
use Rattle.exec_laws.proofs.Fields.{outer_of, inner_of}
use Rattle.exec_laws.proofs.Tags.{tags_when, tags-are, count-is, read-is_tag}

-- a tag has such a type if it is one
abbrev pub IsTyped : VlanTag → Type 0
IsTyped t = is_tag t.tci ≡ true → is_tag_type t.tpid ≡ true

-- so have those of a key
pub record AreTyped (key : List ℕ) : Type 0 where
  pub outer : IsTyped (outer_tag key)
  pub inner : IsTyped (inner_tag key)

abbrev listed : (outer inner : Bool) → VlanTag → VlanTag → List VlanTag
listed outer inner o i = if outer then (if inner then i ∷ o ∷ [] else o ∷ []) else []

abbrev OfTag : VlanTag → Type 0
OfTag t = IsTrue (is_tag_type t.tpid)

pub to-HasTagTypes : (key : List ℕ) → AreTyped key → HasTagTypes key
to-HasTagTypes key h = by (is_tag (outer_tag key).tci) refl (is_tag (inner_tag key).tci) refl
  where
    by : (u : Bool) → is_tag (outer_tag key).tci ≡ u → (v : Bool) → is_tag (inner_tag key).tci ≡ v → All OfTag (listed u v (outer_tag key) (inner_tag key))
    by true e true f = All-cons OfTag (inner_tag key) (outer_tag key ∷ []) (h.inner f) (All-cons OfTag (outer_tag key) [] (h.outer e) (All-nil OfTag))
    by true e false f = All-cons OfTag (outer_tag key) [] (h.outer e) (All-nil OfTag)
    by false e v f = All-nil OfTag

-- an inner tag of a proper key stands within an outer one
within : (key : List ℕ) → is_proper key ≡ true → is_tag (inner_tag key).tci ≡ true → is_tag (outer_tag key).tci ≡ true
within key proper full = by (is_tag (outer_tag key).tci) proper
  where
    no : true ≡ is_tag 0 → ⊥
    no e = cc

    by : (u : Bool) → (if u then is_tag_or_none (inner_tag key) else is_same_tag (outer_tag key) no_tag && is_same_tag (inner_tag key) no_tag) ≡ true → u ≡ true
    by true p = refl
    by false p =
        let parts = and_parts (is_same_tag (outer_tag key) no_tag) (is_same_tag (inner_tag key) no_tag) p in
        let zero = eqb-true (inner_tag key).tci 0 (and_parts ((inner_tag key).tci == 0) ((inner_tag key).tpid == 0) parts.1).0 in
        absurd (no (sym full ∙ ap is_tag zero))

pub of-HasTagTypes : (key : List ℕ) → is_proper key ≡ true → HasTagTypes key → AreTyped key
of-HasTagTypes key proper all = record { outer = λ e. outer e (is_tag (inner_tag key).tci) refl; inner = λ f. inner f (within key proper f) }
  where
    list : (u v : Bool) → is_tag (outer_tag key).tci ≡ u → is_tag (inner_tag key).tci ≡ v → All OfTag (listed u v (outer_tag key) (inner_tag key))
    list u v e f = subst (λ (ts : List VlanTag). All OfTag ts) (ap₂ (λ (x y : Bool). listed x y (outer_tag key) (inner_tag key)) e f) all

    outer : is_tag (outer_tag key).tci ≡ true → (v : Bool) → is_tag (inner_tag key).tci ≡ v → is_tag_type (outer_tag key).tpid ≡ true
    outer e true f = All-head OfTag (outer_tag key) [] (All-tail OfTag (inner_tag key) (outer_tag key ∷ []) (list true true e f))
    outer e false f = All-head OfTag (outer_tag key) [] (list true false e f)

    inner : is_tag (inner_tag key).tci ≡ true → is_tag (outer_tag key).tci ≡ true → is_tag_type (inner_tag key).tpid ≡ true
    inner f e = All-head OfTag (inner_tag key) (outer_tag key ∷ []) (list true true e f)

-- ---- tags that are written

module _ (key : List ℕ) (len : length key ≡ field_count) (o i : VlanTag) where
  abbrev k1 : List ℕ
  k1 = set key (place_of field.VlanTci) o.tci

  abbrev k2 : List ℕ
  k2 = set k1 (place_of field.VlanTpid) o.tpid

  abbrev k3 : List ℕ
  k3 = set k2 (place_of field.VlanTci2) i.tci

  l1 : length k1 ≡ field_count
  l1 = length-set key (place_of field.VlanTci) o.tci ∙ len

  l2 : length k2 ≡ field_count
  l2 = length-set k1 (place_of field.VlanTpid) o.tpid ∙ l1

  l3 : length k3 ≡ field_count
  l3 = length-set k2 (place_of field.VlanTci2) i.tci ∙ l2

  apart : (l : List ℕ) (f g : FieldId) (x : ℕ) → (place_of g == place_of f) ≡ false → number_at (set l (place_of f) x) (place_of g) ≡ number_at l (place_of g)
  apart l f g x ne = get_or-set_other l (place_of f) (place_of g) x 0 (eqb-false _ _ ne)

  outer-is : outer_tag (with_tags o i key) ≡ o
  outer-is =
      ap₂ (λ (p c : ℕ). record { tpid = p; tci = c })
      (apart k3 field.VlanTpid2 field.VlanTpid i.tpid refl ∙ (apart k2 field.VlanTci2 field.VlanTpid i.tci refl
      ∙ get_or-set_same k1 (place_of field.VlanTpid) o.tpid 0 (omega (arith, l1))))
      (apart k3 field.VlanTpid2 field.VlanTci i.tpid refl ∙ (apart k2 field.VlanTci2 field.VlanTci i.tci refl
      ∙ (apart k1 field.VlanTpid field.VlanTci o.tpid refl ∙ get_or-set_same key (place_of field.VlanTci) o.tci 0 (omega (arith, len)))))

  inner-is : inner_tag (with_tags o i key) ≡ i
  inner-is =
      ap₂ (λ (p c : ℕ). record { tpid = p; tci = c })
      (get_or-set_same k3 (place_of field.VlanTpid2) i.tpid 0 (omega (arith, l3)))
      (apart k3 field.VlanTpid2 field.VlanTci2 i.tpid refl ∙ get_or-set_same k2 (place_of field.VlanTci2) i.tci 0 (omega (arith, l2)))

  with_tags-typed : IsTyped o → IsTyped i → AreTyped (with_tags o i key)
  with_tags-typed a b = record { outer = subst IsTyped (sym outer-is) a; inner = subst IsTyped (sym inner-is) b }

no_tag-typed : IsTyped no_tag
no_tag-typed e = absurd cc

module _ (key : List ℕ) (len : length key ≡ field_count) (h : AreTyped key) where
  pub popped-typed : AreTyped (popped key)
  popped-typed = with_tags-typed key len (inner_tag key) no_tag h.inner no_tag-typed

  pub pushed-typed : (tpid : ℕ) → is_tag_type tpid ≡ true → AreTyped (pushed tpid key)
  pushed-typed tpid typed = with_tags-typed key len (record { tpid = tpid; tci = tag_bit }) (outer_tag key) (λ e. typed) h.outer

  -- the type of an outer tag that is written
  type-kept : is_proper key ≡ true → is_tag_type (type_of_written (outer_tag key).tpid) ≡ true
  type-kept proper = by (is_tag (outer_tag key).tci) refl proper ((outer_tag key).tpid == 0) refl
    where
      by : (u : Bool) → is_tag (outer_tag key).tci ≡ u
          → (if u then is_tag_or_none (inner_tag key) else is_same_tag (outer_tag key) no_tag && is_same_tag (inner_tag key) no_tag) ≡ true
          → (z : Bool) → ((outer_tag key).tpid == 0) ≡ z → is_tag_type (type_of_written (outer_tag key).tpid) ≡ true
      by u e p true f = rw f refl
      by true e p false f = rw f (h.outer e)
      by false e p false f =
          let parts = and_parts (is_same_tag (outer_tag key) no_tag) (is_same_tag (inner_tag key) no_tag) p in
          absurd (no (sym (and_parts ((outer_tag key).tci == 0) ((outer_tag key).tpid == 0) parts.0).1 ∙ f))
        where
          no : true ≡ false → ⊥
          no e = cc

  pub tagged-typed : is_proper key ≡ true → (tci : ℕ) → AreTyped (tagged tci key)
  tagged-typed proper tci = by (is_tag tci)
    where
      by : (t : Bool) → AreTyped (if t then with_tags (record { tpid = type_of_written (outer_tag key).tpid; tci = tci }) (inner_tag key) key else popped key)
      by true = with_tags-typed key len (record { tpid = type_of_written (outer_tag key).tpid; tci = tci }) (inner_tag key) (λ e. type-kept proper) h.inner
      by false = popped-typed

  -- a write elsewhere
  pub beside-typed : (q x : ℕ) → is_tag_place q ≡ false → AreTyped (set key q x)
  beside-typed q x away = record { outer = subst IsTyped (sym outer) h.outer; inner = subst IsTyped (sym inner) h.inner }
    where
      kept : (f : FieldId) → is_tag_place (place_of f) ≡ true → value_of (set key q x) f ≡ value_of key f
      kept f there = get_or-set_other key q (place_of f) x 0 (λ e. let c : true ≡ false = sym there ∙ ap is_tag_place e ∙ away in absurd cc)

      outer : outer_tag (set key q x) ≡ outer_tag key
      outer = ap₂ (λ (p c : ℕ). record { tpid = p; tci = c }) (kept field.VlanTpid refl) (kept field.VlanTci refl)

      inner : inner_tag (set key q x) ≡ inner_tag key
      inner = ap₂ (λ (p c : ℕ). record { tpid = p; tci = c }) (kept field.VlanTpid2 refl) (kept field.VlanTci2 refl)

  pub written-typed : is_proper key ≡ true → (f : FieldId) (v m : ℕ) → IsWritable f m → AreTyped (written f v m key)
  written-typed proper f v m ok = by (m == 0) refl (is_tag_field f) refl ok
    where
      by : (z : Bool) → (m == 0) ≡ z → (u : Bool) → is_tag_field f ≡ u → IsWritable f m
          → AreTyped (if z then key else (if u then tagged (merged (value_of key f) v m) key else set key (place_of f) (merged (value_of key f) v m)))
      by true z u e ok = h
      by false z u e (inl none) = absurd (let n : false ≡ true = sym z ∙ eq-eqb m 0 none in cc)
      by false z true e (inr place) = tagged-typed proper (merged (value_of key f) v m)
      by false z false e (inr place) = beside-typed (place_of f) (merged (value_of key f) v m) (sym place ∙ e)

-- ---- the tags of a frame

tag_type-of : (frame : List ℕ) (at : ℕ) → is_tag_at frame at ≡ true → is_tag_type (tpid_at frame at) ≡ true
unfolding is_tag_at
tag_type-of frame at tagged = (and_parts (nat_le (at + tag_size + type_size) (length frame)) _ tagged).1

module _ (frame : List ℕ) where
  shown-typed : (u v : Bool) → is_tag_at frame type_at ≡ u → is_tag_at frame inner_at ≡ v
      → IsTyped (outer_of (tags_when frame u v)) × IsTyped (inner_of (tags_when frame u v))
  shown-typed true true e f = (λ t. tag_type-of frame type_at e, λ t. tag_type-of frame inner_at f)
  shown-typed true false e f = (λ t. tag_type-of frame type_at e, no_tag-typed)
  shown-typed false v e f = (no_tag-typed, no_tag-typed)

  pub shown-outer : IsTyped (outer_of (shown_tags frame))
  shown-outer =
      let u = is_tag_at frame type_at in
      let v = is_tag_at frame inner_at in
      subst (λ (t : Tags). IsTyped (outer_of t)) (sym (tags-are frame u v refl refl)) (shown-typed u v refl refl).0

  pub shown-inner : IsTyped (inner_of (shown_tags frame))
  shown-inner =
      let u = is_tag_at frame type_at in
      let v = is_tag_at frame inner_at in
      subst (λ (t : Tags). IsTyped (inner_of t)) (sym (tags-are frame u v refl refl)) (shown-typed u v refl refl).1

  -- one that shows no inner tag has no third one
  pub third-full : is_tag (inner_of (shown_tags frame)).tci ≡ false → has_third_tag frame ≡ false
  third-full less = by (is_tag_at frame type_at) refl (is_tag_at frame inner_at) refl
    where
      no : true ≡ false → ⊥
      no e = cc

      by : (u : Bool) → is_tag_at frame type_at ≡ u → (v : Bool) → is_tag_at frame inner_at ≡ v → has_third_tag frame ≡ false
      by true e true f = absurd (no (sym (read-is_tag frame inner_at) ∙ sym (ap (λ (t : Tags). is_tag t.tci2) (tags-are frame true true e f)) ∙ less))
      by true e false f = ap (λ (z : ℕ). (z == 2) && is_tag_at frame (inner_at + tag_size)) (count-is frame true false e f)
      by false e v f = ap (λ (z : ℕ). (z == 2) && is_tag_at frame (inner_at + tag_size)) (count-is frame false v e f)
