-- The numbers of a key that datapath actions write to fields: all but the types of tags, which a push has of any width.
use Rattle.std.proofs.Common.{◌≡◌, ℕ, ◌<◌, ◌≤◌, ◌^◌, Bool, true, false, if◌then◌else◌, List, length, set, refl, sym, subst, ⊎_elim, lit<, arith}
use Rattle.std.specs.Prelude.{◌||◌, ◌==◌}
use Rattle.std.proofs.lemmas.Bool.{both_ways, cases_eq, cases_lt}
use Rattle.std.proofs.lemmas.List.{length-set, get_or-set_same, get_or-set_other, get_or_past}
use Rattle.std.proofs.lemmas.Nat.{pow_pos}
use Rattle.spec_keys.specs.declared.field_id.FieldId.{FieldId}
use Rattle.spec_keys.specs.declared.field_id.FieldId.TheVariants as field
use Rattle.spec_keys.specs.Fields.{place_of, width_of, widths}
use Rattle.spec_keys.specs.Keys.{number_at, value_of, IsKey}
use Rattle.spec_keys.specs.Protocols.{tag_bit}
use Rattle.spec_xlate.specs.Tags.{VlanTag, outer_tag, inner_tag, no_tag, is_tag, with_tags, type_of_written, popped, pushed, tagged}

abbrev pub is_type_place : ℕ → Bool
is_type_place p = (p == place_of field.VlanTpid) || (p == place_of field.VlanTpid2)

-- Each of these numbers is within the width of its field.
abbrev pub FitsFields : List ℕ → Type 0
FitsFields key = (p : ℕ) → is_type_place p ≡ false → number_at key p < 2 ^ number_at widths p

pub fits_from_key : (key : List ℕ) → IsKey key → FitsFields key
fits_from_key key is_key = λ p h. is_key.fit p

width_at : (f : FieldId) → number_at widths (place_of f) ≡ width_of f
unfolding widths
width_at field.InPort = refl
width_at f = refl

pub value_fits : (key : List ℕ) (f : FieldId) → FitsFields key → is_type_place (place_of f) ≡ false → value_of key f < 2 ^ width_of f
value_fits key f fits h = subst (λ w. value_of key f < 2 ^ w) (width_at f) (fits (place_of f) h)

-- ---- one number replaced

number_replaced : (key : List ℕ) (q n width : ℕ) → n < 2 ^ width → number_at (set key q n) q < 2 ^ width
number_replaced key q n width below =
    ⊎_elim
    (λ (within : q < length key). rw (get_or-set_same key q n 0 within) below)
    (λ (past : length key ≤ q). rw (get_or_past (set key q n) q 0 (omega (arith, past, length-set key q n))) (pow_pos width))
    (cases_lt q (length key))

number_set : (key : List ℕ) (q n : ℕ) → (is_type_place q ≡ false → n < 2 ^ number_at widths q) → FitsFields key → FitsFields (set key q n)
number_set key q n below fits = λ p h. ⊎_elim
    (λ (same : p ≡ q). subst (λ x. number_at (set key q n) x < 2 ^ number_at widths x) (sym same)
    (number_replaced key q n (number_at widths q) (below (subst (λ x. is_type_place x ≡ false) same h))))
    (λ (other : p ≡ q → ⊥). rw (get_or-set_other key q p n 0 other) (fits p h))
    (cases_eq p q)

pub value_set : (key : List ℕ) (f : FieldId) (n : ℕ) → (is_type_place (place_of f) ≡ false → n < 2 ^ width_of f) → FitsFields key → FitsFields (set key (place_of f) n)
value_set key f n below fits = number_set key (place_of f) n (λ h. subst (λ w. n < 2 ^ w) (sym (width_at f)) (below h)) fits

-- ---- tags

tags_set : (outer inner : VlanTag) (key : List ℕ) → outer.tci < 2 ^ width_of field.VlanTci → inner.tci < 2 ^ width_of field.VlanTci → FitsFields key → FitsFields (with_tags outer inner key)
tags_set outer inner key outer_below inner_below fits =
    let first = value_set key field.VlanTci outer.tci (λ h. outer_below) fits in
    let second = value_set (set key (place_of field.VlanTci) outer.tci) field.VlanTpid outer.tpid (λ h. absurd (both_ways true h refl)) first in
    let third = value_set (set (set key (place_of field.VlanTci) outer.tci) (place_of field.VlanTpid) outer.tpid) field.VlanTci2 inner.tci (λ h. inner_below) second in
    value_set (set (set (set key (place_of field.VlanTci) outer.tci) (place_of field.VlanTpid) outer.tpid) (place_of field.VlanTci2) inner.tci) field.VlanTpid2 inner.tpid (λ h. absurd (both_ways true h refl)) third

pub popped_fits : (key : List ℕ) → FitsFields key → FitsFields (popped key)
popped_fits key fits = tags_set (inner_tag key) no_tag key (value_fits key field.VlanTci2 fits refl) (pow_pos (width_of field.VlanTci2)) fits

pub pushed_fits : (tpid : ℕ) (key : List ℕ) → FitsFields key → FitsFields (pushed tpid key)
pushed_fits tpid key fits = tags_set (record { tpid = tpid; tci = tag_bit }) (outer_tag key) key (lit< tt) (value_fits key field.VlanTci fits refl) fits

pub tagged_fits : (tci : ℕ) (key : List ℕ) → tci < 2 ^ width_of field.VlanTci → FitsFields key → FitsFields (tagged tci key)
tagged_fits tci key below fits =
    let outer : VlanTag = record { tpid = type_of_written (outer_tag key).tpid; tci = tci } in
    let written = tags_set outer (inner_tag key) key below (value_fits key field.VlanTci2 fits refl) fits in
    elim (is_tag tci) as (λ b. FitsFields (if b then with_tags outer (inner_tag key) key else popped key)) [ true ↦ written | false ↦ popped_fits key fits ]
