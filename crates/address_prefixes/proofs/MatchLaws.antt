-- A key that begins with none of the prefixes of a length matches no rule of a mask that has a prefix of it.
use Rattle.std.proofs.Common.{◌≡◌, ℕ, Bool, true, false, ◌&&◌, ◌==◌, List, bit_and, refl, sym, ap, ap₂, ◌∙◌, eq-eqb}
use Rattle.std.proofs.lemmas.Bool.{false≢true}
use Rattle.spec_base.specs.Bits.{leading_bits}
use Rattle.spec_keys.specs.declared.field_id.FieldId.{FieldId}
use Rattle.spec_keys.specs.Fields.{width_of, place_of}
use Rattle.spec_keys.specs.Keys.{value_of, masked}
use Rattle.spec_tables.specs.Rules.{Rule, is_matched}
use Rattle.spec_xlate.specs.Lookup.{prefix_length, prefix_of, prefixes, begins_with, some_begins}
use Rattle.ovs_fields.specs.Equality.{equal_from_same}
use Rattle.table_laws.proofs.KeyLaws.{number_at-masked}
use Rattle.table_laws.proofs.MemberLaws.{Among, list_any_from-Among}
use Rattle.table_laws.proofs.PrefixLaws.{prefix_length-is}
use Rattle.address_prefixes.specs.RuleLists.{NoneMatches}
use Rattle.address_prefixes.proofs.FieldLaws.{stated_among}

-- the length of the prefix of a field that a mask has
abbrev length_in : FieldId → List ℕ → ℕ
length_in f mask = prefix_length (width_of f) (value_of mask f)

-- a rule that a key matches states a prefix with which the key begins
matched_begins : (f : FieldId) (rs : List Rule) (r : Rule) (key : List ℕ) → Among r rs → is_matched key r.matching ≡ true → (length_in f r.matching.mask == 0) ≡ false
    → some_begins (width_of f) (value_of key f) (length_in f r.matching.mask) (prefixes f rs) ≡ true
matched_begins f rs r key m matched long =
    list_any_from-Among (λ p. (p.length == length_in f r.matching.mask) && begins_with (width_of f) (value_of key f) p) (prefix_of f r) (prefixes f rs) (stated_among f rs r m long)
    (ap₂ (λ (s t : Bool). s && t) (eq-eqb (length_in f r.matching.mask) (length_in f r.matching.mask) refl) (eq-eqb _ _ alike))
  where
    is : value_of r.matching.mask f ≡ leading_bits (width_of f) (length_in f r.matching.mask)
    is = prefix_length-is (width_of f) (value_of r.matching.mask f) long

    same_bits : masked key r.matching.mask ≡ masked r.matching.key r.matching.mask
    same_bits = equal_from_same _ _ matched

    alike : bit_and (value_of key f) (leading_bits (width_of f) (length_in f r.matching.mask)) ≡ bit_and (value_of r.matching.key f) (leading_bits (width_of f) (length_in f r.matching.mask))
    alike =
        ap (bit_and (value_of key f)) (sym is) ∙ sym (number_at-masked key r.matching.mask (place_of f)) ∙ ap (λ (z : List ℕ). value_of z f) same_bits
        ∙ number_at-masked r.matching.key r.matching.mask (place_of f) ∙ ap (bit_and (value_of r.matching.key f)) is

pub none_begins : (f : FieldId) (rs : List Rule) (key mask : List ℕ) (n : ℕ) → n ≡ prefix_length (width_of f) (value_of mask f) → (n == 0) ≡ false
    → some_begins (width_of f) (value_of key f) n (prefixes f rs) ≡ false → NoneMatches key mask rs
none_begins f rs key mask n is long none r m own = by (is_matched key r.matching) refl
  where
    by : (t : Bool) → is_matched key r.matching ≡ t → t ≡ false
    by false e = refl
    by true e =
        let same : length_in f r.matching.mask ≡ n = ap (length_in f) own ∙ sym is in
        absurd (false≢true (sym none ∙ ap (λ (k : ℕ). some_begins (width_of f) (value_of key f) k (prefixes f rs)) (sym same) ∙ matched_begins f rs r key m e (ap (λ (k : ℕ). k == 0) same ∙ long)))
