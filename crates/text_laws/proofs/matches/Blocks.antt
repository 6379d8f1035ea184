-- The items of each field of a match that can be spelled are readable, and their parts state that field.
use Rattle.std.proofs.Common.{◌≡◌, ℕ, ◌*◌, ◌^◌, Bool, true, false, cond, [], ◌∷◌, refl, sym, ap, ◌∙◌, arith, bit_and, Option, Some, None, eqb-true, eq-eqb}
use Rattle.std.specs.Prelude.{◌&&◌, ◌||◌, ◌==◌}
use Rattle.std.specs.Int.Bits.{or_zero_l}
use Rattle.std.proofs.lemmas.Bool.{and_parts}
use Rattle.std.proofs.lemmas.Nat.{and_le_r}
use Rattle.spec_keys.specs.declared.field_id.FieldId.{FieldId}
use Rattle.spec_keys.specs.declared.field_id.FieldId.TheVariants as key
use Rattle.spec_keys.specs.Fields.{place_of}
use Rattle.spec_keys.specs.Keys.{value_of}
use Rattle.spec_actions.specs.declared.named_field.NamedField.{NamedField}
use Rattle.spec_actions.specs.Named.{named}
use Rattle.spec_tables.specs.Rules.{Match}
use Rattle.spec_flow_text.specs.declared.part.Part.{Part}
use Rattle.spec_flow_text.specs.declared.shorthand.Shorthand.{Shorthand}
use Rattle.spec_flow_text.specs.declared.shorthand.Shorthand.TheVariants as short
use Rattle.spec_flow_text.specs.Values.{Bits, bits, raised, bits_stated, needs_of, tag_part_of, part, is_met}
use Rattle.spec_flow_text.specs.Printed.{Value, shown_bits, bits_of, own_name, name_after_arp, name_after_icmp, name_after}
use Rattle.text_laws.proofs.ValuesBack.{ReadValues}
use Rattle.text_laws.specs.SpelledMatches.{can_state, is_stated, number_stated, has_needed}
use Rattle.text_laws.proofs.matches.WordsBack.{all_parts, AreReadable}
use Rattle.text_laws.proofs.matches.Together.{IsExact, IsBlock}
use Rattle.text_laws.proofs.matches.NamesBack.{IsNoService, name_back, value_readable}

-- ---- blocks of one part, and of none

pub no_part : (m : Match) (f : FieldId) → value_of m.key f ≡ 0 → value_of m.mask f ≡ 0 → (IsExact f → number_stated m f ≡ None) → IsBlock m f []
no_part m f value mask number = record { here = refl; apart = tt; value = sym value; mask = sym mask; number = λ exact. sym (number exact); met = refl }

pub one_part : (m : Match) (f : FieldId) (p : Part) → p.field ≡ f → p.value ≡ value_of m.key f → p.mask ≡ value_of m.mask f → (IsExact f → number_stated m f ≡ Some p.value)
    → is_met p.needs (number_stated m key.DlType) (number_stated m key.NwProto) ≡ true → IsBlock m f (p ∷ [])
one_part m f p field value mask number met =
    let here : (place_of p.field == place_of f) ≡ true = eq-eqb (place_of p.field) (place_of f) (ap place_of field) in
    record {
      here = rw here refl;
      apart = (refl, tt);
      value = rw here (or_zero_l p.value ∙ value);
      mask = rw here (or_zero_l p.mask ∙ mask);
      number = λ exact. rw here (sym (number exact));
      met = rw met refl;
    }

-- ---- names

-- a name stands for all of a field
pub record IsNameOf (f : FieldId) (n : NamedField) : Type 0 where
  pub field : (named n).field ≡ f
  pub stated : (b : Bits) → bits_stated n b ≡ Some (raised 0 b)
  pub other : IsNoService n

abbrev pub IsOther : FieldId → Type 0
IsOther key.NwTos = ⊥
IsOther f = Unit {0}

own_named : (f : FieldId) → IsOther f → IsNameOf f (own_name f)
unfolding bits_stated
own_named key.NwTos h = absurd h
own_named f h = record { field = refl; stated = λ b. refl; other = tt }

arp_named : (f : FieldId) → IsOther f → IsNameOf f (name_after_arp f)
unfolding bits_stated
arp_named key.NwTos h = absurd h
arp_named f h = record { field = refl; stated = λ b. refl; other = tt }

icmp_named : (f : FieldId) → IsOther f → IsNameOf f (name_after_icmp f)
unfolding bits_stated
icmp_named key.NwTos h = absurd h
icmp_named f h = record { field = refl; stated = λ b. refl; other = tt }

pub is_named : (h : Option Shorthand) (f : FieldId) → IsOther f → IsNameOf f (name_after h f)
is_named (Some short.Arp) f o = arp_named f o
is_named (Some short.Icmp) f o = icmp_named f o
is_named (Some short.Icmp6) f o = icmp_named f o
is_named h f o = own_named f o

-- ---- bits under a name

pub raised_none : (v m : ℕ) → raised 0 (bits v m) ≡ bits v m
raised_none v m =
    let value : v * 2 ^ 0 ≡ v = omega arith in
    let mask : m * 2 ^ 0 ≡ m = omega arith in
    rw (value, mask) refl

-- what is stated where the bits are in their mask
stated_parts : (f : FieldId) (n : NamedField) (v m : ℕ) → IsNameOf f n → all_parts (Value n (bits v m) ∷ []) ≡ part (named n).field (bits v m) (needs_of n) (tag_part_of n) ∷ []
stated_parts f n v m name = rw (name.stated (bits v m)) (ap (λ b. part (named n).field b (needs_of n) (tag_part_of n) ∷ []) (raised_none v m))

within_of : (v m : ℕ) (rest : Bool) → ((bit_and v m == v) && rest) ≡ true → bit_and v m ≡ v
within_of v m rest h = eqb-true (bit_and v m) v (and_parts (bit_and v m == v) rest h).0

and_none : (v : ℕ) → bit_and v 0 ≡ 0
and_none v = omega (arith, and_le_r v 0)

-- a field of the match under a name of it
pub bits_block : (m : Match) (f : FieldId) (n : NamedField) → IsNameOf f n → is_stated n (bits_of m f) ≡ true → has_needed m n (bits_of m f) ≡ true
    → (IsExact f → (value_of m.mask f == 0) ≡ true → number_stated m f ≡ None) → (IsExact f → (value_of m.mask f == 0) ≡ false → number_stated m f ≡ Some (value_of m.key f))
    → IsBlock m f (all_parts (shown_bits n (bits_of m f)))
bits_block m f n name stated needed none whole =
    let v = value_of m.key f in
    let k = value_of m.mask f in
    let within : bit_and v k ≡ v = within_of v k ((k == 0) || can_state n (bits_of m f)) stated in
    by_test m f n name v k refl refl within (k == 0) refl needed none whole
  where
    by_test : (m : Match) (f : FieldId) (n : NamedField) → IsNameOf f n → (v k : ℕ) → value_of m.key f ≡ v → value_of m.mask f ≡ k → bit_and v k ≡ v → (t : Bool) → (k == 0) ≡ t
        → (t || is_met (needs_of n) (number_stated m key.DlType) (number_stated m key.NwProto)) ≡ true → (IsExact f → t ≡ true → number_stated m f ≡ None)
        → (IsExact f → t ≡ false → number_stated m f ≡ Some v) → IsBlock m f (all_parts (cond t [] (Value n (bits (bit_and v k) k) ∷ [])))
    by_test m f n name v k value mask within true is needed none whole =
        let nothing = eqb-true k 0 is in
        no_part m f (value ∙ sym within ∙ ap (bit_and v) nothing ∙ and_none v) (mask ∙ nothing) (λ exact. none exact refl)
    by_test m f n name v k value mask within false is needed none whole =
        let p = part (named n).field (bits v k) (needs_of n) (tag_part_of n) in
        rw (within, stated_parts f n v k name) (one_part m f p name.field (within ∙ sym value) (sym mask) (λ exact. whole exact refl ∙ ap Some (sym within)) needed)

pub bits_readable : ReadValues → (f : FieldId) (n : NamedField) (b : Bits) → IsNameOf f n → is_stated n b ≡ true → AreReadable (shown_bits n b)
bits_readable r f n b name stated =
    let p = and_parts (bit_and b.value b.mask == b.value) ((b.mask == 0) || can_state n b) stated in
    by_test (b.mask == 0) p.1 (eqb-true (bit_and b.value b.mask) b.value p.0)
  where
    by_test : (t : Bool) → (t || can_state n b) ≡ true → bit_and b.value b.mask ≡ b.value → AreReadable (cond t [] (Value n (bits (bit_and b.value b.mask) b.mask) ∷ []))
    by_test true h within = tt
    by_test false h within =
        rw within (value_readable n (bits b.value b.mask) (raised 0 (bits b.value b.mask)) (name_back r n name.other b.value b.mask h) (name.stated (bits b.value b.mask)), tt)
