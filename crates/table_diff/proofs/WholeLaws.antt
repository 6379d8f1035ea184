-- Keys of frames that agree on all bits are one key.
use Rattle.std.proofs.Common.{◌≡◌, ℕ, zero, suc, ◌<◌, ◌≤◌, ◌⊎◌, Bool, true, false, ◌&&◌, ◌||◌, ◌==◌, List, [], ◌∷◌, length, map, inl, inr, refl, sym, ap, ap₂, ◌∙◌, subst, arith, eqb-true}
use Rattle.std.proofs.lemmas.Bool.{and_parts, cases_lt}
use Rattle.std.specs.List.{list_any}
use Rattle.spec_keys.specs.declared.field_id.FieldId.{FieldId}
use Rattle.spec_keys.specs.Fields.{place_of, fields, field_count, register_fields}
use Rattle.spec_keys.specs.Keys.{number_at, agree, IsKey}
use Rattle.spec_xlate.specs.Consulted.{whole, without}
use Rattle.spec_xlate.specs.Lookup.{union}
use Rattle.spec_tools.specs.Classes.{IsFrameKey}
use Rattle.table_laws.proofs.KeyLaws.{SameBits, agree-masked}
use Rattle.table_laws.proofs.UnionLaws.{SameBits_from-union}
use Rattle.table_laws.proofs.StatesAlike.{whole-same}
use Rattle.table_diff.proofs.TellLaws.{registers-same}

-- whether a test holds of each number below another
abbrev tested_below : (ℕ → Bool) → ℕ → Bool
tested_below p zero = true
tested_below p (suc n) = p n && tested_below p n

below : (p : ℕ → Bool) (n q : ℕ) → tested_below p n ≡ true → q < n → p q ≡ true
below p zero q h lt = absurd (omega arith)
below p (suc n) q h lt = at (cases_lt q n) (below p n q)
  where
    parts : (p n ≡ true) × (tested_below p n ≡ true)
    parts = and_parts (p n) (tested_below p n) h

    at : (q < n) ⊎ (n ≤ q) → (tested_below p n ≡ true → q < n → p q ≡ true) → p q ≡ true
    at (inl less) others = others parts.1 less
    at (inr more) others = let same : q ≡ n = omega arith in ap p same ∙ parts.0

abbrev is_place : ℕ → Bool
is_place q = list_any (λ f. q == place_of f) fields

-- each place is that of a field
each_place : (q : ℕ) → q < field_count → is_place q ≡ true
each_place q lt = below is_place field_count q refl lt

same_numbers : (a b : List ℕ) → length a ≡ length b → ((q : ℕ) → q < length a → number_at a q ≡ number_at b q) → a ≡ b
same_numbers [] [] l each = refl
same_numbers [] (y ∷ ys) l each = absurd (omega arith)
same_numbers (x ∷ xs) [] l each = absurd (omega arith)
same_numbers (x ∷ xs) (y ∷ ys) l each =
    ap₂ (λ (z : ℕ) (zs : List ℕ). z ∷ zs) (each 0 (omega arith)) (same_numbers xs ys (omega arith) (λ q lt. each (suc q) (let i = lt in omega arith)))

same_values : (a b : List ℕ) → IsKey a → IsKey b → (fs : List FieldId) → SameBits a b (map whole fs) → (q : ℕ)
    → list_any (λ f. q == place_of f) fs ≡ true → number_at a q ≡ number_at b q
same_values a b ka kb [] s q h = absurd (cc h)
same_values a b ka kb (f ∷ fs) s q h = at (q == place_of f) refl (same_values a b ka kb fs s.1 q) h
  where
    at : (t : Bool) → (q == place_of f) ≡ t → (list_any (λ g. q == place_of g) fs ≡ true → number_at a q ≡ number_at b q)
        → (t || list_any (λ g. q == place_of g) fs) ≡ true → number_at a q ≡ number_at b q
    at true e others h =
        let here : q ≡ place_of f = eqb-true q (place_of f) e in
        ap (number_at a) here ∙ whole-same a b ka kb f s.0 ∙ sym (ap (number_at b) here)
    at false e others h = others h

pub all_bits_same : (a b mask : List ℕ) → IsFrameKey a → IsFrameKey b → mask ≡ without register_fields (union (map whole fields)) → agree b a mask ≡ true → b ≡ a
all_bits_same a b mask fa fb is h =
    let u = union (map whole fields) in
    let agreed : agree b a (without register_fields u) ≡ true = subst (λ (z : List ℕ). agree b a z ≡ true) is h in
    let l : length b ≡ length a = fb.is_key.fields ∙ sym fa.is_key.fields in
    let e = registers-same a b u l fa.clean fb.clean (sym (agree-masked b a (without register_fields u) agreed)) in
    let s = SameBits_from-union a b (map whole fields) e in
    same_numbers b a l (λ q lt. sym (same_values a b fa.is_key fb.is_key fields s q (each_place q (subst (λ (n : ℕ). q < n) fb.is_key.fields lt))))
