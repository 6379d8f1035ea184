-- Filters: what becomes of the keys that may be there as one more is added, and what those that are ruled out have.
use Rattle.std.proofs.Common.{◌≡◌, ℕ, ◌<◌, ◌*◌, ◌%◌, ◌^◌, ◌==◌, Bool, true, false, if◌then◌else◌, List, ◌∷◌, length, set, slice_get, slice_set, Option, Some, None, bit_or, refl, sym, ap, ◌∙◌, arith, inl, inr, w64}
use Rattle.std.specs.Int.{bit_at}
use Rattle.std.specs.Map.{lookup}
use Rattle.std.proofs.lemmas.Bool.{cases_eq, cases_lt, false≢true}
use Rattle.std.proofs.lemmas.Nat.Bits.{bit_at_set_same, bit_at_set_other}
use Rattle.std.proofs.lemmas.List.{get_or-set_same, get_or-set_other, length-set}
use Rattle.std.proofs.lemmas.Option.{slice_get-get_or, slice_get_past}
use Rattle.spec_keys.specs.Keys.{same}
use Rattle.ovs_fields.specs.Equality.{equal_from_same}
use Rattle.masked_map.specs.declared.fields.CompactFields.{CompactFields}
use Rattle.masked_map.specs.declared.key_filter.KeyFilter.{KeyFilter}
use Rattle.masked_map.specs.Compact.{list_of}
use Rattle.masked_map.specs.Filters.{has_bit, may_have}
use Rattle.masked_map.specs.Listed.{listed}

-- ---- one item of a list is another

at_set : (xs : List ℕ) (i a : ℕ) → i < length xs → slice_get (slice_set xs i a) i ≡ Some a
at_set xs i a within = slice_get-get_or (set xs i a) i 0 (omega (arith, within, length-set xs i a)) ∙ ap Some (get_or-set_same xs i a 0 within)

beside_set : (xs : List ℕ) (i j a : ℕ) → (j ≡ i → ⊥) → slice_get (slice_set xs i a) j ≡ slice_get xs j
beside_set xs i j a other = elim (cases_lt j (length xs)) [
  | inl within ↦ slice_get-get_or (set xs i a) j 0 (omega (arith, within, length-set xs i a)) ∙ ap Some (get_or-set_other xs i j a 0 other) ∙ sym (slice_get-get_or xs j 0 within)
  | inr past ↦ slice_get_past (set xs i a) j (omega (arith, past, length-set xs i a)) ∙ sym (slice_get_past xs j past)
]

-- ---- a bit more

abbrev pub with_bit : ℕ → ℕ → ℕ
with_bit word bit = bit_or word (1 * 2 ^ bit % 2 ^ 64)

module _ (ws : List ℕ) (place word bit : ℕ) (there : slice_get ws place ≡ Some word) (small : bit < 64) where
  abbrev pub more : List ℕ
  more = slice_set ws place (with_bit word bit)

  pub bit_set : place < length ws → has_bit (slice_get more place) bit ≡ true
  bit_set within = ap (λ o. has_bit o bit) (at_set ws place (with_bit word bit) within) ∙ ap (λ b. b == 1) (bit_at_set_same w64 word bit small)

  keeps_at : (b : ℕ) → has_bit (Some word) b ≡ true → has_bit (Some (with_bit word bit)) b ≡ true
  keeps_at b was = elim (cases_eq b bit) [
    | inl e ↦ ap (λ i. bit_at (with_bit word bit) i == 1) e ∙ ap (λ x. x == 1) (bit_at_set_same w64 word bit small)
    | inr other ↦ ap (λ x. x == 1) (bit_at_set_other w64 word bit small b other) ∙ was
  ]

  pub bits_kept : place < length ws → (j b : ℕ) → has_bit (slice_get ws j) b ≡ true → has_bit (slice_get more j) b ≡ true
  bits_kept within j b was = elim (cases_eq j place) [
    | inl e ↦
        ap (λ i. has_bit (slice_get more i) b) e
        ∙ ap (λ o. has_bit o b) (at_set ws place (with_bit word bit) within)
        ∙ keeps_at b (sym (ap (λ i. has_bit (slice_get ws i) b) e ∙ ap (λ o. has_bit o b) there) ∙ was)
    | inr other ↦ ap (λ o. has_bit o b) (beside_set ws place j (with_bit word bit) other) ∙ was
  ]

-- ---- keys that are ruled out

-- a key that was added isn't
pub not_added : (f : KeyFilter) (key own : List ℕ) → may_have f own ≡ true → may_have f key ≡ false → same key own ≡ false
not_added f key own added out = at (same key own) refl
  where
    at : (t : Bool) → same key own ≡ t → t ≡ false
    at true e = absurd (false≢true (sym out ∙ ap (may_have f) (equal_from_same key own e) ∙ added))
    at false e = refl

-- nor was one before that is now
pub no_more : (f g : KeyFilter) (key : List ℕ) → (may_have f key ≡ true → may_have g key ≡ true) → may_have g key ≡ false → may_have f key ≡ false
no_more f g key still out = at (may_have f key) refl
  where
    at : (t : Bool) → may_have f key ≡ t → t ≡ false
    at true e = absurd (false≢true (sym out ∙ still e))
    at false e = refl

module _ {V : Type 0} where
  pub none_left : (t : Bool) (o : Option V) → o ≡ None → (if t then None else o) ≡ None
  none_left true o is = refl
  none_left false o is = is

  -- an entry of which the key isn't ruled out leaves what is looked up
  pub passed : (e : CompactFields × V) (es all : List (CompactFields × V)) (q : List ℕ) → same q (list_of e.0) ≡ false
      → lookup (same q) (listed list_of (e ∷ es)) ≡ lookup (same q) (listed list_of all) → lookup (same q) (listed list_of es) ≡ lookup (same q) (listed list_of all)
  passed e es all q other is = sym (ap (λ (t : Bool). if t then Some e.1 else lookup (same q) (listed list_of es)) other) ∙ is
