-- A name means a field that has a name with the same first letter, and is found among these as among all.
use Rattle.std.proofs.Common.{◌≡◌, ℕ, Bool, true, false, cond, List, [], ◌∷◌, None, Some, inl, inr, refl, sym, bytes_eq}
use Rattle.std.specs.Prelude.{nat_eq}
use Rattle.std.specs.List.{list_any, filter, find, slice_get}
use Rattle.std.proofs.lemmas.Option.{none-some, same_Some}
use Rattle.std.proofs.lemmas.Bool.{and_parts, or_cases, or_left, or_right, false≢true}
use Rattle.spec_actions.specs.declared.named_field.NamedField.{NamedField}
use Rattle.spec_flow_text.specs.Names.{is_called, names_of, named_fields, field_named}

-- an element that is looked for is among those that pass a test which it passes
one_filtered : {A : Type 0} (p q : A → Bool) (x : A) (xs : List A) (b c : Bool) → p x ≡ b → (b ≡ true → c ≡ true) → find p (filter q xs) ≡ find p xs
    → find p (cond c (x ∷ filter q xs) (filter q xs)) ≡ cond b (Some x) (find p xs)
one_filtered p q x xs true true is passes rest = rw is refl
one_filtered p q x xs false true is passes rest = rw is rest
one_filtered p q x xs false false is passes rest = rest
one_filtered p q x xs true false is passes rest = absurd (false≢true (passes refl))

find_filtered : {A : Type 0} (p q : A → Bool) → ((x : A) → p x ≡ true → q x ≡ true) → (xs : List A) → find p (filter q xs) ≡ find p xs
find_filtered p q passes [] = refl
find_filtered p q passes (x ∷ xs) = one_filtered p q x xs (p x) (q x) refl (passes x) (find_filtered p q passes xs)

abbrev begins_so : ℕ → List ℕ → Bool
begins_so letter [] = false
begins_so letter (c ∷ cs) = nat_eq c letter

-- whether one of a field's names begins with a letter
abbrev pub has_letter : ℕ → NamedField → Bool
has_letter letter f = list_any (begins_so letter) (names_of f)

same_begin : (word : List ℕ) (letter : ℕ) (rest : List ℕ) → bytes_eq word (letter ∷ rest) ≡ true → begins_so letter word ≡ true
same_begin [] letter rest same = same
same_begin (c ∷ cs) letter rest same = (and_parts (nat_eq c letter) (bytes_eq cs rest) same).0

one_has_letter : (words : List (List ℕ)) (letter : ℕ) (rest : List ℕ) → list_any (λ word. bytes_eq word (letter ∷ rest)) words ≡ true
    → list_any (begins_so letter) words ≡ true
one_has_letter [] letter rest same = same
one_has_letter (word ∷ words) letter rest same = elim (or_cases (bytes_eq word (letter ∷ rest)) (list_any (λ w. bytes_eq w (letter ∷ rest)) words) same) [
  | inl e ↦ or_left (begins_so letter word) (list_any (begins_so letter) words) (same_begin word letter rest e)
  | inr e ↦ or_right (begins_so letter word) (list_any (begins_so letter) words) (one_has_letter words letter rest e)
]

-- among the fields that have a letter, a name that begins with it is found as among all
pub among : (letter first : ℕ) → first ≡ letter → (rest : List ℕ) → find (is_called (first ∷ rest)) (filter (has_letter letter) named_fields) ≡ field_named (first ∷ rest)
unfolding field_named
among letter first is rest =
    rw is (find_filtered (is_called (letter ∷ rest)) (has_letter letter) (λ f. one_has_letter (names_of f) letter rest) named_fields)

-- so is a name that has a first letter, where each name is that begins with this letter
pub found_by_first : (name : List ℕ) (first : ℕ) (fields : List NamedField) → slice_get name 0 ≡ Some first
    → ((rest : List ℕ) → find (is_called (first ∷ rest)) fields ≡ field_named (first ∷ rest)) → find (is_called name) fields ≡ field_named name
found_by_first [] first fields is all = absurd (none-some first is)
found_by_first (c ∷ cs) first fields is all = rw (same_Some c first is) (all cs)

-- the name without a letter is no field's
pub no_name : (name : List ℕ) → slice_get name 0 ≡ None → None ≡ field_named name
unfolding field_named
no_name [] is = refl
no_name (c ∷ cs) is = absurd (none-some c (sym is))
