-- What is found in a table, seen by a view of its rows.
use Rattle.std.proofs.Common.{◌≡◌, ℕ, Bool, true, false, cond, List, [], ◌∷◌, map, refl, Some, bytes_eq}
use Rattle.std.specs.List.{list_any, find}
use Rattle.std.specs.Option.{option_map}
use Rattle.spec_flow_text.specs.Names.{meaning_of}

pub any_seen : {A B : Type 0} (view : A → B) (p : B → Bool) (xs : List A) → list_any (λ x. p (view x)) xs ≡ list_any p (map view xs)
any_seen view p [] = refl
any_seen view p (x ∷ xs) = rw (any_seen view p xs) refl

pub find_seen : {A B C : Type 0} (view : A → B) (p : B → Bool) (g : B → C) (xs : List A)
    → option_map (λ x. g (view x)) (find (λ x. p (view x)) xs) ≡ option_map g (find p (map view xs))
find_seen view p g [] = refl
find_seen view p g (x ∷ xs) = elim (p (view x)) as (λ b. option_map (λ y. g (view y)) (cond b (Some x) (find (λ y. p (view y)) xs)) ≡ option_map g (cond b (Some (view x)) (find p (map view xs)))) [ true ↦ refl | false ↦ find_seen view p g xs ]

-- what is to show of a row whose word is the text, or isn't
abbrev Seen : {A B : Type 0} → (A → B) → List ℕ → List ℕ × A → List (List ℕ × A) → Bool → Type 0
Seen {A} {B} view text row rows b =
    option_map view (option_map (λ (r : List ℕ × A). r.1) (cond b (Some row) (find (λ (r : List ℕ × A). bytes_eq r.0 text) rows)))
    ≡ option_map (λ (r : List ℕ × B). r.1)
    (cond b (Some (row.0, view row.1)) (find (λ (r : List ℕ × B). bytes_eq r.0 text) (map (λ (r : List ℕ × A). (r.0, view r.1)) rows)))

-- the meaning of a word in a table, seen by a view of meanings
pub meaning_seen : {A B : Type 0} (view : A → B) (text : List ℕ) (table : List (List ℕ × A))
    → option_map view (meaning_of table text) ≡ meaning_of (map (λ row. (row.0, view row.1)) table) text
meaning_seen view text [] = refl
meaning_seen view text (row ∷ rows) =
    elim (bytes_eq row.0 text) as (λ b. Seen view text row rows b) [ true ↦ refl | false ↦ meaning_seen view text rows ]
