-- Counts of the elements that pass a test.
use Rattle.std.proofs.Common.{◌≡◌, ℕ, zero, suc, ◌+◌, ◌≤◌, Bool, true, false, cond, ◌||◌, List, [], ◌∷◌, take, Option, Some, None, refl, sym, ap, ap₂, ◌∙◌, arith, inl, inr, zero-add}
use Rattle.std.specs.Prelude.{slice_get, count_by}
use Rattle.std.specs.Int.{from_bool}
use Rattle.std.specs.List.{filter_map, cons_option, list_any}
use Rattle.std.proofs.lemmas.List.Sums.{sum_by-cons}
use Rattle.std.proofs.lemmas.Bool.{cases_Bool, or_left}
use Rattle.std.proofs.lemmas.Option.{none-some, same_Some}

-- whether an option has something that passes
abbrev pub has_passing : {A : Type 0} → (A → Bool) → Option A → Bool
has_passing p None = false
has_passing p (Some x) = p x

pub count_by-cons : {A : Type 0} (p : A → Bool) (x : A) (xs : List A) → count_by p (x ∷ xs) ≡ cond (p x) 1 0 + count_by p xs
count_by-cons p x xs = sum_by-cons (λ y. cond (p y) 1 0) x xs

count_by-cons_option : {A : Type 0} (p : A → Bool) (o : Option A) (xs : List A) → count_by p (cons_option o xs) ≡ cond (has_passing p o) 1 0 + count_by p xs
count_by-cons_option p None xs = sym (zero-add (count_by p xs))
count_by-cons_option p (Some x) xs = count_by-cons p x xs

pub count_by-filter_map : {A B : Type 0} (p : B → Bool) (f : A → Option B) (q : A → Bool) (xs : List A)
    → ((i : ℕ) (x : A) → slice_get xs i ≡ Some x → has_passing p (f x) ≡ q x) → count_by p (filter_map f xs) ≡ count_by q xs
count_by-filter_map p f q [] alike = refl
count_by-filter_map p f q (x ∷ xs) alike =
    count_by-cons_option p (f x) (filter_map f xs)
    ∙ ap₂ (λ (b : Bool) (n : ℕ). cond b 1 0 + n) (alike 0 x refl) (count_by-filter_map p f q xs (λ i y at. alike (suc i) y at))
    ∙ sym (count_by-cons q x xs)

pub count_none : {A : Type 0} (q : A → Bool) (xs : List A) → ((i : ℕ) (x : A) → slice_get xs i ≡ Some x → q x ≡ false) → count_by q xs ≡ 0
count_none q [] none = refl
count_none q (x ∷ xs) none =
    count_by-cons q x xs ∙ ap₂ (λ (b : Bool) (n : ℕ). cond b 1 0 + n) (none 0 x refl) (count_none q xs (λ i y at. none (suc i) y at))

pub count_one : {A : Type 0} (q : A → Bool) (xs : List A) (place : ℕ) (x : A) → slice_get xs place ≡ Some x → q x ≡ true
    → ((i : ℕ) (y : A) → slice_get xs i ≡ Some y → (i ≡ place → ⊥) → q y ≡ false) → count_by q xs ≡ 1
count_one q [] place x at passes others = absurd (none-some x at)
count_one q (z ∷ zs) zero x at passes others =
    count_by-cons q z zs
    ∙ ap₂ (λ (b : Bool) (n : ℕ). cond b 1 0 + n) (ap q (same_Some z x at) ∙ passes) (count_none q zs (λ i y there. others (suc i) y there (λ e. omega arith)))
count_one q (z ∷ zs) (suc place) x at passes others =
    count_by-cons q z zs
    ∙ ap₂ (λ (b : Bool) (n : ℕ). cond b 1 0 + n) (others 0 z refl (λ e. omega arith))
    (count_one q zs place x at passes (λ i y there apart. others (suc i) y there (λ e. apart (omega arith))))

pub count_by-take : {A : Type 0} (q : A → Bool) (n : ℕ) (xs : List A) → count_by q (take n xs) ≤ count_by q xs
count_by-take q zero xs = omega arith
count_by-take q (suc n) [] = omega arith
count_by-take q (suc n) (x ∷ xs) =
    let rest : count_by q (take n xs) ≤ count_by q xs = count_by-take q n xs in
    omega (arith, count_by-cons q x (take n xs), count_by-cons q x xs)

-- whether some element passes, by how many do
pub any_counted : {A : Type 0} (p : A → Bool) (xs : List A) (b : Bool) → count_by p xs ≡ cond b 1 0 → list_any p xs ≡ b
any_counted p [] true counted = absurd (omega arith)
any_counted p [] false counted = refl
any_counted p (x ∷ xs) b counted =
    elim (cases_Bool (p x)) [
      | inl pass ↦ or_left (p x) (list_any p xs) pass ∙ sym (yes b (sym counted ∙ count_by-cons p x xs ∙ ap (λ (t : Bool). cond t 1 0 + count_by p xs) pass))
      | inr fail ↦
          ap (λ (t : Bool). t || list_any p xs) fail
          ∙ any_counted p xs b (sym (count_by-cons p x xs ∙ ap (λ (t : Bool). cond t 1 0 + count_by p xs) fail ∙ zero-add (count_by p xs)) ∙ counted)
    ]
  where
    yes : (t : Bool) → cond t 1 0 ≡ 1 + count_by p xs → t ≡ true
    yes true is = refl
    yes false is = absurd (omega arith)

-- a Bool as a number
pub from_bool_is : (b : Bool) → from_bool b ≡ cond b 1 0
from_bool_is true = refl
from_bool_is false = refl
