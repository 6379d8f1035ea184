-- Lists by what stands at each place.
use Rattle.std.proofs.Common.{◌≡◌, ℕ, zero, suc, ◌+◌, ◌<◌, Bool, true, false, cond, List, [], ◌∷◌, ◌++◌, length, take, map, Option, Some, None, refl, sym, ap, ap₂, ◌∙◌, arith, ◌⊎◌, inl, inr}
use Rattle.std.specs.Prelude.{slice_get, slice_set, filter}
use Rattle.std.specs.List.{filter_map, cons_option, list_any}
use Rattle.std.specs.Option.{option_map}
use Rattle.std.proofs.lemmas.Bool.{or_left, or_right, or_from}
use Rattle.std.proofs.lemmas.Option.{none-some, same_Some}

-- two lists of one length that give the same at each place
pub filter_map_alike : {A B : Type 0} (f g : A → Option B) (xs ys : List A) → length xs ≡ length ys
    → ((i : ℕ) (x y : A) → slice_get xs i ≡ Some x → slice_get ys i ≡ Some y → f x ≡ g y) → filter_map f xs ≡ filter_map g ys
filter_map_alike f g [] [] len alike = refl
filter_map_alike f g [] (y ∷ ys) len alike = absurd (omega arith)
filter_map_alike f g (x ∷ xs) [] len alike = absurd (omega arith)
filter_map_alike f g (x ∷ xs) (y ∷ ys) len alike =
    ap₂ cons_option (alike 0 x y refl refl) (filter_map_alike f g xs ys (omega arith) (λ i a b at bt. alike (suc i) a b at bt))

-- what two functions give that are alike at each element
pub filter_map_same : {A B : Type 0} (f g : A → Option B) (xs : List A) → ((i : ℕ) (x : A) → slice_get xs i ≡ Some x → f x ≡ g x) → filter_map f xs ≡ filter_map g xs
filter_map_same f g [] alike = refl
filter_map_same f g (x ∷ xs) alike = ap₂ cons_option (alike 0 x refl) (filter_map_same f g xs (λ i y at. alike (suc i) y at))

pub filter_map-map : {A B C : Type 0} (f : B → Option C) (g : A → B) (xs : List A) → filter_map f (map g xs) ≡ filter_map (λ x. f (g x)) xs
filter_map-map f g [] = refl
filter_map-map f g (x ∷ xs) = ap (λ rest. cons_option (f (g x)) rest) (filter_map-map f g xs)

map-cons_option : {A B : Type 0} (g : A → B) (o : Option A) (xs : List A) → map g (cons_option o xs) ≡ cons_option (option_map g o) (map g xs)
map-cons_option g None xs = refl
map-cons_option g (Some x) xs = refl

pub map-filter_map : {A B C : Type 0} (g : B → C) (f : A → Option B) (xs : List A) → map g (filter_map f xs) ≡ filter_map (λ x. option_map g (f x)) xs
map-filter_map g f [] = refl
map-filter_map g f (x ∷ xs) = map-cons_option g (f x) (filter_map f xs) ∙ ap (λ rest. cons_option (option_map g (f x)) rest) (map-filter_map g f xs)

-- what stands at a place of a mapped list
pub from_map : {A B : Type 0} (f : A → B) (xs : List A) (i : ℕ) (y : B) → slice_get (map f xs) i ≡ Some y → (x : A) × (slice_get xs i ≡ Some x) × (y ≡ f x)
from_map f [] i y at = absurd (none-some y at)
from_map f (x ∷ xs) zero y at = (x, refl, sym (same_Some (f x) y at))
from_map f (x ∷ xs) (suc i) y at = from_map f xs i y at

-- a list whose elements are each what the other's are mapped to
pub is_mapped : {A : Type 0} (f : A → A) (xs ys : List A) → length ys ≡ length xs
    → ((i : ℕ) (x y : A) → slice_get xs i ≡ Some x → slice_get ys i ≡ Some y → y ≡ f x) → ys ≡ map f xs
is_mapped f [] [] len each = refl
is_mapped f [] (y ∷ ys) len each = absurd (omega arith)
is_mapped f (x ∷ xs) [] len each = absurd (omega arith)
is_mapped f (x ∷ xs) (y ∷ ys) len each =
    ap₂ (λ z zs. z ∷ zs) (each 0 x y refl refl) (is_mapped f xs ys (omega arith) (λ i a b at bt. each (suc i) a b at bt))

-- what an option has that passes a test
abbrev pub passing : {A : Type 0} → (A → Bool) → Option A → Option A
passing p None = None
passing p (Some x) = cond (p x) (Some x) None

filter-cons_option : {A : Type 0} (p : A → Bool) (o : Option A) (xs : List A) → filter p (cons_option o xs) ≡ cons_option (passing p o) (filter p xs)
filter-cons_option p None xs = refl
filter-cons_option p (Some x) xs = elim (p x) as (λ b. cond b (x ∷ filter p xs) (filter p xs) ≡ cons_option (cond b (Some x) None) (filter p xs)) [ true ↦ refl | false ↦ refl ]

pub filter-filter_map : {A B : Type 0} (p : B → Bool) (f : A → Option B) (xs : List A) → filter p (filter_map f xs) ≡ filter_map (λ x. passing p (f x)) xs
filter-filter_map p f [] = refl
filter-filter_map p f (x ∷ xs) = filter-cons_option p (f x) (filter_map f xs) ∙ ap (λ rest. cons_option (passing p (f x)) rest) (filter-filter_map p f xs)

any-cons_option : {A : Type 0} (p : A → Bool) (o : Option A) (xs : List A) → list_any p xs ≡ true → list_any p (cons_option o xs) ≡ true
any-cons_option p None xs any = any
any-cons_option p (Some x) xs any = or_right (p x) (list_any p xs) any

-- some element passes: one at a place
pub any_at : {A B : Type 0} (p : B → Bool) (f : A → Option B) (xs : List A) (i : ℕ) (x : A) (y : B) → slice_get xs i ≡ Some x → f x ≡ Some y → p y ≡ true
    → list_any p (filter_map f xs) ≡ true
any_at p f [] i x y at is pass = absurd (none-some x at)
any_at p f (z ∷ zs) zero x y at is pass =
    let here : f z ≡ Some y = ap f (same_Some z x at) ∙ is in
    rw here (or_left (p y) (list_any p (filter_map f zs)) pass)
any_at p f (z ∷ zs) (suc i) x y at is pass = any-cons_option p (f z) (filter_map f zs) (any_at p f zs i x y at is pass)

none-cons_option : {A : Type 0} (p : A → Bool) (o : Option A) (xs : List A) → ((y : A) → o ≡ Some y → p y ≡ false) → list_any p xs ≡ false
    → list_any p (cons_option o xs) ≡ false
none-cons_option p None xs here any = any
none-cons_option p (Some x) xs here any = or_from (p x) (list_any p xs) (here x refl) any

-- none passes
pub none_passes : {A B : Type 0} (p : B → Bool) (f : A → Option B) (xs : List A)
    → ((i : ℕ) (x : A) (y : B) → slice_get xs i ≡ Some x → f x ≡ Some y → p y ≡ false) → list_any p (filter_map f xs) ≡ false
none_passes p f [] none = refl
none_passes p f (x ∷ xs) none =
    none-cons_option p (f x) (filter_map f xs) (λ y is. none 0 x y refl is) (none_passes p f xs (λ i z y at is. none (suc i) z y at is))

pub slice_get-push : {A : Type 0} (xs : List A) (x : A) → slice_get (xs ++ x ∷ []) (length xs) ≡ Some x
slice_get-push [] x = refl
slice_get-push (z ∷ zs) x = slice_get-push zs x

-- the first ones stand in the whole
pub slice_get-take : {A : Type 0} (n : ℕ) (xs : List A) (i : ℕ) (x : A) → slice_get (take n xs) i ≡ Some x → slice_get xs i ≡ Some x
slice_get-take zero [] i x at = at
slice_get-take zero (y ∷ ys) i x at = absurd (none-some x at)
slice_get-take (suc n) [] i x at = at
slice_get-take (suc n) (y ∷ ys) zero x at = at
slice_get-take (suc n) (y ∷ ys) (suc i) x at = slice_get-take n ys i x at

pub slice_get-append : {A : Type 0} (xs ys : List A) (i : ℕ) → i < length xs → slice_get (xs ++ ys) i ≡ slice_get xs i
slice_get-append [] ys i lt = absurd (omega arith)
slice_get-append (x ∷ xs) ys zero lt = refl
slice_get-append (x ∷ xs) ys (suc i) lt = slice_get-append xs ys i (omega arith)

-- what stands at a place after one more is appended
pub push_cases : {A : Type 0} (xs : List A) (x y : A) (i : ℕ) → slice_get (xs ++ x ∷ []) i ≡ Some y → (slice_get xs i ≡ Some y) ⊎ ((i ≡ length xs) × (y ≡ x))
push_cases [] x y zero at = inr (refl, sym (same_Some x y at))
push_cases [] x y (suc i) at = absurd (none-some y at)
push_cases (z ∷ zs) x y zero at = inl at
push_cases (z ∷ zs) x y (suc i) at =
    elim (push_cases zs x y i at) [ inl before ↦ inl before | inr (last, is) ↦ inr (ap suc last, is) ]

-- ---- the first of a list, mapped

-- a list of which the first n elements are mapped
abbrev pub mapped_to : {A : Type 0} → ℕ → (A → A) → List A → List A
mapped_to zero f xs = xs
mapped_to (suc n) f [] = []
mapped_to (suc n) f (x ∷ xs) = f x ∷ mapped_to n f xs

pub mapped_to_all : {A : Type 0} (f : A → A) (n : ℕ) (xs : List A) → n ≡ length xs → mapped_to n f xs ≡ map f xs
mapped_to_all f zero [] is = refl
mapped_to_all f zero (x ∷ xs) is = absurd (omega arith)
mapped_to_all f (suc n) [] is = refl
mapped_to_all f (suc n) (x ∷ xs) is = ap (λ rest. f x ∷ rest) (mapped_to_all f n xs (omega arith))

-- the next one isn't yet
pub mapped_to_at : {A : Type 0} (f : A → A) (n : ℕ) (xs : List A) → slice_get (mapped_to n f xs) n ≡ slice_get xs n
mapped_to_at f zero xs = refl
mapped_to_at f (suc n) [] = refl
mapped_to_at f (suc n) (x ∷ xs) = mapped_to_at f n xs

pub mapped_to_set : {A : Type 0} (f : A → A) (n : ℕ) (xs : List A) (x : A) → slice_get xs n ≡ Some x → slice_set (mapped_to n f xs) n (f x) ≡ mapped_to (n + 1) f xs
mapped_to_set {A} f n xs x at = let next : suc n ≡ n + 1 = omega arith in by n xs at ∙ ap (λ (k : ℕ). mapped_to k f xs) next
  where
    by : (k : ℕ) (ys : List A) → slice_get ys k ≡ Some x → slice_set (mapped_to k f ys) k (f x) ≡ mapped_to (suc k) f ys
    by k [] at = absurd (none-some x at)
    by zero (y ∷ ys) at = ap (λ z. f z ∷ ys) (sym (same_Some y x at))
    by (suc k) (y ∷ ys) at = ap (λ rest. f y ∷ rest) (by k ys at)

pub mapped_to_kept : {A : Type 0} (f : A → A) (n : ℕ) (xs : List A) (x : A) → slice_get xs n ≡ Some x → f x ≡ x → mapped_to n f xs ≡ mapped_to (n + 1) f xs
mapped_to_kept {A} f n xs x at stays = let next : suc n ≡ n + 1 = omega arith in by n xs at ∙ ap (λ (k : ℕ). mapped_to k f xs) next
  where
    by : (k : ℕ) (ys : List A) → slice_get ys k ≡ Some x → mapped_to k f ys ≡ mapped_to (suc k) f ys
    by k [] at = absurd (none-some x at)
    by zero (y ∷ ys) at = let same : y ≡ x = same_Some y x at in ap (λ z. z ∷ ys) (same ∙ sym stays ∙ ap f (sym same))
    by (suc k) (y ∷ ys) at = ap (λ rest. f y ∷ rest) (by k ys at)
