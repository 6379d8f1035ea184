-- Searches and filters over lists that were mapped.
use Rattle.std.proofs.Common.{◌≡◌, Bool, true, false, cond, List, [], ◌∷◌, map, Option, Some, None, inl, inr, refl, sym, ap, ◌∙◌}
use Rattle.std.specs.Prelude.{filter, is_some}
use Rattle.std.specs.List.{find}
use Rattle.std.specs.Option.{option_copied, option_map}
use Rattle.std.specs.Borrow.{Bor}
use Rattle.std.proofs.lemmas.Option.{same_Some, none-some}
use Rattle.table_laws.proofs.MemberLaws.{Among}

pub find-map : {X Y : Type 0} (f : X → Y) (p : Y → Bool) (xs : List X) → find p (map f xs) ≡ option_map f (find (λ x. p (f x)) xs)
find-map f p [] = refl
find-map {X} f p (x ∷ xs) = at (p (f x)) (find-map f p xs)
  where
    at : (t : Bool) → find p (map f xs) ≡ option_map f (find (λ (y : X). p (f y)) xs)
        → cond t (Some (f x)) (find p (map f xs)) ≡ option_map f (cond t (Some x) (find (λ (y : X). p (f y)) xs))
    at true ih = refl
    at false ih = ih

pub filter-map : {X Y : Type 0} (f : X → Y) (p : Y → Bool) (xs : List X) → filter p (map f xs) ≡ map f (filter (λ x. p (f x)) xs)
filter-map f p [] = refl
filter-map {X} f p (x ∷ xs) = at (p (f x)) (filter-map f p xs)
  where
    at : (t : Bool) → filter p (map f xs) ≡ map f (filter (λ (y : X). p (f y)) xs)
        → cond t (f x ∷ filter p (map f xs)) (filter p (map f xs)) ≡ map f (cond t (x ∷ filter (λ (y : X). p (f y)) xs) (filter (λ (y : X). p (f y)) xs))
    at true ih = ap (λ ys. f x ∷ ys) ih
    at false ih = ih

pub filter_same : {X : Type 0} (p q : X → Bool) (xs : List X) → ((x : X) → Among x xs → p x ≡ q x) → filter p xs ≡ filter q xs
filter_same p q [] same = refl
filter_same {X} p q (x ∷ xs) same =
    ap (λ t. cond t (x ∷ filter p xs) (filter p xs)) (same x (inl refl))
    ∙ ap (λ (ys : List X). cond (q x) (x ∷ ys) ys) (filter_same p q xs (λ y m. same y (inr m)))

-- what is found is among them, and passes
pub found : {X : Type 0} (p : X → Bool) (xs : List X) (x : X) → find p xs ≡ Some x → Among x xs × (p x ≡ true)
found p [] x is = absurd (none-some x is)
found p (y ∷ ys) x is = at (p y) refl is (found p ys x)
  where
    at : (t : Bool) → p y ≡ t → cond t (Some y) (find p ys) ≡ Some x → (find p ys ≡ Some x → Among x ys × (p x ≡ true)) → Among x (y ∷ ys) × (p x ≡ true)
    at true passes is ih = let same = same_Some y x is in (inl (sym same), ap p (sym same) ∙ passes)
    at false fails is ih = let there = ih is in (inr there.0, there.1)

-- what was filtered was among them, and passes
pub among-filter : {X : Type 0} (p : X → Bool) (xs : List X) (x : X) → Among x (filter p xs) → Among x xs × (p x ≡ true)
among-filter p [] x m = absurd m
among-filter {X} p (y ∷ ys) x m = at (p y) refl m (among-filter p ys x)
  where
    at : (t : Bool) → p y ≡ t → Among x (cond t (y ∷ filter p ys) (filter p ys)) → (Among x (filter p ys) → Among x ys × (p x ≡ true)) → Among x (y ∷ ys) × (p x ≡ true)
    at true passes (inl first) ih = (inl first, ap p first ∙ passes)
    at true passes (inr rest) ih = let there = ih rest in (inr there.0, there.1)
    at false fails m ih = let there = ih m in (inr there.0, there.1)

pub among-map : {X Y : Type 0} (f : X → Y) (xs : List X) (y : Y) → Among y (map f xs) → (x : X) × Among x xs × (y ≡ f x)
among-map f [] y m = absurd m
among-map f (x ∷ xs) y (inl first) = (x, inl refl, first)
among-map f (x ∷ xs) y (inr rest) = let there = among-map f xs y rest in (there.0, inr there.1, there.2)

pub is_some-option_copied : {X : Type 0} (o : Option (Bor X)) → is_some (option_copied o) ≡ is_some o
is_some-option_copied None = refl
is_some-option_copied (Some x) = refl
