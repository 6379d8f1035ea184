-- Elements of lists, and tests that they pass: whether some do, and how many.
use Rattle.std.proofs.Common.{◌≡◌, ℕ, ◌+◌, ◌<◌, Bool, true, false, if◌then◌else◌, List, [], ◌∷◌, map, inl, inr, refl, sym, ap, ◌∙◌, subst, arith}
use Rattle.std.specs.List.{list_any, count_by}
use Rattle.std.proofs.lemmas.List.Folds.{Any-from_list_any}
use Rattle.std.proofs.lemmas.List.Sums.{sum_by-cons}
use Rattle.table_laws.proofs.MemberLaws.{Among, Among_from-Contains}

pub any_among : {X : Type 0} (p : X → Bool) (xs : List X) → list_any p xs ≡ true → (x : X) × Among x xs × (p x ≡ true)
any_among p xs h = let a = Any-from_list_any p xs h in (a.1, Among_from-Contains xs a.1 (a.0, a.2, a.3), a.4)

pub among_map : {X Y : Type 0} (f : X → Y) (y : Y) (xs : List X) → Among y (map f xs) → (x : X) × Among x xs × (y ≡ f x)
among_map f y [] h = absurd h
among_map f y (x ∷ xs) (inl e) = (x, inl refl, e)
among_map f y (x ∷ xs) (inr h) = let r = among_map f y xs h in (r.0, inr r.1, r.2)

pub count-cons : {X : Type 0} (p : X → Bool) (x : X) (xs : List X) → count_by p (x ∷ xs) ≡ (if p x then 1 else 0) + count_by p xs
count-cons p x xs = sum_by-cons (λ y. if p y then 1 else 0) x xs

-- a test that some elements pass is a count above 0
pub counted_among : {X : Type 0} (p : X → Bool) (xs : List X) → 0 < count_by p xs → (x : X) × Among x xs × (p x ≡ true)
counted_among p [] h = absurd (omega arith)
counted_among {X} p (x ∷ xs) h = at (p x) refl (subst (λ (n : ℕ). 0 < n) (count-cons p x xs) h) (counted_among p xs)
  where
    at : (t : Bool) → p x ≡ t → 0 < (if t then 1 else 0) + count_by p xs → (0 < count_by p xs → (y : X) × Among y xs × (p y ≡ true))
        → (y : X) × Among y (x ∷ xs) × (p y ≡ true)
    at true e h ih = (x, inl refl, e)
    at false e h ih = let more : 0 < count_by p xs = omega arith in let r = ih more in (r.0, inr r.1, r.2)

pub counted_from : {X : Type 0} (p : X → Bool) (x : X) (xs : List X) → Among x xs → p x ≡ true → 0 < count_by p xs
counted_from p x [] m e = absurd m
counted_from p x (y ∷ ys) (inl q) e =
    let c : count_by p (y ∷ ys) ≡ 1 + count_by p ys = count-cons p y ys ∙ ap (λ (t : Bool). (if t then 1 else 0) + count_by p ys) (sym (ap p q) ∙ e) in
    omega arith
counted_from p x (y ∷ ys) (inr m) e =
    let ih = counted_from p x ys m e in
    let c = count-cons p y ys in
    omega (arith, ih, c)
