-- Elements of lists, by their places.
use Rattle.std.proofs.Common.{◌≡◌, ℕ, suc, ◌<◌, Bool, true, false, ◌||◌, List, [], ◌∷◌, ◌++◌, length, get_or, map, ◌⊎◌, inl, inr, refl, sym, ap, subst, arith}
use Rattle.std.specs.List.{list_any}
use Rattle.table_laws.specs.Members.{Among}
use Rattle.pipe_model.specs.Runnable.{IsAmong}
use Rattle.spec_tables.specs.Rules.{Rule}

-- An element has a place.
pub record IsAt {X : Type 0} (xs : List X) (x : X) : Type 0 where
  pub place : ℕ
  pub within : place < length xs
  pub is : (d : X) → get_or xs place d ≡ x

pub place_of-Among : {X : Type 0} (xs : List X) (x : X) → Among x xs → IsAt xs x
place_of-Among [] x h = absurd h
place_of-Among (y ∷ ys) x (inl e) = record { place = 0; within = omega arith; is = λ d. sym e }
place_of-Among (y ∷ ys) x (inr h) =
    let r = place_of-Among ys x h in
    record { place = suc r.place; within = (let w = r.within in omega arith); is = r.is }

-- what holds at each place holds of each element
pub all_places : {X : Type 0} (P : X → Type 0) (xs : List X) → ((k : ℕ) (d : X) → k < length xs → P (get_or xs k d)) → (x : X) → Among x xs → P x
all_places P xs each x among = let a = place_of-Among xs x among in subst P (a.is x) (each a.place x a.within)

-- an element of which a test holds
pub record Passes {X : Type 0} (p : X → Bool) (xs : List X) : Type 0 where
  pub element : X
  pub among : Among element xs
  pub passes : p element ≡ true

pub some_passes : {X : Type 0} (p : X → Bool) (xs : List X) → list_any p xs ≡ true → Passes p xs
some_passes p [] h = absurd (cc h)
some_passes {X} p (x ∷ xs) h = at (p x) refl (some_passes p xs) h
  where
    at : (t : Bool) → p x ≡ t → (list_any p xs ≡ true → Passes p xs) → (t || list_any p xs) ≡ true → Passes p (x ∷ xs)
    at true e others h = record { element = x; among = inl refl; passes = e }
    at false e others h = let r = others h in record { element = r.element; among = inr r.among; passes = r.passes }

pub among_push : {X : Type 0} (x y : X) (xs : List X) → Among x (xs ++ y ∷ []) → Among x xs ⊎ (x ≡ y)
among_push x y [] (inl e) = inr e
among_push x y [] (inr h) = absurd h
among_push x y (z ∷ zs) (inl e) = inl (inl e)
among_push x y (z ∷ zs) (inr h) = at (among_push x y zs h)
  where
    at : Among x zs ⊎ (x ≡ y) → Among x (z ∷ zs) ⊎ (x ≡ y)
    at (inl h) = inl (inr h)
    at (inr e) = inr e

pub map-push : {X Y : Type 0} (f : X → Y) (xs : List X) (x : X) → map f (xs ++ x ∷ []) ≡ map f xs ++ f x ∷ []
map-push f [] x = refl
map-push f (y ∷ ys) x = ap (λ (z : List _). f y ∷ z) (map-push f ys x)

-- the two words for an element of a list of rules
pub is_among : (r : Rule) (rules : List Rule) → Among r rules → IsAmong r rules
is_among r [] h = absurd h
is_among r (x ∷ rules) (inl e) = inl (sym e)
is_among r (x ∷ rules) (inr h) = inr (is_among r rules h)

pub among_is : (r : Rule) (rules : List Rule) → IsAmong r rules → Among r rules
among_is r [] h = absurd h
among_is r (x ∷ rules) (inl e) = inl (sym e)
among_is r (x ∷ rules) (inr h) = inr (among_is r rules h)

-- what holds at each place of a list holds of each element that is made of one
pub all_mapped : {X Y : Type 0} (f : X → Y) (P : Y → Type 0) (xs : List X) → ((k : ℕ) (d : X) → k < length xs → P (f (get_or xs k d)))
    → (y : Y) → Among y (map f xs) → P y
all_mapped f P [] each y h = absurd h
all_mapped f P (x ∷ xs) each y (inl e) = subst P (sym e) (each 0 x (omega arith))
all_mapped {X} f P (x ∷ xs) each y (inr h) = all_mapped f P xs rest y h
  where
    rest : (k : ℕ) (d : X) → k < length xs → P (f (get_or xs k d))
    rest k d l = each (suc k) d (let i = l in omega arith)
