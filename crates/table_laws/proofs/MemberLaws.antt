-- Elements of lists.
use Rattle.std.proofs.Common.{◌≡◌, ℕ, zero, suc, ◌<◌, Bool, true, false, ◌||◌, if◌then◌else◌, List, [], ◌∷◌, ◌++◌, length, get_or, Contains, All, map, filter, ◌⊎◌, inl, inr, refl, sym, ap, ◌∙◌, subst, arith}
use Rattle.std.specs.List.{flat_map, list_any}
use Rattle.spec_base.specs.Sorting.{insert_by, sort_by}
pub use Rattle.table_laws.specs.Members.{Among}

pub Among_from-Contains : {X : Type 0} (xs : List X) (x : X) → Contains xs x → Among x xs
Among_from-Contains {X} xs x h = at xs h.0 h.1 h.2
  where
    at : (ys : List X) (k : ℕ) → k < length ys → get_or ys k x ≡ x → Among x ys
    at [] k l e = absurd (omega arith)
    at (y ∷ ys) zero l e = inl (sym e)
    at (y ∷ ys) (suc k) l e = inr (at ys k (omega arith) e)

pub Contains_from-Among : {X : Type 0} (xs : List X) (x : X) → Among x xs → Contains xs x
Contains_from-Among [] x h = absurd h
Contains_from-Among (y ∷ ys) x (inl e) = (0, omega arith, sym e)
Contains_from-Among (y ∷ ys) x (inr h) = let r = Contains_from-Among ys x h in (suc r.0, (let l = r.1 in omega arith), r.2)

pub All_from-Among : {X : Type 0} (P : X → Type 0) (xs : List X) → ((x : X) → Among x xs → P x) → All P xs
All_from-Among P [] h k d l = absurd (omega arith)
All_from-Among P (x ∷ xs) h zero d l = h x (inl refl)
All_from-Among P (x ∷ xs) h (suc k) d l = All_from-Among P xs (λ y m. h y (inr m)) k d (omega arith)

pub All-Among : {X : Type 0} (P : X → Type 0) (xs : List X) → All P xs → (x : X) → Among x xs → P x
All-Among P [] h x m = absurd m
All-Among P (y ∷ ys) h x (inl e) = subst P (sym e) (h 0 y (omega arith))
All-Among {X} P (y ∷ ys) h x (inr m) = All-Among P ys rest x m
  where
    rest : All P ys
    rest k d l = h (suc k) d (let i = l in omega arith)

pub Among-append_left : {X : Type 0} (x : X) (xs ys : List X) → Among x xs → Among x (xs ++ ys)
Among-append_left x [] ys h = absurd h
Among-append_left x (z ∷ zs) ys (inl e) = inl e
Among-append_left x (z ∷ zs) ys (inr h) = inr (Among-append_left x zs ys h)

pub Among-append_right : {X : Type 0} (x : X) (xs ys : List X) → Among x ys → Among x (xs ++ ys)
Among-append_right x [] ys h = h
Among-append_right x (z ∷ zs) ys h = inr (Among-append_right x zs ys h)

pub Among-append : {X : Type 0} (x : X) (xs ys : List X) → Among x (xs ++ ys) → Among x xs ⊎ Among x ys
Among-append x [] ys h = inr h
Among-append x (z ∷ zs) ys (inl e) = inl (inl e)
Among-append x (z ∷ zs) ys (inr h) = at (Among-append x zs ys h)
  where
    at : Among x zs ⊎ Among x ys → Among x (z ∷ zs) ⊎ Among x ys
    at (inl h) = inl (inr h)
    at (inr h) = inr h

pub Among-filter : {X : Type 0} (p : X → Bool) (x : X) (xs : List X) → Among x (filter p xs) → Among x xs × (p x ≡ true)
Among-filter p x [] h = absurd h
Among-filter p x (y ∷ ys) h = at (p y) refl h (Among-filter p x ys)
  where
    at : (t : Bool) → p y ≡ t → Among x (if t then y ∷ filter p ys else filter p ys)
        → (Among x (filter p ys) → Among x ys × (p x ≡ true)) → Among x (y ∷ ys) × (p x ≡ true)
    at true e (inl q) ih = (inl q, ap p q ∙ e)
    at true e (inr h) ih = let r = ih h in (inr r.0, r.1)
    at false e h ih = let r = ih h in (inr r.0, r.1)

pub Among-insert_by : {X : Type 0} (before : X → X → Bool) (x a : X) (bs : List X) → Among x (insert_by before a bs) → (x ≡ a) ⊎ Among x bs
unfolding insert_by
Among-insert_by before x a [] h = h
Among-insert_by before x a (b ∷ bs) h = at (before b a) h (Among-insert_by before x a bs)
  where
    later : (x ≡ a) ⊎ Among x bs → (x ≡ a) ⊎ Among x (b ∷ bs)
    later (inl e) = inl e
    later (inr m) = inr (inr m)

    at : (t : Bool) → Among x (if t then b ∷ insert_by before a bs else a ∷ b ∷ bs)
        → (Among x (insert_by before a bs) → (x ≡ a) ⊎ Among x bs) → (x ≡ a) ⊎ Among x (b ∷ bs)
    at true (inl e) ih = inr (inl e)
    at true (inr m) ih = later (ih m)
    at false h ih = h

pub Among-sort_by : {X : Type 0} (before : X → X → Bool) (x : X) (xs : List X) → Among x (sort_by before xs) → Among x xs
unfolding sort_by
Among-sort_by before x [] h = h
Among-sort_by before x (a ∷ rest) h = at (Among-insert_by before x a (sort_by before rest) h) (Among-sort_by before x rest)
  where
    at : (x ≡ a) ⊎ Among x (sort_by before rest) → (Among x (sort_by before rest) → Among x rest) → Among x (a ∷ rest)
    at (inl e) ih = inl e
    at (inr m) ih = inr (ih m)

pub Among_in-filter : {X : Type 0} (p : X → Bool) (x : X) (xs : List X) → Among x xs → p x ≡ true → Among x (filter p xs)
Among_in-filter p x [] h e = absurd h
Among_in-filter p x (y ∷ ys) h e = at (p y) refl h (λ m. Among_in-filter p x ys m e)
  where
    at : (t : Bool) → p y ≡ t → Among x (y ∷ ys) → (Among x ys → Among x (filter p ys))
        → Among x (if t then y ∷ filter p ys else filter p ys)
    at true q (inl g) ih = inl g
    at true q (inr m) ih = inr (ih m)
    at false q (inl g) ih = let f : true ≡ false = sym e ∙ ap p g ∙ q in absurd (cc)
    at false q (inr m) ih = ih m

pub Among-flat_map : {X Y : Type 0} (f : X → List Y) (y : Y) (xs : List X) → Among y (flat_map f xs) → (x : X) × Among x xs × Among y (f x)
Among-flat_map f y [] h = absurd h
Among-flat_map {X} f y (x ∷ xs) h = at (Among-append y (f x) (flat_map f xs) h) (Among-flat_map f y xs)
  where
    at : Among y (f x) ⊎ Among y (flat_map f xs) → (Among y (flat_map f xs) → (z : X) × Among z xs × Among y (f z))
        → (z : X) × Among z (x ∷ xs) × Among y (f z)
    at (inl h) ih = (x, inl refl, h)
    at (inr h) ih = let r = ih h in (r.0, inr r.1, r.2)

pub Among_in-flat_map : {X Y : Type 0} (f : X → List Y) (y : Y) (x : X) (xs : List X) → Among x xs → Among y (f x) → Among y (flat_map f xs)
Among_in-flat_map f y x [] m h = absurd m
Among_in-flat_map {X} f y x (z ∷ zs) (inl e) h = Among-append_left y (f z) (flat_map f zs) (subst (λ (w : X). Among y (f w)) e h)
Among_in-flat_map f y x (z ∷ zs) (inr m) h = Among-append_right y (f z) (flat_map f zs) (Among_in-flat_map f y x zs m h)

pub Among_in-map : {X Y : Type 0} (f : X → Y) (x : X) (xs : List X) → Among x xs → Among (f x) (map f xs)
Among_in-map f x [] m = absurd m
Among_in-map f x (z ∷ zs) (inl e) = inl (ap f e)
Among_in-map f x (z ∷ zs) (inr m) = inr (Among_in-map f x zs m)

-- a test that one of the elements passes
pub list_any-Among : {X : Type 0} (p : X → Bool) (x : X) (xs : List X) → Among x xs → list_any p xs ≡ false → p x ≡ false
list_any-Among p x [] m h = absurd m
list_any-Among p x (y ∷ ys) m h = at (p y) refl m h (list_any-Among p x ys)
  where
    at : (t : Bool) → p y ≡ t → Among x (y ∷ ys) → (t || list_any p ys) ≡ false
        → (Among x ys → list_any p ys ≡ false → p x ≡ false) → p x ≡ false
    at true e m h ih = absurd (cc)
    at false e (inl q) h ih = ap p q ∙ e
    at false e (inr m) h ih = ih m h

pub list_any_from-Among : {X : Type 0} (p : X → Bool) (x : X) (xs : List X) → Among x xs → p x ≡ true → list_any p xs ≡ true
list_any_from-Among p x [] m e = absurd m
list_any_from-Among p x (y ∷ ys) (inl q) e = ap (λ (t : Bool). t || list_any p ys) (sym (ap p q) ∙ e)
list_any_from-Among p x (y ∷ ys) (inr m) e = either (p y) (list_any_from-Among p x ys m e)
  where
    either : (t : Bool) → list_any p ys ≡ true → (t || list_any p ys) ≡ true
    either true h = refl
    either false h = h
