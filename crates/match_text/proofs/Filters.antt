-- Folding over the elements that pass a test, one after the other.
use Rattle.std.proofs.Common.{◌≡◌, ℕ, ◌+◌, ◌<◌, ◌≤◌, Bool, true, false, List, length, get_or, drop, filter, fold, refl}
use Rattle.std.proofs.lemmas.List.{drop_more, drop_all}

pub folds : {A B : Type 0} (f : B → A → B) (q : A → Bool) (b : B) (xs : List A) (i : ℕ) (d : A) → i < length xs → q (get_or xs i d) ≡ true
    → fold f b (filter q (drop i xs)) ≡ fold f (f b (get_or xs i d)) (filter q (drop (i + 1) xs))
folds f q b xs i d lt passes = rw (drop_more xs i d lt, passes) refl

pub passes_over : {A B : Type 0} (f : B → A → B) (q : A → Bool) (b : B) (xs : List A) (i : ℕ) (d : A) → i < length xs → q (get_or xs i d) ≡ false
    → fold f b (filter q (drop i xs)) ≡ fold f b (filter q (drop (i + 1) xs))
passes_over f q b xs i d lt fails = rw (drop_more xs i d lt, fails) refl

pub folded : {A B : Type 0} (f : B → A → B) (q : A → Bool) (b : B) (xs : List A) (i : ℕ) → length xs ≤ i → fold f b (filter q (drop i xs)) ≡ b
folded f q b xs i le = rw (drop_all i xs le) refl
