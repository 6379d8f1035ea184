-- Tests of lists that are seen through a view.
use Rattle.std.proofs.Common.{◌≡◌, Bool, List, [], ◌∷◌, map, refl, ap}
use Rattle.std.specs.Prelude.{◌||◌}
use Rattle.std.specs.List.{list_any, list_all}
use Rattle.std.proofs.lemmas.List.Folds.{list_all-map}

pub any_in_view : {X : Type 0} (p : X → Bool) → {Y : Type 0} (view : Y → X) (ys : List Y) → list_any p (map view ys) ≡ list_any (λ y. p (view y)) ys
any_in_view p view [] = refl
any_in_view p view (y ∷ ys) = ap (λ b. p (view y) || b) (any_in_view p view ys)

pub all_in_view : {X : Type 0} (p : X → Bool) → {Y : Type 0} (view : Y → X) (ys : List Y) → list_all p (map view ys) ≡ list_all (λ y. p (view y)) ys
all_in_view p view ys = list_all-map p view ys
