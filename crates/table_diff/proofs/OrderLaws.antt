-- The classes of a difference in any order are one.
use Rattle.std.proofs.Common.{◌≡◌, ℕ, ◌+◌, List, [], ◌∷◌, refl, sym, ap, ◌∙◌, subst}
use Rattle.std.specs.List.{sum_by}
use Rattle.std.specs.List.Sorted.{IsPermutation}
use Rattle.std.proofs.lemmas.List.Sorted.{sum_by-IsPermutation}
use Rattle.std.proofs.lemmas.List.Sums.{sum_by-cons}
use Rattle.std.proofs.lemmas.Map.Views.{All-map-IsPermutation}
use Rattle.spec_tables.specs.Rules.{is_matched}
use Rattle.spec_xlate.specs.Translation.{Switch}
use Rattle.spec_tools.specs.Classes.{one_if, holding, matches_of, IsRight, IsTold, IsDifference}
use Rattle.table_diff.specs.declared.class.Class.{Class}
use Rattle.table_diff.specs.Cubes.{cube_view, class_view, classes_view}

module _ (key : List ℕ) where
  abbrev held_by : Class → ℕ
  held_by c = one_if (is_matched key (cube_view c.cube))

  as_sum : (classes : List Class) → holding key (matches_of (classes_view classes)) ≡ sum_by held_by classes
  as_sum [] = refl
  as_sum (c ∷ classes) = ap (λ (n : ℕ). held_by c + n) (as_sum classes) ∙ sym (sum_by-cons held_by c classes)

pub in_any_order : (o n : Switch) (ports : List ℕ) (xs ys : List Class) → IsPermutation xs ys
    → IsDifference o n ports (classes_view xs) → IsDifference o n ports (classes_view ys)
in_any_order o n ports xs ys moved d = record {
  right = All-map-IsPermutation class_view (IsRight o n) xs ys moved d.right;
  told = λ key is once. subst (IsTold o n key) (same key) (d.told key is once);
  others = λ key is none. sym (same key) ∙ d.others key is none;
}
  where
    same : (key : List ℕ) → holding key (matches_of (classes_view xs)) ≡ holding key (matches_of (classes_view ys))
    same key = as_sum key xs ∙ sym (sum_by-IsPermutation (held_by key) xs ys moved) ∙ sym (as_sum key ys)
