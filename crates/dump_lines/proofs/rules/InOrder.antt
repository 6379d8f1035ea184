-- A stable sort of places puts rules in the order of the dump.
use Rattle.std.proofs.Common.{◌≡◌, List, [], ◌∷◌, map, refl, sym, ap, ◌∙◌, inl, inr}
use Rattle.std.proofs.lemmas.Bool.{cases_Bool}
use Rattle.std.proofs.lemmas.Cmp.{then_total, on_total, back_total, nat_cmp_total}
use Rattle.std.proofs.lemmas.List.Sorted.{ranks_by}
use Rattle.std.specs.Cmp.{IsStrictWeakOrder}
use Rattle.std.specs.List.Sorted.{IsSorted, IsStable}
use Rattle.spec_base.specs.Sorting.{insert_by, sort_by}
use Rattle.spec_tables.specs.Rules.{Rule}
use Rattle.spec_run.specs.Rules as dump
use Rattle.board_laws.proofs.StableSorts.{sorted_stably}
use Rattle.dump_lines.specs.declared.rules.places.RulePlace.{RulePlace}
use Rattle.dump_lines.specs.Places.{place_of}
use Rattle.dump_lines.specs.Order.{place_cmp, stands_before, places_in_order}

-- by three numbers, one after the other
order : IsStrictWeakOrder stands_before
order =
    let table = on_total (λ (a : RulePlace). a.table) nat_cmp_total in
    let priority = on_total (λ (a : RulePlace). a.priority.0) (back_total nat_cmp_total) in
    let number = on_total (λ (a : RulePlace). a.number) nat_cmp_total in
    ranks_by (then_total table (then_total priority number)) (λ a. a)

pub places_in_order-from_sort : (xs ys : List RulePlace) → IsSorted place_cmp ys → IsStable place_cmp xs ys → ys ≡ places_in_order xs
places_in_order-from_sort xs ys sorted stable = sorted_stably stands_before order xs ys sorted stable

-- ---- the places of rules

place_put : (r : Rule) (rules : List Rule)
    → map place_of (insert_by dump.comes_before r rules) ≡ insert_by stands_before (place_of r) (map place_of rules)
unfolding insert_by
place_put r [] = refl
place_put r (s ∷ rules) = elim (cases_Bool (dump.comes_before s r)) [
  | inl after ↦ rw after (ap (λ l. place_of s ∷ l) (place_put r rules))
  | inr here ↦ rw here
]

pub places-in_order : (rules : List Rule) → places_in_order (map place_of rules) ≡ map place_of (dump.in_order rules)
unfolding sort_by
places-in_order [] = refl
places-in_order (r ∷ rules) =
    ap (insert_by stands_before (place_of r)) (places-in_order rules) ∙ sym (place_put r (dump.in_order rules))
