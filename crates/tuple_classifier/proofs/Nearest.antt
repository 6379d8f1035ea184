-- Among sorted numbers: the greatest, and where a number stands.
use Rattle.std.proofs.Common.{◌≡◌, ℕ, ◌-◌, ◌<◌, ◌≤◌, true, ◌==◌, nat_le, List, length, get_or, ⊎_elim, sym, ap, ◌∙◌, arith, eqb-true}
use Rattle.std.specs.List.{list_any}
use Rattle.std.specs.List.Sorted.{IsNonDecreasing}
use Rattle.std.proofs.lemmas.Bool.{cases_lt, leb-true, le-leb}
use Rattle.std.proofs.lemmas.Bool.Decides.{same_from_decides}
use Rattle.table_laws.proofs.MemberLaws.{list_any_from-Among}
use Rattle.staged_lookup.proofs.Members.{any_among, counted_among}
use Rattle.tuple_classifier.specs.Numbers.{times}
use Rattle.tuple_classifier.proofs.Members.{among_at, place_of_among}

-- where the numbers that are more than a number begin
pub record IsBeyond (x : ℕ) (xs : List ℕ) (place : ℕ) : Type 0 where
  pub within : place ≤ length xs
  pub up_to : (k : ℕ) → k < place → get_or xs k 0 ≤ x
  pub beyond : (k : ℕ) → place ≤ k → k < length xs → x < get_or xs k 0

-- the last number is the greatest
pub reached : (floor : ℕ) (xs : List ℕ) (n greatest : ℕ) → IsNonDecreasing xs → n ≡ length xs → 0 < n → greatest ≡ get_or xs (n - 1) greatest → nat_le floor greatest ≡ list_any (λ v. nat_le floor v) xs
reached floor xs n greatest rising all some is = same_from_decides (nat_le floor greatest) (list_any (λ v. nat_le floor v) xs) (to, back) (λ e. e, λ e. e)
  where
    to : nat_le floor greatest ≡ true → list_any (λ v. nat_le floor v) xs ≡ true
    to h = list_any_from-Among (λ v. nat_le floor v) (get_or xs (n - 1) greatest) xs (among_at xs (n - 1) greatest (omega (arith, all, some))) (ap (nat_le floor) (sym is) ∙ h)

    back : list_any (λ v. nat_le floor v) xs ≡ true → nat_le floor greatest ≡ true
    back h =
        let m = any_among (λ v. nat_le floor v) xs h in
        let p = place_of_among m.0 xs m.1 in
        let here = p.1 in
        let high : floor ≤ get_or xs p.0 greatest = leb-true floor (get_or xs p.0 greatest) (ap (nat_le floor) (sym (p.2 greatest)) ∙ m.2) in
        let up = rising p.0 (n - 1) greatest (omega (arith, here, all)) (omega (arith, some, all)) in
        le-leb floor greatest (omega (arith, high, up, is))

-- in front of that the number stands, if it stands anywhere
pub stands_before : (x : ℕ) (xs : List ℕ) (place : ℕ) → IsBeyond x xs place → IsNonDecreasing xs → 0 < times x xs → (0 < place) × (place - 1 < length xs) × (get_or xs (place - 1) 0 ≡ x)
stands_before x xs place is rising some =
    let m = counted_among (λ n. n == x) xs some in
    let p = place_of_among m.0 xs m.1 in
    let here : get_or xs p.0 0 ≡ x = sym (p.2 0) ∙ eqb-true m.0 x m.2 in
    let in_xs = p.1 in
    let all = is.within in
    let down : p.0 < place = ⊎_elim (λ (h : p.0 < place). h) (λ (high : place ≤ p.0). let b = is.beyond p.0 high in_xs in absurd (omega (arith, b, here))) (cases_lt p.0 place) in
    let some_before : 0 < place = omega (arith, down) in
    let last : place - 1 < length xs = omega (arith, some_before, all) in
    let most = is.up_to (place - 1) (omega (arith, some_before)) in
    let least = rising p.0 (place - 1) 0 (omega (arith, down)) last in
    (some_before, last, omega (arith, least, most, here))
