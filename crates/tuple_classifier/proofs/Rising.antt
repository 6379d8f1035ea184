-- Rules whose numbers rise.
use Rattle.std.proofs.Common.{◌≡◌, ℕ, zero, suc, ◌+◌, ◌<◌, ◌≤◌, Bool, true, false, ◌==◌, if◌then◌else◌, List, [], ◌∷◌, ◌++◌, length, get_or, inl, inr, refl, ap, ◌∙◌, arith, eqb-true}
use Rattle.std.specs.List.{count_by}
use Rattle.spec_tables.specs.Rules.{Rule}
use Rattle.table_laws.proofs.MemberLaws.{Among, Among-append_left, Among-append_right}
use Rattle.rule_tables.specs.Bare.{AreRising}
use Rattle.staged_lookup.specs.Numbered.{AreDistinct}
use Rattle.staged_lookup.proofs.Members.{count-cons, counted_among}
use Rattle.tuple_classifier.proofs.Members.{place_of_among}

-- each number is less than those behind it
abbrev pub IsRising : List Rule → Type 0
IsRising [] = Unit {0}
IsRising (r ∷ rs) = ((s : Rule) → Among s rs → r.number < s.number) × IsRising rs

pub rises : (rs : List Rule) → AreRising rs → IsRising rs
rises [] pairs = tt
rises (r ∷ rs) pairs = (first, rises rs (λ i j d lt within. pairs (suc i) (suc j) d (omega arith) (omega arith)))
  where
    first : (s : Rule) → Among s rs → r.number < s.number
    first s m =
        let k = place_of_among s rs m in
        let within : k.0 < length rs = k.1 in
        let lt : r.number < (get_or rs k.0 s).number = pairs 0 (suc k.0) s (omega arith) (omega arith) in
        let is : s.number ≡ (get_or rs k.0 s).number = ap (λ (x : Rule). x.number) (k.2 s) in
        omega arith

pub rising_distinct : (rs : List Rule) → IsRising rs → AreDistinct rs
rising_distinct [] rising n = omega arith
rising_distinct (r ∷ rs) rising n = at (r.number == n) refl (rising_distinct rs rising.1 n)
  where
    at : (t : Bool) → (r.number == n) ≡ t → count_by (λ (s : Rule). s.number == n) rs ≤ 1 → count_by (λ (s : Rule). s.number == n) (r ∷ rs) ≤ 1
    at true e ih =
        let c : count_by (λ (s : Rule). s.number == n) (r ∷ rs) ≡ 1 + count_by (λ (s : Rule). s.number == n) rs =
        count-cons (λ (s : Rule). s.number == n) r rs ∙ ap (λ (u : Bool). (if u then 1 else 0) + count_by (λ (s : Rule). s.number == n) rs) e in
        none (count_by (λ (s : Rule). s.number == n) rs) c (λ some.
        let m = counted_among (λ (s : Rule). s.number == n) rs some in
        let lt = rising.0 m.0 m.1 in
        let same = eqb-true m.0.number n m.2 in
        let first = eqb-true r.number n e in
        omega (arith, lt, same, first))
      where
        none : (k : ℕ) → count_by (λ (s : Rule). s.number == n) (r ∷ rs) ≡ 1 + k → (0 < k → ⊥) → count_by (λ (s : Rule). s.number == n) (r ∷ rs) ≤ 1
        none zero c h = omega (arith, c)
        none (suc k) c h = absurd (h (omega arith))
    at false e ih =
        let c : count_by (λ (s : Rule). s.number == n) (r ∷ rs) ≡ 0 + count_by (λ (s : Rule). s.number == n) rs =
        count-cons (λ (s : Rule). s.number == n) r rs ∙ ap (λ (u : Bool). (if u then 1 else 0) + count_by (λ (s : Rule). s.number == n) rs) e in
        omega (arith, c, ih)

pub rising_front : (xs ys : List Rule) → IsRising (xs ++ ys) → IsRising xs
rising_front [] ys rising = tt
rising_front (x ∷ xs) ys rising = (λ s m. rising.0 s (Among-append_left s xs ys m), rising_front xs ys rising.1)

-- those in front of a rule have less numbers
pub rising_below : (xs ys : List Rule) (r : Rule) → IsRising (xs ++ r ∷ ys) → (s : Rule) → Among s xs → s.number < r.number
rising_below [] ys r rising s m = absurd m
rising_below (x ∷ xs) ys r rising s (inl e) =
    let lt = rising.0 r (Among-append_right r xs (r ∷ ys) (inl refl)) in
    let is = ap (λ (y : Rule). y.number) e in
    omega (arith, lt, is)
rising_below (x ∷ xs) ys r rising s (inr m) = rising_below xs ys r rising.1 s m
