-- Lists of numbers are the same exactly where they are equal.
use Rattle.std.proofs.Common.{◌≡◌, ℕ, List, [], ◌∷◌, true, ◌==◌, Decides, refl, sym, ap, ap₂, subst}
use Rattle.std.specs.Cmp.{IsPartialEquivalence, IsEquivalence, partial_equiv_from_equiv}
use Rattle.std.proofs.lemmas.Bool.{and_parts, and_from, eqb-true, eq-eqb, false≢true}
use Rattle.std.proofs.lemmas.Bool.Decides.{same_from_decides}
use Rattle.spec_keys.specs.Keys.{same}

pub equal_from_same : (xs ys : List ℕ) → same xs ys ≡ true → xs ≡ ys
unfolding same
equal_from_same [] [] all_same = refl
equal_from_same [] (y ∷ ys) all_same = absurd (false≢true all_same)
equal_from_same (x ∷ xs) [] all_same = absurd (false≢true all_same)
equal_from_same (x ∷ xs) (y ∷ ys) all_same =
    let parts = and_parts (x == y) (same xs ys) all_same in
    ap₂ (λ (z : ℕ) (zs : List ℕ). z ∷ zs) (eqb-true x y parts.0) (equal_from_same xs ys parts.1)

-- a list is the same as itself
same_itself : (xs : List ℕ) → same xs xs ≡ true
unfolding same
same_itself [] = refl
same_itself (x ∷ xs) = and_from (x == x) (same xs xs) (eq-eqb x x refl) (same_itself xs)

pub same_from_equal : (xs ys : List ℕ) → xs ≡ ys → same xs ys ≡ true
same_from_equal xs ys equal = subst (λ zs. same xs zs ≡ true) equal (same_itself xs)

-- the test, and what it says
pub Decides-same : (xs ys : List ℕ) → Decides (same xs ys) (xs ≡ ys)
Decides-same xs ys = (equal_from_same xs ys, same_from_equal xs ys)

same_symmetric : (xs ys : List ℕ) → same xs ys ≡ same ys xs
same_symmetric xs ys =
    same_from_decides (same xs ys) (same ys xs) (Decides-same xs ys)
    (λ (alike : same ys xs ≡ true). sym (equal_from_same ys xs alike), λ (equal : xs ≡ ys). same_from_equal ys xs (sym equal))

-- so two values of a type are equal where their lists are
pub same_equivalence : {K : Type 0} (list : K → List ℕ) → IsEquivalence (λ (a b : K). same (list a) (list b))
same_equivalence list = record {
  refl = λ a. same_itself (list a);
  symm = λ a b. same_symmetric (list a) (list b);
  congr = λ a b c equal. ap (λ (xs : List ℕ). same xs (list c)) (equal_from_same (list a) (list b) equal);
}

pub same_partial_equivalence : {K : Type 0} (list : K → List ℕ) → IsPartialEquivalence (λ (a b : K). same (list a) (list b))
same_partial_equivalence list = partial_equiv_from_equiv (same_equivalence list)
