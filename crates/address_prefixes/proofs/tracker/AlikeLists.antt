-- Lists in which each prefix stands as often tell the same of a number.
use Rattle.std.proofs.Common.{◌≡◌, ℕ, ◌<◌, ◌≤◌, Bool, true, ◌&&◌, ◌==◌, List, [], ◌∷◌, max, inl, inr, refl, sym, subst, arith}
use Rattle.std.specs.List.{list_any}
use Rattle.std.proofs.lemmas.List.Folds.{Any-from_list_any}
use Rattle.spec_xlate.specs.Lookup.{Prefix, begins_with, deciding, deciding_one, some_begins}
use Rattle.table_laws.proofs.MemberLaws.{Among, Among_from-Contains, list_any_from-Among}
use Rattle.address_prefixes.specs.Prefixes.{times}
use Rattle.std.proofs.lemmas.Bool.Decides.{same_from_decides}
use Rattle.address_prefixes.proofs.tracker.Times.{stands, stood}

deciding_bound : (w x n : ℕ) (ps : List Prefix) → ((p : Prefix) → Among p ps → deciding_one w x p ≤ n) → deciding w x ps ≤ n
unfolding deciding
deciding_bound w x n [] h = omega arith
deciding_bound w x n (p ∷ ps) h = both (deciding_one w x p) (deciding w x ps) (h p (inl refl)) (deciding_bound w x n ps (λ q m. h q (inr m)))
  where
    both : (a b : ℕ) → a ≤ n → b ≤ n → max a b ≤ n
    both a b h k = omega arith

deciding_has : (w x : ℕ) (p : Prefix) (ps : List Prefix) → Among p ps → deciding_one w x p ≤ deciding w x ps
unfolding deciding
deciding_has w x p [] m = absurd m
deciding_has w x p (q ∷ ps) (inl e) = subst (λ (r : Prefix). deciding_one w x p ≤ max (deciding_one w x r) (deciding w x ps)) e (left (deciding_one w x p) (deciding w x ps))
  where
    left : (a b : ℕ) → a ≤ max a b
    left a b = omega arith
deciding_has w x p (q ∷ ps) (inr m) = right (deciding_one w x p) (deciding_one w x q) (deciding w x ps) (deciding_has w x p ps m)
  where
    right : (c a b : ℕ) → c ≤ b → c ≤ max a b
    right c a b h = omega arith

-- what stands in the one list stands in the other, so it bounds as much and passes as many tests
module _ (xs ys : List Prefix) (same : (p : Prefix) → times p xs ≡ times p ys) where
  among : (p : Prefix) → Among p xs → Among p ys
  among p m = stood p ys (subst (λ (n : ℕ). 0 < n) (same p) (stands p xs m))

  deciding_within : (w x : ℕ) → deciding w x xs ≤ deciding w x ys
  deciding_within w x = deciding_bound w x (deciding w x ys) xs (λ p m. deciding_has w x p ys (among p m))

  passes : (test : Prefix → Bool) → list_any test xs ≡ true → list_any test ys ≡ true
  passes test h =
      let a = Any-from_list_any test xs h in
      list_any_from-Among test a.1 ys (among a.1 (Among_from-Contains xs a.1 (a.0, a.2, a.3))) a.4

pub deciding_same : (xs ys : List Prefix) → ((p : Prefix) → times p xs ≡ times p ys) → (w x : ℕ) → deciding w x xs ≡ deciding w x ys
deciding_same xs ys same w x =
    let a = deciding_within xs ys same w x in
    let b = deciding_within ys xs (λ p. sym (same p)) w x in
    omega (arith, a, b)

pub some_begins_same : (xs ys : List Prefix) → ((p : Prefix) → times p xs ≡ times p ys) → (w x n : ℕ) → some_begins w x n xs ≡ some_begins w x n ys
some_begins_same xs ys same w x n = same_from_decides (some_begins w x n xs) (some_begins w x n ys) (passes xs ys same test, passes ys xs (λ p. sym (same p)) test) (λ e. e, λ e. e)
  where
    test : Prefix → Bool
    test p = (p.length == n) && begins_with w x p
