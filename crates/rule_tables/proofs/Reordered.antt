-- Lists of rules of which no two have the same number, and that have the same rules: one is the other in another order.
use Rattle.std.proofs.Common.{◌≡◌, ℕ, zero, suc, ◌<◌, List, [], ◌∷◌, ◌++◌, Option, Some, None, refl, sym, ap, ◌∙◌, subst, arith, ◌⊎◌, inl, inr}
use Rattle.std.specs.Prelude.{slice_get, IsPermutation}
use Rattle.std.specs.List.{filter_map, cons_option}
use Rattle.std.proofs.lemmas.List.Sorted.{IsPermutation-refl, IsPermutation-sym, IsPermutation-trans, IsPermutation-cons, IsPermutation-middle}
use Rattle.std.proofs.lemmas.Option.{none-some, same_Some}
use Rattle.spec_tables.specs.Rules.{Rule}

-- it is one of the rules
abbrev pub Among : Rule → List Rule → Type 0
Among r [] = ⊥
Among r (s ∷ rest) = (r ≡ s) ⊎ Among r rest

-- no two have the same number
abbrev pub AreUnlike : List Rule → Type 0
AreUnlike [] = Unit {0}
AreUnlike (r ∷ rest) = ((s : Rule) → Among s rest → s.number ≡ r.number → ⊥) × AreUnlike rest

-- ---- around one rule

-- where it stands
cut : (r : Rule) (rs : List Rule) → Among r rs → (front : List Rule) × (back : List Rule) × (rs ≡ front ++ r ∷ back)
cut r [] among = absurd among
cut r (s ∷ rest) (inl is) = ([], rest, ap (λ (x : Rule). x ∷ rest) (sym is))
cut r (s ∷ rest) (inr among) = let parts = cut r rest among in (s ∷ parts.0, parts.1, ap (λ (xs : List Rule). s ∷ xs) parts.2)

among_others : (x r : Rule) (front back : List Rule) → Among x (front ++ r ∷ back) → (x ≡ r) ⊎ Among x (front ++ back)
among_others x r [] back (inl is) = inl is
among_others x r [] back (inr among) = inr among
among_others x r (s ∷ front) back (inl is) = inr (inl is)
among_others x r (s ∷ front) back (inr among) =
    elim (among_others x r front back among) [ inl is ↦ inl is | inr others ↦ inr (inr others) ]

among_all : (x r : Rule) (front back : List Rule) → Among x (front ++ back) → Among x (front ++ r ∷ back)
among_all x r [] back among = inr among
among_all x r (s ∷ front) back (inl is) = inl is
among_all x r (s ∷ front) back (inr among) = inr (among_all x r front back among)

among_it : (r : Rule) (front back : List Rule) → Among r (front ++ r ∷ back)
among_it r [] back = inl refl
among_it r (s ∷ front) back = inr (among_it r front back)

others_unlike : (r : Rule) (front back : List Rule) → AreUnlike (front ++ r ∷ back) → AreUnlike (front ++ back)
others_unlike r [] back (_, rest) = rest
others_unlike r (s ∷ front) back (apart, rest) = (λ x among. apart x (among_all x r front back among), others_unlike r front back rest)

unlike_it : (r : Rule) (front back : List Rule) → AreUnlike (front ++ r ∷ back) → (x : Rule) → Among x (front ++ back) → x.number ≡ r.number → ⊥
unlike_it r [] back (apart, _) x among same = apart x among same
unlike_it r (s ∷ front) back (apart, _) x (inl is) same = apart r (among_it r front back) (sym same ∙ ap (λ (y : Rule). y.number) is)
unlike_it r (s ∷ front) back (_, rest) x (inr among) same = unlike_it r front back rest x among same

-- ---- the same rules

pub reordered : (rs ss : List Rule) → AreUnlike rs → AreUnlike ss → ((x : Rule) → Among x rs → Among x ss) → ((x : Rule) → Among x ss → Among x rs) → IsPermutation rs ss
reordered [] [] _ _ there back = IsPermutation-refl []
reordered [] (s ∷ ss) _ _ there back = absurd (back s (inl refl))
reordered (r ∷ rs) ss (apart, rest) unlike there back =
    let parts = cut r ss (there r (inl refl)) in
    let front : List Rule = parts.0 in
    let behind : List Rule = parts.1 in
    let is : ss ≡ front ++ r ∷ behind = parts.2 in
    let both : AreUnlike (front ++ r ∷ behind) = subst (λ (xs : List Rule). AreUnlike xs) is unlike in
    subst (λ (xs : List Rule). IsPermutation (r ∷ rs) xs) (sym is)
    (IsPermutation-trans (r ∷ rs) (r ∷ (front ++ behind)) (front ++ r ∷ behind)
    (IsPermutation-cons r rs (front ++ behind) (reordered rs (front ++ behind) rest (others_unlike r front behind both)
    (λ x among.
    elim (among_others x r front behind (subst (λ (xs : List Rule). Among x xs) is (there x (inr among)))) [
      | inl same ↦ absurd (apart x among (ap (λ (y : Rule). y.number) same))
      | inr others ↦ others
    ])
    (λ x among.
    elim (back x (subst (λ (xs : List Rule). Among x xs) (sym is) (among_all x r front behind among))) [
      | inl same ↦ absurd (unlike_it r front behind both x among (ap (λ (y : Rule). y.number) same))
      | inr others ↦ others
    ])))
    (IsPermutation-sym (front ++ r ∷ behind) (r ∷ (front ++ behind)) (IsPermutation-middle front r behind)))

-- ---- what a function gives of a list

module _ {A : Type 0} (f : A → Option Rule) where
  by_here : (x : A) (xs : List A) (r : Rule) → f x ≡ Some r → filter_map f (x ∷ xs) ≡ r ∷ filter_map f xs
  by_here x xs r is = ap (λ (o : Option Rule). cons_option o (filter_map f xs)) is

  by_none : (x : A) (xs : List A) → f x ≡ None → filter_map f (x ∷ xs) ≡ filter_map f xs
  by_none x xs is = ap (λ (o : Option Rule). cons_option o (filter_map f xs)) is

  pub given_from : (xs : List A) (r : Rule) → Among r (filter_map f xs) → (i : ℕ) × (x : A) × (slice_get xs i ≡ Some x) × (f x ≡ Some r)
  given_from [] r among = absurd among
  given_from (x ∷ xs) r among = by (given_from xs r) (f x) refl
    where
      by : (Among r (filter_map f xs) → (i : ℕ) × (y : A) × (slice_get xs i ≡ Some y) × (f y ≡ Some r))
          → (o : Option Rule) → f x ≡ o → (i : ℕ) × (y : A) × (slice_get (x ∷ xs) i ≡ Some y) × (f y ≡ Some r)
      by rest None is =
          let from = rest (subst (λ (rs : List Rule). Among r rs) (by_none x xs is) among) in
          (suc from.0, from.1, from.2, from.3)
      by rest (Some s) is =
          elim (subst (λ (rs : List Rule). Among r rs) (by_here x xs s is) among) [
            | inl same ↦ (0, x, refl, is ∙ ap (λ (t : Rule). Some t) (sym same))
            | inr later ↦ let from = rest later in (suc from.0, from.1, from.2, from.3)
          ]

  pub given_to : (xs : List A) (i : ℕ) (x : A) (r : Rule) → slice_get xs i ≡ Some x → f x ≡ Some r → Among r (filter_map f xs)
  given_to [] i x r at is = absurd (none-some x at)
  given_to (y ∷ ys) zero x r at is =
      subst (λ (rs : List Rule). Among r rs) (sym (by_here y ys r (ap f (same_Some y x at) ∙ is))) (inl refl)
  given_to (y ∷ ys) (suc i) x r at is = by (given_to ys i x r at is) (f y) refl
    where
      by : Among r (filter_map f ys) → (o : Option Rule) → f y ≡ o → Among r (filter_map f (y ∷ ys))
      by rest None none = subst (λ (rs : List Rule). Among r rs) (sym (by_none y ys none)) rest
      by rest (Some s) gives = subst (λ (rs : List Rule). Among r rs) (sym (by_here y ys s gives)) (inr rest)

  pub given_unlike : (xs : List A)
      → ((i j : ℕ) (x y : A) (r s : Rule) → i < j → slice_get xs i ≡ Some x → slice_get xs j ≡ Some y → f x ≡ Some r → f y ≡ Some s → s.number ≡ r.number → ⊥)
      → AreUnlike (filter_map f xs)
  given_unlike [] apart = tt
  given_unlike (x ∷ xs) apart =
      by (given_unlike xs (λ i j y z r s lt at there. apart (suc i) (suc j) y z r s (omega arith) at there)) (f x) refl
    where
      by : AreUnlike (filter_map f xs) → (o : Option Rule) → f x ≡ o → AreUnlike (filter_map f (x ∷ xs))
      by rest None is = subst (λ (rs : List Rule). AreUnlike rs) (sym (by_none x xs is)) rest
      by rest (Some r) is =
          subst (λ (rs : List Rule). AreUnlike rs) (sym (by_here x xs r is))
          (λ s among same. let from = given_from xs s among in apart 0 (suc from.0) x from.1 r s (omega arith) refl from.2 is from.3 same, rest)
