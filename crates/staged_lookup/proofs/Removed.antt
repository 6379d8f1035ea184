-- Rules after one more, and after one less: how many of them pass a test, and that no two have the same number.
use Rattle.std.proofs.Common.{◌≡◌, ℕ, suc, ◌+◌, ◌<◌, ◌≤◌, Bool, true, false, ◌==◌, not, if◌then◌else◌, List, [], ◌∷◌, ◌++◌, filter, length, inl, inr, ◌⊎◌, refl, sym, ap, ◌∙◌, arith, eqb-true, eq-eqb}
use Rattle.std.specs.List.{count_by}
use Rattle.std.proofs.lemmas.Bool.{cond-true, cond-false, cases_lt}
use Rattle.std.proofs.lemmas.List.Sums.{sum_by-append}
use Rattle.spec_tables.specs.Rules.{Rule}
use Rattle.table_laws.specs.Members.{Among}
use Rattle.staged_lookup.specs.Numbered.{AreDistinct, without, HasNoNumber}
use Rattle.staged_lookup.proofs.Members.{count-cons, counted_among, counted_from}

pub count-one_more : {X : Type 0} (p : X → Bool) (xs : List X) (x : X) → count_by p (xs ++ x ∷ []) ≡ count_by p xs + (if p x then 1 else 0)
count-one_more p xs x =
    let a = sum_by-append (λ y. if p y then 1 else 0) xs (x ∷ []) in
    let b = count-cons p x [] in
    omega (arith, a, b)

-- of distinct rules each tail is distinct
pub distinct_tail : (r : Rule) (rs : List Rule) → AreDistinct (r ∷ rs) → AreDistinct rs
distinct_tail r rs distinct n =
    let a = distinct n in
    let b = count-cons (λ (s : Rule). s.number == n) r rs in
    omega (arith, a, b)

-- and none has the number of the first
pub none_like_first : (r : Rule) (rs : List Rule) → AreDistinct (r ∷ rs) → (s : Rule) → Among s rs → (s.number == r.number) ≡ false
none_like_first r rs distinct s m = at (s.number == r.number) refl
  where
    at : (t : Bool) → (s.number == r.number) ≡ t → t ≡ false
    at true e =
        let a = distinct r.number in
        let b : count_by (λ (q : Rule). q.number == r.number) (r ∷ rs) ≡ 1 + count_by (λ (q : Rule). q.number == r.number) rs =
        count-cons (λ (q : Rule). q.number == r.number) r rs ∙ ap (λ (u : Bool). (if u then 1 else 0) + count_by (λ (q : Rule). q.number == r.number) rs) (eq-eqb r.number r.number refl) in
        let c = counted_from (λ (q : Rule). q.number == r.number) s rs m e in
        absurd (omega (arith, a, b, c))
    at false e = refl

-- a rule whose number none has makes them distinct still
pub distinct_more : (rs : List Rule) (r : Rule) → AreDistinct rs → HasNoNumber r.number rs → AreDistinct (rs ++ r ∷ [])
distinct_more rs r distinct fresh n = at (r.number == n) refl (count-one_more (λ (s : Rule). s.number == n) rs r)
  where
    none : r.number ≡ n → (0 < count_by (λ (s : Rule). s.number == n) rs) ⊎ (count_by (λ (s : Rule). s.number == n) rs ≤ 0) → count_by (λ (s : Rule). s.number == n) rs ≤ 0
    none is (inl some) =
        let m = counted_among (λ (s : Rule). s.number == n) rs some in
        absurd (fresh m.0 m.1 (eqb-true m.0.number n m.2 ∙ sym is))
    none is (inr le) = le

    at : (t : Bool) → (r.number == n) ≡ t → count_by (λ (s : Rule). s.number == n) (rs ++ r ∷ []) ≡ count_by (λ (s : Rule). s.number == n) rs + (if r.number == n then 1 else 0)
        → count_by (λ (s : Rule). s.number == n) (rs ++ r ∷ []) ≤ 1
    at true e c =
        let one = ap {B = ℕ} (λ (t : Bool). if t then 1 else 0) e in
        let z = none (eqb-true r.number n e) (cases_lt 0 (count_by (λ (s : Rule). s.number == n) rs)) in
        omega (arith, c, one, z)
    at false e c =
        let zero = ap {B = ℕ} (λ (t : Bool). if t then 1 else 0) e in
        let d = distinct n in
        omega (arith, c, zero, d)

-- some of distinct rules are distinct
count-filter : (p q : Rule → Bool) (rs : List Rule) → count_by p (filter q rs) ≤ count_by p rs
count-filter p q [] = omega arith
count-filter p q (r ∷ rs) = at (q r) (count-cons p r rs) (count-cons p r (filter q rs)) (count-filter p q rs)
  where
    at : (t : Bool) → count_by p (r ∷ rs) ≡ (if p r then 1 else 0) + count_by p rs → count_by p (r ∷ filter q rs) ≡ (if p r then 1 else 0) + count_by p (filter q rs)
        → count_by p (filter q rs) ≤ count_by p rs → count_by p (if t then r ∷ filter q rs else filter q rs) ≤ count_by p (r ∷ rs)
    at true a b ih = omega (arith, a, b, ih)
    at false a b ih = omega (arith, a, ih)

pub distinct_without : (number : ℕ) (rs : List Rule) → AreDistinct rs → AreDistinct (without number rs)
distinct_without number rs distinct n =
    let d = distinct n in
    let c = count-filter (λ (r : Rule). r.number == n) (λ (r : Rule). not (r.number == number)) rs in
    omega (arith, d, c)

-- and they are fewer by at most one
pub length-without : (number : ℕ) (rs : List Rule) → AreDistinct rs → length rs ≤ length (without number rs) + 1
length-without number rs distinct = let d = distinct number in let a = all rs in omega (arith, d, a)
  where
    all : (rs : List Rule) → length rs ≤ length (without number rs) + count_by (λ (r : Rule). r.number == number) rs
    all [] = omega arith
    all (r ∷ rs) = at (r.number == number) (count-cons (λ (s : Rule). s.number == number) r rs) (all rs)
      where
        at : (t : Bool) → count_by (λ (s : Rule). s.number == number) (r ∷ rs) ≡ (if t then 1 else 0) + count_by (λ (s : Rule). s.number == number) rs
            → length rs ≤ length (without number rs) + count_by (λ (s : Rule). s.number == number) rs
            → suc (length rs) ≤ length (if not t then r ∷ without number rs else without number rs) + count_by (λ (s : Rule). s.number == number) (r ∷ rs)
        at true c ih = omega (arith, c, ih)
        at false c ih = omega (arith, c, ih)

-- rules of which none has the number all stay
pub all_stay : (number : ℕ) (rs : List Rule) → ((s : Rule) → Among s rs → (s.number == number) ≡ false) → without number rs ≡ rs
all_stay number [] other = refl
all_stay number (r ∷ rs) other =
    cond-true (not (r.number == number)) (r ∷ without number rs) (without number rs) (ap not (other r (inl refl)))
    ∙ ap (λ (qs : List Rule). r ∷ qs) (all_stay number rs (λ s m. other s (inr m)))

pub turned : (a b : ℕ) → (a == b) ≡ false → (b == a) ≡ false
turned a b h = at (b == a) refl
  where
    at : (t : Bool) → (b == a) ≡ t → t ≡ false
    at true e = sym (eq-eqb a b (sym (eqb-true b a e))) ∙ h
    at false e = refl

-- what is counted of the rules but one, and of that one, is what is counted of all
pub count-without : (p : Rule → Bool) (r : Rule) (rs : List Rule) → Among r rs → AreDistinct rs → count_by p (without r.number rs) + (if p r then 1 else 0) ≡ count_by p rs
count-without p r [] m distinct = absurd m
count-without p r (x ∷ rs) (inl e) distinct =
    let gone : without r.number (x ∷ rs) ≡ rs =
    cond-false (not (x.number == r.number)) (x ∷ without r.number rs) (without r.number rs) (ap not (eq-eqb x.number r.number (ap (λ (q : Rule). q.number) (sym e))))
    ∙ all_stay r.number rs (λ s a. ap (λ (q : Rule). s.number == q.number) e ∙ none_like_first x rs distinct s a) in
    let a = ap (count_by p) gone in
    let b = count-cons p x rs in
    let c = ap {B = ℕ} (λ (q : Rule). if p q then 1 else 0) e in
    omega (arith, a, b, c)
count-without p r (x ∷ rs) (inr m) distinct =
    let stays : without r.number (x ∷ rs) ≡ x ∷ without r.number rs =
    cond-true (not (x.number == r.number)) (x ∷ without r.number rs) (without r.number rs)
    (ap not (turned r.number x.number (none_like_first x rs distinct r m))) in
    let a = ap (count_by p) stays in
    let b = count-cons p x (without r.number rs) in
    let c = count-cons p x rs in
    let ih = count-without p r rs m (distinct_tail x rs distinct) in
    omega (arith, a, b, c, ih)
