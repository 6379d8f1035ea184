-- How often prefixes stand in lists.
use Rattle.std.proofs.Common.{◌≡◌, ℕ, suc, ◌+◌, ◌<◌, Bool, true, false, ◌&&◌, ◌==◌, List, [], ◌∷◌, ◌++◌, length, replicate, if◌then◌else◌, inl, inr, refl, sym, ap, ap₂, ◌∙◌, arith, eqb-true, eq-eqb, length-append}
use Rattle.std.proofs.lemmas.List.Sums.{sum_by-cons, sum_by-append}
use Rattle.spec_xlate.specs.Lookup.{Prefix}
use Rattle.table_laws.specs.Members.{Among}
use Rattle.address_prefixes.specs.Prefixes.{is_same, times, HasOneMore}

pub same_is : (p q : Prefix) → is_same p q ≡ true → p ≡ q
same_is p q h = at (p.value == q.value) (p.length == q.length) refl refl h
  where
    made : ℕ → ℕ → Prefix
    made v l = record { value = v; length = l }

    at : (s t : Bool) → (p.value == q.value) ≡ s → (p.length == q.length) ≡ t → (s && t) ≡ true → p ≡ q
    at true true e f h = ap₂ made (eqb-true p.value q.value e) (eqb-true p.length q.length f)
    at true false e f h = let g : false ≡ true = h in absurd (cc)
    at false t e f h = let g : false ≡ true = h in absurd (cc)

pub is_same_self : (p : Prefix) → is_same p p ≡ true
is_same_self p = at (p.value == p.value) (p.length == p.length) (eq-eqb p.value p.value refl) (eq-eqb p.length p.length refl)
  where
    at : (s t : Bool) → s ≡ true → t ≡ true → (s && t) ≡ true
    at true true e f = refl
    at true false e f = f
    at false t e f = e

pub times-cons : (q p : Prefix) (ps : List Prefix) → times q (p ∷ ps) ≡ (if is_same q p then 1 else 0) + times q ps
unfolding times
times-cons q p ps = sum_by-cons (λ r. if is_same q r then 1 else 0) p ps

pub times-append : (q : Prefix) (ps qs : List Prefix) → times q (ps ++ qs) ≡ times q ps + times q qs
unfolding times
times-append q ps qs = sum_by-append (λ r. if is_same q r then 1 else 0) ps qs

pub times-none : (q : Prefix) → times q [] ≡ 0
unfolding times
times-none q = refl

pub times_one : (q p : Prefix) → times q (p ∷ []) ≡ (if is_same q p then 1 else 0)
times_one q p = let c = times-cons q p [] in let n = times-none q in omega (arith, c, n)

-- ---- what stands in a list is among it

pub stands : (q : Prefix) (ps : List Prefix) → Among q ps → 0 < times q ps
stands q [] m = absurd m
stands q (p ∷ ps) (inl e) =
    let c = times-cons q p ps in
    let s : is_same q p ≡ true = ap (is_same q) (sym e) ∙ is_same_self q in
    let o = ap {B = ℕ} (λ (t : Bool). if t then 1 else 0) s in
    omega (arith, c, o)
stands q (p ∷ ps) (inr m) = let c = times-cons q p ps in let ih = stands q ps m in omega (arith, c, ih)

pub stood : (q : Prefix) (ps : List Prefix) → 0 < times q ps → Among q ps
stood q [] some = let n = times-none q in absurd (omega (arith, n, some))
stood q (p ∷ ps) some = at (is_same q p) refl (times-cons q p ps) (stood q ps)
  where
    at : (t : Bool) → is_same q p ≡ t → times q (p ∷ ps) ≡ (if t then 1 else 0) + times q ps → (0 < times q ps → Among q ps) → Among q (p ∷ ps)
    at true e c ih = inl (same_is q p e)
    at false e c ih = inr (ih (omega (arith, c, some)))

-- ---- a prefix more

pub more_among : (p : Prefix) (old new : List Prefix) → HasOneMore p old new → (q : Prefix) → Among q new → (is_same q p ≡ false → Among q old)
more_among p old new more q m other =
    let a = more q in
    let s = stands q new m in
    let o = ap {B = ℕ} (λ (t : Bool). if t then 1 else 0) other in
    stood q old (omega (arith, a, s, o))

pub less_among : (p : Prefix) (old new : List Prefix) → HasOneMore p new old → (q : Prefix) → Among q new → Among q old
less_among p old new more q m =
    let a = more q in
    let s = stands q new m in
    stood q old (omega (arith, a, s))

pub more_own : (p : Prefix) (k : ℕ) (rest : List Prefix) → HasOneMore p (replicate k p ++ rest) (replicate (suc k) p ++ rest)
more_own p k rest q =
    let c = times-cons q p (replicate k p ++ rest) in
    omega (arith, c)

pub more_left : (p : Prefix) (before old new after : List Prefix) → HasOneMore p old new → HasOneMore p (before ++ (old ++ after)) (before ++ (new ++ after))
more_left p before old new after more q =
    let a = times-append q before (old ++ after) in
    let b = times-append q before (new ++ after) in
    let c = times-append q old after in
    let d = times-append q new after in
    let e = more q in
    omega (arith, a, b, c, d, e)

pub more_right : (p : Prefix) (before middle old new : List Prefix) → HasOneMore p old new → HasOneMore p (before ++ (middle ++ old)) (before ++ (middle ++ new))
more_right p before middle old new more q =
    let a = times-append q before (middle ++ old) in
    let b = times-append q before (middle ++ new) in
    let c = times-append q middle old in
    let d = times-append q middle new in
    let e = more q in
    omega (arith, a, b, c, d, e)

pub more_after : (p : Prefix) (old : List Prefix) → HasOneMore p old (old ++ p ∷ [])
more_after p old q =
    let a = times-append q old (p ∷ []) in
    let b = times_one q p in
    omega (arith, a, b)

-- ---- lists in which each prefix stands as often are as long

-- a list without one of its elements
record IsSplitAt (q : Prefix) (ps : List Prefix) : Type 0 where
  before : List Prefix
  after : List Prefix
  is : ps ≡ before ++ q ∷ after

split_at : (q : Prefix) (ps : List Prefix) → Among q ps → IsSplitAt q ps
split_at q [] m = absurd m
split_at q (p ∷ ps) (inl e) = record { before = []; after = ps; is = ap (λ (r : Prefix). r ∷ ps) (sym e) }
split_at q (p ∷ ps) (inr m) = let s = split_at q ps m in record { before = p ∷ s.before; after = s.after; is = ap (λ (rs : List Prefix). p ∷ rs) s.is }

pub as_long : (xs ys : List Prefix) → ((q : Prefix) → times q xs ≡ times q ys) → length xs ≡ length ys
as_long [] [] same = refl
as_long [] (y ∷ ys) same =
    let s = stands y (y ∷ ys) (inl refl) in
    let n = times-none y in
    let e = same y in
    absurd (omega (arith, s, n, e))
as_long (x ∷ xs) ys same =
    let s = stands x (x ∷ xs) (inl refl) in
    let e = same x in
    let at = split_at x ys (stood x ys (omega (arith, s, e))) in
    let rest = as_long xs (at.before ++ at.after) (λ q.
    let a = same q in
    let b = ap (times q) at.is in
    let c = times-cons q x xs in
    let d = times-append q at.before (x ∷ at.after) in
    let f = times-cons q x at.after in
    let g = times-append q at.before at.after in
    omega (arith, a, b, c, d, f, g)) in
    let l = ap length at.is in
    let m = length-append at.before (x ∷ at.after) in
    let n = length-append at.before at.after in
    omega (arith, rest, l, m, n)

pub longer_by_one : (p : Prefix) (old new : List Prefix) → HasOneMore p old new → length new ≡ length old + 1
longer_by_one p old new more =
    let e : length new ≡ length (p ∷ old) = as_long new (p ∷ old) (λ q. let a = more q in let c = times-cons q p old in omega (arith, a, c)) in
    omega (arith, e)
