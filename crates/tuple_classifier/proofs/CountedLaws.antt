-- Numbers kept with their counts, and the list of numbers that these stand for.
use Rattle.std.proofs.Common.{◌≡◌, ℕ, zero, suc, ◌+◌, ◌*◌, ◌<◌, ◌≤◌, Bool, true, false, ◌||◌, ◌==◌, if◌then◌else◌, List, [], ◌∷◌, length, get_or, set, replicate, All, refl, sym, ap, ap₂, inl, inr, ◌⊎◌, ◌-◌, ◌∙◌, subst, arith, eqb-true, eq-eqb}
use Rattle.std.specs.List.{list_any, insert, remove, sum_by}
use Rattle.std.specs.List.Sorted.{IsNonDecreasing, IsNonDecreasingBy}
use Rattle.std.proofs.lemmas.List.{get_or-map, length-map}
use Rattle.std.proofs.lemmas.List.Elements.{All-replicate}
use Rattle.std.proofs.lemmas.Bool.{cases_lt}
use Rattle.std.proofs.lemmas.List.Edits.{get_or-insert_above, get_or-insert_at, get_or-insert_below, length-insert}
use Rattle.std.proofs.lemmas.List.Sorted.{IsNonDecreasingBy-insert}
use Rattle.std.proofs.lemmas.List.Folds.{list_any_none, sum_by-replicate}
use Rattle.std.proofs.lemmas.List.Sums.{sum_by-append, sum_by-cons, sum_by-insert, sum_by-remove, sum_by-set}
use Rattle.table_laws.proofs.MemberLaws.{Among, list_any_from-Among}
use Rattle.tuple_classifier.specs.declared.sorted.Counted.{Counted}
use Rattle.tuple_classifier.specs.Numbers.{times, numbers_in, entry_numbers, entry_counts}
use Rattle.tuple_classifier.proofs.Times.{stands, stood}
use Rattle.tuple_classifier.proofs.Nearest.{IsBeyond, stands_before}
use Rattle.staged_lookup.proofs.Members.{any_among}
use Rattle.std.proofs.lemmas.List.Folds.{list_any-append}

-- ---- how often a number stands among them

weigh : (k : ℕ) (t : Bool) → k * (if t then 1 else 0) ≡ (if t then k else 0)
weigh k true = omega arith
weigh k false = omega arith

times_is : (n : ℕ) (cs : List Counted) → times n (numbers_in cs) ≡ sum_by (λ (c : Counted). if c.number == n then c.count else 0) cs
unfolding numbers_in
times_is n [] = refl
times_is n (c ∷ cs) =
    sum_by-append (λ x. if x == n then 1 else 0) (replicate c.count c.number) (numbers_in cs)
    ∙ ap₂ (λ (a b : ℕ). a + b) (sum_by-replicate (λ x. if x == n then 1 else 0) c.count c.number ∙ weigh c.count (c.number == n)) (times_is n cs)
    ∙ sym (sum_by-cons (λ (d : Counted). if d.number == n then d.count else 0) c cs)

pub times_inserted : (n : ℕ) (cs ds : List Counted) (i : ℕ) (c : Counted) → ds ≡ insert cs i c → c.count ≡ 1
    → times n (numbers_in ds) ≡ times n (numbers_in cs) + (if c.number == n then 1 else 0)
times_inserted n cs ds i c made one =
    times_is n ds ∙ ap (sum_by (λ (d : Counted). if d.number == n then d.count else 0)) made
    ∙ sum_by-insert (λ (d : Counted). if d.number == n then d.count else 0) cs i c
    ∙ ap₂ (λ (a k : ℕ). a + (if c.number == n then k else 0)) (sym (times_is n cs)) one

pub times_without : (n : ℕ) (cs ds : List Counted) (i : ℕ) → i < length cs → get_or (entry_counts cs) i 0 ≡ 1 → ds ≡ remove cs i
    → times n (numbers_in ds) + (if get_or (entry_numbers cs) i 0 == n then 1 else 0) ≡ times n (numbers_in cs)
times_without n [] ds i within one made = absurd (omega arith)
times_without n (c ∷ cs) ds i within one made =
    let number = get_or-map (λ (d : Counted). d.number) (c ∷ cs) i c 0 within in
    let count = get_or-map (λ (d : Counted). d.count) (c ∷ cs) i c 0 within in
    ap₂ (λ (a b : ℕ). a + b) (times_is n ds ∙ ap (sum_by (λ (d : Counted). if d.number == n then d.count else 0)) made)
    (ap₂ (λ (u k : ℕ). if u == n then k else 0) number (sym one ∙ count))
    ∙ sum_by-remove (λ (d : Counted). if d.number == n then d.count else 0) (c ∷ cs) i c within
    ∙ sym (times_is n (c ∷ cs))

pub times_set : (n : ℕ) (cs ds : List Counted) (i k : ℕ) (e : Counted) → i < length cs → ds ≡ set cs i e → e.number ≡ get_or (entry_numbers cs) i 0 → e.count ≡ k
    → times n (numbers_in ds) + (if get_or (entry_numbers cs) i 0 == n then get_or (entry_counts cs) i 0 else 0)
    ≡ times n (numbers_in cs) + (if get_or (entry_numbers cs) i 0 == n then k else 0)
times_set n [] ds i k e within made same is = absurd (omega arith)
times_set n (c ∷ cs) ds i k e within made same is =
    let number = get_or-map (λ (d : Counted). d.number) (c ∷ cs) i c 0 within in
    let count = get_or-map (λ (d : Counted). d.count) (c ∷ cs) i c 0 within in
    ap₂ (λ (a b : ℕ). a + b) (times_is n ds ∙ ap (sum_by (λ (d : Counted). if d.number == n then d.count else 0)) made)
    (ap₂ (λ (u m : ℕ). if u == n then m else 0) number count)
    ∙ sum_by-set (λ (d : Counted). if d.number == n then d.count else 0) (c ∷ cs) i e c within
    ∙ ap₂ (λ (a b : ℕ). a + b) (sym (times_is n (c ∷ cs))) (ap₂ (λ (u m : ℕ). if u == n then m else 0) same is)

-- ---- which numbers stand there

pub nothing_in : (cs : List Counted) → length cs ≡ 0 → numbers_in cs ≡ []
unfolding numbers_in
nothing_in [] none = refl
nothing_in (c ∷ cs) none = absurd (omega arith)

any_replicate : (p : ℕ → Bool) (k x : ℕ) → 0 < k → list_any p (replicate k x) ≡ p x
any_replicate p zero x some = absurd (omega arith)
any_replicate p (suc k) x some = at (p x) refl
  where
    at : (t : Bool) → p x ≡ t → (p x || list_any p (replicate k x)) ≡ p x
    at true e = ap (λ (u : Bool). u || list_any p (replicate k x)) e ∙ sym e
    at false e = ap (λ (u : Bool). u || list_any p (replicate k x)) e ∙ list_any_none p (replicate k x) (All-replicate (λ y. p y ≡ false) k x e) ∙ sym e

pub any_numbers : (p : ℕ → Bool) (cs : List Counted) → All (λ (c : Counted). 0 < c.count) cs → list_any p (numbers_in cs) ≡ list_any p (entry_numbers cs)
unfolding numbers_in
any_numbers p [] counted = refl
any_numbers p (c ∷ cs) counted =
    list_any-append p (replicate c.count c.number) (numbers_in cs)
    ∙ ap₂ (λ (a b : Bool). a || b) (any_replicate p c.count c.number (counted 0 c (omega arith))) (any_numbers p cs (λ k d lt. counted (suc k) d (omega arith)))

entry_stands : (v : ℕ) (cs : List Counted) → All (λ (c : Counted). 0 < c.count) cs → 0 < times v (numbers_in cs) → 0 < times v (entry_numbers cs)
entry_stands v cs counted some =
    let h = any_among (λ x. x == v) (entry_numbers cs) (sym (any_numbers (λ x. x == v) cs counted) ∙ list_any_from-Among (λ x. x == v) v (numbers_in cs) (stood v (numbers_in cs) some) (eq-eqb v v refl)) in
    stands v (entry_numbers cs) (subst (λ (u : ℕ). Among u (entry_numbers cs)) (eqb-true h.0 v h.2) h.1)

-- ---- their order

pub entries_rising : (cs : List Counted) → IsNonDecreasingBy (λ (c : Counted). c.number) cs → IsNonDecreasing (entry_numbers cs)
entries_rising [] rising i j d le within = absurd (omega arith)
entries_rising (c ∷ cs) rising i j d le within =
    let n = length-map (c ∷ cs) (λ (e : Counted). e.number) in
    let up = rising i j c le (omega (arith, n, within)) in
    let a = get_or-map (λ (e : Counted). e.number) (c ∷ cs) i c d (omega (arith, n, le, within)) in
    let b = get_or-map (λ (e : Counted). e.number) (c ∷ cs) j c d (omega (arith, n, within)) in
    omega (arith, up, a, b)

pub rising_inserted : (cs : List Counted) (i : ℕ) (e : Counted) → IsBeyond e.number (entry_numbers cs) i → i ≤ length cs
    → IsNonDecreasingBy (λ (c : Counted). c.number) cs → IsNonDecreasingBy (λ (c : Counted). c.number) (insert cs i e)
rising_inserted cs i e is within rising =
    let l = length-map cs (λ (c : Counted). c.number) in
    IsNonDecreasingBy-insert (λ (c : Counted). c.number) cs i e rising within
    (λ k d lt.
    let h = is.up_to k lt in
    let g = get_or-map (λ (c : Counted). c.number) cs k d 0 (omega (arith, lt, within)) in
    omega (arith, h, g))
    (λ k d le lt.
    let h = is.beyond k le (omega (arith, l, lt)) in
    let g = get_or-map (λ (c : Counted). c.number) cs k d 0 lt in
    omega (arith, h, g))

-- ---- their counts

pub counted_inserted : (cs : List Counted) (i : ℕ) (e : Counted) → i ≤ length cs → 0 < e.count → All (λ (c : Counted). 0 < c.count) cs → All (λ (c : Counted). 0 < c.count) (insert cs i e)
counted_inserted cs i e within some counted k d lt = by (cases_lt k i) (cases_lt i k)
  where
    by : (k < i) ⊎ (i ≤ k) → (i < k) ⊎ (k ≤ i) → 0 < (get_or (insert cs i e) k d).count
    by (inl a) h = rw (get_or-insert_below cs i e d k a within) (counted k d (omega (arith, a, within)))
    by (inr a) (inr b) =
        let same : k ≡ i = omega (arith, a, b) in
        rw (same, get_or-insert_at cs i e d within) some
    by (inr a) (inl b) =
        let l = length-insert cs i e within in
        let at : k ≡ k - 1 + 1 = omega (arith, b) in
        rw (at, get_or-insert_above cs i e d (k - 1) (omega (arith, b)) within) (counted (k - 1) d (omega (arith, b, l, lt)))

-- ---- places among them

pub is_beyond : (x : ℕ) (cs ds : List Counted) (i : ℕ) → ds ≡ cs → i ≤ length ds → ((k : ℕ) → k < i → get_or (entry_numbers ds) k 0 ≤ x)
    → ((k : ℕ) → i ≤ k → k < length ds → x < get_or (entry_numbers ds) k 0) → IsBeyond x (entry_numbers cs) i
is_beyond x cs ds i same within up_to beyond =
    let l = length-map ds (λ (c : Counted). c.number) in
    subst (λ (es : List Counted). IsBeyond x (entry_numbers es) i) same
    (record { within = omega (arith, l, within); up_to = up_to; beyond = λ k le lt. beyond k le (omega (arith, l, lt)) })

-- in front of the entries beyond a number stands its own, if it stands anywhere
pub entry_before : (x : ℕ) (cs : List Counted) (i : ℕ) → IsBeyond x (entry_numbers cs) i → IsNonDecreasingBy (λ (c : Counted). c.number) cs → All (λ (c : Counted). 0 < c.count) cs
    → 0 < times x (numbers_in cs) → (0 < i) × (i - 1 < length cs) × (get_or (entry_numbers cs) (i - 1) 0 ≡ x)
entry_before x cs i is rising counted some =
    let h = stands_before x (entry_numbers cs) i is (entries_rising cs rising) (entry_stands x cs counted some) in
    let l = length-map cs (λ (c : Counted). c.number) in
    let low = h.1 in
    (h.0, omega (arith, l, low), h.2)
