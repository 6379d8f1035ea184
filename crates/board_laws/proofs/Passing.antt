-- How often elements of a list pass a test, and sums over lists that have the same numbers.
use Rattle.std.proofs.Common.{◌≡◌, inl, inr, ℕ, ◌+◌, ◌≤◌, ◌==◌, Bool, true, false, if◌then◌else◌, List, [], ◌∷◌, ◌++◌, map, count_by, Some, None, refl, sym, ap, ◌∙◌, arith}
use Rattle.std.specs.List.{find, sum_by}
use Rattle.std.proofs.lemmas.Bool.{eq-eqb, eqb-true, cond-true, cond-false}
use Rattle.std.proofs.lemmas.List.Sums.{sum_by-cons, sum_by-append}
use Rattle.table_laws.proofs.MemberLaws.{Among}

module _ {X : Type 0} (p : X → Bool) where
  abbrev one : X → ℕ
  one x = if p x then 1 else 0

  count_more : (x : X) (xs : List X) → p x ≡ true → count_by p (x ∷ xs) ≡ 1 + count_by p xs
  count_more x xs passes = sum_by-cons one x xs ∙ ap (λ (t : Bool). (if t then 1 else 0) + count_by p xs) passes

  count_same : (x : X) (xs : List X) → p x ≡ false → count_by p (x ∷ xs) ≡ count_by p xs
  count_same x xs fails = sum_by-cons one x xs ∙ (rw fails (omega arith))

  pub count_append : (xs ys : List X) → count_by p (xs ++ ys) ≡ count_by p xs + count_by p ys
  count_append xs ys = sum_by-append one xs ys

  among_counts : (x : X) (xs : List X) → Among x xs → p x ≡ true → 1 ≤ count_by p xs
  among_counts x [] there passes = absurd there
  among_counts x (y ∷ xs) (inl e) passes = let c = count_more y xs (ap p (sym e) ∙ passes) in omega (arith, c)
  among_counts x (y ∷ xs) (inr there) passes = at (p y) refl (among_counts x xs there passes)
    where
      at : (t : Bool) → p y ≡ t → 1 ≤ count_by p xs → 1 ≤ count_by p (y ∷ xs)
      at true e some = let c = count_more y xs e in omega (arith, c)
      at false e some = let c = count_same y xs e in omega (arith, c, some)

  pub found_counts : (x : X) (xs : List X) → find p xs ≡ Some x → 1 ≤ count_by p xs
  found_counts x [] is = absurd (cc is)
  found_counts x (y ∷ xs) is = at (p y) refl is (found_counts x xs)
    where
      at : (t : Bool) → p y ≡ t → (if t then Some y else find p xs) ≡ Some x → (find p xs ≡ Some x → 1 ≤ count_by p xs) → 1 ≤ count_by p (y ∷ xs)
      at true e is others = let c = count_more y xs e in omega (arith, c)
      at false e is others = let c = count_same y xs e in let some = others is in omega (arith, c, some)

  pub found_passes : (x : X) (xs : List X) → find p xs ≡ Some x → p x ≡ true
  found_passes x [] is = absurd (cc is)
  found_passes x (y ∷ xs) is = at (p y) refl is (found_passes x xs)
    where
      at : (t : Bool) → p y ≡ t → (if t then Some y else find p xs) ≡ Some x → (find p xs ≡ Some x → p x ≡ true) → p x ≡ true
      at true e is others = let same : y ≡ x = cc is in ap p (sym same) ∙ e
      at false e is others = others is

  -- the only one that passes is the one that is found
  pub only_found : (x : X) (xs : List X) → Among x xs → p x ≡ true → count_by p xs ≡ 1 → find p xs ≡ Some x
  only_found x [] there passes once = absurd there
  only_found x (y ∷ xs) (inl e) passes once = cond-true (p y) (Some y) (find p xs) (ap p (sym e) ∙ passes) ∙ ap Some (sym e)
  only_found x (y ∷ xs) (inr there) passes once = at (p y) refl (only_found x xs there passes)
    where
      at : (t : Bool) → p y ≡ t → (count_by p xs ≡ 1 → find p xs ≡ Some x) → find p (y ∷ xs) ≡ Some x
      at true e others = absurd (let c = count_more y xs e in let some = among_counts x xs there passes in omega (arith, c, some, once))
      at false e others = cond-false (p y) (Some y) (find p xs) e ∙ others (sym (count_same y xs e) ∙ once)

  pub none_counts : (xs : List X) → ((x : X) → Among x xs → p x ≡ false) → count_by p xs ≡ 0
  none_counts [] none = refl
  none_counts (y ∷ xs) none = count_same y xs (none y (inl refl)) ∙ none_counts xs (λ x there. none x (inr there))

  pub none_found : (xs : List X) → ((x : X) → Among x xs → p x ≡ false) → find p xs ≡ None
  none_found [] none = refl
  none_found (y ∷ xs) none = cond-false (p y) (Some y) (find p xs) (none y (inl refl)) ∙ none_found xs (λ x there. none x (inr there))

module _ {X Y : Type 0} (k : X → Y) where
  pub count_mapped : (p : Y → Bool) (xs : List X) → count_by p (map k xs) ≡ count_by (λ x. p (k x)) xs
  count_mapped p [] = refl
  count_mapped p (x ∷ xs) =
      sum_by-cons (one p) (k x) (map k xs) ∙ ap (λ n. one p (k x) + n) (count_mapped p xs) ∙ sym (sum_by-cons (one (λ y. p (k y))) x xs)

  -- a sum of what depends on one thing of each element
  pub sum_through : (f : X → ℕ) (g : Y → ℕ) (xs : List X) → ((x : X) → Among x xs → f x ≡ g (k x)) → sum_by f xs ≡ sum_by g (map k xs)
  sum_through f g [] same = refl
  sum_through f g (x ∷ xs) same =
      sum_by-cons f x xs ∙ ap (λ n. n + sum_by f xs) (same x (inl refl)) ∙ ap (λ n. g (k x) + n) (sum_through f g xs (λ y there. same y (inr there)))
      ∙ sym (sum_by-cons g (k x) (map k xs))

-- ---- numbers

abbrev pub times : ℕ → List ℕ → ℕ
times n ms = count_by (λ m. m == n) ms

abbrev without_one : ℕ → List ℕ → List ℕ
without_one n [] = []
without_one n (m ∷ ms) = if m == n then ms else m ∷ without_one n ms

module _ (n : ℕ) where
  times_without : (k : ℕ) (ms : List ℕ) → 1 ≤ times n ms → times k ms ≡ (if n == k then 1 else 0) + times k (without_one n ms)
  times_without k [] some = absurd (omega (arith, some))
  times_without k (m ∷ ms) some = at (m == n) refl (times_without k ms)
    where
      at : (t : Bool) → (m == n) ≡ t → (1 ≤ times n ms → times k ms ≡ (if n == k then 1 else 0) + times k (without_one n ms))
          → times k (m ∷ ms) ≡ (if n == k then 1 else 0) + times k (if t then ms else m ∷ without_one n ms)
      at true e others = sum_by-cons (one (λ x. x == k)) m ms ∙ ap (λ (x : ℕ). (if x == k then 1 else 0) + times k ms) (eqb-true m n e)
      at false e others =
          let c = sum_by-cons (one (λ x. x == k)) m ms in
          let d = sum_by-cons (one (λ x. x == k)) m (without_one n ms) in
          let o = others (let f = count_same (λ x. x == n) m ms e in omega (arith, f, some)) in
          omega (arith, c, d, o)

  sum_without : (g : ℕ → ℕ) (ms : List ℕ) → 1 ≤ times n ms → sum_by g ms ≡ g n + sum_by g (without_one n ms)
  sum_without g [] some = absurd (omega (arith, some))
  sum_without g (m ∷ ms) some = at (m == n) refl (sum_without g ms)
    where
      at : (t : Bool) → (m == n) ≡ t → (1 ≤ times n ms → sum_by g ms ≡ g n + sum_by g (without_one n ms))
          → sum_by g (m ∷ ms) ≡ g n + sum_by g (if t then ms else m ∷ without_one n ms)
      at true e others = sum_by-cons g m ms ∙ ap (λ x. g x + sum_by g ms) (eqb-true m n e)
      at false e others =
          let c = sum_by-cons g m ms in
          let d = sum_by-cons g m (without_one n ms) in
          let o = others (let f = count_same (λ x. x == n) m ms e in omega (arith, f, some)) in
          omega (arith, c, d, o)

-- lists that have each number equally often have the same sums
pub same_sums : (g : ℕ → ℕ) (ms ns : List ℕ) → ((k : ℕ) → times k ms ≡ times k ns) → sum_by g ms ≡ sum_by g ns
same_sums g [] [] same = refl
same_sums g [] (n ∷ ns) same = absurd (let c = count_more (λ x. x == n) n ns (eq-eqb n n refl) in let s = same n in omega (arith, c, s))
same_sums g (m ∷ ms) ns same =
    let some : 1 ≤ times m ns = (let c = count_more (λ x. x == m) m ms (eq-eqb m m refl) in let s = same m in omega (arith, c, s)) in
    sum_by-cons g m ms
    ∙ ap (λ n. g m + n) (same_sums g ms (without_one m ns) (λ k.
    let c = sum_by-cons (one (λ x. x == k)) m ms in let w = times_without m k ns some in let s = same k in omega (arith, c, w, s)))
    ∙ sym (sum_without m g ns some)
