-- The list of a sweep: where a number stands in it, and the list without some numbers.
use Rattle.std.proofs.Common.{◌≡◌, ℕ, ◌+◌, ◌-◌, ◌<◌, ◌≤◌, ◌==◌, ◌||◌, ◌&&◌, if◌then◌else◌, Bool, true, false, not, List, [], ◌∷◌, length, filter, get_or, take, All, inl, inr, ◌⊎◌, refl, sym, ap, ◌∙◌, arith}
use Rattle.std.specs.Prelude.{nat_le}
use Rattle.std.specs.List.{list_any}
use Rattle.std.proofs.lemmas.Bool.{eq-eqb, ne_eqb, cases_eq, cases_lt, leb-true, le-leb, false≢true}
use Rattle.std.proofs.lemmas.List.{get_or_default}
use Rattle.std.proofs.lemmas.List.Folds.{list_any_none, list_any_more}
use Rattle.spec_board.specs.Effects.{is_among}
use Rattle.megaflow_table.specs.Live.{IsIn, IsRising}
use Rattle.megaflow_table.proofs.LiveLaws.{rising_get}
use Rattle.table_laws.proofs.MemberLaws.{Among}
use Rattle.board_laws.proofs.NumberLaws.{Rising}

-- ---- numbers that rise

in_among : (ns : List ℕ) (n : ℕ) → IsIn n ns → Among n ns
in_among [] n is_in = absurd is_in
in_among (m ∷ ns) n (inl e) = inl e
in_among (m ∷ ns) n (inr is_in) = inr (in_among ns n is_in)

pub numbers_rise : (ns : List ℕ) → Rising ns → IsRising ns
numbers_rise [] r = tt
numbers_rise (n ∷ ns) r = (λ m is_in. r.0 m (in_among ns m is_in), numbers_rise ns r.1)

in_filter : (p : ℕ → Bool) (ns : List ℕ) (n : ℕ) → IsIn n (filter p ns) → IsIn n ns
in_filter p [] n is_in = absurd is_in
in_filter p (m ∷ ns) n is_in = at (p m) refl is_in (in_filter p ns n)
  where
    at : (t : Bool) → p m ≡ t → IsIn n (if t then m ∷ filter p ns else filter p ns) → (IsIn n (filter p ns) → IsIn n ns) → IsIn n (m ∷ ns)
    at true is (inl e) others = inl e
    at true is (inr within) others = inr (others within)
    at false is within others = inr (others within)

pub rising_left : (p : ℕ → Bool) (ns : List ℕ) → IsRising ns → IsRising (filter p ns)
rising_left p [] r = tt
rising_left p (n ∷ ns) r = at (p n) refl (rising_left p ns r.1)
  where
    at : (t : Bool) → p n ≡ t → IsRising (filter p ns) → IsRising (filter p (n ∷ ns))
    at true is others = rw is ((λ m is_in. r.0 m (in_filter p ns m is_in), others))
    at false is others = rw is others

-- ---- where a number stands

-- A number isn't there if the one before the first greater one is another.
pub absent : (number past : ℕ) (ns : List ℕ) → IsRising ns → ((k d : ℕ) → 0 ≤ k → k < past → nat_le (get_or ns k d) number ≡ true)
    → ((k d : ℕ) → past ≤ k → k < length ns → nat_le (get_or ns k d) number ≡ false) → past ≤ length ns
    → (1 ≤ past → get_or ns (past - 1) 0 ≡ number → ⊥) → list_any (λ n. n == number) ns ≡ false
absent number past ns rising low high bound other = list_any_none (λ n. n == number) ns each
  where
    each : All (λ n. (n == number) ≡ false) ns
    each k d within = ne_eqb (get_or ns k d) number (λ e. by_half e (cases_lt k past))
      where
        by_half : get_or ns k d ≡ number → (k < past) ⊎ (past ≤ k) → ⊥
        by_half e (inl before) =
            let le : get_or ns (past - 1) 0 ≤ number = leb-true (get_or ns (past - 1) 0) number (low (past - 1) 0 (omega arith) (omega (arith, before))) in
            let up : get_or ns k 0 ≤ get_or ns (past - 1) 0 = rising_get ns rising k (past - 1) 0 (omega (arith, before)) (omega (arith, before, bound)) in
            let same : get_or ns k 0 ≡ number = get_or_default ns k 0 d within ∙ e in
            other (omega (arith, before)) (let q : get_or ns (past - 1) 0 ≡ number = omega (arith, le, up, same) in q)
        by_half e (inr behind) = false≢true (sym (high k d behind within) ∙ le-leb (get_or ns k d) number (omega (arith, e)))

-- ---- the list without some numbers

pub nothing_left_out : (number : ℕ) (ns : List ℕ) → list_any (λ n. n == number) ns ≡ false → filter (λ n. not (n == number)) ns ≡ ns
nothing_left_out number [] none = refl
nothing_left_out number (n ∷ ns) none = at (n == number) refl none (nothing_left_out number ns)
  where
    at : (t : Bool) → (n == number) ≡ t → (t || list_any (λ m. m == number) ns) ≡ false
        → (list_any (λ m. m == number) ns ≡ false → filter (λ m. not (m == number)) ns ≡ ns) → filter (λ m. not (m == number)) (n ∷ ns) ≡ n ∷ ns
    at true is none others = absurd (cc none)
    at false is none others = rw is (ap (λ l. n ∷ l) (others none))

same_either_way : (m n : ℕ) → (m == n) ≡ (n == m)
same_either_way m n = at (cases_eq m n)
  where
    at : (m ≡ n) ⊎ (m ≡ n → ⊥) → (m == n) ≡ (n == m)
    at (inl e) = eq-eqb m n e ∙ sym (eq-eqb n m (sym e))
    at (inr d) = ne_eqb m n d ∙ sym (ne_eqb n m (λ e. d (sym e)))

filter_twice : (p q r : ℕ → Bool) → ((n : ℕ) → r n ≡ (q n && p n)) → (ns : List ℕ) → filter p (filter q ns) ≡ filter r ns
filter_twice p q r both [] = refl
filter_twice p q r both (n ∷ ns) = at (q n) (p n) refl refl (filter_twice p q r both ns)
  where
    at : (s t : Bool) → q n ≡ s → p n ≡ t → filter p (filter q ns) ≡ filter r ns → filter p (filter q (n ∷ ns)) ≡ filter r (n ∷ ns)
    at true true is_q is_p others = rw (both n, is_q, is_p) (ap (λ l. n ∷ l) others)
    at true false is_q is_p others = rw (both n, is_q, is_p) others
    at false true is_q is_p others = rw (both n, is_q) others
    at false false is_q is_p others = rw (both n, is_q) others

-- one number more is left out
pub left_out_more : (numbers : List ℕ) (k d : ℕ) (ns : List ℕ) → k < length numbers
    → filter (λ n. not (n == get_or numbers k d)) (filter (λ n. not (is_among (take k numbers) n)) ns)
    ≡ filter (λ n. not (is_among (take (k + 1) numbers) n)) ns
left_out_more numbers k d ns within =
    filter_twice (λ n. not (n == get_or numbers k d)) (λ n. not (is_among (take k numbers) n)) (λ n. not (is_among (take (k + 1) numbers) n)) both ns
  where
    split : (s t : Bool) → not (s || t) ≡ (not s && not t)
    split true t = refl
    split false t = refl

    both : (n : ℕ) → not (is_among (take (k + 1) numbers) n) ≡ (not (is_among (take k numbers) n) && not (n == get_or numbers k d))
    both n =
        ap not (list_any_more (λ m. m == n) numbers k d within)
        ∙ split (is_among (take k numbers) n) (get_or numbers k d == n)
        ∙ ap (λ t. not (is_among (take k numbers) n) && not t) (same_either_way (get_or numbers k d) n)

pub none_left_out : (ns : List ℕ) → filter (λ n. not (is_among [] n)) ns ≡ ns
none_left_out [] = refl
none_left_out (n ∷ ns) = ap (λ l. n ∷ l) (none_left_out ns)
