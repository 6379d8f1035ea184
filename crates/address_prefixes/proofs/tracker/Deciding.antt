-- What lists of prefixes tell of a number.
use Rattle.std.proofs.Common.{◌≡◌, ℕ, zero, suc, ◌<◌, ◌≤◌, Bool, true, false, ◌&&◌, ◌||◌, ◌==◌, List, [], ◌∷◌, ◌++◌, length, replicate, max, if◌then◌else◌, inl, inr, refl, sym, ap, ◌∙◌, arith}
use Rattle.std.specs.List.{list_any}
use Rattle.std.proofs.lemmas.List.Elements.{All-replicate}
use Rattle.std.proofs.lemmas.List.Folds.{list_any-append, list_any_none}
use Rattle.spec_xlate.specs.Lookup.{Prefix, begins_with, deciding, deciding_one, some_begins}
use Rattle.table_laws.proofs.MemberLaws.{Among, All_from-Among}
use Rattle.address_prefixes.specs.Looks.{begun, AllApart}
use Rattle.address_prefixes.specs.Prefixes.{in_common, prefix_at}
use Rattle.std.proofs.lemmas.Bool.{lt-leb, le-leb, and_right, or_left}
use Rattle.address_prefixes.proofs.tracker.Alike.{begins_is, deciding_is, more_of_cut}

pub deciding-append : (w x : ℕ) (ps qs : List Prefix) → deciding w x (ps ++ qs) ≡ max (deciding w x ps) (deciding w x qs)
unfolding deciding
deciding-append w x [] qs = omega arith
deciding-append w x (p ∷ ps) qs = at (deciding_one w x p) (deciding w x ps) (deciding w x qs) (deciding w x (ps ++ qs)) (deciding-append w x ps qs)
  where
    at : (d a b c : ℕ) → c ≡ max a b → max d c ≡ max (max d a) b
    at d a b c e = omega arith

abbrev pub one : Bool → ℕ
one t = if t then 1 else 0

pub begun-append : (w x n : ℕ) (ps qs : List Prefix) → begun w x n (ps ++ qs) ≡ max (begun w x n ps) (begun w x n qs)
begun-append w x n ps qs = ap one (list_any-append (λ (p : Prefix). (p.length == suc n) && begins_with w x p) ps qs) ∙ at (some_begins w x (suc n) ps) (some_begins w x (suc n) qs)
  where
    at : (a b : Bool) → one (a || b) ≡ max (one a) (one b)
    at true true = refl
    at true false = refl
    at false b = omega arith

-- ---- prefixes apart from a number

pub deciding_all : (w x d : ℕ) (ps : List Prefix) → ((p : Prefix) → Among p ps → deciding_one w x p ≡ d) → 0 < length ps → deciding w x ps ≡ d
unfolding deciding
deciding_all w x d [] each some = absurd (omega arith)
deciding_all w x d (p ∷ []) each some = let e = each p (inl refl) in omega (arith, e)
deciding_all w x d (p ∷ q ∷ ps) each some =
    let e = each p (inl refl) in
    let rest = deciding_all w x d (q ∷ ps) (λ r m. each r (inr m)) (omega arith) in
    at (deciding_one w x p) (deciding w x (q ∷ ps)) e rest
  where
    at : (a b : ℕ) → a ≡ d → b ≡ d → max a b ≡ d
    at a b e f = omega arith

none_begins : (w x n : ℕ) (ps : List Prefix) → ((p : Prefix) → Among p ps → (p.length ≤ w) × (in_common w x p.value < p.length)) → some_begins w x n ps ≡ false
none_begins w x n ps each = list_any_none test ps (All_from-Among (λ (p : Prefix). test p ≡ false) ps (λ p m.
    let h = each p m in
    and_right (p.length == n) (begins_with w x p) (begins_is w x p h.0 ∙ lt-leb p.length (in_common w x p.value) h.1)))
  where
    test : Prefix → Bool
    test p = (p.length == n) && begins_with w x p

module _ (w x n : ℕ) (ps : List Prefix) (apart : AllApart w x n ps) where
  pub deciding_apart : 0 < length ps → deciding w x ps ≡ suc n
  deciding_apart = deciding_all w x (suc n) ps (λ p m.
      let h = apart p m in
      let d = deciding_is w x p h.within in
      omega (arith, d))

  pub begun_apart : (k : ℕ) → begun w x k ps ≡ 0
  begun_apart k = ap (λ (t : Bool). if t then 1 else 0) (none_begins w x (suc k) ps (λ p m.
      let h = apart p m in
      let c : in_common w x p.value < p.length = omega arith in
      (h.within, c)))

-- ---- one prefix, often

pub among-replicate : (k : ℕ) (p q : Prefix) → Among q (replicate k p) → q ≡ p
among-replicate zero p q m = absurd m
among-replicate (suc k) p q (inl e) = e
among-replicate (suc k) p q (inr m) = among-replicate k p q m

module _ (w x bits n : ℕ) (within : n ≤ w) (begins : n ≤ in_common w x bits) where
  own_begins : n ≤ in_common w x (prefix_at w bits n).value
  own_begins = more_of_cut w x bits n n (omega arith) within begins

  own_deciding : deciding_one w x (prefix_at w bits n) ≡ n
  own_deciding = let d = deciding_is w x (prefix_at w bits n) within in let b = own_begins in omega (arith, d, b)

  pub deciding_own : (k : ℕ) → 0 < k → deciding w x (replicate k (prefix_at w bits n)) ≡ n
  deciding_own k some = deciding_all w x n (replicate k (prefix_at w bits n)) (λ q m. ap (deciding_one w x) (among-replicate k (prefix_at w bits n) q m) ∙ own_deciding) (long k some)
    where
      long : (k : ℕ) → 0 < k → 0 < length (replicate k (prefix_at w bits n))
      long zero some = absurd (omega arith)
      long (suc k) some = omega arith

  pub begun_own : (k j : ℕ) → 0 < k → begun w x j (replicate k (prefix_at w bits n)) ≡ one (n == suc j)
  begun_own k j some = ap one (often k some (test own) refl ∙ here)
    where
      own : Prefix
      own = prefix_at w bits n

      test : Prefix → Bool
      test p = (p.length == suc j) && begins_with w x p

      and_true : (s : Bool) → (s && true) ≡ s
      and_true true = refl
      and_true false = refl

      here : test own ≡ (n == suc j)
      here = ap (λ t. (n == suc j) && t) (begins_is w x own within ∙ le-leb n (in_common w x own.value) own_begins) ∙ and_true (n == suc j)

      often : (k : ℕ) → 0 < k → (t : Bool) → test own ≡ t → list_any test (replicate k own) ≡ test own
      often zero some t e = absurd (omega arith)
      often (suc k) some true e = or_left (test own) (list_any test (replicate k own)) e ∙ sym e
      often (suc k) some false e = list_any_none test (replicate (suc k) own) (All-replicate (λ (p : Prefix). test p ≡ false) (suc k) own e) ∙ sym e
