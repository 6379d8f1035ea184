-- Sums of words of which some have changed, and checksums that follow.
use Rattle.std.proofs.Common.{◌≡◌, ℕ, zero, suc, ◌+◌, ◌-◌, ◌*◌, ◌/◌, ◌<◌, ◌≤◌, ◌==◌, if◌then◌else◌, List, [], ◌∷◌, slice_index, inl, inr, refl, ap, ap₂, arith}
use Rattle.std.specs.Prelude.{sum, fold}
use Rattle.std.proofs.lemmas.Bool.{cond_both, eqb-true, cases_eq}
use Rattle.std.proofs.lemmas.List.Elements.{All-head, All-tail, All-cons, All-nil}
use Rattle.std.proofs.lemmas.List.Sums.{sum_by-cons}
use Rattle.spec_base.specs.Bytes.{big_endian_at}
use Rattle.spec_exec.specs.Checksum.{words, complement, ones_add, ones_sum, updated}
use Rattle.spec_exec.specs.Places.{Zero, Plain, Ones, Absent}
use Rattle.spec_exec.specs.Rewriting.{sent_as, after_word, after_words}
use Rattle.exec_laws.proofs.Replacing.{number-same}
use Rattle.exec_laws.proofs.Bytes.{EachByte, word-lt}
use Rattle.exec_laws.specs.Right.{IsRight, AreWords, words_at}

-- ---- sums in ones' complement

-- What a total comes to where each carry is added at the end: congruent to it, and 0 only where it is 0.
record IsFolded (total folded : ℕ) : Type 0 where
  rounds : ℕ
  congruent : total ≡ 65535 * rounds + folded
  fits : folded < 65536
  zero_only : folded ≡ 0 → total ≡ 0

ones_add-folded : (total folded word : ℕ) → IsFolded total folded → word < 65536 → IsFolded (total + word) (ones_add folded word)
ones_add-folded total folded word is fits = record {
  rounds = is.rounds + (folded + word) / words;
  congruent = omega arith;
  fits = omega arith;
  zero_only = λ e. omega (arith, is.zero_only);
}

fold-folded : (total folded : ℕ) (list : List ℕ) → AreWords list → IsFolded total folded → IsFolded (fold ◌+◌ total list) (fold ones_add folded list)
fold-folded total folded [] all is = is
fold-folded total folded (word ∷ list) all is =
    fold-folded (total + word) (ones_add folded word) list (All-tail (λ w. w < 65536) word list all) (ones_add-folded total folded word is (All-head (λ w. w < 65536) word list all))

none-folded : IsFolded 0 0
none-folded = record { rounds = 0; congruent = omega arith; fits = omega arith; zero_only = λ e. e }

sum-folded : (list : List ℕ) → AreWords list → IsFolded (sum list) (ones_sum list)
sum-folded list all = fold-folded 0 0 list all none-folded

-- right words add up to a multiple of 65535, and words that do, and aren't all 0, are right
right-sum : (list : List ℕ) → AreWords list → IsRight list → (k : ℕ) × (sum list ≡ 65535 * k)
right-sum list all right = let is = sum-folded list all in (is.rounds + 1, omega (arith, is.congruent, right))

sum-right : (list : List ℕ) (k : ℕ) → AreWords list → 0 < sum list → sum list ≡ 65535 * k → IsRight list
sum-right list k all some e = let is = sum-folded list all in by (sum list) (ones_sum list) is.rounds some e is.congruent is.fits is.zero_only
  where
    by : (total folded rounds : ℕ) → 0 < total → total ≡ 65535 * k → total ≡ 65535 * rounds + folded → folded < 65536 → (folded ≡ 0 → total ≡ 0) → folded ≡ 65535
    by total folded rounds s e c f z = elim (cases_eq folded 0) [ inl none ↦ absurd (omega (arith, s, z none)) | inr more ↦ omega arith ]

-- ---- words

pub sum-first : (x : ℕ) (xs : List ℕ) → sum (x ∷ xs) ≡ x + sum xs
sum-first x xs = sum_by-cons (λ word. word) x xs

pub sum-one : (frame : List ℕ) (at : ℕ) → sum (words_at 1 frame at) ≡ big_endian_at 2 frame at
unfolding words_at
sum-one frame at = let e = sum-first (big_endian_at 2 frame at) [] in omega arith

pub are-words : (frame : List ℕ) → EachByte frame → (n at : ℕ) → AreWords (words_at n frame at)
unfolding words_at
are-words frame bytes zero at = All-nil (λ word. word < 65536)
are-words frame bytes (suc n) at =
    All-cons (λ word. word < 65536) (big_endian_at 2 frame at) (words_at n frame (at + 2)) (word-lt frame bytes at) (are-words frame bytes n (at + 2))

module _ (a b : List ℕ) where
  pub words_at-same : (n at : ℕ) → ((i : ℕ) → at ≤ i → i < at + 2 * n → slice_index b i ≡ slice_index a i) → words_at n b at ≡ words_at n a at
  unfolding words_at
  words_at-same zero at h = refl
  words_at-same (suc n) at h =
      ap₂ (λ (x : ℕ) (xs : List ℕ). x ∷ xs) (number-same a b 2 at (λ i l m. h i l (omega arith)))
      (words_at-same n (at + 2) (λ i l m. h i (omega arith) (omega arith)))

  -- only words from the i-th of them on differ, m at most
  pub sum-changed : (n i m at j : ℕ) → j ≡ at + 2 * i → i + m ≤ n → ((k : ℕ) → at ≤ k → k < j → slice_index b k ≡ slice_index a k)
      → ((k : ℕ) → j + 2 * m ≤ k → slice_index b k ≡ slice_index a k)
      → sum (words_at n b at) + sum (words_at m a j) ≡ sum (words_at n a at) + sum (words_at m b j)
  unfolding words_at
  sum-changed n zero zero at j e l before after = ap (λ (list : List ℕ). sum list + 0) (words_at-same n at (λ k p q. after k (omega arith)))
  sum-changed zero zero (suc m) at j e l before after = absurd (omega arith)
  sum-changed (suc n) zero (suc m) at j e l before after =
      let here : j ≡ at = omega arith in
      let rest = sum-changed n zero m (at + 2) (j + 2) (omega arith) (omega arith) (λ k p q. absurd (omega arith)) (λ k p. after k (omega arith)) in
      let w = sum-first (big_endian_at 2 b at) (words_at n b (at + 2)) in
      let x = sum-first (big_endian_at 2 a j) (words_at m a (j + 2)) in
      let y = sum-first (big_endian_at 2 a at) (words_at n a (at + 2)) in
      let z = sum-first (big_endian_at 2 b j) (words_at m b (j + 2)) in
      let p = ap (big_endian_at 2 a) here in
      let q = ap (big_endian_at 2 b) here in
      omega (arith, rest, w, x, y, z, p, q)
  sum-changed zero (suc i) m at j e l before after = absurd (omega arith)
  sum-changed (suc n) (suc i) m at j e l before after =
      let same = number-same a b 2 at (λ k p q. before k p (omega arith)) in
      let rest = sum-changed n i m (at + 2) j (omega arith) (omega arith) (λ k p q. before k (omega arith) q) after in
      let w = sum-first (big_endian_at 2 b at) (words_at n b (at + 2)) in
      let y = sum-first (big_endian_at 2 a at) (words_at n a (at + 2)) in
      omega (arith, rest, w, y, same)

-- ---- checksums that follow

-- two numbers with the same rest modulo 65535
pub record Congruent (x y : ℕ) : Type 0 where
  pub p : ℕ
  pub q : ℕ
  pub same : x + 65535 * p ≡ y + 65535 * q

itself : (x : ℕ) → Congruent x x
itself x = record { p = 0; q = 0; same = refl }

ones-sent : (sum : ℕ) → sum < 65536 → Congruent (if sum == 0 then 0xffff else sum) sum × ((if sum == 0 then 0xffff else sum) < 65536)
ones-sent sum l =
    cond_both (sum == 0) 0xffff sum (λ h. Congruent h sum × (h < 65536))
    (λ e. let f = eqb-true sum 0 e in (record { p = 0; q = 1; same = omega arith }, omega arith)) (λ e. (itself sum, l))

sent_as-congruent : (z : Zero) (sum : ℕ) → sum < 65536 → Congruent (sent_as z sum) sum × (sent_as z sum < 65536)
sent_as-congruent Plain sum l = (itself sum, l)
sent_as-congruent Ones sum l = ones-sent sum l
sent_as-congruent Absent sum l = ones-sent sum l

updated-congruent : (sum from to : ℕ) → sum < 65536 → from < 65536 → to < 65536 → Congruent (updated sum from to + to) (sum + from) × (updated sum from to < 65536)
unfolding updated
updated-congruent sum from to l m n =
    by _ (ones_add-folded _ _ to (ones_add-folded _ _ (complement from) (ones_add-folded 0 0 (complement sum) none-folded (omega arith)) (omega arith)) n)
  where
    by : (folded : ℕ) → IsFolded (0 + complement sum + complement from + to) folded
        → Congruent (complement folded + to) (sum + from) × (complement folded < 65536)
    by folded is =
        let c = is.congruent in let f = is.fits in (record { p = 1; q = is.rounds; same = omega arith }, omega arith)

word-congruent : (z : Zero) (sum from to : ℕ) → sum < 65536 → from < 65536 → to < 65536
    → Congruent (after_word z sum from to + to) (sum + from) × (after_word z sum from to < 65536)
unfolding after_word
word-congruent z sum from to l m n =
    cond_both (from == to) sum (sent_as z (updated sum from to)) (λ h. Congruent (h + to) (sum + from) × (h < 65536))
    (λ e. let f = eqb-true from to e in (record { p = 0; q = 0; same = omega arith }, l))
    (λ e.
    let u = updated-congruent sum from to l m n in
    let s = sent_as-congruent z (updated sum from to) u.1 in
    (record { p = u.0.p + s.0.p; q = u.0.q + s.0.q; same = omega (arith, u.0.same, s.0.same) }, s.1))

pub words-congruent : (z : Zero) (before now : List ℕ) → EachByte before → EachByte now → (n at h : ℕ) → h < 65536
    → Congruent (after_words z n at before now h + sum (words_at n now at)) (h + sum (words_at n before at)) × (after_words z n at before now h < 65536)
unfolding after_words words_at
words-congruent z before now x y zero at h l = (itself (h + 0), l)
words-congruent z before now x y (suc n) at h l =
    let from = big_endian_at 2 before at in
    let to = big_endian_at 2 now at in
    let first = word-congruent z h from to l (word-lt before x at) (word-lt now y at) in
    let rest = words-congruent z before now x y n (at + 2) (after_word z h from to) first.1 in
    let a = sum-first from (words_at n before (at + 2)) in
    let b = sum-first to (words_at n now (at + 2)) in
    (record { p = first.0.p + rest.0.p; q = first.0.q + rest.0.q; same = omega (arith, a, b, first.0.same, rest.0.same) }, rest.1)

-- Words that were right are so where some of them, of this sum, and a checksum among them change in this way.
pub stay-right : (before now : List ℕ) (from to h k : ℕ) → AreWords before → AreWords now → 0 < sum now
    → Congruent (k + to) (h + from) → sum now + h + from ≡ sum before + to + k → IsRight before → IsRight now
stay-right before now from to h k fit_before fit_now some c e right =
    let total = right-sum before fit_before right in
    sum-right now (total.0 + c.q - c.p) fit_now some (omega (arith, e, total.1, c.same))
