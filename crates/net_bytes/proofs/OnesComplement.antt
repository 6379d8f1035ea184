-- Ones' complement sums of words, which are sums modulo words - 1.
use Rattle.std.proofs.Common.{◌≡◌, ℕ, ◌+◌, ◌-◌, ◌*◌, ◌/◌, ◌<◌, List, [], ◌∷◌, ◌++◌, refl, ap, ◌∙◌, arith}
use Rattle.std.specs.Prelude.{All, Any, sum, fold}
use Rattle.std.proofs.lemmas.List.Elements.{All-head, All-tail, All-append, All-cons}
use Rattle.std.proofs.lemmas.List.Sums.{sum_by-append, sum_by-cons, get_or-le-sum_by, sum_by-le}
use Rattle.spec_exec.specs.Checksum.{words, complement, ones_add, ones_sum, checksum, updated}
use Rattle.net_bytes.specs.Update.{IsWord, IsRecomputed}

-- What a total comes to where each carry is added at the end: congruent to it, and 0 only where it is 0.
record IsFolded (total folded : ℕ) : Type 0 where
  rounds : ℕ
  congruent : total ≡ (words - 1) * rounds + folded
  fits : IsWord folded
  zero_only : folded ≡ 0 → total ≡ 0

none-folded : IsFolded 0 0
none-folded = record { rounds = 0; congruent = omega arith; fits = omega arith; zero_only = λ e. e }

ones_add-folded : (total folded word : ℕ) → IsFolded total folded → IsWord word → IsFolded (total + word) (ones_add folded word)
ones_add-folded total folded word is fits = record {
  rounds = is.rounds + (folded + word) / words;
  congruent = omega arith;
  fits = omega arith;
  zero_only = λ e. omega (arith, is.zero_only);
}

fold-folded : (total folded : ℕ) (list : List ℕ) → All IsWord list → IsFolded total folded
    → IsFolded (fold ◌+◌ total list) (fold ones_add folded list)
fold-folded total folded [] all is = is
fold-folded total folded (word ∷ list) all is =
    fold-folded (total + word) (ones_add folded word) list (All-tail IsWord word list all)
    (ones_add-folded total folded word is (All-head IsWord word list all))

-- ---- totals

total-with : (prefix back : List ℕ) (word : ℕ) → sum (prefix ++ word ∷ back) ≡ sum prefix + (word + sum back)
total-with prefix back word =
    sum_by-append (λ word. word) prefix (word ∷ back) ∙ ap (λ n. sum prefix + n) (sum_by-cons (λ word. word) word back)

total-some : (list : List ℕ) → Any (λ word. 0 < word) list → 0 < sum list
total-some list some =
    let least = get_or-le-sum_by (λ word. word) list some.0 some.1 some.2 in
    omega (arith, some.3, some.4, least)

total-none : (list : List ℕ) → All (λ word. word ≡ 0) list → sum list ≡ 0
total-none list none =
    let most = sum_by-le (λ word. word) 0 list (λ k d within. let e = none k d within in omega arith) in
    omega arith

-- ---- the update

module _ (prefix back : List ℕ) (from to : ℕ) (in_prefix : All IsWord prefix) (in_back : All IsWord back) (is_from : IsWord from)
    (is_to : IsWord to) where
  abbrev words_with : ℕ → List ℕ
  words_with word = prefix ++ word ∷ back

  -- the sum of which the updated checksum is the complement
  abbrev update : ℕ
  update = ones_sum (ones_sum (words_with from) ∷ complement from ∷ to ∷ [])

  with-folded : (word : ℕ) → IsWord word → IsFolded (sum prefix + (word + sum back)) (ones_sum (words_with word))
  with-folded word fits =
      let all = All-append IsWord prefix (word ∷ back) in_prefix (All-cons IsWord word back fits in_back) in
      rw (← total-with prefix back word) (fold-folded 0 0 (words_with word) all none-folded)

  update-folded : IsFolded (0 + ones_sum (words_with from) + complement from + to) update
  update-folded =
      let first = ones_add-folded 0 0 _ none-folded ((with-folded from is_from).fits) in
      ones_add-folded _ _ to (ones_add-folded _ _ (complement from) first (omega arith)) is_to

  updated-complement : updated (checksum (words_with from)) from to ≡ complement update
  unfolding checksum updated
  updated-complement =
      let fits = (with-folded from is_from).fits in
      let again : complement (complement (ones_sum (words_with from))) ≡ ones_sum (words_with from) = omega arith in
      rw again refl

  update-some : Any (λ word. 0 < word) (words_with to) → update ≡ ones_sum (words_with to)
  update-some some =
      let total = rw total-with at (total-some (words_with to) some) in
      same (sum prefix) (sum back) _ _ _ (with-folded from is_from) (with-folded to is_to) update-folded total
    where
      same : (a b was now new : ℕ) → IsFolded (a + (from + b)) was → IsFolded (a + (to + b)) now
          → IsFolded (0 + was + complement from + to) new → 0 < a + (to + b) → new ≡ now
      same a b was now new is_was is_now is_new some = grind arith

  update-none : All (λ word. word ≡ 0) (words_with to) → (update ≡ words - 1) × (ones_sum (words_with to) ≡ 0)
  update-none none =
      let total = rw total-with at (total-none (words_with to) none) in
      ends (sum prefix) (sum back) _ _ _ (with-folded from is_from) (with-folded to is_to) update-folded total
    where
      ends : (a b was now new : ℕ) → IsFolded (a + (from + b)) was → IsFolded (a + (to + b)) now
          → IsFolded (0 + was + complement from + to) new → a + (to + b) ≡ 0 → (new ≡ words - 1) × (now ≡ 0)
      ends a b was now new is_was is_now is_new none = (grind arith, omega arith)

  pub recomputed : IsRecomputed (words_with from) (words_with to) from to
  unfolding checksum
  recomputed = record {
    same = λ some. updated-complement ∙ ap complement (update-some some);
    zeros = λ none. let ends = update-none none in (updated-complement ∙ ap complement ends.0, ap complement ends.1);
  }
