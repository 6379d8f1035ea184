-- A checksum over a header and a body stays right where words that it covers change, and it follows.
use Rattle.std.proofs.Common.{◌≡◌, ℕ, ◌+◌, ◌*◌, ◌/◌, ◌<◌, ◌≤◌, List, ◌++◌, length, take, slice_index, ◌⊎◌, inl, inr, sym, ap, ap₂, ◌∙◌, arith, length-take}
use Rattle.std.specs.Prelude.{sum}
use Rattle.std.proofs.lemmas.Bool.{cases_lt}
use Rattle.std.proofs.lemmas.List.{get_or-take, get_or_past}
use Rattle.std.proofs.lemmas.List.Elements.{All-append}
use Rattle.std.proofs.lemmas.List.Sums.{sum_by-append}
use Rattle.std.proofs.Math.Nat.{mod-eq_of_lt}
use Rattle.spec_base.specs.Bytes.{big_endian_at}
use Rattle.spec_exec.specs.Writing.{with_number}
use Rattle.spec_exec.specs.Places.{Zero}
use Rattle.spec_exec.specs.Rewriting.{after_words}
use Rattle.exec_laws.proofs.Replacing.{number-same, with_number-reads, with_number-before, with_number-after}
use Rattle.exec_laws.proofs.Bytes.{EachByte, word-lt}
use Rattle.exec_laws.proofs.checksums.Sums.{Congruent, are-words, words_at-same, sum-one, sum-changed, words-congruent, stay-right}
use Rattle.exec_laws.specs.Right.{AreWords, words_at, words_of, IsRight}

-- ---- frames up to an end

pub take-byte : (end : ℕ) (frame : List ℕ) (i : ℕ) → i < end → slice_index (take end frame) i ≡ slice_index frame i
take-byte end frame i l = get_or-take end frame i 0 l

pub take-past : (end : ℕ) (frame : List ℕ) (i : ℕ) → end ≤ i → slice_index (take end frame) i ≡ 0
take-past end frame i l = get_or_past (take end frame) i 0 (omega (arith, length-take end frame))

take-same : (end : ℕ) (a b : List ℕ) (i : ℕ) → slice_index b i ≡ slice_index a i → slice_index (take end b) i ≡ slice_index (take end a) i
take-same end a b i e = by (cases_lt i end)
  where
    by : (i < end) ⊎ (end ≤ i) → slice_index (take end b) i ≡ slice_index (take end a) i
    by (inl l) = take-byte end b i l ∙ e ∙ sym (take-byte end a i l)
    by (inr l) = take-past end b i l ∙ sym (take-past end a i l)

take-bytes : (end : ℕ) (frame : List ℕ) → EachByte frame → EachByte (take end frame)
take-bytes end frame bytes i = by (cases_lt i end)
  where
    by : (i < end) ⊎ (end ≤ i) → slice_index (take end frame) i < 256
    by (inl l) = rw (take-byte end frame i l) (bytes i)
    by (inr l) = rw (take-past end frame i l) (omega arith)

-- ---- what is covered

-- k words from an offset on, words that are given, and the words of so many bytes from another offset on
abbrev pub cover : (o k : ℕ) (given : List ℕ) (size x : ℕ) → List ℕ → List ℕ
cover o k given size x frame = (words_at k frame o ++ given) ++ words_of size frame x

-- so many words that lie among those covered, at a whole number of words
abbrev pub IsAligned : (o k size x : ℕ) → ℕ → ℕ → Type 0
IsAligned o k size x j m = ((i : ℕ) × (j ≡ o + 2 * i) × (i + m ≤ k)) ⊎ ((i : ℕ) × (j ≡ x + 2 * i) × (2 * i + 2 * m ≤ size))

module _ (o k : ℕ) (given : List ℕ) (size x : ℕ) (apart : o + 2 * k ≤ x) where
  pub total : (frame : List ℕ) → sum (cover o k given size x frame) ≡ sum (words_at k frame o) + sum given + sum (words_of size frame x)
  total frame =
      sum_by-append (λ (w : ℕ). w) (words_at k frame o ++ given) (words_of size frame x)
      ∙ ap (λ (z : ℕ). z + sum (words_of size frame x)) (sum_by-append (λ (w : ℕ). w) (words_at k frame o) given)

  pub are-covered-words : (frame : List ℕ) → EachByte frame → AreWords given → AreWords (cover o k given size x frame)
  are-covered-words frame bytes fit =
      All-append (λ word. word < 65536) (words_at k frame o ++ given) (words_of size frame x)
      (All-append (λ word. word < 65536) (words_at k frame o) given (are-words frame bytes k o) fit)
      (are-words (take (x + size) frame) (take-bytes (x + size) frame bytes) ((size + 1) / 2) x)

  -- the same words, where the bytes are the same
  pub cover-same : (a b : List ℕ) → ((i : ℕ) → o ≤ i → i < o + 2 * k → slice_index b i ≡ slice_index a i) → ((i : ℕ) → x ≤ i → i < x + size → slice_index b i ≡ slice_index a i)
      → cover o k given size x b ≡ cover o k given size x a
  cover-same a b first second =
      ap₂ (λ (v w : List ℕ). (v ++ given) ++ w) (words_at-same a b k o first)
      (words_at-same (take (x + size) a) (take (x + size) b) ((size + 1) / 2) x (λ i l m. same i l (cases_lt i (x + size))))
    where
      same : (i : ℕ) → x ≤ i → (i < x + size) ⊎ (x + size ≤ i) → slice_index (take (x + size) b) i ≡ slice_index (take (x + size) a) i
      same i l (inl m) = take-same (x + size) a b i (second i l m)
      same i l (inr m) = take-past (x + size) b i m ∙ sym (take-past (x + size) a i m)

  -- the total, where only such words differ
  pub total-changed : (a b : List ℕ) (j m : ℕ) → IsAligned o k size x j m → ((i : ℕ) → o ≤ i → (i < j) ⊎ (j + 2 * m ≤ i) → slice_index b i ≡ slice_index a i)
      → sum (cover o k given size x b) + sum (words_at m a j) ≡ sum (cover o k given size x a) + sum (words_at m b j)
  total-changed a b j m (inl h) same =
      let first = sum-changed a b k h.0 m o j h.1 h.2 (λ i l n. same i l (inl n)) (λ i l. same i (omega (arith, h.1, l)) (inr l)) in
      let second : sum (words_of size b x) ≡ sum (words_of size a x) =
      ap sum (words_at-same (take (x + size) a) (take (x + size) b) ((size + 1) / 2) x
      (λ i l n. take-same (x + size) a b i (same i (omega (arith, l, apart)) (inr (omega (arith, h.1, h.2, l, apart)))))) in
      omega (arith, total a, total b, first, second)
  total-changed a b j m (inr h) same =
      let first : sum (words_at k b o) ≡ sum (words_at k a o) = ap sum (words_at-same a b k o (λ i l n. same i l (inl (omega (arith, h.1, n, apart))))) in
      let second = sum-changed (take (x + size) a) (take (x + size) b) ((size + 1) / 2) h.0 m x j h.1 (omega (arith, h.2))
      (λ i l n. take-same (x + size) a b i (same i (omega (arith, l, apart)) (inl n)))
      (λ i l. take-same (x + size) a b i (same i (omega (arith, h.1, l, apart)) (inr l))) in
      let was = ap sum (words_at-same a (take (x + size) a) m j (λ i l n. take-byte (x + size) a i (omega (arith, h.1, h.2, n)))) in
      let is = ap sum (words_at-same b (take (x + size) b) m j (λ i l n. take-byte (x + size) b i (omega (arith, h.1, h.2, n)))) in
      omega (arith, total a, total b, first, second, was, is)

  -- ---- m words from an offset on have changed, and then the checksum follows

  module _ (z : Zero) (a b : List ℕ) (bytes_a : EachByte a) (bytes_b : EachByte b) (j m s : ℕ) (changed : IsAligned o k size x j m) (checks : IsAligned o k size x s 1)
      (besides : (s + 2 ≤ j) ⊎ (j + 2 * m ≤ s)) (room : s + 2 ≤ length b)
      (same : (i : ℕ) → o ≤ i → (i < j) ⊎ (j + 2 * m ≤ i) → slice_index b i ≡ slice_index a i) where
    abbrev pub following : ℕ
    following = after_words z m j a b (big_endian_at 2 a s)

    abbrev pub followed_by_sum : List ℕ
    followed_by_sum = with_number 2 b s following

    congruent : Congruent (following + sum (words_at m b j)) (big_endian_at 2 a s + sum (words_at m a j)) × (following < 65536)
    congruent = words-congruent z a b bytes_a bytes_b m j (big_endian_at 2 a s) (word-lt a bytes_a s)

    after : (i : ℕ) → (i < s) ⊎ (s + 2 ≤ i) → slice_index followed_by_sum i ≡ slice_index b i
    after i (inl l) = with_number-before 2 b s following room i l
    after i (inr l) = with_number-after 2 b s following room i l

    -- the checksum is covered, and so none of what stands before the header
    begins : IsAligned o k size x s 1 → o ≤ s
    begins (inl h) = omega (arith, h.1)
    begins (inr h) = omega (arith, h.1, apart)

    kept : big_endian_at 2 b s ≡ big_endian_at 2 a s
    kept = number-same a b 2 s (λ i l n. same i (omega (arith, l, begins checks)) (by i l n besides))
      where
        by : (i : ℕ) → s ≤ i → i < s + 2 → (s + 2 ≤ j) ⊎ (j + 2 * m ≤ s) → (i < j) ⊎ (j + 2 * m ≤ i)
        by i l n (inl p) = inl (omega arith)
        by i l n (inr p) = inr (omega arith)

    pub follows-right : AreWords given → EachByte followed_by_sum → 0 < sum (cover o k given size x followed_by_sum)
        → IsRight (cover o k given size x a) → IsRight (cover o k given size x followed_by_sum)
    follows-right fit bytes some =
        let first = total-changed a b j m changed same in
        let second = total-changed b followed_by_sum s 1 checks (λ i l n. after i n) in
        let was = sum-one b s ∙ kept in
        let is = sum-one followed_by_sum s ∙ with_number-reads 2 b s following room ∙ mod-eq_of_lt congruent.1 in
        stay-right (cover o k given size x a) (cover o k given size x followed_by_sum) (sum (words_at m a j)) (sum (words_at m b j)) (big_endian_at 2 a s) following
        (are-covered-words a bytes_a fit) (are-covered-words followed_by_sum bytes fit) some congruent.0
        (omega (arith, first, second, was, is))
