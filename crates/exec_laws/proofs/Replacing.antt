-- Bytes of which some were replaced, and the numbers in them.
use Rattle.std.proofs.Common.{◌≡◌, ℕ, zero, suc, ◌+◌, ◌-◌, ◌*◌, ◌/◌, ◌%◌, ◌^◌, ◌<◌, ◌≤◌, List, ◌++◌, length, take, drop, slice_index, ◌⊎◌, inl, inr, refl, sym, ap, ap₂, ◌∙◌, arith}
use Rattle.std.proofs.lemmas.List.{get_or_append_left, get_or-append_right, get_or-take, get_or-drop, length-append, length-drop, length-take-le}
use Rattle.std.proofs.lemmas.Nat.{div-add-mod', mod-mul-add, mod_below}
use Rattle.std.proofs.Math.Nat.{pow-succ'}
use Rattle.std.specs.Int.{byte_at}
use Rattle.spec_base.specs.Bytes.{big_endian, big_endian_at}
use Rattle.spec_exec.specs.Writing.{replaced, with_number}

module _ (bytes : List ℕ) (at : ℕ) (piece : List ℕ) (fits : at + length piece ≤ length bytes) where
  front : length (take at bytes) ≡ at
  front = length-take-le at bytes (omega arith)

  pub replaced-length : length (replaced bytes at piece) ≡ length bytes
  replaced-length =
      let a = length-append (take at bytes) (piece ++ drop (at + length piece) bytes) in
      let b = length-append piece (drop (at + length piece) bytes) in
      let c = length-drop (at + length piece) bytes in
      omega (arith, front)

  pub replaced-before : (i : ℕ) → i < at → slice_index (replaced bytes at piece) i ≡ slice_index bytes i
  replaced-before i l = get_or_append_left (take at bytes) _ 0 i (omega (arith, front)) ∙ get_or-take at bytes i 0 l

  pub replaced-in : (i : ℕ) → i < length piece → slice_index (replaced bytes at piece) (at + i) ≡ slice_index piece i
  replaced-in i l =
      let e : at + i - at ≡ i = omega arith in
      get_or-append_right (take at bytes) (piece ++ drop (at + length piece) bytes) at (at + i) 0 front (omega arith)
      ∙ ap (slice_index (piece ++ drop (at + length piece) bytes)) e ∙ get_or_append_left piece _ 0 i l

  pub replaced-after : (i : ℕ) → at + length piece ≤ i → slice_index (replaced bytes at piece) i ≡ slice_index bytes i
  replaced-after i l =
      let e : at + length piece + (i - at - length piece) ≡ i = omega arith in
      get_or-append_right (take at bytes) (piece ++ drop (at + length piece) bytes) at i 0 front (omega arith)
      ∙ get_or-append_right piece (drop (at + length piece) bytes) (length piece) (i - at) 0 refl (omega arith)
      ∙ get_or-drop (at + length piece) bytes (i - at - length piece) 0 ∙ ap (slice_index bytes) e

-- ---- numbers

pub big_endian-length : (n v : ℕ) → length (big_endian n v) ≡ n
big_endian-length zero v = refl
big_endian-length (suc n) v = let e = big_endian-length n v in omega arith

pub byte_at-is : (n v : ℕ) → byte_at n v ≡ v / 256 ^ n % 256
byte_at-is zero v = omega arith
byte_at-is (suc n) v = refl

-- the number of a byte and of those after it
parts-join : (p v : ℕ) → 0 < p → v / p % 256 * p + v % p ≡ v % (256 * p)
parts-join p v some =
    let whole = div-add-mod' v p in
    let high = div-add-mod' (v / p) 256 in
    let low = mod_below v p some in
    let byte = mod_below (v / p) 256 (omega arith) in
    sym (ap (λ (z : ℕ). z % (256 * p)) (sym (joins (v / p / 256) (v / p % 256) (v / p) p (v % p) v high whole)) ∙ mod-mul-add (v / p / 256) (256 * p) (v / p % 256 * p + v % p) (fits (v / p % 256) p (v % p) byte low))
  where
    spread : (a b p r : ℕ) → a * (256 * p) + (b * p + r) ≡ (a * 256 + b) * p + r
    spread a b p r = grind arith

    joins : (a b q p r v : ℕ) → a * 256 + b ≡ q → q * p + r ≡ v → a * (256 * p) + (b * p + r) ≡ v
    joins a b q p r v e f = spread a b p r ∙ ap (λ (z : ℕ). z * p + r) e ∙ f

    fits : (b p r : ℕ) → b < 256 → r < p → b * p + r < 256 * p
    fits b p r l m = grind arith

pub number-of : (n v : ℕ) (b : List ℕ) (at : ℕ) → ((i : ℕ) → i < n → slice_index b (at + i) ≡ slice_index (big_endian n v) i)
    → big_endian_at n b at ≡ v % 256 ^ n
unfolding big_endian_at
number-of zero v b at h = omega arith
number-of (suc n) v b at h =
    let here : at + 0 ≡ at = omega arith in
    let first = ap (slice_index b) (sym here) ∙ h 0 (omega arith) ∙ byte_at-is n v in
    let rest = number-of n v b (at + 1) (λ i l. ap (slice_index b) (next i) ∙ h (suc i) (omega arith)) in
    ap₂ (λ (x y : ℕ). x * 256 ^ n + y) first rest ∙ parts-join (256 ^ n) v (positive n) ∙ ap (λ (z : ℕ). v % z) (sym (pow-succ' 256 n))
  where
    next : (i : ℕ) → at + 1 + i ≡ at + suc i
    next i = omega arith

    positive : (n : ℕ) → 0 < 256 ^ n
    positive zero = omega arith
    positive (suc n) = let e = pow-succ' 256 n in let h = positive n in omega arith

pub number-same : (a b : List ℕ) (n at : ℕ) → ((i : ℕ) → at ≤ i → i < at + n → slice_index b i ≡ slice_index a i)
    → big_endian_at n b at ≡ big_endian_at n a at
unfolding big_endian_at
number-same a b zero at h = refl
number-same a b (suc n) at h =
    ap₂ (λ (x y : ℕ). x * 256 ^ n + y) (h at (omega arith) (omega arith)) (number-same a b n (at + 1) (λ i l m. h i (omega arith) (omega arith)))

-- a number that was put reads back, as far as the bytes go
module _ (n : ℕ) (bytes : List ℕ) (at v : ℕ) (fits : at + n ≤ length bytes) where
  room : at + length (big_endian n v) ≤ length bytes
  room = omega (arith, big_endian-length n v)

  pub with_number-length : length (with_number n bytes at v) ≡ length bytes
  with_number-length = replaced-length bytes at (big_endian n v) room

  pub with_number-reads : big_endian_at n (with_number n bytes at v) at ≡ v % 256 ^ n
  with_number-reads = number-of n v (with_number n bytes at v) at (λ i l. replaced-in bytes at (big_endian n v) room i (omega (arith, big_endian-length n v)))

  pub with_number-before : (i : ℕ) → i < at → slice_index (with_number n bytes at v) i ≡ slice_index bytes i
  with_number-before = replaced-before bytes at (big_endian n v) room

  pub with_number-after : (i : ℕ) → at + n ≤ i → slice_index (with_number n bytes at v) i ≡ slice_index bytes i
  with_number-after i l = replaced-after bytes at (big_endian n v) room i (omega (arith, big_endian-length n v))

  pub with_number-in : (i : ℕ) → i < n → slice_index (with_number n bytes at v) (at + i) ≡ slice_index (big_endian n v) i
  with_number-in i l = replaced-in bytes at (big_endian n v) room i (omega (arith, big_endian-length n v))

  pub with_number-apart : (k i : ℕ) → (i + k ≤ at) ⊎ (at + n ≤ i) → big_endian_at k (with_number n bytes at v) i ≡ big_endian_at k bytes i
  with_number-apart k i (inl l) = number-same bytes (with_number n bytes at v) k i (λ j m o. with_number-before j (omega arith))
  with_number-apart k i (inr l) = number-same bytes (with_number n bytes at v) k i (λ j m o. with_number-after j (omega arith))
