-- The last hexadecimal digit of a number stands after the digits of the rest.
use Rattle.std.proofs.Common.{◌≡◌, ℕ, zero, suc, ◌/◌, ◌%◌, ◌^◌, ◌<◌, ◌≤◌, false, cond, List, [], ◌∷◌, ◌++◌, refl, sym, ap, ◌∙◌, arith, append_assoc, eq-eqb, ne_eqb, inl, inr}
use Rattle.std.specs.Char.{digit_char}
use Rattle.std.specs.Fmt.{digit_glyph, digits_onto, digits}
use Rattle.std.proofs.lemmas.Bool.{cases_lt}

abbrev spelled : ℕ → ℕ → List ℕ → List ℕ
spelled k n acc = digits_onto k 16 false n acc

abbrev last_glyph : ℕ → ℕ
last_glyph n = digit_glyph false (n % 16)

spelled_last : (k n : ℕ) (acc : List ℕ) → n < 16 → spelled (suc k) n acc ≡ last_glyph n ∷ acc
spelled_last k n acc lt = ap (λ t. cond t (last_glyph n ∷ acc) (spelled k (n / 16) (last_glyph n ∷ acc))) (eq-eqb (n / 16) 0 (omega arith))

spelled_next : (k n : ℕ) (acc : List ℕ) → 16 ≤ n → spelled (suc k) n acc ≡ spelled k (n / 16) (last_glyph n ∷ acc)
spelled_next k n acc le = ap (λ t. cond t (last_glyph n ∷ acc) (spelled k (n / 16) (last_glyph n ∷ acc))) (ne_eqb (n / 16) 0 (λ e. omega arith))

spelled-append : (k n : ℕ) (acc : List ℕ) → spelled k n acc ≡ spelled k n [] ++ acc
spelled-append zero n acc = refl
spelled-append (suc k) n acc = elim (cases_lt n 16) [
  | inl lt ↦ spelled_last k n acc lt ∙ ap (λ t. t ++ acc) (sym (spelled_last k n [] lt))
  | inr le ↦ spelled_next k n acc le ∙ spelled-append k (n / 16) (last_glyph n ∷ acc) ∙ sym (append_assoc (spelled k (n / 16) []) (last_glyph n ∷ []) acc)
      ∙ ap (λ t. t ++ acc) (sym (spelled_next k n [] le ∙ spelled-append k (n / 16) (last_glyph n ∷ [])))
]

-- more places than digits change nothing
spelled_enough : (j k n : ℕ) (acc : List ℕ) → n < 16 ^ suc j → n < 16 ^ suc k → spelled (suc j) n acc ≡ spelled (suc k) n acc
spelled_enough zero k n acc p q = spelled_last zero n acc (omega arith) ∙ sym (spelled_last k n acc (omega arith))
spelled_enough (suc j) zero n acc p q = spelled_last (suc j) n acc (omega arith) ∙ sym (spelled_last zero n acc (omega arith))
spelled_enough (suc j) (suc k) n acc p q = elim (cases_lt n 16) [
  | inl lt ↦ spelled_last (suc j) n acc lt ∙ sym (spelled_last (suc k) n acc lt)
  | inr le ↦ spelled_next (suc j) n acc le ∙ spelled_enough j k (n / 16) (last_glyph n ∷ acc) (omega arith) (omega arith) ∙ sym (spelled_next (suc k) n acc le)
]

-- the digits of the rest of a number, and then its last one
pub digits_step : (n : ℕ) → 16 ≤ n → n < 2 ^ 128 → digits 16 false n ≡ digits 16 false (n / 16) ++ (digit_char (n % 16) ∷ [])
unfolding digits
digits_step n le small =
    spelled_next 63 n [] le ∙ spelled_enough 62 63 (n / 16) (last_glyph n ∷ []) (omega arith) (omega arith) ∙ spelled-append 64 (n / 16) (last_glyph n ∷ [])

pub digits_last : (n : ℕ) → n < 16 → digits 16 false n ≡ digit_char n ∷ []
unfolding digits
digits_last n lt = let same : n % 16 ≡ n = omega arith in spelled_last 63 n [] lt ∙ ap (λ d. digit_char d ∷ []) same
