-- A number below ten is one digit.
use Rattle.std.proofs.Common.{◌≡◌, ℕ, ◌/◌, ◌%◌, ◌<◌, false, cond, [], ◌∷◌, ap, ◌∙◌, arith, eq-eqb}
use Rattle.std.specs.Char.{digit_char}
use Rattle.std.specs.Fmt.{digit_glyph, digits_onto, digits}

pub one_digit : (n : ℕ) → n < 10 → digits 10 false n ≡ digit_char n ∷ []
unfolding digits
one_digit n lt =
    let same : n % 10 ≡ n = omega arith in
    let only = digit_glyph false (n % 10) ∷ [] in
    ap (λ t. cond t only (digits_onto 63 10 false (n / 10) only)) (eq-eqb (n / 10) 0 (omega arith)) ∙ ap (λ d. digit_char d ∷ []) same
