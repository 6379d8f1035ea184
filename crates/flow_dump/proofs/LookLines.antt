-- The line of a look is made of its parts.
use Rattle.std.proofs.Common.{◌≡◌, ℕ, zero, suc, ◌+◌, ◌/◌, ◌%◌, ◌<◌, ◌^◌, List, [], ◌∷◌, ◌++◌, length, set, refl, ap, sym, ◌∙◌, arith, append_assoc}
use Rattle.std.specs.Prelude.{codes}
use Rattle.std.specs.Fmt.{decimal}
use Rattle.std.proofs.Math.Seq.{set-append_seam}
use Rattle.std.proofs.lemmas.List.{length-append, length-set, set-set}
use Rattle.std.proofs.lemmas.Fmt.{decimal_digit, decimal_step}
use Rattle.spec_board.specs.declared.looked.Looked.{Looked}
use Rattle.spec_board.specs.Steps.{Look}
use Rattle.spec_board.specs.Texts.{line_of, step_text, looked_text}
use Rattle.flow_dump.specs.LookLines.{leading, head_text, tail_text, IsLookLine}

pub leading_some : (n : ℕ) → 0 < n → leading n ≡ decimal n
leading_some zero some = absurd (omega (arith, some))
leading_some (suc n) some = refl

abbrev last_digit : ℕ → List ℕ
last_digit p = (48 + p % 10) ∷ []

digits_by : (p tens : ℕ) → p / 10 ≡ tens → p < 2 ^ 64 → decimal p ≡ leading tens ++ last_digit p
digits_by p zero is small = decimal_digit p (omega (arith, is)) ∙ ap (λ (n : ℕ). (48 + n) ∷ []) (omega (arith, is))
digits_by p (suc n) is small = decimal_step p (omega (arith, is)) small ∙ ap (λ (tens : ℕ). decimal tens ++ last_digit p) is

-- a number is the digits before its last one, and that
digits_of : (p : ℕ) → p < 2 ^ 64 → decimal p ≡ leading (p / 10) ++ last_digit p
digits_of p = digits_by p (p / 10) refl

pub line_of_look : (p : ℕ) (found : Looked) → p < 2 ^ 64
    → line_of (step_text (Look p found)) ≡ (head_text (p / 10) ++ last_digit p) ++ tail_text found
line_of_look p found small =
    let tail = codes " " ++ looked_text found in
    ap (λ (digits : List ℕ). line_of ((codes "look" ++ (codes " " ++ digits)) ++ tail)) (digits_of p small)
    ∙ append_assoc (codes "look " ++ (leading (p / 10) ++ last_digit p)) tail (codes "\n")
    ∙ ap (λ (text : List ℕ). text ++ tail_text found) (sym (append_assoc (codes "look ") (leading (p / 10)) (last_digit p)))

-- ---- the line that is kept

module _ (tens : ℕ) (found : Looked) where
  -- a text that was made of these parts is such a line
  pub is_made : (begun text : List ℕ) → begun ≡ head_text tens → text ≡ (begun ++ 48 ∷ []) ++ tail_text found
      → IsLookLine tens found (length begun) text
  is_made begun text head is =
      let whole : text ≡ begun ++ 48 ∷ tail_text found = is ∙ append_assoc begun (48 ∷ []) (tail_text found) in
      record {
        within = omega (arith, ap length whole, length-append begun (48 ∷ tail_text found));
        line = λ last.
            ap (λ (t : List ℕ). set t (length begun) last) whole ∙ set-append_seam begun 48 (tail_text found) last
            ∙ sym (append_assoc begun (last ∷ []) (tail_text found)) ∙ ap (λ (b : List ℕ). (b ++ last ∷ []) ++ tail_text found) head;
      }

  -- another digit leaves it such a line
  pub is_still : (digit last : ℕ) (text : List ℕ) → IsLookLine tens found digit text → IsLookLine tens found digit (set text digit last)
  is_still digit last text is = record {
    within = omega (arith, length-set text digit last, is.within);
    line = λ other. set-set text digit last other ∙ is.line other;
  }

-- with the last digit of a place it is the line of that place
pub line_at : (p : ℕ) (found : Looked) (digit : ℕ) (text : List ℕ) → p < 2 ^ 64 → IsLookLine (p / 10) found digit text
    → set text digit (48 + p % 10) ≡ line_of (step_text (Look p found))
line_at p found digit text small is = is.line (48 + p % 10) ∙ sym (line_of_look p found small)
