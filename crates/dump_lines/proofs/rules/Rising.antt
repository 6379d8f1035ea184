-- What rising numbers say of the rule of a number.
use Rattle.std.proofs.Common.{◌≡◌, inl, inr, ℕ, ◌≤◌, ◌==◌, ◌||◌, if◌then◌else◌, List, [], ◌∷◌, Some, None, refl, sym, ap, ◌∙◌, eq-eqb, ne_eqb, arith}
use Rattle.std.specs.Prelude.{is_some}
use Rattle.std.proofs.lemmas.Bool.{cases_Bool, cond-true, cond-false}
use Rattle.spec_tables.specs.Rules.{Rule}
use Rattle.spec_tables.specs.Live.{is_live, rule_numbered}
use Rattle.pipe_model.proofs.Rising.{Rise}

-- no rule up to the bound below is among them
pub none_numbered : (low high n : ℕ) (rules : List Rule) → Rise low high rules → n ≤ low → rule_numbered n rules ≡ None
none_numbered low high n [] rise le = refl
none_numbered low high n (r ∷ rules) rise le =
    ap (λ t. if t then Some r else rule_numbered n rules) (ne_eqb r.number n (λ same. omega (arith, same, rise.0, le)))
    ∙ none_numbered r.number high n rules rise.2 (omega (arith, rise.0, le))

-- the first is found by its number, and others behind it
pub first_numbered : (r : Rule) (rules : List Rule) (n : ℕ) → r.number ≡ n → rule_numbered n (r ∷ rules) ≡ Some r
first_numbered r rules n same = ap (λ t. if t then Some r else rule_numbered n rules) (eq-eqb r.number n same)

pub later_numbered : (r : Rule) (rules : List Rule) (n : ℕ) → (r.number ≡ n → ⊥) → rule_numbered n (r ∷ rules) ≡ rule_numbered n rules
later_numbered r rules n other = ap (λ t. if t then Some r else rule_numbered n rules) (ne_eqb r.number n other)

-- a rule is live where it is found
pub is_live-rule_numbered : (n : ℕ) (rules : List Rule) → is_live n rules ≡ is_some (rule_numbered n rules)
is_live-rule_numbered n [] = refl
is_live-rule_numbered n (r ∷ rules) = elim (cases_Bool (r.number == n)) [
  | inl here ↦ ap (λ b. b || is_live n rules) here ∙ sym (ap is_some (cond-true (r.number == n) (Some r) (rule_numbered n rules) here))
  | inr other ↦
      ap (λ b. b || is_live n rules) other ∙ is_live-rule_numbered n rules
      ∙ sym (ap is_some (cond-false (r.number == n) (Some r) (rule_numbered n rules) other))
]
