-- A text that is cut at a byte, and the parts that all such bytes cut it into.
use Rattle.std.proofs.Common.{◌≡◌, ℕ, ◌+◌, ◌<◌, Bool, true, false, List, [], ◌∷◌, length, take, drop, Some, None, refl, sym, ap, ◌∙◌, arith, length-drop}
use Rattle.std.specs.Prelude.{◌==◌, nat_lt}
use Rattle.std.specs.List.{slice_split, position_or_len, onto_first}
use Rattle.std.proofs.lemmas.List.Splits.{slice_split-cons_no, slice_split_first}
use Rattle.std.proofs.lemmas.Bool.Decides.{nat_tests}
use Rattle.std.proofs.lemmas.Bool.{ltb-true}
use Rattle.std.proofs.lemmas.Option.{same_Some}
use Rattle.spec_flow_text.specs.Numbers.{split_once}

-- where no element passes, the list is the one part
whole : {X : Type 0} (p : X → Bool) (xs : List X) → nat_lt (position_or_len p xs) (length xs) ≡ false → slice_split p xs ≡ xs ∷ []
whole p [] h = refl
whole p (x ∷ xs) h = heads (p x) refl (whole p xs)
  where
    heads : (b : Bool) → p x ≡ b → (nat_lt (position_or_len p xs) (length xs) ≡ false → slice_split p xs ≡ xs ∷ []) → slice_split p (x ∷ xs) ≡ (x ∷ xs) ∷ []
    heads true e ih =
        let none : position_or_len p (x ∷ xs) ≡ 0 = rw e refl in
        absurd (grind (arith, nat_tests, none, h))
    heads false e ih =
        let more : position_or_len p (x ∷ xs) ≡ 1 + position_or_len p xs = rw e refl in
        let past : nat_lt (position_or_len p xs) (length xs) ≡ false = grind (arith, nat_tests, more, h) in
        slice_split-cons_no p x xs e ∙ ap (onto_first x) (ih past)

-- a text without this byte, and one with it
pub none_cut : (byte : ℕ) (text : List ℕ) → split_once byte text ≡ None → slice_split (λ c. c == byte) text ≡ text ∷ []
none_cut byte text h = tests (nat_lt (position_or_len (λ c. c == byte) text) (length text)) refl
  where
    tests : (t : Bool) → nat_lt (position_or_len (λ c. c == byte) text) (length text) ≡ t → slice_split (λ c. c == byte) text ≡ text ∷ []
    tests true e = cc (rw e at h)
    tests false e = whole (λ c. c == byte) text e

pub some_split : (byte : ℕ) (text prefix rest : List ℕ) → split_once byte text ≡ Some (prefix, rest) → slice_split (λ c. c == byte) text ≡ prefix ∷ slice_split (λ c. c == byte) rest
some_split byte text prefix rest h = tests (nat_lt (position_or_len (λ c. c == byte) text) (length text)) refl
  where
    tests : (t : Bool) → nat_lt (position_or_len (λ c. c == byte) text) (length text) ≡ t → slice_split (λ c. c == byte) text ≡ prefix ∷ slice_split (λ c. c == byte) rest
    tests true e =
        let parts : Some (take (position_or_len (λ c. c == byte) text) text, drop (position_or_len (λ c. c == byte) text + 1) text) ≡ Some (prefix, rest) = rw e at h in
        let pair = same_Some _ _ parts in
        slice_split_first (λ c. c == byte) text 0 (ltb-true _ _ e) ∙ ap (λ (p : List ℕ × List ℕ). p.0 ∷ slice_split (λ c. c == byte) p.1) pair
    tests false e = cc (rw e at h)

-- what follows the byte is shorter than the text
pub shorter : (byte : ℕ) (text prefix rest : List ℕ) → Some (prefix, rest) ≡ split_once byte text → length rest < length text
shorter byte text prefix rest is = tests (nat_lt (position_or_len (λ c. c == byte) text) (length text)) refl
  where
    behind : (i : ℕ) → i < length text → drop (i + 1) text ≡ rest → length rest < length text
    behind i within same = omega (arith, within, length-drop (i + 1) text, ap length same)

    tests : (t : Bool) → nat_lt (position_or_len (λ c. c == byte) text) (length text) ≡ t → length rest < length text
    tests true e =
        let parts : Some (take (position_or_len (λ c. c == byte) text) text, drop (position_or_len (λ c. c == byte) text + 1) text) ≡ Some (prefix, rest) = rw e at (sym is) in
        behind (position_or_len (λ c. c == byte) text) (ltb-true _ _ e) (ap (λ (p : List ℕ × List ℕ). p.1) (same_Some _ _ parts))
    tests false e = cc (rw e at (sym is))
