-- The first place of a byte, as it is searched and as it is defined.
use Rattle.std.proofs.Common.{◌≡◌, ℕ, List, length, Some, None, Option, refl, arith}
use Rattle.std.specs.Prelude.{◌==◌, position}
use Rattle.std.specs.List.{position_or_len}
use Rattle.std.proofs.lemmas.List.Sums.{position_or_len_is}
use Rattle.std.proofs.lemmas.Bool.{false_from_ne_true, lt-ltb}
use Rattle.memchr.specs.Find.{IsFirstByte, is_byte}

pub first_place : (byte : ℕ) (text : List ℕ) (r : Option ℕ) → IsFirstByte (is_byte byte) text r → r ≡ position (λ c. c == byte) text
first_place byte text None h =
    let end : position_or_len (λ c. c == byte) text ≡ length text =
    position_or_len_is (λ c. c == byte) text (length text) 0 (omega arith) (λ k l. false_from_ne_true _ (h k (omega arith) l)) (λ l. absurd (omega arith)) in
    rw end (grind arith)
first_place byte text (Some k) h =
    let here : position_or_len (λ c. c == byte) text ≡ k =
    position_or_len_is (λ c. c == byte) text k 0 (omega (arith, h.0.high)) (λ i l. false_from_ne_true _ (h.0.before i (omega arith) l)) (λ l. h.1) in
    rw (here, lt-ltb _ _ h.0.high) refl
