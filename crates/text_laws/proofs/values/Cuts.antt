-- Where a text is cut.
use Rattle.std.proofs.Common.{◌≡◌, ℕ, Bool, true, false, List, [], ◌∷◌, ◌++◌, length, Some, None, refl, arith, eq-eqb, length-append}
use Rattle.std.specs.Prelude.{not, ◌==◌, nat_lt}
use Rattle.std.specs.List.{list_all, position_or_len}
use Rattle.std.proofs.Math.Seq.{take-append_seam, drop-append-add}
use Rattle.std.proofs.lemmas.Bool.{and_parts}
use Rattle.std.proofs.lemmas.Bool.Decides.{nat_tests}
use Rattle.spec_flow_text.specs.Numbers.{split_once}

-- a text has this byte nowhere
abbrev pub lacks : ℕ → List ℕ → Bool
lacks byte text = list_all (λ c. not (c == byte)) text

position-lacks : (byte : ℕ) (text : List ℕ) → lacks byte text ≡ true → position_or_len (λ c. c == byte) text ≡ length text
position-lacks byte [] h = refl
position-lacks byte (c ∷ cs) h =
    let p = and_parts (not (c == byte)) (lacks byte cs) h in
    rw (p.0, position-lacks byte cs p.1) (omega arith)

pub split_once-lacks : (byte : ℕ) (text : List ℕ) → lacks byte text ≡ true → split_once byte text ≡ None
split_once-lacks byte text h =
    let at_end : nat_lt (position_or_len (λ c. c == byte) text) (length text) ≡ false = rw (position-lacks byte text h) (grind (arith, nat_tests)) in
    rw at_end refl

position-front : (byte : ℕ) (front rest : List ℕ) → lacks byte front ≡ true → position_or_len (λ c. c == byte) (front ++ byte ∷ rest) ≡ length front
position-front byte [] rest h = rw (eq-eqb byte byte refl) refl
position-front byte (c ∷ cs) rest h =
    let p = and_parts (not (c == byte)) (lacks byte cs) h in
    rw (p.0, position-front byte cs rest p.1) (omega arith)

pub split_once-front : (byte : ℕ) (front rest : List ℕ) → lacks byte front ≡ true → split_once byte (front ++ byte ∷ rest) ≡ Some (front, rest)
split_once-front byte front rest h =
    let within : nat_lt (length front) (length (front ++ byte ∷ rest)) ≡ true = rw (length-append front (byte ∷ rest)) (grind (arith, nat_tests)) in
    rw (position-front byte front rest h, within, take-append_seam front (byte ∷ rest), drop-append-add front (byte ∷ rest) 1) refl
