-- Keys that agree on a mask, and matches that speak of them.
use Rattle.std.proofs.Common.{◌≡◌, ℕ, true, List, length, bit_and, sym, ap, ◌∙◌}
use Rattle.std.proofs.lemmas.Nat.{and_comm, and_assoc}
use Rattle.spec_keys.specs.Keys.{number_at, masked, overlap}
use Rattle.spec_tables.specs.Rules.{Match, is_matched}
use Rattle.table_laws.proofs.KeyLaws.{agree-masked, agree_from-masked, masked_from-places, places_from-masked, number_at-masked, length_from-masked}

pub masked-common : (k x m n : List ℕ) → length x ≡ length k → masked k m ≡ masked x m → masked k (masked m n) ≡ masked x (masked m n)
masked-common k x m n l e = masked_from-places k x (masked m n) l (λ q. at k q ∙ ap (λ (z : ℕ). bit_and z (number_at n q)) (places_from-masked k x m q e) ∙ sym (at x q))
  where
    at : (y : List ℕ) (q : ℕ) → bit_and (number_at y q) (number_at (masked m n) q) ≡ bit_and (bit_and (number_at y q) (number_at m q)) (number_at n q)
    at y q = ap (bit_and (number_at y q)) (number_at-masked m n q) ∙ sym (and_assoc (number_at n q) (number_at y q) (number_at m q))

pub masked-fewer : (k x m n : List ℕ) → length x ≡ length k → masked k n ≡ masked x n → masked k (masked m n) ≡ masked x (masked m n)
masked-fewer k x m n l e = masked_from-places k x (masked m n) l (λ q. at k q ∙ ap (λ (z : ℕ). bit_and z (number_at m q)) (places_from-masked k x n q e) ∙ sym (at x q))
  where
    at : (y : List ℕ) (q : ℕ) → bit_and (number_at y q) (number_at (masked m n) q) ≡ bit_and (bit_and (number_at y q) (number_at n q)) (number_at m q)
    at y q =
        ap (bit_and (number_at y q)) (number_at-masked m n q ∙ and_comm (number_at m q) (number_at n q))
        ∙ sym (and_assoc (number_at m q) (number_at y q) (number_at n q))

-- a key that a match speaks of overlaps with it
pub matched-overlaps : (k mask : List ℕ) (m : Match) → is_matched k m ≡ true → overlap k mask m.key m.mask ≡ true
matched-overlaps k mask m h =
    let e = agree-masked k m.key m.mask h in
    agree_from-masked k m.key (masked mask m.mask) (masked-fewer k m.key mask m.mask (length_from-masked k m.key m.mask e) e)

-- matches that speak of one key overlap
pub both_overlap : (key : List ℕ) (p q : Match) → is_matched key p ≡ true → is_matched key q ≡ true → overlap p.key p.mask q.key q.mask ≡ true
both_overlap key p q mp mq =
    let ep = agree-masked key p.key p.mask mp in
    let eq = agree-masked key q.key (masked p.mask q.mask) (matched-overlaps key p.mask q mq) in
    agree_from-masked p.key q.key (masked p.mask q.mask)
    (sym (masked-common key p.key p.mask q.mask (length_from-masked key p.key p.mask ep) ep) ∙ eq)
