-- Where a text is cut.
use Rattle.std.proofs.Common.{◌≡◌, ℕ, suc, ◌+◌, ◌<◌, ◌≤◌, ◌⊎◌, inl, inr, Bool, true, false, cond, List, [], ◌∷◌, ◌++◌, length, drop, Some, None, refl, sym, ap, ◌∙◌, arith, length-append, eqb-true, eq-eqb}
use Rattle.std.specs.Prelude.{not, ◌==◌, nat_lt, position}
use Rattle.std.specs.List.{list_all, take_while, position_or_len}
use Rattle.std.specs.Option.{option_map}
use Rattle.std.proofs.Math.Seq.{take-append_seam, drop-append-add}
use Rattle.std.proofs.lemmas.Bool.{cases_lt, and_from, and_parts, both_ways, not-true}
use Rattle.std.proofs.lemmas.Bool.Decides.{nat_tests}
use Rattle.std.proofs.lemmas.List.{drop-append-le, drop_all}
use Rattle.std.proofs.lemmas.List.Sums.{take_while-cons}
use Rattle.spec_flow_text.specs.Numbers.{split_once}

-- what stands after an element that ends the front is no part of the front
pub take_while-ended : {X : Type 0} (p : X → Bool) (xs rest : List X) (x : X) → p x ≡ false → take_while p (xs ++ x ∷ rest) ≡ take_while p xs
take_while-ended p [] rest x e = rw e refl
take_while-ended p (y ∷ ys) rest x e =
    take_while-cons p y (ys ++ x ∷ rest) ∙ (ap (λ front. cond (p y) (y ∷ front) []) (take_while-ended p ys rest x e) ∙ sym (take_while-cons p y ys))

-- one more element that passes is the last of the front, or stands after it
pub take_while-more : {X : Type 0} (p : X → Bool) (xs : List X) (x : X) → p x ≡ true
    → (take_while p (xs ++ x ∷ []) ≡ take_while p xs) ⊎ (take_while p (xs ++ x ∷ []) ≡ take_while p xs ++ x ∷ [])
take_while-more p [] x e = inr (rw e refl)
take_while-more p (y ∷ ys) x e = by_test y x (p y) (take_while-more p ys x e) (take_while-cons p y (ys ++ x ∷ [])) (take_while-cons p y ys)
  where
    by_test : {X : Type 0} {longer shorter l s : List X} (y x : X) (t : Bool) → (l ≡ s) ⊎ (l ≡ s ++ x ∷ [])
        → longer ≡ cond t (y ∷ l) [] → shorter ≡ cond t (y ∷ s) [] → (longer ≡ shorter) ⊎ (longer ≡ shorter ++ x ∷ [])
    by_test y x false ih a b = inl (a ∙ sym b)
    by_test y x true (inl same) a b = inl (a ∙ (ap (λ l. y ∷ l) same ∙ sym b))
    by_test y x true (inr more) a b = inr (a ∙ (ap (λ l. y ∷ l) more ∙ ap (λ l. l ++ x ∷ []) (sym b)))

-- where the first element stands that passes
pub position-cons : {X : Type 0} (p : X → Bool) (x : X) (xs : List X) → position p (x ∷ xs) ≡ cond (p x) (Some 0) (option_map (λ i. 1 + i) (position p xs))
position-cons p x xs = by_test (p x) (position_or_len p xs) (length xs)
  where
    found : (n : ℕ) (t : Bool) → cond t (Some (1 + n)) None ≡ option_map (λ i. 1 + i) (cond t (Some n) None)
    found n true = refl
    found n false = refl

    by_test : (t : Bool) (n len : ℕ) → cond (nat_lt (cond (not t) (1 + n) 0) (suc len)) (Some (cond (not t) (1 + n) 0)) None ≡ cond t (Some 0) (option_map (λ i. 1 + i) (cond (nat_lt n len) (Some n) None))
    by_test true n len = let within : nat_lt 0 (suc len) ≡ true = grind (arith, nat_tests) in rw within refl
    by_test false n len =
        let same : nat_lt (1 + n) (suc len) ≡ nat_lt n len = grind (arith, nat_tests) in
        rw same (found n (nat_lt n len))

pub position-more : {X : Type 0} (p : X → Bool) (xs : List X) (x : X) → p x ≡ false → position p (xs ++ x ∷ []) ≡ position p xs
position-more p [] x e = position-cons p x [] ∙ rw e refl
position-more p (y ∷ ys) x e =
    position-cons p y (ys ++ x ∷ []) ∙ (ap (λ o. cond (p y) (Some 0) (option_map (λ i. 1 + i) o)) (position-more p ys x e) ∙ sym (position-cons p y ys))

-- what stands from a place on, with one more element at the end
pub drop-more : {X : Type 0} (at : ℕ) (xs : List X) (x : X) → (drop at (xs ++ x ∷ []) ≡ drop at xs) ⊎ (drop at (xs ++ x ∷ []) ≡ drop at xs ++ x ∷ [])
drop-more at xs x = by_place at xs x (cases_lt (length xs) at)
  where
    by_place : {X : Type 0} (at : ℕ) (xs : List X) (x : X) → (length xs < at) ⊎ (at ≤ length xs)
        → (drop at (xs ++ x ∷ []) ≡ drop at xs) ⊎ (drop at (xs ++ x ∷ []) ≡ drop at xs ++ x ∷ [])
    by_place at xs x (inl past) =
        let longer : length (xs ++ x ∷ []) ≤ at = omega (arith, length-append xs (x ∷ [])) in
        inl (drop_all at (xs ++ x ∷ []) longer ∙ sym (drop_all at xs (omega arith)))
    by_place at xs x (inr within) = inr (drop-append-le at xs (x ∷ []) within)

-- ---- at a byte

-- a text has this byte nowhere
abbrev pub lacks : ℕ → List ℕ → Bool
lacks byte text = list_all (λ c. not (c == byte)) text

-- what passes a test that the byte fails
pub lacks_by : (q : ℕ → Bool) (byte : ℕ) (text : List ℕ) → q byte ≡ false → list_all q text ≡ true → lacks byte text ≡ true
lacks_by q byte [] e h = refl
lacks_by q byte (c ∷ cs) e h =
    let p = and_parts (q c) (list_all q cs) h in
    and_from (not (c == byte)) (lacks byte cs) (by_test (c == byte) refl p.0) (lacks_by q byte cs e p.1)
  where
    by_test : (t : Bool) → (c == byte) ≡ t → q c ≡ true → not t ≡ true
    by_test false is k = refl
    by_test true is k = absurd (both_ways (q c) (rw (eqb-true c byte is) e) k)

position-front : (byte : ℕ) (front rest : List ℕ) → lacks byte front ≡ true → position (λ c. c == byte) (front ++ byte ∷ rest) ≡ Some (length front)
position-front byte [] rest h = position-cons (λ c. c == byte) byte rest ∙ rw (eq-eqb byte byte refl) refl
position-front byte (c ∷ cs) rest h =
    let p = and_parts (not (c == byte)) (lacks byte cs) h in
    let one : 1 + length cs ≡ length (c ∷ cs) = omega arith in
    position-cons (λ x. x == byte) c (cs ++ byte ∷ rest) ∙ (rw (not-true (c == byte) p.0, position-front byte cs rest p.1) (ap Some one))

pub split_once-front : (byte : ℕ) (front rest : List ℕ) → lacks byte front ≡ true → split_once byte (front ++ byte ∷ rest) ≡ Some (front, rest)
split_once-front byte front rest h = rw (position-front byte front rest h, take-append_seam front (byte ∷ rest), drop-append-add front (byte ∷ rest) 1) refl

pub take_while-all : (p : ℕ → Bool) (xs : List ℕ) → list_all p xs ≡ true → take_while p xs ≡ xs
take_while-all p [] h = refl
take_while-all p (x ∷ xs) h =
    let k = and_parts (p x) (list_all p xs) h in
    take_while-cons p x xs ∙ (rw k.0 (ap (λ ys. x ∷ ys) (take_while-all p xs k.1)))

-- the front up to a byte
pub take_while-front : (byte : ℕ) (front rest : List ℕ) → lacks byte front ≡ true → take_while (λ c. not (c == byte)) (front ++ byte ∷ rest) ≡ front
take_while-front byte front rest h = take_while-ended (λ c. not (c == byte)) front rest byte (rw (eq-eqb byte byte refl) refl) ∙ take_while-all (λ c. not (c == byte)) front h

position-lacks : (byte : ℕ) (text : List ℕ) → lacks byte text ≡ true → position (λ c. c == byte) text ≡ None
position-lacks byte [] h = refl
position-lacks byte (c ∷ cs) h =
    let p = and_parts (not (c == byte)) (lacks byte cs) h in
    position-cons (λ x. x == byte) c cs ∙ (rw (not-true (c == byte) p.0, position-lacks byte cs p.1) refl)

pub split_once-lacks : (byte : ℕ) (text : List ℕ) → lacks byte text ≡ true → split_once byte text ≡ None
split_once-lacks byte text h = rw (position-lacks byte text h) refl
