-- Keys under masks.
use Rattle.std.proofs.Common.{◌≡◌, ℕ, zero, suc, Bool, true, false, ◌&&◌, ◌==◌, nat_le, if◌then◌else◌, List, [], ◌∷◌, ◌++◌, length, bit_and, bit_or, refl, sym, ap, ap₂, ◌∙◌, eqb-true, arith}
use Rattle.std.proofs.lemmas.Nat.{and_comm, and_assoc, and_or_self, or_comm}
use Rattle.std.proofs.lemmas.List.{ext_get_or}
use Rattle.std.proofs.lemmas.Bool.Decides.{nat_tests}
use Rattle.spec_keys.specs.Keys.{number_at, masked, same, agree, joined, only_at}
use Rattle.spec_keys.specs.Stages.{through}

-- The two keys have the same bits wherever one of the masks has 1.
abbrev pub SameBits : List ℕ → List ℕ → List (List ℕ) → Type 0
SameBits a b [] = Unit {0}
SameBits a b (m ∷ ms) = (masked a m ≡ masked b m) × SameBits a b ms

pub and_zero : (x : ℕ) → bit_and x 0 ≡ 0
and_zero x = and_comm x 0

-- ---- same

pub same_refl : (xs : List ℕ) → same xs xs ≡ true
unfolding same
same_refl [] = refl
same_refl (x ∷ xs) = grind (arith, nat_tests, same_refl xs)

pub same-eq : (xs ys : List ℕ) → same xs ys ≡ true → xs ≡ ys
unfolding same
same-eq [] [] h = refl
same-eq [] (y ∷ ys) h = cc
same-eq (x ∷ xs) [] h = cc
same-eq (x ∷ xs) (y ∷ ys) h = heads (x == y) refl h (same-eq xs ys)
  where
    heads : (t : Bool) → (x == y) ≡ t → (t && same xs ys) ≡ true → (same xs ys ≡ true → xs ≡ ys) → (x ∷ xs) ≡ (y ∷ ys)
    heads true e h ih = ap₂ (λ (z : ℕ) (zs : List ℕ). z ∷ zs) (eqb-true x y e) (ih h)
    heads false e h ih = cc

pub agree-masked : (a b m : List ℕ) → agree a b m ≡ true → masked a m ≡ masked b m
agree-masked a b m h = same-eq (masked a m) (masked b m) h

pub agree_from-masked : (a b m : List ℕ) → masked a m ≡ masked b m → agree a b m ≡ true
agree_from-masked a b m e = ap (same (masked a m)) (sym e) ∙ same_refl (masked a m)

-- ---- parts of a mask by stages

-- the parts of a list in fields of this stage or an earlier one
keep : ℕ → List ℕ → List ℕ → List ℕ
keep s ts [] = []
keep s [] (x ∷ xs) = 0 ∷ keep s [] xs
keep s (t ∷ ts) (x ∷ xs) = (if nat_le t s then x else 0) ∷ keep s ts xs

through-nil : (s : ℕ) (m : List ℕ) → through s [] m ≡ []
unfolding through
through-nil s [] = refl
through-nil s (b ∷ bs) = refl

and-if : (t : Bool) (x b : ℕ) → bit_and x (if t then b else 0) ≡ (if t then bit_and x b else 0)
and-if true x b = refl
and-if false x b = and_zero x

if-same : (t : Bool) (z : ℕ) → (if t then z else z) ≡ z
if-same true z = refl
if-same false z = refl

masked-through : (s : ℕ) (ts a m : List ℕ) → masked a (through s ts m) ≡ keep s ts (masked a m)
unfolding masked through keep
masked-through s ts [] m = refl
masked-through s [] (x ∷ xs) [] = ap (λ (z : List ℕ). 0 ∷ z) (masked-through s [] xs [])
masked-through s [] (x ∷ xs) (b ∷ bs) = ap (λ (z : List ℕ). 0 ∷ z) (ap (masked xs) (sym (through-nil s bs)) ∙ masked-through s [] xs bs)
masked-through s (t ∷ ts) (x ∷ xs) [] = ap₂ (λ (z : ℕ) (zs : List ℕ). z ∷ zs) (sym (if-same (nat_le t s) 0)) (masked-through s ts xs [])
masked-through s (t ∷ ts) (x ∷ xs) (b ∷ bs) = ap₂ (λ (z : ℕ) (zs : List ℕ). z ∷ zs) (and-if (nat_le t s) x b) (masked-through s ts xs bs)

-- keys that have the same bits under a mask have the same bits under its part
pub masked_through-same : (s : ℕ) (ts a b m : List ℕ) → masked a m ≡ masked b m → masked a (through s ts m) ≡ masked b (through s ts m)
masked_through-same s ts a b m e = masked-through s ts a m ∙ ap (keep s ts) e ∙ sym (masked-through s ts b m)

-- ---- field by field

pub number_at-masked : (a m : List ℕ) (q : ℕ) → number_at (masked a m) q ≡ bit_and (number_at a q) (number_at m q)
unfolding masked
number_at-masked [] m q = refl
number_at-masked (x ∷ xs) [] zero = sym (and_zero x)
number_at-masked (x ∷ xs) [] (suc q) = number_at-masked xs [] q
number_at-masked (x ∷ xs) (b ∷ bs) zero = refl
number_at-masked (x ∷ xs) (b ∷ bs) (suc q) = number_at-masked xs bs q

pub length-masked : (a m : List ℕ) → length (masked a m) ≡ length a
unfolding masked
length-masked [] m = refl
length-masked (x ∷ xs) [] = ap suc (length-masked xs [])
length-masked (x ∷ xs) (b ∷ bs) = ap suc (length-masked xs bs)

pub masked_from-places : (a b m : List ℕ) → length b ≡ length a
    → ((q : ℕ) → bit_and (number_at a q) (number_at m q) ≡ bit_and (number_at b q) (number_at m q)) → masked a m ≡ masked b m
masked_from-places a b m n e = ext_get_or 0 _ _ (length-masked a m ∙ sym n ∙ sym (length-masked b m)) (λ q l. number_at-masked a m q ∙ e q ∙ sym (number_at-masked b m q))

pub places_from-masked : (a b m : List ℕ) (q : ℕ) → masked a m ≡ masked b m
    → bit_and (number_at a q) (number_at m q) ≡ bit_and (number_at b q) (number_at m q)
places_from-masked a b m q e = sym (number_at-masked a m q) ∙ ap (λ (z : List ℕ). number_at z q) e ∙ number_at-masked b m q

pub length_from-masked : (a b m : List ℕ) → masked a m ≡ masked b m → length b ≡ length a
length_from-masked a b m e = sym (length-masked b m) ∙ ap length (sym e) ∙ length-masked a m

pub number_at-only_at : (q bits : ℕ) → number_at (only_at q bits) q ≡ bits
unfolding only_at
number_at-only_at zero bits = refl
number_at-only_at (suc q) bits = number_at-only_at q bits

-- what keys that have the same bits of one field have in common
pub only_at-same : (a b : List ℕ) (q bits : ℕ) → masked a (only_at q bits) ≡ masked b (only_at q bits)
    → bit_and (number_at a q) bits ≡ bit_and (number_at b q) bits
only_at-same a b q bits e = sym (at a) ∙ ap (λ (z : List ℕ). number_at z q) e ∙ at b
  where
    at : (k : List ℕ) → number_at (masked k (only_at q bits)) q ≡ bit_and (number_at k q) bits
    at k = number_at-masked k (only_at q bits) q ∙ ap (bit_and (number_at k q)) (number_at-only_at q bits)

-- ---- joined masks

pub number_at-joined : (m n : List ℕ) (q : ℕ) → number_at (joined m n) q ≡ bit_or (number_at m q) (number_at n q)
unfolding joined
number_at-joined [] n q = refl
number_at-joined (a ∷ m) [] q = or_comm 0 (number_at (a ∷ m) q)
number_at-joined (a ∷ m) (b ∷ n) zero = refl
number_at-joined (a ∷ m) (b ∷ n) (suc q) = number_at-joined m n q

-- numbers that agree on the bits of a mask agree on the bits of a part
and-part : (x y u v : ℕ) → bit_and u v ≡ v → bit_and x u ≡ bit_and y u → bit_and x v ≡ bit_and y v
and-part x y u v part e = at x ∙ ap (λ (z : ℕ). bit_and z v) e ∙ sym (at y)
  where
    at : (z : ℕ) → bit_and z v ≡ bit_and (bit_and z u) v
    at z = ap (bit_and z) (sym part) ∙ sym (and_assoc v z u)

pub joined-left : (a b m n : List ℕ) → masked a (joined m n) ≡ masked b (joined m n) → masked a m ≡ masked b m
joined-left a b m n e = masked_from-places a b m (length_from-masked a b (joined m n) e) (λ q. and-part (number_at a q) (number_at b q) (number_at (joined m n) q) (number_at m q)
    (ap (λ (z : ℕ). bit_and z (number_at m q)) (number_at-joined m n q ∙ or_comm (number_at m q) (number_at n q)) ∙ and_or_self (number_at m q) (number_at n q))
    (places_from-masked a b (joined m n) q e))

pub joined-right : (a b m n : List ℕ) → masked a (joined m n) ≡ masked b (joined m n) → masked a n ≡ masked b n
joined-right a b m n e = masked_from-places a b n (length_from-masked a b (joined m n) e) (λ q. and-part (number_at a q) (number_at b q) (number_at (joined m n) q) (number_at n q)
    (ap (λ (z : ℕ). bit_and z (number_at n q)) (number_at-joined m n q) ∙ and_or_self (number_at n q) (number_at m q))
    (places_from-masked a b (joined m n) q e))

pub SameBits-append : (a b : List ℕ) (ms ns : List (List ℕ)) → SameBits a b (ms ++ ns) → SameBits a b ms × SameBits a b ns
SameBits-append a b [] ns h = (tt, h)
SameBits-append a b (m ∷ ms) ns h = let r = SameBits-append a b ms ns h.1 in ((h.0, r.0), r.1)
