-- Masks joined in any order, and any number of times, come to the same.
use Rattle.std.proofs.Common.{◌≡◌, ℕ, max, true, List, [], ◌∷◌, ◌++◌, bit_or, inl, inr, refl, sym, ap, ap₂, ◌∙◌, subst, arith}
use Rattle.std.specs.Int.{bit_at}
use Rattle.std.specs.Int.Bits.{or_self}
use Rattle.std.proofs.lemmas.Nat.{or_comm}
use Rattle.std.proofs.lemmas.Nat.Bits.{bit_at_or, same_from_bits}
use Rattle.spec_keys.specs.Keys.{masked, agree, same, joined, covers, none}
use Rattle.spec_xlate.specs.Lookup.{added, union}
use Rattle.table_laws.proofs.KeyLaws.{SameBits, same_refl, same-eq, agree-masked, agree_from-masked, joined-left, joined-right}
use Rattle.table_laws.proofs.MemberLaws.{Among}

or_assoc : (a b c : ℕ) → bit_or (bit_or a b) c ≡ bit_or a (bit_or b c)
or_assoc a b c = same_from_bits _ _ (λ i. bit_at_or (bit_or a b) c i ∙ ap (λ (z : ℕ). max z (bit_at c i)) (bit_at_or a b i) ∙ three (bit_at a i) (bit_at b i) (bit_at c i) ∙ sym (bit_at_or a (bit_or b c) i ∙ ap (max (bit_at a i)) (bit_at_or b c i)))
  where
    three : (x y z : ℕ) → max (max x y) z ≡ max x (max y z)
    three x y z = omega arith

joined-nil : (m : List ℕ) → joined m [] ≡ m
unfolding joined
joined-nil [] = refl
joined-nil (a ∷ m) = refl

pub joined_comm : (m n : List ℕ) → joined m n ≡ joined n m
unfolding joined
joined_comm [] n = sym (joined-nil n)
joined_comm (a ∷ m) [] = refl
joined_comm (a ∷ m) (b ∷ n) = ap₂ (λ (z : ℕ) (zs : List ℕ). z ∷ zs) (or_comm a b) (joined_comm m n)

pub joined_assoc : (m n k : List ℕ) → joined (joined m n) k ≡ joined m (joined n k)
unfolding joined
joined_assoc [] n k = refl
joined_assoc (a ∷ m) [] k = refl
joined_assoc (a ∷ m) (b ∷ n) [] = refl
joined_assoc (a ∷ m) (b ∷ n) (c ∷ k) = ap₂ (λ (z : ℕ) (zs : List ℕ). z ∷ zs) (or_assoc a b c) (joined_assoc m n k)

pub joined_self : (m : List ℕ) → joined m m ≡ m
unfolding joined
joined_self [] = refl
joined_self (a ∷ m) = ap₂ (λ (z : ℕ) (zs : List ℕ). z ∷ zs) (or_self a) (joined_self m)

-- ---- within a mask

-- every bit of x is in m
unfoldable pub Within : List ℕ → List ℕ → Type 0
Within x m = joined x m ≡ m

pub covers_from-Within : (x m : List ℕ) → Within x m → covers m x ≡ true
unfolding Within
covers_from-Within x m h = ap (λ (z : List ℕ). same z m) (joined_comm m x ∙ h) ∙ same_refl m

pub Within_trans : (x y z : List ℕ) → Within x y → Within y z → Within x z
unfolding Within
Within_trans x y z p q = ap (joined x) (sym q) ∙ sym (joined_assoc x y z) ∙ ap (λ (w : List ℕ). joined w z) p ∙ q

within-joined : (x y z : List ℕ) → Within x z → Within y z → Within (joined x y) z
unfolding Within
within-joined x y z p q = joined_assoc x y z ∙ ap (joined x) q ∙ p

within-left : (m x : List ℕ) → Within m (joined m x)
unfolding Within
within-left m x = sym (joined_assoc m m x) ∙ ap (λ (z : List ℕ). joined z x) (joined_self m)

within-right : (m x : List ℕ) → Within x (joined m x)
unfolding Within
within-right m x = ap (joined x) (joined_comm m x) ∙ sym (joined_assoc x x m) ∙ ap (λ (z : List ℕ). joined z m) (joined_self x) ∙ joined_comm x m

within_antisym : (u v : List ℕ) → Within u v → Within v u → u ≡ v
unfolding Within
within_antisym u v p q = sym q ∙ joined_comm v u ∙ p

-- ---- unions

pub added-append : (m : List ℕ) (xs ys : List (List ℕ)) → added m (xs ++ ys) ≡ added (added m xs) ys
added-append m [] ys = refl
added-append m (x ∷ xs) ys = added-append (joined m x) xs ys

-- what comes first, comes in
pub Within-added_first : (m : List ℕ) (xs : List (List ℕ)) → Within m (added m xs)
unfolding Within
Within-added_first m [] = joined_self m
Within-added_first m (x ∷ xs) = Within_trans m (joined m x) (added (joined m x) xs) (within-left m x) (Within-added_first (joined m x) xs)

pub Within-added : (m x : List ℕ) (xs : List (List ℕ)) → Among x xs → Within x (added m xs)
Within-added m x [] h = absurd h
Within-added m x (y ∷ ys) (inl e) = Within_trans x (joined m y) _ (subst (λ (z : List ℕ). Within z (joined m y)) (sym e) (within-right m y)) (Within-added_first (joined m y) ys)
Within-added m x (y ∷ ys) (inr h) = Within-added (joined m y) x ys h

within-all : (m z : List ℕ) (xs : List (List ℕ)) → Within m z → ((x : List ℕ) → Among x xs → Within x z) → Within (added m xs) z
within-all m z [] p q = p
within-all m z (x ∷ xs) p q = within-all (joined m x) z xs (within-joined m x z p (q x (inl refl))) (λ y h. q y (inr h))

-- lists of the same masks come to the same
pub added-same : (m : List ℕ) (xs ys : List (List ℕ)) → ((x : List ℕ) → Among x xs → Among x ys)
    → ((y : List ℕ) → Among y ys → Among y xs) → added m xs ≡ added m ys
added-same m xs ys p q = within_antisym (added m xs) (added m ys)
    (within-all m (added m ys) xs (Within-added_first m ys) (λ x h. Within-added m x ys (p x h)))
    (within-all m (added m xs) ys (Within-added_first m xs) (λ y h. Within-added m y xs (q y h)))

-- ---- keys that agree on a union agree on each of its masks

pub SameBits_from-added : (a b m : List ℕ) (ms : List (List ℕ)) → masked a (added m ms) ≡ masked b (added m ms)
    → (masked a m ≡ masked b m) × SameBits a b ms
SameBits_from-added a b m [] e = (e, tt)
SameBits_from-added a b m (n ∷ ns) e =
    let r = SameBits_from-added a b (joined m n) ns e in
    (joined-left a b m n r.0, (joined-right a b m n r.0, r.1))

pub SameBits_from-union : (a b : List ℕ) (ms : List (List ℕ)) → masked a (union ms) ≡ masked b (union ms) → SameBits a b ms
SameBits_from-union a b ms e = (SameBits_from-added a b none ms e).1

-- keys that agree on a mask agree on each that it covers
pub agree-covers : (a b m n : List ℕ) → covers m n ≡ true → agree a b m ≡ true → agree a b n ≡ true
agree-covers a b m n c h =
    agree_from-masked a b n (joined-right a b m n (subst (λ (z : List ℕ). masked a z ≡ masked b z) (sym (same-eq (joined m n) m c)) (agree-masked a b m h)))
