-- What the operations on keys and masks keep: a number for each field, within its width.
use Rattle.std.proofs.Common.{Bool, true, false, if◌then◌else◌, nat_le, le_refl, ◌≡◌, ℕ, zero, suc, ◌<◌, ◌≤◌, ◌^◌, List, [], ◌∷◌, length, set, replicate, bit_or, refl, sym, ap, ◌∙◌, subst, ⊎_elim, lit<, arith}
use Rattle.std.proofs.lemmas.Bool.{cases_eq, cases_lt}
use Rattle.std.proofs.lemmas.List.{length-set, length-replicate, get_or-set_same, get_or-set_other, get_or-replicate, get_or_past}
use Rattle.std.proofs.lemmas.Nat.{and_le_l, or_lt, pow_pos}
use Rattle.std.specs.Int.Bits.{or_zero_r}
use Rattle.spec_keys.specs.declared.field_id.FieldId.{FieldId}
use Rattle.spec_keys.specs.declared.field_id.FieldId.TheVariants.{InPort}
use Rattle.spec_keys.specs.Fields.{place_of, width_of, widths, stages, field_count}
use Rattle.spec_keys.specs.Stages.{through, staged}
use Rattle.spec_keys.specs.Keys.{number_at, value_of, none, masked, joined, common_bits, only_at, IsKey}

-- a field has its place in the key
pub place_of-within : (f : FieldId) → place_of f < field_count
place_of-within InPort = lit< tt
place_of-within _ = lit< tt

-- the width that stands at a field's place is the field's
number_at-widths : (f : FieldId) → number_at widths (place_of f) ≡ width_of f
unfolding widths
number_at-widths InPort = refl
number_at-widths _ = refl

-- the number of a field is within its width
pub within_width : (key : List ℕ) (f : FieldId) → IsKey key → value_of key f < 2 ^ width_of f
within_width key f is_key = subst (λ w. value_of key f < 2 ^ w) (number_at-widths f) (is_key.fit (place_of f))

-- so it is with bits added that its field holds
pub or_within_width : (mask : List ℕ) (f : FieldId) (more : ℕ) → IsKey mask → more < 2 ^ width_of f → bit_or (value_of mask f) more < 2 ^ width_of f
or_within_width mask f more is_key fits = or_lt (width_of f) (value_of mask f) more (within_width mask f is_key) fits

number_at-zeros : (n p : ℕ) → number_at (replicate n 0) p ≡ 0
number_at-zeros n p =
    ⊎_elim
    (λ (within : p < n). get_or-replicate n p 0 0 within)
    (λ (past : n ≤ p). get_or_past (replicate n 0) p 0 (omega (arith, length-replicate {A = ℕ} n 0)))
    (cases_lt p n)

none-is_key : IsKey none
unfolding none
none-is_key = record {
  fields = refl;
  fit = λ p. omega (arith, number_at-zeros field_count p, pow_pos (number_at widths p));
}

-- the key with 0 everywhere
pub key_from_none : (key : List ℕ) → key ≡ none → IsKey key
key_from_none key is_none = subst IsKey (sym is_none) none-is_key

set-is_key : (key : List ℕ) (f : FieldId) (value : ℕ) → IsKey key → value < 2 ^ width_of f → IsKey (set key (place_of f) value)
set-is_key key f value is_key fits =
    let place = place_of f in
    let within : place < length key = omega (arith, is_key.fields, place_of-within f) in
    record {
      fields = length-set key place value ∙ is_key.fields;
      fit = λ p. ⊎_elim
          (λ (same : p ≡ place). subst (λ q. number_at (set key place value) q < 2 ^ number_at widths q) (sym same)
          (rw (get_or-set_same key place value 0 within, number_at-widths f) fits))
          (λ (other : p ≡ place → ⊥). rw (get_or-set_other key place p value 0 other) (is_key.fit p))
          (cases_eq p place);
    }

-- one number of a key replaced by one that its field holds
pub key_from_set : (old key : List ℕ) (f : FieldId) (value : ℕ) → key ≡ set old (place_of f) value → IsKey old → value < 2 ^ width_of f → IsKey key
key_from_set old key f value is_set is_key fits = subst IsKey (sym is_set) (set-is_key old f value is_key fits)

-- a masked number is no greater
number_at-masked : (m n : List ℕ) (p : ℕ) → number_at (masked m n) p ≤ number_at m p
unfolding masked
number_at-masked [] n p = omega arith
number_at-masked (a ∷ m) [] zero = omega arith
number_at-masked (a ∷ m) [] (suc p) = number_at-masked m [] p
number_at-masked (a ∷ m) (b ∷ n) zero = and_le_l a b
number_at-masked (a ∷ m) (b ∷ n) (suc p) = number_at-masked m n p

length-masked : (m n : List ℕ) → length (masked m n) ≡ length m
unfolding masked
length-masked [] n = refl
length-masked (a ∷ m) [] = ap suc (length-masked m [])
length-masked (a ∷ m) (b ∷ n) = ap suc (length-masked m n)

-- the bits that a mask has in common with another
pub common_bits-is_key : (m n : List ℕ) → IsKey m → IsKey (common_bits m n)
common_bits-is_key m n is_key = record {
  fields = length-masked m n ∙ is_key.fields;
  fit = λ p. omega (arith, number_at-masked m n p, is_key.fit p);
}

-- bits joined at one place leave the other numbers
pub joined-only_at : (m : List ℕ) (p more : ℕ) → p < length m → joined m (only_at p more) ≡ set m p (bit_or (number_at m p) more)
unfolding joined only_at
joined-only_at [] p more within = absurd (omega arith)
joined-only_at (a ∷ []) zero more within = refl
joined-only_at (a ∷ b ∷ m) zero more within = refl
joined-only_at (a ∷ m) (suc p) more within = rw (or_zero_r, joined-only_at m p more (omega arith)) refl

length-joined : (m n : List ℕ) → length m ≡ length n → length (joined m n) ≡ length m
unfolding joined
length-joined [] n e = sym e
length-joined (a ∷ m) [] e = refl
length-joined (a ∷ m) (b ∷ n) e = ap suc (length-joined m n (omega arith))

number_at-joined : (m n : List ℕ) (p w : ℕ) → number_at m p < 2 ^ w → number_at n p < 2 ^ w → number_at (joined m n) p < 2 ^ w
unfolding joined
number_at-joined [] n p w h k = k
number_at-joined (a ∷ m) [] p w h k = h
number_at-joined (a ∷ m) (b ∷ n) zero w h k = or_lt w a b h k
number_at-joined (a ∷ m) (b ∷ n) (suc p) w h k = number_at-joined m n p w h k

-- the bits of either of two masks
pub joined-is_key : (m n : List ℕ) → IsKey m → IsKey n → IsKey (joined m n)
joined-is_key m n a b = record {
  fields = length-joined m n (a.fields ∙ sym b.fields) ∙ a.fields;
  fit = λ p. number_at-joined m n p (number_at widths p) (a.fit p) (b.fit p);
}

length-through : (stage : ℕ) (list m : List ℕ) → length list ≡ length m → length (through stage list m) ≡ length m
unfolding through
length-through stage [] [] e = refl
length-through stage [] (b ∷ m) e = e
length-through stage (s ∷ list) [] e = refl
length-through stage (s ∷ list) (b ∷ m) e = ap suc (length-through stage list m (omega arith))

number_at-through : (stage : ℕ) (list m : List ℕ) (p : ℕ) → number_at (through stage list m) p ≤ number_at m p
unfolding through
number_at-through stage [] [] p = le_refl (number_at [] p)
number_at-through stage [] (b ∷ m) p = let z : number_at [] p ≡ 0 = get_or_past {X = ℕ} [] p 0 (omega arith) in omega arith
number_at-through stage (s ∷ list) [] p = le_refl (number_at [] p)
number_at-through stage (s ∷ list) (b ∷ m) zero = at (nat_le s stage)
  where
    at : (t : Bool) → (if t then b else 0) ≤ b
    at true = le_refl b
    at false = omega arith
number_at-through stage (s ∷ list) (b ∷ m) (suc p) = number_at-through stage list m p

-- the bits of a mask in the fields of some stages
pub staged-is_key : (stage : ℕ) (m : List ℕ) → IsKey m → IsKey (staged stage m)
unfolding stages
staged-is_key stage m a = record {
  fields = length-through stage stages m (sym a.fields) ∙ a.fields;
  fit = λ p. omega (arith, number_at-through stage stages m p, a.fit p);
}
