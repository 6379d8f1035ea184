-- A more specific match has all bits of the signature of another.
use Rattle.std.proofs.Common.{◌≡◌, ℕ, ◌+◌, ◌*◌, ◌/◌, ◌%◌, ◌^◌, ◌<◌, ◌==◌, ◌&&◌, min, max, true, List, [], ◌∷◌, bit_and, bit_or, refl, sym, ap, ap₂, ◌∙◌, arith, zero, suc}
use Rattle.std.specs.List.{fold}
use Rattle.std.proofs.lemmas.Bool.{and_parts, and_from, eq-eqb}
use Rattle.std.proofs.lemmas.Nat.{and_block, and_mod, and_shr, pow_pos}
use Rattle.std.proofs.lemmas.Nat.Bits.{bit_at_and, bit_at_or, bit_at_xor, bit_at-lt, same_from_bits}
use Rattle.std.specs.Int.{bit_at}
use Rattle.std.specs.Int.Bits.{and_self, and_zero_r, or_zero_r}
use Rattle.spec_keys.specs.declared.field_id.FieldId.{FieldId}
use Rattle.spec_keys.specs.Fields.{fields, place_of}
use Rattle.spec_keys.specs.Keys.{masked, joined, covers, agree, same, number_at, value_of}
use Rattle.spec_tables.specs.Rules.{Match, Rule, is_within, is_same_match}
use Rattle.spec_tables.specs.Edits.{Edit, is_in_table, is_reached_by, is_named_by, table_of}
use Rattle.ovs_fields.specs.Equality.{equal_from_same}
use Rattle.rule_tables.specs.Included.{IsNormalised, IsIncludedIn}
use Rattle.rule_tables.specs.Signatures.{shifted, shift_of, superimposed, halves, ones_of, zeros_of, signature_of, has_bits, includes}

-- the second number has no bit that the first one hasn't
abbrev Has : ℕ → ℕ → Type 0
Has a b = bit_and a b ≡ b

Has-or : (a b c d : ℕ) → Has a b → Has c d → Has (bit_or a c) (bit_or b d)
Has-or a b c d h k = same_from_bits (bit_and (bit_or a c) (bit_or b d)) (bit_or b d) at
  where
    from : (x y z w : ℕ) → min x y ≡ y → min z w ≡ w → min (max x z) (max y w) ≡ max y w
    from x y z w s t = omega (arith, s, t)

    at : (i : ℕ) → bit_at (bit_and (bit_or a c) (bit_or b d)) i ≡ bit_at (bit_or b d) i
    at i =
        let p = bit_at_and (bit_or a c) (bit_or b d) i in
        let q = bit_at_or a c i in
        let r = bit_at_or b d i in
        let s = sym (bit_at_and a b i) ∙ ap (λ (n : ℕ). bit_at n i) h in
        let t = sym (bit_at_and c d i) ∙ ap (λ (n : ℕ). bit_at n i) k in
        p ∙ ap₂ min q r ∙ from (bit_at a i) (bit_at b i) (bit_at c i) (bit_at d i) s t ∙ sym r

Has-mod : (a b w : ℕ) → Has a b → Has (a % 2 ^ w) (b % 2 ^ w)
Has-mod a b w h = sym (and_mod a b w) ∙ ap (λ (n : ℕ). n % 2 ^ w) h

Has-div : (a b w : ℕ) → Has a b → Has (a / 2 ^ w) (b / 2 ^ w)
Has-div a b w h = sym (and_shr a b w) ∙ ap (λ (n : ℕ). n / 2 ^ w) h

Has-times : (a b s : ℕ) → Has a b → Has (a * 2 ^ s) (b * 2 ^ s)
Has-times a b s h =
    ap₂ bit_and (sym (plus (a * 2 ^ s))) (sym (plus (b * 2 ^ s))) ∙ and_block s a b 0 0 (pow_pos s) (pow_pos s) ∙ plus (bit_and a b * 2 ^ s) ∙ ap (λ (n : ℕ). n * 2 ^ s) h
  where
    plus : (n : ℕ) → n + 0 ≡ n
    plus n = omega arith

Has-halves : (a b : ℕ) → Has a b → Has (halves a) (halves b)
Has-halves a b h = Has-or (a % 2 ^ 64) (b % 2 ^ 64) (a / 2 ^ 64) (b / 2 ^ 64) (Has-mod a b 64 h) (Has-div a b 64 h)

Has-superimposed : (of other : FieldId → ℕ) → ((f : FieldId) → Has (of f) (other f)) → (fs : List FieldId) (word less : ℕ) → Has word less
    → Has (fold (λ (w : ℕ) (f : FieldId). bit_or w (shifted f (of f))) word fs) (fold (λ (w : ℕ) (f : FieldId). bit_or w (shifted f (other f))) less fs)
Has-superimposed of other has [] word less h = h
Has-superimposed of other has (f ∷ fs) word less h =
    Has-superimposed of other has fs (bit_or word (shifted f (of f))) (bit_or less (shifted f (other f)))
    (Has-or word less (shifted f (of f)) (shifted f (other f)) h (Has-mod (of f * 2 ^ shift_of f) (other f * 2 ^ shift_of f) 128 (Has-times (of f) (other f) (shift_of f) (has f))))

has_from : (a b : ℕ) → Has a b → has_bits a b ≡ true
has_from a b h = eq-eqb (bit_and a b) b h

-- ---- keys and masks, place by place

number_at-masked : (a m : List ℕ) (q : ℕ) → number_at (masked a m) q ≡ bit_and (number_at a q) (number_at m q)
unfolding masked
number_at-masked [] m q = refl
number_at-masked (x ∷ xs) [] zero = sym (and_zero_r x)
number_at-masked (x ∷ xs) [] (suc q) = number_at-masked xs [] q
number_at-masked (x ∷ xs) (b ∷ bs) zero = refl
number_at-masked (x ∷ xs) (b ∷ bs) (suc q) = number_at-masked xs bs q

number_at-joined : (m n : List ℕ) (q : ℕ) → number_at (joined m n) q ≡ bit_or (number_at m q) (number_at n q)
unfolding joined
number_at-joined [] n q = refl
number_at-joined (a ∷ m) [] q = sym (or_zero_r (number_at (a ∷ m) q))
number_at-joined (a ∷ m) (b ∷ n) zero = refl
number_at-joined (a ∷ m) (b ∷ n) (suc q) = number_at-joined m n q

module _ (m n : Match) (normal : masked m.key m.mask ≡ m.key) (less : masked n.key n.mask ≡ n.key) (within : is_within m n ≡ true) where
  parts : (covers m.mask n.mask ≡ true) × (agree m.key n.key n.mask ≡ true)
  parts = and_parts (covers m.mask n.mask) (agree m.key n.key n.mask) within

  -- what holds at a place of the four lists
  mask_at : (q : ℕ) → bit_or (number_at m.mask q) (number_at n.mask q) ≡ number_at m.mask q
  mask_at q = sym (number_at-joined m.mask n.mask q) ∙ ap (λ (l : List ℕ). number_at l q) (equal_from_same (joined m.mask n.mask) m.mask parts.0)

  own_at : (q : ℕ) → bit_and (number_at m.key q) (number_at m.mask q) ≡ number_at m.key q
  own_at q = sym (number_at-masked m.key m.mask q) ∙ ap (λ (l : List ℕ). number_at l q) normal

  other_at : (q : ℕ) → bit_and (number_at n.key q) (number_at n.mask q) ≡ number_at n.key q
  other_at q = sym (number_at-masked n.key n.mask q) ∙ ap (λ (l : List ℕ). number_at l q) less

  agree_at : (q : ℕ) → bit_and (number_at m.key q) (number_at n.mask q) ≡ bit_and (number_at n.key q) (number_at n.mask q)
  agree_at q =
      sym (number_at-masked m.key n.mask q) ∙ ap (λ (l : List ℕ). number_at l q) (equal_from_same (masked m.key n.mask) (masked n.key n.mask) parts.1) ∙ number_at-masked n.key n.mask q

  module _ (f : FieldId) where
    -- and so at each of their bits
    abbrev mk : ℕ → ℕ
    mk i = bit_at (number_at m.key (place_of f)) i

    abbrev mm : ℕ → ℕ
    mm i = bit_at (number_at m.mask (place_of f)) i

    abbrev nk : ℕ → ℕ
    nk i = bit_at (number_at n.key (place_of f)) i

    abbrev nm : ℕ → ℕ
    nm i = bit_at (number_at n.mask (place_of f)) i

    masks : (i : ℕ) → max (mm i) (nm i) ≡ mm i
    masks i = sym (bit_at_or (number_at m.mask (place_of f)) (number_at n.mask (place_of f)) i) ∙ ap (λ (x : ℕ). bit_at x i) (mask_at (place_of f))

    own : (i : ℕ) → min (mk i) (mm i) ≡ mk i
    own i = sym (bit_at_and (number_at m.key (place_of f)) (number_at m.mask (place_of f)) i) ∙ ap (λ (x : ℕ). bit_at x i) (own_at (place_of f))

    others : (i : ℕ) → min (nk i) (nm i) ≡ nk i
    others i = sym (bit_at_and (number_at n.key (place_of f)) (number_at n.mask (place_of f)) i) ∙ ap (λ (x : ℕ). bit_at x i) (other_at (place_of f))

    agreed : (i : ℕ) → min (mk i) (nm i) ≡ min (nk i) (nm i)
    agreed i =
        sym (bit_at_and (number_at m.key (place_of f)) (number_at n.mask (place_of f)) i) ∙ ap (λ (x : ℕ). bit_at x i) (agree_at (place_of f))
        ∙ bit_at_and (number_at n.key (place_of f)) (number_at n.mask (place_of f)) i

    ones : Has (ones_of m.key f) (ones_of n.key f)
    ones = same_from_bits (bit_and (value_of m.key f) (value_of n.key f)) (value_of n.key f) at
      where
        from : (x y z : ℕ) → min y z ≡ y → min x z ≡ min y z → min x y ≡ y
        from x y z o a = omega (arith, o, a)

        at : (i : ℕ) → bit_at (bit_and (value_of m.key f) (value_of n.key f)) i ≡ nk i
        at i = bit_at_and (value_of m.key f) (value_of n.key f) i ∙ from (mk i) (nk i) (nm i) (others i) (agreed i)

    zeros : Has (zeros_of m.key m.mask f) (zeros_of n.key n.mask f)
    zeros = same_from_bits (bit_and (zeros_of m.key m.mask f) (zeros_of n.key n.mask f)) (zeros_of n.key n.mask f) at
      where
        from : (x y z w : ℕ) → x < 2 → y < 2 → z < 2 → w < 2 → max y w ≡ y → min x y ≡ x → min z w ≡ z → min x w ≡ min z w → min ((y + x) % 2) ((w + z) % 2) ≡ (w + z) % 2
        from x y z w a b c d e f g h = omega (arith, a, b, c, d, e, f, g, h)

        at : (i : ℕ) → bit_at (bit_and (zeros_of m.key m.mask f) (zeros_of n.key n.mask f)) i ≡ bit_at (zeros_of n.key n.mask f) i
        at i =
            let l = bit_at_xor (value_of m.mask f) (value_of m.key f) i in
            let r = bit_at_xor (value_of n.mask f) (value_of n.key f) i in
            bit_at_and (zeros_of m.key m.mask f) (zeros_of n.key n.mask f) i
            ∙ ap₂ min l r
            ∙ from (mk i) (mm i) (nk i) (nm i) (bit_at-lt (value_of m.key f) i) (bit_at-lt (value_of m.mask f) i) (bit_at-lt (value_of n.key f) i) (bit_at-lt (value_of n.mask f) i) (masks i) (own i) (others i) (agreed i)
            ∙ sym r

  pub within_included : includes (signature_of m.key m.mask) (signature_of n.key n.mask) ≡ true
  within_included =
      let one = Has-halves (superimposed (ones_of m.key) fields) (superimposed (ones_of n.key) fields) (Has-superimposed (ones_of m.key) (ones_of n.key) ones fields 0 0 refl) in
      let zero = Has-halves (superimposed (zeros_of m.key m.mask) fields) (superimposed (zeros_of n.key n.mask) fields) (Has-superimposed (zeros_of m.key m.mask) (zeros_of n.key n.mask) zeros fields 0 0 refl) in
      and_from
      (has_bits (signature_of m.key m.mask).ones (signature_of n.key n.mask).ones)
      (has_bits (signature_of m.key m.mask).zeros (signature_of n.key n.mask).zeros)
      (has_from (signature_of m.key m.mask).ones (signature_of n.key n.mask).ones one)
      (has_from (signature_of m.key m.mask).zeros (signature_of n.key n.mask).zeros zero)

pub reached_included : (e : Edit) (r : Rule) → IsNormalised r.matching → IsNormalised e.matching → is_reached_by e r ≡ true → IsIncludedIn e r
reached_included e r normal less reached =
    within_included r.matching e.matching normal less (and_parts (is_in_table e.table r) (is_within r.matching e.matching) reached).1

-- a number has its own bits
has_own : (a : ℕ) → has_bits a a ≡ true
has_own a = has_from a a (and_self a)

pub named_included : (e : Edit) (r : Rule) → is_named_by e r ≡ true → IsIncludedIn e r
named_included e r named =
    let rest = (and_parts (r.table == table_of e) ((r.priority == e.priority) && is_same_match r.matching e.matching) named).1 in
    let alike = (and_parts (r.priority == e.priority) (is_same_match r.matching e.matching) rest).1 in
    let both = and_parts (same r.matching.key e.matching.key) (same r.matching.mask e.matching.mask) alike in
    let is = ap₂ signature_of (equal_from_same r.matching.key e.matching.key both.0) (equal_from_same r.matching.mask e.matching.mask both.1) in
    let s = signature_of e.matching.key e.matching.mask in
    ap (λ t. includes t s) is ∙ and_from (has_bits s.ones s.ones) (has_bits s.zeros s.zeros) (has_own s.ones) (has_own s.zeros)
