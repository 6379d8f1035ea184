-- Leading bits of numbers, and the length that decides which prefixes a number begins with.
use Rattle.std.proofs.Common.{◌≡◌, ℕ, zero, suc, ◌-◌, ◌^◌, ◌≤◌, Bool, true, false, ◌&&◌, ◌||◌, not, ◌==◌, if◌then◌else◌, List, [], ◌∷◌, bit_and, min, max, refl, sym, ap, ap₂, ◌∙◌, eqb-true, eq-eqb, arith, le_refl}
use Rattle.std.proofs.lemmas.Nat.Bits.{and_high_mask_twice}
use Rattle.std.proofs.Math.Nat.{min-le_left}
use Rattle.spec_base.specs.Bits.{leading_bits}
use Rattle.spec_keys.specs.declared.field_id.FieldId.{FieldId}
use Rattle.spec_keys.specs.Fields.{width_of}
use Rattle.spec_keys.specs.Keys.{value_of}
use Rattle.spec_tables.specs.Rules.{Rule}
use Rattle.spec_xlate.specs.Lookup.{length_up_to, prefix_length, starts_alike, common_length, Prefix, prefix_of, prefixes, deciding_one, deciding, some_begins}
use Rattle.table_laws.proofs.KeyLaws.{and_zero}

-- ---- leading bits

-- numbers with the same n leading bits have the same j leading bits for each j up to n
pub leading-less : (w n j x y : ℕ) → n ≤ w → j ≤ n → bit_and x (leading_bits w n) ≡ bit_and y (leading_bits w n)
    → bit_and x (leading_bits w j) ≡ bit_and y (leading_bits w j)
leading-less w n j x y nw jn e =
    let le : w - n ≤ w - j = omega arith in
    let within : w - j ≤ w = omega arith in
    sym (and_high_mask_twice w (w - j) within x (w - n) le) ∙ ap (λ (z : ℕ). bit_and z (leading_bits w j)) e ∙ and_high_mask_twice w (w - j) within y (w - n) le

alike-less : (w x v n j : ℕ) → n ≤ w → j ≤ n → starts_alike w x v n ≡ true → starts_alike w x v j ≡ true
alike-less w x v n j nw jn h = eq-eqb _ _ (leading-less w n j x v nw jn (eqb-true _ _ h))

-- numbers with the same n leading bits start alike with the same others, up to n
alike-same : (w n x y v j : ℕ) → n ≤ w → j ≤ n → bit_and x (leading_bits w n) ≡ bit_and y (leading_bits w n)
    → starts_alike w x v j ≡ starts_alike w y v j
alike-same w n x y v j nw jn e = ap (λ (z : ℕ). z == bit_and v (leading_bits w j)) (leading-less w n j x y nw jn e)

alike-zero : (w x v : ℕ) → starts_alike w x v 0 ≡ true
alike-zero w x v = eq-eqb _ _ (ap (bit_and x) none ∙ and_zero x ∙ sym (and_zero v) ∙ sym (ap (bit_and v) none))
  where
    none : leading_bits w 0 ≡ 0
    none = let e : w - 0 ≡ w = omega arith in ap (λ (z : ℕ). 2 ^ w - 2 ^ z) e ∙ omega arith

-- ---- the length of a prefix

pub length_up_to-le : (w bits n : ℕ) → length_up_to w bits n ≤ n
unfolding length_up_to
length_up_to-le w bits zero = le_refl 0
length_up_to-le w bits (suc n) = at (bits == leading_bits w (suc n)) (length_up_to-le w bits n)
  where
    at : (t : Bool) → length_up_to w bits n ≤ n → (if t then suc n else length_up_to w bits n) ≤ suc n
    at true h = le_refl (suc n)
    at false h = omega arith

-- the bits are the prefix of that length
pub length_up_to-is : (w bits n l : ℕ) → length_up_to w bits n ≡ suc l → bits ≡ leading_bits w (suc l)
unfolding length_up_to
length_up_to-is w bits zero l h = cc
length_up_to-is w bits (suc n) l h = at (bits == leading_bits w (suc n)) refl h (length_up_to-is w bits n l)
  where
    at : (t : Bool) → (bits == leading_bits w (suc n)) ≡ t → (if t then suc n else length_up_to w bits n) ≡ suc l
        → (length_up_to w bits n ≡ suc l → bits ≡ leading_bits w (suc l)) → bits ≡ leading_bits w (suc l)
    at true e h ih = eqb-true _ _ e ∙ ap (leading_bits w) h
    at false e h ih = ih h

pub prefix_length-is : (w bits : ℕ) → (prefix_length w bits == 0) ≡ false → bits ≡ leading_bits w (prefix_length w bits)
prefix_length-is w bits h = at (prefix_length w bits) refl h
  where
    at : (l : ℕ) → length_up_to w bits w ≡ l → (l == 0) ≡ false → bits ≡ leading_bits w (prefix_length w bits)
    at zero e k = let f : true ≡ false = k in absurd (cc)
    at (suc l) e k = length_up_to-is w bits w l e ∙ ap (leading_bits w) (sym e)

-- ---- the number of common leading bits

common-le : (w x v n : ℕ) → common_length w x v n ≤ n
unfolding common_length
common-le w x v zero = le_refl 0
common-le w x v (suc n) = at (starts_alike w x v (suc n)) (common-le w x v n)
  where
    at : (t : Bool) → common_length w x v n ≤ n → (if t then suc n else common_length w x v n) ≤ suc n
    at true h = le_refl (suc n)
    at false h = omega arith

common-alike : (w x v n : ℕ) → starts_alike w x v (common_length w x v n) ≡ true
unfolding common_length
common-alike w x v zero = alike-zero w x v
common-alike w x v (suc n) = at (starts_alike w x v (suc n)) refl (common-alike w x v n)
  where
    at : (t : Bool) → starts_alike w x v (suc n) ≡ t → starts_alike w x v (common_length w x v n) ≡ true
        → starts_alike w x v (if t then suc n else common_length w x v n) ≡ true
    at true e h = e
    at false e h = h

common-greatest : (w x v n j : ℕ) → j ≤ n → starts_alike w x v j ≡ true → j ≤ common_length w x v n
unfolding common_length
common-greatest w x v zero j le h = le
common-greatest w x v (suc n) j le h = at (starts_alike w x v (suc n)) refl (common-greatest w x v n j)
  where
    at : (t : Bool) → starts_alike w x v (suc n) ≡ t → (j ≤ n → starts_alike w x v j ≡ true → j ≤ common_length w x v n)
        → j ≤ (if t then suc n else common_length w x v n)
    at true e ih = le
    at false e ih = let ne : j ≡ suc n → ⊥ = λ q. cc in ih (omega arith) h

-- ---- the length that decides one prefix

-- that of a prefix given by its value and length
abbrev pub decided : ℕ → ℕ → ℕ → ℕ → ℕ
decided w x v len = deciding_one w x (record { value = v; length = len })

-- the bits up to the deciding one: each but the last is in common
pub decided-below : (w x v len j : ℕ) → len ≤ w → suc j ≤ decided w x v len → (suc j ≤ len) × (starts_alike w x v j ≡ true)
decided-below w x v len j lw h = at (starts_alike w x v len) refl h
  where
    at : (t : Bool) → starts_alike w x v len ≡ t → suc j ≤ (if t then len else suc (common_length w x v len))
        → (suc j ≤ len) × (starts_alike w x v j ≡ true)
    at true e h = (h, alike-less w x v len j lw (omega arith) e)
    at false e h =
        let le = common-le w x v len in
        let alike = common-alike w x v len in
        let ne : common_length w x v len ≡ len → ⊥ = λ q. cc in
        (omega arith, alike-less w x v (common_length w x v len) j (omega arith) (omega arith) alike)

pub decided-above : (w x v len j : ℕ) → suc j ≤ len → starts_alike w x v j ≡ true → suc j ≤ decided w x v len
decided-above w x v len j le h = at (starts_alike w x v len)
  where
    at : (t : Bool) → suc j ≤ (if t then len else suc (common_length w x v len))
    at true = le
    at false = let g = common-greatest w x v len j (omega arith) h in omega arith

-- what the first number decides, up to len, the second decides too
decided-less : (w x y v l len c m : ℕ) → l ≤ w → c ≤ w → bit_and x (leading_bits w c) ≡ bit_and y (leading_bits w c)
    → m ≤ decided w x v l → m ≤ c → m ≤ decided w y v l
decided-less w x y v l len c zero lw cw e h k = omega arith
decided-less w x y v l len c (suc j) lw cw e h k =
    let d = decided-below w x v l j lw h in
    decided-above w y v l j d.0 (sym (alike-same w c x y v j cw (omega arith) e) ∙ d.1)

squeeze : (len c dx dy : ℕ) → min dx len ≤ dy → (suc (min dx len) ≤ dy → suc (min dx len) ≤ dx) → min dx len ≤ c → min dy len ≡ min dx len
squeeze len c dx dy up down h = grind arith

-- what two numbers with the same c leading bits decide of one prefix, up to len
decided-same : (w x y v l len c : ℕ) → l ≤ w → c ≤ w → c ≤ len → bit_and x (leading_bits w c) ≡ bit_and y (leading_bits w c)
    → min (decided w x v l) len ≤ c → min (decided w y v l) len ≡ min (decided w x v l) len
decided-same w x y v l len c lw cw cl e h = squeeze len c (decided w x v l) (decided w y v l) up down h
  where
    up : min (decided w x v l) len ≤ decided w y v l
    up = decided-less w x y v l len c (min (decided w x v l) len) lw cw e (min-le_left (decided w x v l) len) h

    down : suc (min (decided w x v l) len) ≤ decided w y v l → suc (min (decided w x v l) len) ≤ decided w x v l
    down k =
        let d = decided-below w y v l (min (decided w x v l) len) lw k in
        decided-above w x v l (min (decided w x v l) len) d.0 (alike-same w c x y v (min (decided w x v l) len) cw h e ∙ d.1)

-- a number begins with a prefix of this length where the other does
begins-same : (w x y v l len c : ℕ) → l ≤ w → c ≤ w → c ≤ len → bit_and x (leading_bits w c) ≡ bit_and y (leading_bits w c)
    → min (decided w x v l) len ≤ c → l ≡ len → starts_alike w y v l ≡ starts_alike w x v l
begins-same w x y v l len c lw cw cl e h q = at (starts_alike w y v l) (starts_alike w x v l) refl refl (decided-same w x y v l len c lw cw cl e h)
  where
    whole : l ≤ c → starts_alike w y v l ≡ starts_alike w x v l
    whole k = sym (alike-same w c x y v l cw k e)

    at : (t u : Bool) → starts_alike w y v l ≡ t → starts_alike w x v l ≡ u
        → min (decided w y v l) len ≡ min (decided w x v l) len → starts_alike w y v l ≡ starts_alike w x v l
    at true true et eu s = et ∙ sym eu
    at false false et eu s = et ∙ sym eu
    at true false et eu s =
        let dy : decided w y v l ≡ l = ap (λ (t : Bool). if t then l else suc (common_length w y v l)) et in
        let k : l ≤ c = omega arith in
        whole k
    at false true et eu s =
        let dx : decided w x v l ≡ l = ap (λ (t : Bool). if t then l else suc (common_length w x v l)) eu in
        let k : l ≤ c = omega arith in
        whole k

-- ---- the length that decides all

less_of-left : (d g len c : ℕ) → min (max d g) len ≤ c → min d len ≤ c
less_of-left d g len c h = omega arith

less_of-right : (d g len c : ℕ) → min (max d g) len ≤ c → min g len ≤ c
less_of-right d g len c h = omega arith

min-max : (d g d' g' len : ℕ) → min d len ≡ min d' len → min g len ≡ min g' len → min (max d g) len ≡ min (max d' g') len
min-max d g d' g' len p q = omega arith

-- each prefix has at most w bits
abbrev pub AreShort : ℕ → List Prefix → Type 0
AreShort w [] = Unit {0}
AreShort w (p ∷ ps) = (p.length ≤ w) × AreShort w ps

pub prefixes-AreShort : (f : FieldId) (rs : List Rule) → AreShort (width_of f) (prefixes f rs)
prefixes-AreShort f [] = tt
prefixes-AreShort f (r ∷ rs) = at (not ((prefix_of f r).length == 0)) (prefixes-AreShort f rs)
  where
    at : (t : Bool) → AreShort (width_of f) (prefixes f rs)
        → AreShort (width_of f) (if t then prefix_of f r ∷ prefixes f rs else prefixes f rs)
    at true h = (length_up_to-le (width_of f) (value_of r.matching.mask f) (width_of f), h)
    at false h = h

-- two numbers with the same c leading bits decide alike, up to len, where the first one decides at most c bits
pub deciding-same : (ps : List Prefix) (w x y len c : ℕ) → AreShort w ps → c ≤ w → c ≤ len
    → bit_and x (leading_bits w c) ≡ bit_and y (leading_bits w c) → min (deciding w x ps) len ≤ c →
    (min (deciding w y ps) len ≡ min (deciding w x ps) len) × (some_begins w y len ps ≡ some_begins w x len ps)
unfolding deciding
deciding-same [] w x y len c short cw cl e h = (refl, refl)
deciding-same (p ∷ ps) w x y len c short cw cl e h =
    let hd : min (decided w x p.value p.length) len ≤ c = less_of-left (decided w x p.value p.length) (deciding w x ps) len c h in
    let hg : min (deciding w x ps) len ≤ c = less_of-right (decided w x p.value p.length) (deciding w x ps) len c h in
    let ih = deciding-same ps w x y len c short.1 cw cl e hg in
    let d = decided-same w x y p.value p.length len c short.0 cw cl e hd in (
      min-max (decided w y p.value p.length) (deciding w y ps) (decided w x p.value p.length) (deciding w x ps) len d ih.0,
      ap₂ (λ (t u : Bool). t || u) (both (p.length == len) refl (begins-same w x y p.value p.length len c short.0 cw cl e hd)) ih.1,
    )
  where
    both : (t : Bool) → (p.length == len) ≡ t → (p.length ≡ len → starts_alike w y p.value p.length ≡ starts_alike w x p.value p.length)
        → (t && starts_alike w y p.value p.length) ≡ (t && starts_alike w x p.value p.length)
    both true q k = k (eqb-true _ _ q)
    both false q k = refl
