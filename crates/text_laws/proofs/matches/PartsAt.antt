-- The numbers of a match, field by field: those of its parts at that field.
use Rattle.std.proofs.Common.{◌≡◌, ℕ, zero, suc, ◌+◌, ◌<◌, Bool, true, false, cond, List, [], ◌∷◌, ◌++◌, length, map, get_or, set, replicate, bit_or, refl, sym, subst, ap, ◌∙◌, arith, eqb-true, eq-eqb}
use Rattle.std.specs.Prelude.{not, ◌&&◌, ◌==◌}
use Rattle.std.specs.List.{fold, list_all}
use Rattle.std.specs.Int.Bits.{or_zero_l, or_zero_r}
use Rattle.std.proofs.lemmas.Bool.{and_parts, not-true, both_ways}
use Rattle.std.proofs.lemmas.Bool.Decides.{nat_tests}
use Rattle.std.proofs.lemmas.List.{get_or-set_same, get_or-set_other, length-set, ext_get_or, get_or-map}
use Rattle.spec_keys.specs.declared.field_id.FieldId.{FieldId}
use Rattle.spec_keys.specs.declared.field_id.FieldId.TheVariants as key
use Rattle.spec_keys.specs.Fields.{place_of, field_count, fields}
use Rattle.spec_keys.specs.Keys.{none, number_at, value_of, joined, only_at}
use Rattle.spec_tables.specs.Rules.{Match}
use Rattle.spec_flow_text.specs.declared.part.Part.{Part}
use Rattle.spec_flow_text.specs.Matches.{with_key_bits, with_mask_bits, match_of}

-- ---- fields and places

pub place_small : (f : FieldId) → place_of f < field_count
place_small key.InPort = omega arith
place_small f = omega arith

field_at : (f : FieldId) → get_or fields (place_of f) key.InPort ≡ f
field_at key.InPort = refl
field_at f = refl

pub same_place : (f g : FieldId) → place_of f ≡ place_of g → f ≡ g
same_place f g e = sym (field_at f) ∙ ap (λ n. get_or fields n key.InPort) e ∙ field_at g

-- places are counted from 0
abbrev counts_from : ℕ → List ℕ → Bool
counts_from k [] = true
counts_from k (x ∷ xs) = (x == k) && counts_from (k + 1) xs

counted : (k : ℕ) (xs : List ℕ) (n : ℕ) → counts_from k xs ≡ true → n < length xs → get_or xs n 0 ≡ k + n
counted k [] n h lt = absurd (omega arith)
counted k (x ∷ xs) zero h lt = eqb-true x k (and_parts (x == k) (counts_from (k + 1) xs) h).0 ∙ omega arith
counted k (x ∷ xs) (suc n) h lt = counted (k + 1) xs n (and_parts (x == k) (counts_from (k + 1) xs) h).1 (omega arith) ∙ omega arith

place_at : (n : ℕ) → n < field_count → place_of (get_or fields n key.InPort) ≡ n
place_at n lt =
    let same : 0 + n ≡ n = omega arith in
    sym (get_or-map place_of fields n key.InPort 0 lt) ∙ counted 0 (map place_of fields) n refl lt ∙ same

-- ---- what parts state at a place

-- what parts state there, beside what is stated
abbrev pub stated_at : (Part → ℕ) → ℕ → ℕ → List Part → ℕ
stated_at number n before [] = before
stated_at number n before (p ∷ ps) = stated_at number n (cond (place_of p.field == n) (bit_or before (number p)) before) ps

abbrev pub the_value : Part → ℕ
the_value p = p.value

abbrev pub the_mask : Part → ℕ
the_mask p = p.mask

pub stated-append : (number : Part → ℕ) (n before : ℕ) (ps qs : List Part) → stated_at number n before (ps ++ qs) ≡ stated_at number n (stated_at number n before ps) qs
stated-append number n before [] qs = refl
stated-append number n before (p ∷ ps) qs = stated-append number n (cond (place_of p.field == n) (bit_or before (number p)) before) ps qs

-- parts elsewhere state nothing there
abbrev pub are_off : ℕ → List Part → Bool
are_off n ps = list_all (λ (p : Part). not (place_of p.field == n)) ps

abbrev pub are_at : ℕ → List Part → Bool
are_at n ps = list_all (λ (p : Part). place_of p.field == n) ps

pub stated-off : (number : Part → ℕ) (n before : ℕ) (ps : List Part) → are_off n ps ≡ true → stated_at number n before ps ≡ before
stated-off number n before [] h = refl
stated-off number n before (p ∷ ps) h =
    let k = and_parts (not (place_of p.field == n)) (are_off n ps) h in
    rw (not-true (place_of p.field == n) k.0) (stated-off number n before ps k.1)

pub at_off : (k n : ℕ) (ps : List Part) → (k == n) ≡ false → are_at k ps ≡ true → are_off n ps ≡ true
at_off k n [] e h = refl
at_off k n (p ∷ ps) e h =
    let q = and_parts (place_of p.field == k) (are_at k ps) h in
    let other : (place_of p.field == n) ≡ false = rw (eqb-true (place_of p.field) k q.0) e in
    rw other (at_off k n ps e q.1)

-- ---- keys

set_at : (xs : List ℕ) (place n y : ℕ) → place < length xs → number_at (set xs place y) n ≡ cond (place == n) y (number_at xs n)
set_at xs place n y lt = by_test (place == n) refl
  where
    by_test : (t : Bool) → (place == n) ≡ t → number_at (set xs place y) n ≡ cond t y (number_at xs n)
    by_test true is = subst (λ k. number_at (set xs place y) k ≡ y) (eqb-true place n is) (get_or-set_same xs place y 0 lt)
    by_test false is = get_or-set_other xs place n y 0 (λ e. both_ways (place == n) is (eq-eqb place n (sym e)))

key_length : (key : List ℕ) (ps : List Part) → length (fold with_key_bits key ps) ≡ length key
key_length key [] = refl
key_length key (p ∷ ps) = key_length (with_key_bits key p) ps ∙ length-set key (place_of p.field) _

or_if : (key : List ℕ) (place n more : ℕ) → cond (place == n) (bit_or (number_at key place) more) (number_at key n) ≡ cond (place == n) (bit_or (number_at key n) more) (number_at key n)
or_if key place n more = by_test (place == n) refl
  where
    by_test : (t : Bool) → (place == n) ≡ t → cond t (bit_or (number_at key place) more) (number_at key n) ≡ cond t (bit_or (number_at key n) more) (number_at key n)
    by_test true is = ap (λ k. bit_or (number_at key k) more) (eqb-true place n is)
    by_test false is = refl

pub key_at : (key : List ℕ) (ps : List Part) (n : ℕ) → length key ≡ field_count → number_at (fold with_key_bits key ps) n ≡ stated_at the_value n (number_at key n) ps
key_at key [] n h = refl
key_at key (p ∷ ps) n h =
    let place = place_of p.field in
    let lt : place < length key = rw h (place_small p.field) in
    let y = bit_or (number_at key place) p.value in
    key_at (with_key_bits key p) ps n (length-set key place y ∙ h)
    ∙ ap (λ before. stated_at the_value n before ps) (set_at key place n y lt ∙ or_if key place n p.value)

-- ---- masks

first_apart : (n : ℕ) → (0 == suc n) ≡ false
first_apart n = grind (arith, nat_tests)

later_apart : (n : ℕ) → (suc n == 0) ≡ false
later_apart n = grind (arith, nat_tests)

only_at-number : (place n bits : ℕ) → number_at (only_at place bits) n ≡ cond (place == n) bits 0
unfolding only_at
only_at-number zero zero bits = refl
only_at-number zero (suc n) bits = rw (first_apart n) refl
only_at-number (suc place) zero bits = rw (later_apart place) refl
only_at-number (suc place) (suc n) bits = only_at-number place n bits ∙ ap (λ t. cond t bits 0) (same_test place n)
  where
    same_test : (a b : ℕ) → (a == b) ≡ (suc a == suc b)
    same_test a b = grind (arith, nat_tests)

joined-number : (m n : List ℕ) (q : ℕ) → number_at (joined m n) q ≡ bit_or (number_at m q) (number_at n q)
unfolding joined
joined-number [] n q = sym (or_zero_l (number_at n q))
joined-number (a ∷ m) [] q = sym (or_zero_r (number_at (a ∷ m) q))
joined-number (a ∷ m) (b ∷ n) zero = refl
joined-number (a ∷ m) (b ∷ n) (suc q) = joined-number m n q

joined-length : (m : List ℕ) (place bits : ℕ) → place < length m → length (joined m (only_at place bits)) ≡ length m
unfolding joined only_at
joined-length [] place bits lt = absurd (omega arith)
joined-length (a ∷ []) zero bits lt = refl
joined-length (a ∷ b ∷ m) zero bits lt = refl
joined-length (a ∷ m) (suc place) bits lt = ap suc (joined-length m place bits (omega arith))

mask_length : (mask : List ℕ) (ps : List Part) → length mask ≡ field_count → length (fold with_mask_bits mask ps) ≡ field_count
mask_length mask [] h = h
mask_length mask (p ∷ ps) h = mask_length (with_mask_bits mask p) ps (joined-length mask (place_of p.field) p.mask (rw h (place_small p.field)) ∙ h)

or_nothing : (t : Bool) (a b : ℕ) → bit_or a (cond t b 0) ≡ cond t (bit_or a b) a
or_nothing true a b = refl
or_nothing false a b = or_zero_r a

pub mask_at : (mask : List ℕ) (ps : List Part) (n : ℕ) → length mask ≡ field_count → number_at (fold with_mask_bits mask ps) n ≡ stated_at the_mask n (number_at mask n) ps
mask_at mask [] n h = refl
mask_at mask (p ∷ ps) n h =
    let place = place_of p.field in
    let step = joined-number mask (only_at place p.mask) n ∙ ap (bit_or (number_at mask n)) (only_at-number place n p.mask) ∙ or_nothing (place == n) (number_at mask n) p.mask in
    mask_at (with_mask_bits mask p) ps n (joined-length mask place p.mask (rw h (place_small p.field)) ∙ h)
    ∙ ap (λ before. stated_at the_mask n before ps) step

-- ---- the match

none_length : length none ≡ field_count
unfolding none
none_length = refl

none_at : (n : ℕ) → number_at none n ≡ zero
unfolding none
none_at n = nothing field_count n
  where
    nothing : (k n : ℕ) → get_or (replicate k 0) n 0 ≡ zero
    nothing zero n = refl
    nothing (suc k) zero = refl
    nothing (suc k) (suc n) = nothing k n

pub match_key_length : (ps : List Part) → length (match_of ps).key ≡ field_count
unfolding match_of
match_key_length ps = key_length none ps ∙ none_length

pub match_mask_length : (ps : List Part) → length (match_of ps).mask ≡ field_count
unfolding match_of
match_mask_length ps = mask_length none ps none_length

pub match_key : (ps : List Part) (n : ℕ) → number_at (match_of ps).key n ≡ stated_at the_value n 0 ps
unfolding match_of
match_key ps n = key_at none ps n none_length ∙ ap (λ before. stated_at the_value n before ps) (none_at n)

pub match_mask : (ps : List Part) (n : ℕ) → number_at (match_of ps).mask n ≡ stated_at the_mask n 0 ps
unfolding match_of
match_mask ps n = mask_at none ps n none_length ∙ ap (λ before. stated_at the_mask n before ps) (none_at n)

-- a match is known by its numbers
pub same_match : (m : Match) (ps : List Part) → length m.key ≡ field_count → length m.mask ≡ field_count
    → ((f : FieldId) → stated_at the_value (place_of f) 0 ps ≡ value_of m.key f) → ((f : FieldId) → stated_at the_mask (place_of f) 0 ps ≡ value_of m.mask f)
    → match_of ps ≡ m
same_match m ps fields_key fields_mask value_same mask_same =
    let same_key : (match_of ps).key ≡ m.key = ext_get_or 0 (match_of ps).key m.key (match_key_length ps ∙ sym fields_key) (λ n lt. match_key ps n ∙ at_place the_value m.key n (subst (λ k. n < k) (match_key_length ps) lt) value_same) in
    let same_mask : (match_of ps).mask ≡ m.mask = ext_get_or 0 (match_of ps).mask m.mask (match_mask_length ps ∙ sym fields_mask) (λ n lt. match_mask ps n ∙ at_place the_mask m.mask n (subst (λ k. n < k) (match_mask_length ps) lt) mask_same) in
    ap (λ numbers. record { key = numbers; mask = (match_of ps).mask }) same_key ∙ ap (λ numbers. record { key = m.key; mask = numbers }) same_mask
  where
    at_place : (number : Part → ℕ) (numbers : List ℕ) (n : ℕ) → n < field_count → ((f : FieldId) → stated_at number (place_of f) 0 ps ≡ value_of numbers f) → stated_at number n 0 ps ≡ number_at numbers n
    at_place number numbers n lt h = subst (λ k. stated_at number k 0 ps ≡ number_at numbers k) (place_at n lt) (h (get_or fields n key.InPort))
