-- How many leading bits numbers have in common: numbers that are near to each other have as many with a third.
use Rattle.std.proofs.Common.{◌≡◌, ℕ, zero, suc, ◌-◌, ◌^◌, ◌<◌, ◌≤◌, Bool, true, false, nat_le, ◌==◌, bit_and, min, if◌then◌else◌, refl, sym, ap, ◌∙◌, arith, eqb-true, eq-eqb, le_refl}
use Rattle.std.proofs.lemmas.Nat.Bits.{and_high_mask_twice}
use Rattle.std.proofs.lemmas.Nat.{and_le_r}
use Rattle.spec_base.specs.Bits.{leading_bits}
use Rattle.spec_xlate.specs.Lookup.{Prefix, starts_alike, common_length, begins_with, deciding_one}
use Rattle.address_prefixes.specs.Prefixes.{in_common}
use Rattle.std.proofs.lemmas.Bool.{leb-true, le-leb, leb-false, lt-leb}
use Rattle.std.proofs.lemmas.Bool.Decides.{same_from_decides}

-- fewer bits of more
cut_twice : (w x m n : ℕ) → m ≤ n → n ≤ w → bit_and (bit_and x (leading_bits w n)) (leading_bits w m) ≡ bit_and x (leading_bits w m)
cut_twice w x m n less within =
    let inside : w - m ≤ w = omega arith in
    let order : w - n ≤ w - m = omega arith in
    and_high_mask_twice w (w - m) inside x (w - n) order

pub alike_less : (w x y m n : ℕ) → m ≤ n → n ≤ w → starts_alike w x y n ≡ true → starts_alike w x y m ≡ true
alike_less w x y m n less within h =
    eq-eqb _ _ (sym (cut_twice w x m n less within) ∙ ap (λ z. bit_and z (leading_bits w m)) (eqb-true _ _ h) ∙ cut_twice w y m n less within)

alike_none : (w x y : ℕ) → starts_alike w x y 0 ≡ true
alike_none w x y =
    let all : 2 ^ (w - 0) ≡ 2 ^ w = (let e : w - 0 ≡ w = omega arith in ap (λ k. 2 ^ k) e) in
    let none : leading_bits w 0 ≡ 0 = omega (arith, all) in
    let l = and_le_r x (leading_bits w 0) in
    let r = and_le_r y (leading_bits w 0) in
    let same : bit_and x (leading_bits w 0) ≡ bit_and y (leading_bits w 0) = omega (arith, none, l, r) in
    eq-eqb _ _ same

alike_sym : (w x y n : ℕ) → starts_alike w x y n ≡ true → starts_alike w y x n ≡ true
alike_sym w x y n h = eq-eqb _ _ (sym (eqb-true _ _ h))

alike_trans : (w x y z n : ℕ) → starts_alike w x y n ≡ true → starts_alike w y z n ≡ true → starts_alike w x z n ≡ true
alike_trans w x y z n h i = eq-eqb _ _ (eqb-true _ _ h ∙ eqb-true _ _ i)

-- ---- the length up to a bound

common_within : (w x y k : ℕ) → common_length w x y k ≤ k
unfolding common_length
common_within w x y zero = le_refl 0
common_within w x y (suc k) = at (starts_alike w x y (suc k)) (common_within w x y k)
  where
    at : (t : Bool) → common_length w x y k ≤ k → (if t then suc k else common_length w x y k) ≤ suc k
    at true h = le_refl (suc k)
    at false h = omega (arith, h)

common_tells : (w x y k : ℕ) → k ≤ w → (n : ℕ) → n ≤ k → starts_alike w x y n ≡ nat_le n (common_length w x y k)
unfolding common_length
common_tells w x y zero within zero le = alike_none w x y
common_tells w x y zero within (suc n) le = absurd (omega arith)
common_tells w x y (suc k) within n le = at (starts_alike w x y (suc k)) refl (common_tells w x y k (omega arith)) (common_within w x y k)
  where
    at : (t : Bool) → starts_alike w x y (suc k) ≡ t → ((m : ℕ) → m ≤ k → starts_alike w x y m ≡ nat_le m (common_length w x y k)) → common_length w x y k ≤ k
        → starts_alike w x y n ≡ nat_le n (if t then suc k else common_length w x y k)
    at true e ih short = alike_less w x y n (suc k) le within e ∙ sym (le-leb n (suc k) le)
    at false e ih short = last (nat_le n k) refl
      where
        last : (t : Bool) → nat_le n k ≡ t → starts_alike w x y n ≡ nat_le n (common_length w x y k)
        last true q = ih n (leb-true n k q)
        last false q =
            let lt = leb-false n k q in
            let is : n ≡ suc k = omega (arith, lt, le) in
            ap (starts_alike w x y) is ∙ e ∙ sym (lt-leb n (common_length w x y k) (omega (arith, short, lt)))

-- ---- the whole width

pub common_short : (w x y : ℕ) → in_common w x y ≤ w
common_short w x y = common_within w x y w

pub alike_is : (w x y n : ℕ) → n ≤ w → starts_alike w x y n ≡ nat_le n (in_common w x y)
alike_is w x y n within = common_tells w x y w (le_refl w) n within

pub alike_from : (w x y n : ℕ) → n ≤ in_common w x y → starts_alike w x y n ≡ true
alike_from w x y n le = let s = common_short w x y in alike_is w x y n (omega (arith, s, le)) ∙ le-leb n (in_common w x y) le

pub alike_to : (w x y n : ℕ) → n ≤ w → starts_alike w x y n ≡ true → n ≤ in_common w x y
alike_to w x y n within h = leb-true n (in_common w x y) (sym (alike_is w x y n within) ∙ h)

-- the length that tells it is this one
pub common_from : (w x y c : ℕ) → c ≤ w → ((n : ℕ) → n ≤ w → starts_alike w x y n ≡ nat_le n c) → in_common w x y ≡ c
common_from w x y c within tells =
    let s = common_short w x y in
    let up = leb-true (in_common w x y) c (sym (tells (in_common w x y) s) ∙ alike_from w x y (in_common w x y) (le_refl (in_common w x y))) in
    let down = alike_to w x y c within (tells c within ∙ le-leb c c (le_refl c)) in
    omega (arith, up, down)

-- up to a bound it is the lesser of the two
pub common_up_to : (w x y k : ℕ) → k ≤ w → common_length w x y k ≡ min k (in_common w x y)
common_up_to w x y k within =
    let s = common_within w x y k in
    let t = common_short w x y in
    let up = alike_to w x y (common_length w x y k) (omega (arith, s, within)) (common_tells w x y k within (common_length w x y k) s ∙ le-leb _ _ (le_refl (common_length w x y k))) in
    let least : min k (in_common w x y) ≤ in_common w x y = omega arith in
    let bounded : min k (in_common w x y) ≤ k = omega arith in
    let down = leb-true (min k (in_common w x y)) (common_length w x y k) (sym (common_tells w x y k within (min k (in_common w x y)) bounded) ∙ alike_from w x y (min k (in_common w x y)) least) in
    omega (arith, s, up, down)

pub common_sym : (w x y : ℕ) → in_common w x y ≡ in_common w y x
common_sym w x y =
    common_from w x y (in_common w y x) (common_short w y x)
    (λ n within. same_from_decides (starts_alike w x y n) (starts_alike w y x n) (alike_sym w x y n, alike_sym w y x n) (λ e. e, λ e. e) ∙ alike_is w y x n within)

pub common_between : (w x y z : ℕ) → min (in_common w x y) (in_common w y z) ≤ in_common w x z
common_between w x y z =
    let s = common_short w x y in
    let n = min (in_common w x y) (in_common w y z) in
    let l : n ≤ in_common w x y = omega arith in
    let r : n ≤ in_common w y z = omega arith in
    alike_to w x z n (omega (arith, s, l)) (alike_trans w x y z n (alike_from w x y n l) (alike_from w y z n r))

-- two numbers that are nearer to each other have the same in common with a third
pub common_nearer : (w x y z : ℕ) → in_common w x y < in_common w y z → in_common w x z ≡ in_common w x y
common_nearer w x y z near =
    let a = common_between w x y z in
    let b = common_between w x z y in
    let c = common_sym w z y in
    omega (arith, a, b, c, near)

pub self_common : (w x n : ℕ) → n ≤ w → n ≤ in_common w x x
self_common w x n within = alike_to w x x n within (eq-eqb (bit_and x (leading_bits w n)) (bit_and x (leading_bits w n)) refl)

-- ---- a number and its leading bits

pub alike_cut : (w x y m n : ℕ) → m ≤ n → n ≤ w → starts_alike w x (bit_and y (leading_bits w n)) m ≡ starts_alike w x y m
alike_cut w x y m n less within = ap (λ z. bit_and x (leading_bits w m) == z) (cut_twice w y m n less within)

pub more_of_cut : (w x y m n : ℕ) → m ≤ n → n ≤ w → m ≤ in_common w x y → m ≤ in_common w x (bit_and y (leading_bits w n))
more_of_cut w x y m n less within le = alike_to w x (bit_and y (leading_bits w n)) m (omega arith) (alike_cut w x y m n less within ∙ alike_from w x y m le)

pub less_of_cut : (w x y m n : ℕ) → m ≤ n → n ≤ w → m ≤ in_common w x (bit_and y (leading_bits w n)) → m ≤ in_common w x y
less_of_cut w x y m n less within le = alike_to w x y m (omega arith) (sym (alike_cut w x y m n less within) ∙ alike_from w x (bit_and y (leading_bits w n)) m le)

-- ---- a number and a prefix

pub begins_is : (w x : ℕ) (p : Prefix) → p.length ≤ w → begins_with w x p ≡ nat_le p.length (in_common w x p.value)
begins_is w x p within = alike_is w x p.value p.length within

pub deciding_is : (w x : ℕ) (p : Prefix) → p.length ≤ w → deciding_one w x p ≡ min p.length (suc (in_common w x p.value))
deciding_is w x p within = at (begins_with w x p) refl
  where
    at : (t : Bool) → begins_with w x p ≡ t → (if t then p.length else suc (common_length w x p.value p.length)) ≡ min p.length (suc (in_common w x p.value))
    at true e = let le = leb-true p.length (in_common w x p.value) (sym (begins_is w x p within) ∙ e) in omega (arith, le)
    at false e =
        let lt = leb-false p.length (in_common w x p.value) (sym (begins_is w x p within) ∙ e) in
        let up = common_up_to w x p.value p.length within in
        omega (arith, lt, up)
