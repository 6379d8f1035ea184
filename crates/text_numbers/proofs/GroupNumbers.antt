-- The number of groups of 16 bits that stand one after the other.
use Rattle.std.proofs.Common.{◌≡◌, ℕ, zero, suc, ◌+◌, ◌-◌, ◌*◌, ◌^◌, ◌<◌, ◌≤◌, List, [], ◌∷◌, ◌++◌, length, replicate, fold, Some, option_map, refl, sym, ap, ap₂, ◌∙◌, arith, length-append, add-one, add-mul, add_assoc, mul_assoc, mul_comm, one-mul, mul-le-mul_right, pow-suc, le-leb}
use Rattle.std.proofs.Math.Nat.{pow-le-pow_right, one-le-pow}
use Rattle.std.proofs.lemmas.Nat.{pow-add}
use Rattle.spec_flow_text.specs.Addresses.{number_of_groups, groups_round_zeros}
use Rattle.text_numbers.specs.declared.addresses.Groups.{Groups}
use Rattle.text_numbers.specs.Groups.{counted}

-- a number before the groups
abbrev number_after : ℕ → List ℕ → ℕ
number_after n groups = fold (λ m g. m * 65536 + g) n groups

spread : (n g p rest : ℕ) → (n * 65536 + g) * p + rest ≡ n * (p * 65536) + (g * p + rest)
spread n g p rest =
    ap (λ m. m + rest) (add-mul (n * 65536) g p ∙ ap (λ m. m + g * p) (mul_assoc n 65536 p ∙ ap (λ m. n * m) (mul_comm 65536 p)))
    ∙ add_assoc (n * (p * 65536)) (g * p) rest

number_after-shifted : (n : ℕ) (groups : List ℕ) → number_after n groups ≡ n * 65536 ^ length groups + number_of_groups groups
number_after-shifted n [] = omega arith
number_after-shifted n (g ∷ groups) =
    let zero_first : 0 * 65536 + g ≡ g = omega arith in
    number_after-shifted (n * 65536 + g) groups ∙ spread n g (65536 ^ length groups) (number_of_groups groups)
    ∙ (rw (pow-suc 65536 (length groups), zero_first, number_after-shifted g groups) refl)

pub number-cons : (g : ℕ) (groups : List ℕ) → number_of_groups (g ∷ groups) ≡ g * 65536 ^ length groups + number_of_groups groups
number-cons g groups = let e : 0 * 65536 + g ≡ g = omega arith in rw e (number_after-shifted g groups)

number_after-append : (n : ℕ) (front back : List ℕ) → number_after n (front ++ back) ≡ number_after (number_after n front) back
number_after-append n [] back = refl
number_after-append n (g ∷ front) back = number_after-append (n * 65536 + g) front back

number-zeros : (k : ℕ) (groups : List ℕ) → number_of_groups (replicate k 0 ++ groups) ≡ number_of_groups groups
number-zeros zero groups = refl
number-zeros (suc k) groups = number-zeros k groups

length-zeros : (k : ℕ) → length (replicate {A = ℕ} k 0) ≡ k
length-zeros zero = refl
length-zeros (suc k) = ap suc (length-zeros k)

-- groups at both ends of a number
pub number-round_zeros : (k : ℕ) (front back : List ℕ)
    → number_of_groups (front ++ (replicate k 0 ++ back)) ≡ number_of_groups front * 65536 ^ (k + length back) + number_of_groups back
number-round_zeros k front back =
    let size : length (replicate k 0 ++ back) ≡ k + length back = length-append (replicate k 0) back ∙ ap (λ n. n + length back) (length-zeros k) in
    number_after-append 0 front (replicate k 0 ++ back) ∙ number_after-shifted (number_of_groups front) (replicate k 0 ++ back)
    ∙ (rw (size, number-zeros k back) refl)

-- a power of a small count fits
pub power_fits : (count : ℕ) → count < 8 → 65536 ^ count < 2 ^ 128
power_fits count lt =
    let le : 65536 ^ count ≤ 65536 ^ 7 = pow-le-pow_right {n = 65536} (omega arith) {i = count} {j = 7} (omega arith) in
    omega (arith, le)

pub power_positive : (count : ℕ) → 0 < 65536 ^ count
power_positive count = omega (arith, one-le-pow count 65536 (omega arith))

eight_fit : (a b : ℕ) → a + b ≤ 8 → 65536 ^ a * 65536 ^ b ≤ 2 ^ 128
eight_fit a b le =
    let most : 65536 ^ (a + b) ≤ 65536 ^ 8 = pow-le-pow_right {n = 65536} (omega arith) {i = a + b} {j = 8} le in
    rw (← pow-add 65536 a b) (omega (arith, most))

-- a group before others fits
pub before_fits : (g n count p : ℕ) → p ≡ 65536 ^ count → g < 65536 → n < 65536 ^ count → count < 8 → g * p + n < 2 ^ 128
before_fits g n count p e small fits lt =
    let most : g * p ≤ 65535 * p = mul-le-mul_right p (omega arith) in
    let all : 65536 ^ count * 65536 ^ 1 ≤ 2 ^ 128 = eight_fit count 1 (omega arith) in
    omega arith

-- groups before others fit, with zeros between them
pub round_zeros_fits : (f m a b p : ℕ) → p ≡ 65536 ^ (8 - a) → f < 65536 ^ a → m < 65536 ^ b → a + b < 8 → f * p + m < 2 ^ 128
round_zeros_fits f m a b p e front back lt =
    let more : 65536 ^ b ≤ 65536 ^ (8 - a) = pow-le-pow_right {n = 65536} (omega arith) {i = b} {j = 8 - a} (omega arith) in
    let most : (f + 1) * p ≤ 65536 ^ a * p = mul-le-mul_right p (omega arith) in
    let all : 65536 ^ a * 65536 ^ (8 - a) ≤ 2 ^ 128 = eight_fit a (8 - a) (omega arith) in
    let same : 65536 ^ a * p ≡ 65536 ^ a * 65536 ^ (8 - a) = ap (λ q. 65536 ^ a * q) e in
    let one : (f + 1) * p ≡ f * p + p = add-mul f 1 p ∙ ap (λ q. f * p + q) (one-mul p) in
    omega arith

-- ---- what is counted of groups

pub counted_before : (g p : ℕ) (others r : Groups) (all : List ℕ) → others ≡ counted all → p ≡ 65536 ^ others.count
    → r.count ≡ others.count + 1 → r.number ≡ g * p + others.number → r ≡ counted (g ∷ all)
counted_before g p others r all e power count number =
    let counts : r.count ≡ length (g ∷ all) = count ∙ ap (λ (x : Groups). x.count + 1) e ∙ add-one (length all) in
    let numbers : r.number ≡ number_of_groups (g ∷ all) =
    number ∙ ap₂ (λ a b. g * a + b) (power ∙ ap (λ (x : Groups). 65536 ^ x.count) e) (ap (λ (x : Groups). x.number) e) ∙ sym (number-cons g all) in
    λ i. record { count = counts i; number = numbers i }

abbrev joined : List ℕ → List ℕ → List ℕ
joined fronts backs = fronts ++ (replicate (8 - (length fronts + length backs)) 0 ++ backs)

round_zeros : (fronts backs : List ℕ) → length fronts + length backs < 8 → groups_round_zeros fronts backs ≡ Some (joined fronts backs)
unfolding groups_round_zeros
round_zeros fronts backs lt = rw (le-leb (length fronts + length backs) 7 (omega arith)) refl

number-joined : (fronts backs : List ℕ) → length fronts + length backs < 8
    → number_of_groups (joined fronts backs) ≡ number_of_groups fronts * 65536 ^ (8 - length fronts) + number_of_groups backs
number-joined fronts backs lt =
    let gap : 8 - (length fronts + length backs) + length backs ≡ 8 - length fronts = omega arith in
    number-round_zeros (8 - (length fronts + length backs)) fronts backs ∙ (rw gap refl)

pub some_before : (p : ℕ) (front back : Groups) (fronts backs : List ℕ) → front ≡ counted fronts → back ≡ counted backs → front.count + back.count < 8 → p ≡ 65536 ^ (8 - front.count)
    → option_map number_of_groups (groups_round_zeros fronts backs) ≡ Some (front.number * p + back.number)
some_before p front back fronts backs f b lt power =
    let front_count : front.count ≡ length fronts = ap (λ (x : Groups). x.count) f in
    let back_count : back.count ≡ length backs = ap (λ (x : Groups). x.count) b in
    let front_number : front.number ≡ number_of_groups fronts = ap (λ (x : Groups). x.number) f in
    let back_number : back.number ≡ number_of_groups backs = ap (λ (x : Groups). x.number) b in
    let within : length fronts + length backs < 8 = omega arith in
    ap (option_map number_of_groups) (round_zeros fronts backs within)
    ∙ ap Some (number-joined fronts backs within ∙ sym (rw (power, front_count, front_number, back_number) refl))
