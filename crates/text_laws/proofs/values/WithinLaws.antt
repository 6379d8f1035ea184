-- What is read of a value is within its range.
use Rattle.std.proofs.Common.{◌≡◌, ℕ, zero, suc, ◌+◌, ◌-◌, ◌/◌, ◌%◌, ◌<◌, ◌≤◌, ◌^◌, Bool, true, false, cond, List, [], ◌∷◌, ◌++◌, length, drop, replicate, refl, subst, ◌∙◌, arith, Option, Some, None, eqb-true, length-append, pow_pos}
use Rattle.std.specs.Prelude.{◌&&◌, ◌==◌, nat_le}
use Rattle.std.specs.Option.{option_map, option_or, option_and_then}
use Rattle.std.specs.Str.Parse.{digits_value}
use Rattle.std.proofs.lemmas.Bool.{and_parts, leb-true}
use Rattle.std.proofs.lemmas.List.{length-replicate}
use Rattle.spec_base.specs.Bits.{leading_bits}
use Rattle.spec_flow_text.specs.Characters.{colon, dot}
use Rattle.spec_flow_text.specs.Numbers.{where_found, split_once, are_digits, digits_upto, has_leading_zero, decimal_upto, is_hexadecimal, number_upto, octet, octet_before_colon, six_octets, mac}
use Rattle.spec_flow_text.specs.Addresses.{decimal_octet, decimal_octet_before_dot, four_octets, ipv4, group, groups_of_ipv4, last_groups, groups, groups_or_none, eight_groups, split_at_elision, groups_round_zeros, elided_groups, number_of_groups, ipv6, prefix_length, ipv4_mask, ipv6_mask}
use Rattle.text_laws.proofs.values.Lists.{Each}

-- ---- options

-- a chain of options that ends in a value
pub chained : {A B : Type 0} (o : Option A) (f : A → Option B) (b : B) → option_and_then f o ≡ Some b → (a : A) × (o ≡ Some a) × (f a ≡ Some b)
chained None f b h = cc
chained (Some a) f b h = (a, refl, h)

pub mapped : {A B : Type 0} (o : Option A) (f : A → B) (b : B) → option_map f o ≡ Some b → (a : A) × (o ≡ Some a) × (f a ≡ b)
mapped None f b h = cc
mapped (Some a) f b h = (a, refl, cc)

-- ---- numbers

digits_within : (base most : ℕ) (text : List ℕ) (n : ℕ) → digits_upto base most text ≡ Some n → n ≤ most
unfolding digits_upto
digits_within base most text n h = by_test (are_digits base text && nat_le (digits_value base text) most) refl h
  where
    by_test : (t : Bool) → (are_digits base text && nat_le (digits_value base text) most) ≡ t → cond t (Some (digits_value base text)) None ≡ Some n → n ≤ most
    by_test true e h =
        let le = leb-true (digits_value base text) most (and_parts (are_digits base text) (nat_le (digits_value base text) most) e).1 in
        let same : digits_value base text ≡ n = cc in
        subst (λ k. k ≤ most) same le
    by_test false e h = cc

decimal_within : (most : ℕ) (text : List ℕ) (n : ℕ) → decimal_upto most text ≡ Some n → n ≤ most
unfolding decimal_upto
decimal_within most text n h = by_test (has_leading_zero text) h
  where
    by_test : (t : Bool) → cond t None (digits_upto 10 most text) ≡ Some n → n ≤ most
    by_test true h = cc
    by_test false h = digits_within 10 most text n h

pub number_within : (most : ℕ) (text : List ℕ) (n : ℕ) → number_upto most text ≡ Some n → n ≤ most
unfolding number_upto
number_within most text n h = by_test (is_hexadecimal text) h
  where
    by_test : (t : Bool) → cond t (digits_upto 16 most (drop 2 text)) (decimal_upto most text) ≡ Some n → n ≤ most
    by_test true h = digits_within 16 most (drop 2 text) n h
    by_test false h = decimal_within most text n h

-- ---- Ethernet addresses

octet_within : (text : List ℕ) (n : ℕ) → octet text ≡ Some n → n ≤ 255
unfolding octet
octet_within text n h = by_test (nat_le (length text) 2) h
  where
    by_test : (t : Bool) → cond t (digits_upto 16 255 text) None ≡ Some n → n ≤ 255
    by_test true h = digits_within 16 255 text n h
    by_test false h = cc

before_colon_within : (text : List ℕ) (p : ℕ × List ℕ) → octet_before_colon text ≡ Some p → p.0 ≤ 255
unfolding octet_before_colon
before_colon_within text p h =
    let parts = chained (split_once colon text) (λ q. option_and_then (λ n. Some (n, q.1)) (octet q.0)) p h in
    let n = chained (octet parts.0.0) (λ n. Some (n, parts.0.1)) p parts.2 in
    let same : n.0 ≡ p.0 = cc in
    subst (λ k. k ≤ 255) same (octet_within parts.0.0 n.0 n.1)

pub mac_within : (text : List ℕ) (n : ℕ) → mac text ≡ Some n → n < 2 ^ 48
unfolding mac
mac_within text n h =
    let a = chained (octet_before_colon text) _ n h in
    let b = chained (octet_before_colon a.0.1) _ n a.2 in
    let c = chained (octet_before_colon b.0.1) _ n b.2 in
    let d = chained (octet_before_colon c.0.1) _ n c.2 in
    let e = chained (octet_before_colon d.0.1) _ n d.2 in
    let f = chained (octet e.0.1) _ n e.2 in
    let same : six_octets a.0.0 b.0.0 c.0.0 d.0.0 e.0.0 f.0 ≡ n = cc in
    omega (
      arith,
      before_colon_within text a.0 a.1,
      before_colon_within a.0.1 b.0 b.1,
      before_colon_within b.0.1 c.0 c.1,
      before_colon_within c.0.1 d.0 d.1,
      before_colon_within d.0.1 e.0 e.1,
      octet_within e.0.1 f.0 f.1,
      same,
    )

-- ---- IPv4

before_dot_within : (text : List ℕ) (p : ℕ × List ℕ) → decimal_octet_before_dot text ≡ Some p → p.0 ≤ 255
unfolding decimal_octet_before_dot
before_dot_within text p h =
    let parts = chained (split_once dot text) _ p h in
    let n = chained (decimal_octet parts.0.0) _ p parts.2 in
    let same : n.0 ≡ p.0 = cc in
    subst (λ k. k ≤ 255) same (decimal_within 255 parts.0.0 n.0 n.1)

pub ipv4_within : (text : List ℕ) (n : ℕ) → ipv4 text ≡ Some n → n < 2 ^ 32
unfolding ipv4
ipv4_within text n h =
    let a = chained (decimal_octet_before_dot text) _ n h in
    let b = chained (decimal_octet_before_dot a.0.1) _ n a.2 in
    let c = chained (decimal_octet_before_dot b.0.1) _ n b.2 in
    let d = chained (decimal_octet c.0.1) _ n c.2 in
    let same : four_octets a.0.0 b.0.0 c.0.0 d.0 ≡ n = cc in
    omega (arith, before_dot_within text a.0 a.1, before_dot_within a.0.1 b.0 b.1, before_dot_within b.0.1 c.0 c.1, decimal_within 255 c.0.1 d.0 d.1, same)

-- ---- IPv6

abbrev AreGroups : List ℕ → Type 0
AreGroups all = Each (λ g. g ≤ 65535) all

group_within : (text : List ℕ) (n : ℕ) → group text ≡ Some n → n ≤ 65535
unfolding group
group_within text n h = by_test (nat_le (length text) 4) h
  where
    by_test : (t : Bool) → cond t (digits_upto 16 65535 text) None ≡ Some n → n ≤ 65535
    by_test true h = digits_within 16 65535 text n h
    by_test false h = cc

two_groups : (with_ipv4 : Bool) (room : ℕ) (text : List ℕ) (all : List ℕ) → cond (with_ipv4 && nat_le 2 room) (groups_of_ipv4 text) None ≡ Some all → AreGroups all
unfolding groups_of_ipv4
two_groups with_ipv4 room text all h = by_test (with_ipv4 && nat_le 2 room) h
  where
    by_test : (t : Bool) → cond t (option_map (λ n. n / 65536 ∷ n % 65536 ∷ []) (ipv4 text)) None ≡ Some all → AreGroups all
    by_test false h = cc
    by_test true h =
        let n = mapped (ipv4 text) (λ k. k / 65536 ∷ k % 65536 ∷ []) all h in
        let lt = ipv4_within text n.0 n.1 in
        subst AreGroups n.2 (omega arith, (omega arith, tt))

last_within : (with_ipv4 : Bool) (room : ℕ) (text : List ℕ) (all : List ℕ) → last_groups with_ipv4 room text ≡ Some all → AreGroups all
unfolding last_groups
last_within with_ipv4 room text all h = by_group (group text) refl h
  where
    by_group : (o : Option ℕ) → group text ≡ o → option_or (option_map (λ g. g ∷ []) o) (cond (with_ipv4 && nat_le 2 room) (groups_of_ipv4 text) None) ≡ Some all → AreGroups all
    by_group None e h = two_groups with_ipv4 room text all h
    by_group (Some g) e h = let same : g ∷ [] ≡ all = cc in subst AreGroups same (group_within text g e, tt)

groups_within : (with_ipv4 : Bool) (room : ℕ) (text : List ℕ) (all : List ℕ) → groups with_ipv4 room text ≡ Some all → AreGroups all
unfolding groups
groups_within with_ipv4 zero text all h = cc
groups_within with_ipv4 (suc room) text all h = by_cut (split_once colon text) (groups_within with_ipv4 room) h
  where
    by_cut : (o : Option (List ℕ × List ℕ)) → ((text all : List ℕ) → groups with_ipv4 room text ≡ Some all → AreGroups all)
        → where_found o (λ parts. option_and_then (λ g. option_map (λ others. g ∷ others) (groups with_ipv4 room parts.1)) (group parts.0)) (last_groups with_ipv4 (suc room) text) ≡ Some all → AreGroups all
    by_cut None ih h = last_within with_ipv4 (suc room) text all h
    by_cut (Some parts) ih h =
        let g = chained (group parts.0) (λ g. option_map (λ others. g ∷ others) (groups with_ipv4 room parts.1)) all h in
        let others = mapped (groups with_ipv4 room parts.1) (λ others. g.0 ∷ others) all g.2 in
        subst AreGroups others.2 (group_within parts.0 g.0 g.1, ih parts.1 others.0 others.1)

or_none_within : (with_ipv4 : Bool) (room : ℕ) (text : List ℕ) (all : List ℕ) → groups_or_none with_ipv4 room text ≡ Some all → AreGroups all
or_none_within with_ipv4 room text all h = by_test (length text == 0) h
  where
    by_test : (t : Bool) → cond t (Some []) (groups with_ipv4 room text) ≡ Some all → AreGroups all
    by_test true h = let same : [] ≡ all = cc in subst AreGroups same tt
    by_test false h = groups_within with_ipv4 room text all h

groups_more : (xs ys : List ℕ) → AreGroups xs → AreGroups ys → AreGroups (xs ++ ys)
groups_more [] ys h k = k
groups_more (x ∷ xs) ys h k = (h.0, groups_more xs ys h.1 k)

zero_groups : (n : ℕ) → AreGroups (replicate n 0)
zero_groups zero = tt
zero_groups (suc n) = (omega arith, zero_groups n)

-- eight groups
abbrev AreEight : List ℕ → Type 0
AreEight all = AreGroups all × (length all ≡ 8)

eight_within : (text all : List ℕ) → eight_groups text ≡ Some all → AreEight all
unfolding eight_groups
eight_within text all h =
    let found = chained (groups true 8 text) _ all h in
    by_test found.0 (groups_within true 8 text found.0 found.1) (length found.0 == 8) refl found.2
  where
    by_test : (xs : List ℕ) → AreGroups xs → (t : Bool) → (length xs == 8) ≡ t → cond t (Some xs) None ≡ Some all → AreEight all
    by_test xs each true e h = let same : xs ≡ all = cc in subst AreEight same (each, eqb-true (length xs) 8 e)
    by_test xs each false e h = cc

round_zeros_within : (front back all : List ℕ) → AreGroups front → AreGroups back → groups_round_zeros front back ≡ Some all → AreEight all
unfolding groups_round_zeros
round_zeros_within front back all f b h = by_test (nat_le (length front + length back) 7) refl h
  where
    by_test : (t : Bool) → nat_le (length front + length back) 7 ≡ t → cond t (Some (front ++ (replicate (8 - (length front + length back)) 0 ++ back))) None ≡ Some all → AreEight all
    by_test false e h = cc
    by_test true e h =
        let missing = 8 - (length front + length back) in
        let few = leb-true (length front + length back) 7 e in
        let same : front ++ (replicate missing 0 ++ back) ≡ all = cc in
        let long : length (front ++ (replicate missing 0 ++ back)) ≡ 8 =
        omega (arith, length-append front (replicate missing 0 ++ back), length-append (replicate missing 0) back, length-replicate {A = ℕ} missing 0) in
        subst AreEight same (groups_more front (replicate missing 0 ++ back) f (groups_more (replicate missing 0) back (zero_groups missing) b), long)

elided_within : (text all : List ℕ) → elided_groups text ≡ Some all → AreEight all
unfolding elided_groups
elided_within text all h =
    let parts = chained (split_at_elision text) _ all h in
    let front = chained (groups_or_none false 7 parts.0.0) _ all parts.2 in
    let back = chained (groups_or_none true 7 parts.0.1) _ all front.2 in
    round_zeros_within front.0 back.0 all (or_none_within false 7 parts.0.0 front.0 front.1) (or_none_within true 7 parts.0.1 back.0 back.1) back.2

number_of_eight : (all : List ℕ) → AreEight all → number_of_groups all < 2 ^ 128
number_of_eight (a ∷ b ∷ c ∷ d ∷ e ∷ f ∷ g ∷ h ∷ []) eight = omega arith
number_of_eight all eight = absurd (omega arith)

pub ipv6_within : (text : List ℕ) (n : ℕ) → ipv6 text ≡ Some n → n < 2 ^ 128
unfolding ipv6
ipv6_within text n h =
    let all = mapped (option_or (eight_groups text) (elided_groups text)) number_of_groups n h in
    subst (λ k. k < 2 ^ 128) all.2 (number_of_eight all.0 (by_form (eight_groups text) refl all.0 all.1))
  where
    by_form : (o : Option (List ℕ)) → eight_groups text ≡ o → (all : List ℕ) → option_or o (elided_groups text) ≡ Some all → AreEight all
    by_form (Some xs) e all h = eight_within text all (e ∙ h)
    by_form None e all h = elided_within text all h

-- ---- masks

leading_within : (width len : ℕ) → leading_bits width len < 2 ^ width
leading_within width len = omega (arith, pow_pos (width - len), pow_pos width)

pub ipv4_mask_within : (text : List ℕ) (n : ℕ) → ipv4_mask text ≡ Some n → n < 2 ^ 32
unfolding ipv4_mask
ipv4_mask_within text n h = by_form (prefix_length 32 text) h
  where
    by_form : (o : Option ℕ) → option_or (option_map (leading_bits 32) o) (ipv4 text) ≡ Some n → n < 2 ^ 32
    by_form (Some len) h = let same : leading_bits 32 len ≡ n = cc in subst (λ k. k < 2 ^ 32) same (leading_within 32 len)
    by_form None h = ipv4_within text n h

pub ipv6_mask_within : (text : List ℕ) (n : ℕ) → ipv6_mask text ≡ Some n → n < 2 ^ 128
unfolding ipv6_mask
ipv6_mask_within text n h = by_form (prefix_length 128 text) h
  where
    by_form : (o : Option ℕ) → option_or (option_map (leading_bits 128) o) (ipv6 text) ≡ Some n → n < 2 ^ 128
    by_form (Some len) h = let same : leading_bits 128 len ≡ n = cc in subst (λ k. k < 2 ^ 128) same (leading_within 128 len)
    by_form None h = ipv6_within text n h
