-- Printed values have digits, letters, colons and dots alone.
use Rattle.std.proofs.Common.{◌≡◌, ℕ, zero, suc, ◌/◌, ◌%◌, ◌<◌, ◌≤◌, ◌^◌, Bool, true, false, cond, List, [], ◌∷◌, ◌++◌, map, refl, arith, Some, None, decimal, lit≤}
use Rattle.std.specs.Prelude.{◌==◌}
use Rattle.std.specs.List.{list_all, join_with_byte}
use Rattle.std.specs.Option.{option_map_or}
use Rattle.std.specs.Char.{digit_value}
use Rattle.std.specs.Str.Parse.{AllDigits}
use Rattle.std.proofs.lemmas.Bool.{and_from, and_parts}
use Rattle.std.proofs.lemmas.Bool.Decides.{nat_tests}
use Rattle.std.proofs.lemmas.Fmt.{decimal_is_IsNumeral_wide}
use Rattle.spec_base.specs.Bits.{leading_bits}
use Rattle.spec_base.specs.Bytes.{big_endian}
use Rattle.spec_flow_text.specs.Characters.{dot, colon, is_value_character}
use Rattle.spec_flow_text.specs.NumbersPrinted.{hexadecimal_digits, hexadecimal, octet_digits, hexadecimal4, mac_text, ipv4_text, group_at, ipv6_text, prefix_length_up_to, ipv4_mask_text, ipv6_mask_text}
use Rattle.text_laws.proofs.values.Lists.{Each}
use Rattle.text_laws.proofs.values.DigitLaws.{hexadecimal_numeral, octet_digits-AllDigits}

-- a text has these characters alone
abbrev pub HasValueCharacters : List ℕ → Type 0
HasValueCharacters text = list_all is_value_character text ≡ true

digit_is_value_character : (c : ℕ) → digit_value c < 36 → is_value_character c ≡ true
digit_is_value_character c lt = grind (arith, nat_tests)

HasValueCharacters-append : (xs ys : List ℕ) → HasValueCharacters xs → HasValueCharacters ys → HasValueCharacters (xs ++ ys)
HasValueCharacters-append [] ys h k = k
HasValueCharacters-append (x ∷ xs) ys h k =
    let p = and_parts (is_value_character x) (list_all is_value_character xs) h in
    and_from (is_value_character x) _ p.0 (HasValueCharacters-append xs ys p.1 k)

HasValueCharacters-digits : (base : ℕ) → base ≤ 36 → (text : List ℕ) → AllDigits base text → HasValueCharacters text
HasValueCharacters-digits base le [] h = refl
HasValueCharacters-digits base le (c ∷ cs) h =
    and_from (is_value_character c) _ (digit_is_value_character c (omega arith)) (HasValueCharacters-digits base le cs h.1)

HasValueCharacters-joined : (separator : ℕ) → is_value_character separator ≡ true → (texts : List (List ℕ)) → Each HasValueCharacters texts → HasValueCharacters (join_with_byte separator texts)
HasValueCharacters-joined separator s [] h = refl
HasValueCharacters-joined separator s (t ∷ []) h = h.0
HasValueCharacters-joined separator s (t ∷ u ∷ texts) h =
    HasValueCharacters-append t _ h.0 (and_from (is_value_character separator) _ s (HasValueCharacters-joined separator s (u ∷ texts) h.1))

pub decimal_characters : (n : ℕ) → n < 10 ^ 64 → HasValueCharacters (decimal n)
decimal_characters n small = HasValueCharacters-digits 10 (lit≤ tt) (decimal n) (decimal_is_IsNumeral_wide n small).0.1

hexadecimal_digits_characters : (n : ℕ) → n < 16 ^ 64 → HasValueCharacters (hexadecimal_digits n)
hexadecimal_digits_characters n small = HasValueCharacters-digits 16 (lit≤ tt) (hexadecimal_digits n) (hexadecimal_numeral n small).0.1

octet_digits_characters : (n : ℕ) → n < 256 → HasValueCharacters (octet_digits n)
octet_digits_characters n lt = HasValueCharacters-digits 16 (lit≤ tt) (octet_digits n) (octet_digits-AllDigits n lt)

pub hexadecimal_characters : (n : ℕ) → n < 16 ^ 64 → HasValueCharacters (hexadecimal n)
unfolding hexadecimal
hexadecimal_characters n small = hexadecimal_digits_characters n small

pub hexadecimal4_characters : (n : ℕ) → n < 2 ^ 16 → HasValueCharacters (hexadecimal4 n)
unfolding hexadecimal4
hexadecimal4_characters n small = HasValueCharacters-append (octet_digits (n / 256)) (octet_digits (n % 256)) (octet_digits_characters (n / 256) (omega arith)) (octet_digits_characters (n % 256) (omega arith))

octet_at : (k n : ℕ) → HasValueCharacters (octet_digits (n / 256 ^ k % 256))
octet_at k n = octet_digits_characters (n / 256 ^ k % 256) (omega arith)

decimal_at : (k n : ℕ) → HasValueCharacters (decimal (n / 256 ^ k % 256))
decimal_at k n = decimal_characters (n / 256 ^ k % 256) (omega arith)

group_characters : (place n : ℕ) → HasValueCharacters (hexadecimal_digits (group_at place n))
group_characters place n = hexadecimal_digits_characters (group_at place n) (omega arith)

pub mac_characters : (n : ℕ) → HasValueCharacters (mac_text n)
unfolding mac_text
mac_characters n = HasValueCharacters-joined colon refl (map octet_digits (big_endian 6 n)) (octet_at 5 n, (octet_at 4 n, (octet_at 3 n, (octet_at 2 n, (octet_at 1 n, (octet_digits_characters (n % 256) (omega arith), tt))))))

pub ipv4_characters : (n : ℕ) → HasValueCharacters (ipv4_text n)
unfolding ipv4_text
ipv4_characters n = HasValueCharacters-joined dot refl (map decimal (big_endian 4 n)) (decimal_at 3 n, (decimal_at 2 n, (decimal_at 1 n, (decimal_characters (n % 256) (omega arith), tt))))

pub ipv6_characters : (n : ℕ) → HasValueCharacters (ipv6_text n)
unfolding ipv6_text
ipv6_characters n =
    HasValueCharacters-joined colon refl (map (λ place. hexadecimal_digits (group_at place n)) (7 ∷ 6 ∷ 5 ∷ 4 ∷ 3 ∷ 2 ∷ 1 ∷ 0 ∷ [])) (
      group_characters 7 n,
      (
        group_characters 6 n,
        (
          group_characters 5 n,
          (
            group_characters 4 n,
            (group_characters 3 n, (group_characters 2 n, (group_characters 1 n, (group_characters 0 n, tt)))),
          ),
        ),
      ),
    )

-- a length is at most the width
length_within : (width mask k : ℕ) → k < 10 ^ 64 → (address : List ℕ) → HasValueCharacters address → HasValueCharacters (option_map_or decimal (prefix_length_up_to width mask k) address)
unfolding prefix_length_up_to
length_within width mask zero small address h = by_test (mask == 0)
  where
    by_test : (t : Bool) → HasValueCharacters (option_map_or decimal (cond t (Some 0) None) address)
    by_test true = decimal_characters 0 (omega arith)
    by_test false = h
length_within width mask (suc k) small address h = by_test (mask == leading_bits width (suc k)) (length_within width mask k (omega arith) address h)
  where
    by_test : (t : Bool) → HasValueCharacters (option_map_or decimal (prefix_length_up_to width mask k) address)
        → HasValueCharacters (option_map_or decimal (cond t (Some (suc k)) (prefix_length_up_to width mask k)) address)
    by_test true shorter = decimal_characters (suc k) small
    by_test false shorter = shorter

pub ipv4_mask_characters : (mask : ℕ) → HasValueCharacters (ipv4_mask_text mask)
unfolding ipv4_mask_text
ipv4_mask_characters mask = length_within 32 mask 32 (omega arith) (ipv4_text mask) (ipv4_characters mask)

pub ipv6_mask_characters : (mask : ℕ) → HasValueCharacters (ipv6_mask_text mask)
unfolding ipv6_mask_text
ipv6_mask_characters mask = length_within 128 mask 128 (omega arith) (ipv6_text mask) (ipv6_characters mask)
