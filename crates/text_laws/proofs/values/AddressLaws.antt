-- Printed addresses read back.
use Rattle.std.proofs.Common.{◌≡◌, ℕ, ◌/◌, ◌%◌, ◌<◌, ◌^◌, true, List, [], ◌∷◌, ◌++◌, refl, ap, arith, Some, decimal, lit<, lit≤}
use Rattle.std.proofs.lemmas.Fmt.{decimal_is_IsNumeral_wide}
use Rattle.spec_flow_text.specs.Characters.{dot, colon}
use Rattle.spec_flow_text.specs.Numbers.{octet_before_colon, six_octets, mac}
use Rattle.spec_flow_text.specs.Addresses.{decimal_octet_before_dot, four_octets, ipv4, groups, eight_groups, number_of_groups, ipv6}
use Rattle.spec_flow_text.specs.NumbersPrinted.{octet_digits, mac_text, ipv4_text, group_at, ipv6_text}
use Rattle.text_laws.proofs.values.Cuts.{split_once-front}
use Rattle.text_laws.proofs.values.DigitLaws.{digits_lack, decimal_upto-decimal, octet_digits-AllDigits, octet-octet_digits}
use Rattle.text_laws.proofs.values.GroupLaws.{groups-joined}

octet_before_colon-digits : (n : ℕ) (rest : List ℕ) → n < 256 → octet_before_colon (octet_digits n ++ (colon ∷ rest)) ≡ Some (n, rest)
unfolding octet_before_colon
octet_before_colon-digits n rest lt =
    rw (split_once-front colon (octet_digits n) rest (digits_lack 16 colon (octet_digits n) (lit≤ tt) (octet_digits-AllDigits n lt)), octet-octet_digits n lt) refl

decimal_octet_before_dot-decimal : (n : ℕ) (rest : List ℕ) → n < 256 → decimal_octet_before_dot (decimal n ++ (dot ∷ rest)) ≡ Some (n, rest)
unfolding decimal_octet_before_dot
decimal_octet_before_dot-decimal n rest lt =
    let d = decimal_is_IsNumeral_wide n (omega arith) in
    rw (split_once-front dot (decimal n) rest (digits_lack 10 dot (decimal n) (lit≤ tt) d.0.1), decimal_upto-decimal 255 n (omega arith) (omega arith)) refl

pub byte_at_lt : (k n : ℕ) → n / 256 ^ k % 256 < 256
byte_at_lt k n = omega arith

six_octets_of : (n : ℕ) → n < 2 ^ 48 → six_octets (n / 256 ^ 5 % 256) (n / 256 ^ 4 % 256) (n / 256 ^ 3 % 256) (n / 256 ^ 2 % 256) (n / 256 ^ 1 % 256) (n % 256) ≡ n
six_octets_of n lt = omega arith

four_octets_of : (n : ℕ) → n < 2 ^ 32 → four_octets (n / 256 ^ 3 % 256) (n / 256 ^ 2 % 256) (n / 256 ^ 1 % 256) (n % 256) ≡ n
four_octets_of n lt = omega arith

pub mac-mac_text : (n : ℕ) → n < 2 ^ 48 → mac (mac_text n) ≡ Some n
unfolding mac mac_text
mac-mac_text n lt =
    rw (
      octet_before_colon-digits (n / 256 ^ 5 % 256) _ (byte_at_lt 5 n),
      octet_before_colon-digits (n / 256 ^ 4 % 256) _ (byte_at_lt 4 n),
      octet_before_colon-digits (n / 256 ^ 3 % 256) _ (byte_at_lt 3 n),
      octet_before_colon-digits (n / 256 ^ 2 % 256) _ (byte_at_lt 2 n),
      octet_before_colon-digits (n / 256 ^ 1 % 256) _ (byte_at_lt 1 n),
      octet-octet_digits (n % 256) (omega arith),
    ) (ap Some (six_octets_of n lt))

pub ipv4-ipv4_text : (n : ℕ) → n < 2 ^ 32 → ipv4 (ipv4_text n) ≡ Some n
unfolding ipv4 ipv4_text
ipv4-ipv4_text n lt =
    rw (
      decimal_octet_before_dot-decimal (n / 256 ^ 3 % 256) _ (byte_at_lt 3 n),
      decimal_octet_before_dot-decimal (n / 256 ^ 2 % 256) _ (byte_at_lt 2 n),
      decimal_octet_before_dot-decimal (n / 256 ^ 1 % 256) _ (byte_at_lt 1 n),
      decimal_upto-decimal 255 (n % 256) (omega arith) (omega arith),
    ) (ap Some (four_octets_of n lt))

-- the groups of an address, from one place down
abbrev groups_of : ℕ → List ℕ
groups_of n = group_at 6 n ∷ group_at 5 n ∷ group_at 4 n ∷ group_at 3 n ∷ group_at 2 n ∷ group_at 1 n ∷ group_at 0 n ∷ []

group_at_lt : (place n : ℕ) → group_at place n < 65536
group_at_lt place n = omega arith

number_of_groups_of : (n : ℕ) → n < 2 ^ 128 → number_of_groups (group_at 7 n ∷ groups_of n) ≡ n
number_of_groups_of n lt = omega arith

groups-ipv6_text : (n : ℕ) → groups true 8 (ipv6_text n) ≡ Some (group_at 7 n ∷ groups_of n)
unfolding ipv6_text
groups-ipv6_text n =
    groups-joined true 8 (group_at 7 n) (groups_of n) (lit< tt) (group_at_lt 7 n)
    (group_at_lt 6 n, (group_at_lt 5 n, (group_at_lt 4 n, (group_at_lt 3 n, (group_at_lt 2 n, (group_at_lt 1 n, (group_at_lt 0 n, tt)))))))

pub ipv6-ipv6_text : (n : ℕ) → n < 2 ^ 128 → ipv6 (ipv6_text n) ≡ Some n
unfolding ipv6 eight_groups
ipv6-ipv6_text n lt = rw (groups-ipv6_text n) (ap Some (number_of_groups_of n lt))
