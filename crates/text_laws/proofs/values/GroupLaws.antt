-- Printed groups of an IPv6 address read back.
use Rattle.std.proofs.Common.{◌≡◌, ℕ, zero, suc, ◌+◌, ◌/◌, ◌%◌, ◌<◌, ◌≤◌, ◌^◌, Bool, false, List, [], ◌∷◌, ◌++◌, length, map, refl, ap, ◌∙◌, arith, Some, option_map, le-leb, eq-eqb, ne_eqb, lit≤, inl, inr}
use Rattle.std.specs.List.{join_with_byte}
use Rattle.std.specs.Fmt.{digits, digits_onto, digit_glyph}
use Rattle.std.specs.Str.Parse.{AllDigits}
use Rattle.std.proofs.lemmas.Bool.{cases_lt}
use Rattle.spec_flow_text.specs.Characters.{colon}
use Rattle.spec_flow_text.specs.Addresses.{group, last_groups, groups}
use Rattle.spec_flow_text.specs.NumbersPrinted.{hexadecimal_digits}
use Rattle.text_laws.proofs.values.Lists.{Each}
use Rattle.text_laws.proofs.values.Cuts.{split_once-lacks, split_once-front}
use Rattle.text_laws.proofs.values.DigitLaws.{digits_lack, numeral_reads_back, hexadecimal_numeral}

more_than_one : (j n : ℕ) → 16 ≤ n → n < 16 ^ suc j → 0 < j
more_than_one zero n le lt = absurd (omega arith)
more_than_one (suc j) n le lt = omega arith

-- a number below 16 ^ j has at most j digits
length-digits_onto : (k j n : ℕ) (after : List ℕ) → 0 < j → n < 16 ^ j → length (digits_onto k 16 false n after) ≤ j + length after
length-digits_onto zero j n after some small = omega arith
length-digits_onto (suc k) zero n after some small = absurd (omega arith)
length-digits_onto (suc k) (suc j) n after some small = elim (cases_lt n 16) [
  | inl lt ↦ rw (eq-eqb (n / 16) 0 (omega arith)) (omega arith)
  | inr le ↦
      let later = length-digits_onto k j (n / 16) (digit_glyph false (n % 16) ∷ after) (more_than_one j n le small) (omega arith) in
      rw (ne_eqb (n / 16) 0 (λ e. omega arith)) (omega (arith, later))
]

length-hexadecimal_digits : (n : ℕ) → n < 65536 → length (digits 16 false n) ≤ 4
unfolding digits
length-hexadecimal_digits n small = length-digits_onto 64 4 n [] (omega arith) small

group-digits : (n : ℕ) → n < 65536 → group (hexadecimal_digits n) ≡ Some n
unfolding group
group-digits n small =
    let d = hexadecimal_numeral n (omega arith) in
    rw (le-leb (length (digits 16 false n)) 4 (length-hexadecimal_digits n small)) (numeral_reads_back 16 65535 n (digits 16 false n) d.0 d.1 (omega arith))

lacks_colon : (n : ℕ) → n < 65536 → AllDigits 16 (hexadecimal_digits n)
lacks_colon n small = (hexadecimal_numeral n (omega arith)).0.1

groups-last : (with_ipv4 : Bool) (room n : ℕ) → n < 65536 → groups with_ipv4 (suc room) (hexadecimal_digits n) ≡ Some (n ∷ [])
unfolding groups last_groups
groups-last with_ipv4 room n small =
    rw (split_once-lacks colon (hexadecimal_digits n) (digits_lack 16 colon (hexadecimal_digits n) (lit≤ tt) (lacks_colon n small)), group-digits n small) refl

groups-first : (with_ipv4 : Bool) (room n : ℕ) (rest : List ℕ) → n < 65536 → groups with_ipv4 (suc room) (hexadecimal_digits n ++ (colon ∷ rest)) ≡ option_map (λ others. n ∷ others) (groups with_ipv4 room rest)
unfolding groups
groups-first with_ipv4 room n rest small =
    rw (split_once-front colon (hexadecimal_digits n) rest (digits_lack 16 colon (hexadecimal_digits n) (lit≤ tt) (lacks_colon n small)), group-digits n small) refl

-- groups with colons between them
pub groups-joined : (with_ipv4 : Bool) (room n : ℕ) (others : List ℕ) → length others < room → n < 65536 → Each (λ g. g < 65536) others
    → groups with_ipv4 room (join_with_byte colon (map hexadecimal_digits (n ∷ others))) ≡ Some (n ∷ others)
groups-joined with_ipv4 zero n others lt small h = absurd (omega arith)
groups-joined with_ipv4 (suc room) n [] lt small h = groups-last with_ipv4 room n small
groups-joined with_ipv4 (suc room) n (m ∷ others) lt small h =
    groups-first with_ipv4 room n _ small ∙ ap (option_map (λ rest. n ∷ rest)) (groups-joined with_ipv4 room m others (omega arith) h.0 h.1)
