-- Printed masks read back.
use Rattle.std.proofs.Common.{◌≡◌, ℕ, zero, suc, ◌-◌, ◌/◌, ◌%◌, ◌<◌, ◌≤◌, ◌^◌, Bool, true, false, cond, List, [], ◌∷◌, ◌++◌, length, refl, sym, ap, ◌∙◌, arith, Option, Some, None, decimal, lit≤, eqb-true}
use Rattle.std.specs.Prelude.{not, ◌==◌}
use Rattle.std.specs.List.{list_all}
use Rattle.std.specs.Option.{option_map_or}
use Rattle.std.specs.Char.{is_digit}
use Rattle.std.proofs.lemmas.Bool.{and_left, and_right}
use Rattle.std.proofs.lemmas.Fmt.{decimal_is_IsNumeral_wide}
use Rattle.spec_base.specs.Bits.{leading_bits}
use Rattle.spec_flow_text.specs.Characters.{dot, colon}
use Rattle.spec_flow_text.specs.Numbers.{digits_upto}
use Rattle.spec_flow_text.specs.Addresses.{prefix_length, ipv4_mask, ipv6_mask}
use Rattle.spec_flow_text.specs.NumbersPrinted.{ipv4_text, ipv6_text, hexadecimal_digits, group_at, prefix_length_up_to, prefix_length_of, ipv4_mask_text, ipv6_mask_text}
use Rattle.text_laws.proofs.values.DigitLaws.{numeral_reads_back}
use Rattle.text_laws.proofs.values.AddressLaws.{ipv4-ipv4_text, ipv6-ipv6_text}

no_digits : (byte : ℕ) (front rest : List ℕ) → is_digit byte 10 ≡ false → list_all (λ c. is_digit c 10) (front ++ byte ∷ rest) ≡ false
no_digits byte [] rest h = and_left (is_digit byte 10) _ h
no_digits byte (c ∷ cs) rest h = and_right (is_digit c 10) _ (no_digits byte cs rest h)

-- a text with a byte that is no digit is no length
no_length : (most byte : ℕ) (front rest : List ℕ) → is_digit byte 10 ≡ false → prefix_length most (front ++ byte ∷ rest) ≡ None
unfolding prefix_length digits_upto
no_length most byte front rest h = rw (no_digits byte front rest h, and_right (not (length (front ++ byte ∷ rest) == 0)) false refl) refl

length_reads_back : (most len : ℕ) → len ≤ most → most < 10 ^ 64 → prefix_length most (decimal len) ≡ Some len
unfolding prefix_length
length_reads_back most len le small = let d = decimal_is_IsNumeral_wide len (omega arith) in numeral_reads_back 10 most len (decimal len) d.0 d.1 le

no_bits : (width : ℕ) → leading_bits width 0 ≡ 0
no_bits width = let whole : width - 0 ≡ width = omega arith in rw whole (omega arith)

-- the length of a prefix is that of its mask
prefix_found : (width mask k len : ℕ) → prefix_length_up_to width mask k ≡ Some len → (k ≤ width) → (leading_bits width len ≡ mask) × (len ≤ k)
unfolding prefix_length_up_to
prefix_found width mask zero len h within = by_test (mask == 0) refl h
  where
    by_test : (t : Bool) → (mask == 0) ≡ t → cond t (Some 0) None ≡ Some len → (leading_bits width len ≡ mask) × (len ≤ 0)
    by_test true e found =
        let same : 0 ≡ len = cc in
        let nothing : mask ≡ 0 = eqb-true mask 0 e in
        (rw (← same) (no_bits width ∙ sym nothing), omega arith)
    by_test false e found = cc
prefix_found width mask (suc k) len h within = by_test (mask == leading_bits width (suc k)) refl h (prefix_found width mask k len)
  where
    by_test : (t : Bool) → (mask == leading_bits width (suc k)) ≡ t → cond t (Some (suc k)) (prefix_length_up_to width mask k) ≡ Some len
        → (prefix_length_up_to width mask k ≡ Some len → k ≤ width → (leading_bits width len ≡ mask) × (len ≤ k)) → (leading_bits width len ≡ mask) × (len ≤ suc k)
    by_test true e found later = let same : suc k ≡ len = cc in (rw (← same) (sym (eqb-true mask (leading_bits width (suc k)) e)), omega arith)
    by_test false e found later = let shorter = later found (omega arith) in (shorter.0, omega (arith, shorter.1))

ipv4_text-no_length : (mask : ℕ) → prefix_length 32 (ipv4_text mask) ≡ None
unfolding ipv4_text
ipv4_text-no_length mask = no_length 32 dot (decimal (mask / 256 ^ 3 % 256)) _ refl

ipv6_text-no_length : (mask : ℕ) → prefix_length 128 (ipv6_text mask) ≡ None
unfolding ipv6_text
ipv6_text-no_length mask = no_length 128 colon (hexadecimal_digits (group_at 7 mask)) _ refl

ipv4_by_length : (mask : ℕ) → mask < 2 ^ 32 → (o : Option ℕ) → prefix_length_of 32 mask ≡ o → ipv4_mask (option_map_or decimal o (ipv4_text mask)) ≡ Some mask
unfolding ipv4_mask
ipv4_by_length mask lt (Some len) e = let found = prefix_found 32 mask 32 len e (lit≤ tt) in rw (length_reads_back 32 len found.1 (omega arith)) (ap Some found.0)
ipv4_by_length mask lt None e = rw (ipv4_text-no_length mask) (ipv4-ipv4_text mask lt)

ipv6_by_length : (mask : ℕ) → mask < 2 ^ 128 → (o : Option ℕ) → prefix_length_of 128 mask ≡ o → ipv6_mask (option_map_or decimal o (ipv6_text mask)) ≡ Some mask
unfolding ipv6_mask
ipv6_by_length mask lt (Some len) e = let found = prefix_found 128 mask 128 len e (lit≤ tt) in rw (length_reads_back 128 len found.1 (omega arith)) (ap Some found.0)
ipv6_by_length mask lt None e = rw (ipv6_text-no_length mask) (ipv6-ipv6_text mask lt)

pub ipv4_mask-ipv4_mask_text : (mask : ℕ) → mask < 2 ^ 32 → ipv4_mask (ipv4_mask_text mask) ≡ Some mask
unfolding ipv4_mask_text
ipv4_mask-ipv4_mask_text mask lt = ipv4_by_length mask lt (prefix_length_of 32 mask) refl

pub ipv6_mask-ipv6_mask_text : (mask : ℕ) → mask < 2 ^ 128 → ipv6_mask (ipv6_mask_text mask) ≡ Some mask
unfolding ipv6_mask_text
ipv6_mask-ipv6_mask_text mask lt = ipv6_by_length mask lt (prefix_length_of 128 mask) refl
