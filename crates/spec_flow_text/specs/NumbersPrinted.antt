-- Numbers and addresses as they are printed: each in one form, which reads back.
use Rattle.std.specs.Prelude.{ℕ, zero, suc, ◌/◌, ◌%◌, ◌^◌, ◌==◌, false, if◌then◌else◌, List, [], ◌∷◌, ◌++◌, map, Option, Some, None, codes}
use Rattle.std.specs.List.{join_with_byte}
use Rattle.std.specs.Option.{option_map_or}
use Rattle.std.specs.Char.{digit_char}
use Rattle.std.specs.Fmt.{digits, decimal}
use Rattle.spec_base.specs.Bits.{leading_bits}
use Rattle.spec_base.specs.Bytes.{big_endian}
use Rattle.spec_flow_text.specs.Characters.{dot, colon}

-- hexadecimal digits in lower case, without leading zeros
abbrev pub hexadecimal_digits : ℕ → List ℕ
hexadecimal_digits n = digits 16 false n

-- `0x` and hexadecimal digits
unfoldable pub hexadecimal : ℕ → List ℕ
hexadecimal n = codes "0x" ++ hexadecimal_digits n

-- the two hexadecimal digits of an octet
abbrev pub octet_digits : ℕ → List ℕ
octet_digits n = digit_char (n / 16) ∷ digit_char (n % 16) ∷ []

-- `0x` and the four hexadecimal digits of a number of 16 bits
unfoldable pub hexadecimal4 : ℕ → List ℕ
hexadecimal4 n = codes "0x" ++ (octet_digits (n / 256) ++ octet_digits (n % 256))

-- an Ethernet address of 48 bits: the two digits of each octet, with colons between them
unfoldable pub mac_text : ℕ → List ℕ
mac_text n = join_with_byte colon (map octet_digits (big_endian 6 n))

-- an IPv4 address: each octet in decimal, with dots between them
unfoldable pub ipv4_text : ℕ → List ℕ
ipv4_text n = join_with_byte dot (map decimal (big_endian 4 n))

-- a group of an IPv6 address, counted from the last one
abbrev pub group_at : ℕ → ℕ → ℕ
group_at place n = n / 65536 ^ place % 65536

-- an IPv6 address: its eight groups with colons between them, none elided
unfoldable pub ipv6_text : ℕ → List ℕ
ipv6_text n = join_with_byte colon (map (λ place. hexadecimal_digits (group_at place n)) (7 ∷ 6 ∷ 5 ∷ 4 ∷ 3 ∷ 2 ∷ 1 ∷ 0 ∷ []))

-- the greatest length, up to this one, of a prefix that has this mask
unfoldable pub prefix_length_up_to : ℕ → ℕ → ℕ → Option ℕ
prefix_length_up_to width mask zero = if mask == 0 then Some 0 else None
prefix_length_up_to width mask (suc len) =
    if mask == leading_bits width (suc len) then Some (suc len) else prefix_length_up_to width mask len

-- the length of the prefix that has this mask of a number of this width
abbrev pub prefix_length_of : ℕ → ℕ → Option ℕ
prefix_length_of width mask = prefix_length_up_to width mask width

-- a mask of an IPv4 address: the length where it is that of a prefix, and else an address
unfoldable pub ipv4_mask_text : ℕ → List ℕ
ipv4_mask_text mask = option_map_or decimal (prefix_length_of 32 mask) (ipv4_text mask)

-- a mask of an IPv6 address
unfoldable pub ipv6_mask_text : ℕ → List ℕ
ipv6_mask_text mask = option_map_or decimal (prefix_length_of 128 mask) (ipv6_text mask)
