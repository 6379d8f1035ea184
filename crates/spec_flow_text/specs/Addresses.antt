-- Addresses of IPv4 and IPv6 as texts, and masks of them, as ovs-ofctl(8) writes them.
use Rattle.std.specs.Prelude.{ℕ, zero, suc, ◌+◌, ◌-◌, ◌*◌, ◌/◌, ◌%◌, ◌&&◌, ◌==◌, nat_le, Bool, true, false, if◌then◌else◌, List, [], ◌∷◌, ◌++◌, length, replicate, fold, Option, Some, None, codes}
use Rattle.std.specs.Option.{option_map, option_or}
use Rattle.spec_base.specs.Bits.{leading_bits}
use Rattle.spec_flow_text.specs.Characters.{dot, colon}
use Rattle.spec_flow_text.specs.Numbers.{◌>>=◌, where_found, split_once, strip_prefix, digits_upto, decimal_upto}

-- ---- IPv4

-- an octet in decimal (RFC 3986, section 3.2.2: dec-octet)
abbrev pub decimal_octet : List ℕ → Option ℕ
decimal_octet text = decimal_upto 255 text

-- such an octet before a dot, and what stands after it
unfoldable pub decimal_octet_before_dot : List ℕ → Option (ℕ × List ℕ)
decimal_octet_before_dot text = do
  parts ← split_once dot text
  n ← decimal_octet parts.0
  Some (n, parts.1)

-- four octets as one number
abbrev pub four_octets : ℕ → ℕ → ℕ → ℕ → ℕ
four_octets a b c d = ((a * 256 + b) * 256 + c) * 256 + d

-- an IPv4 address in dotted decimal: four octets with dots between them (RFC 3986, section 3.2.2: IPv4address)
unfoldable pub ipv4 : List ℕ → Option ℕ
ipv4 text = do
  a ← decimal_octet_before_dot text
  b ← decimal_octet_before_dot a.1
  c ← decimal_octet_before_dot b.1
  d ← decimal_octet c.1
  Some (four_octets a.0 b.0 c.0 d)

-- ---- IPv6 (RFC 4291, section 2.2)

-- a group of 16 bits: one to four hexadecimal digits
unfoldable pub group : List ℕ → Option ℕ
group text = if nat_le (length text) 4 then digits_upto 16 65535 text else None

-- an IPv4 address as the two groups that it stands for
unfoldable pub groups_of_ipv4 : List ℕ → Option (List ℕ)
groups_of_ipv4 text = option_map (λ n. n / 65536 ∷ n % 65536 ∷ []) (ipv4 text)

-- The groups of a text without a colon: one, or the two of an IPv4 address, where that may stand there and there is room
-- for two.
unfoldable pub last_groups : Bool → ℕ → List ℕ → Option (List ℕ)
last_groups with_ipv4 room text =
    option_or (option_map (λ g. g ∷ []) (group text)) (if with_ipv4 && nat_le 2 room then groups_of_ipv4 text else None)

-- Groups with colons between them, at least one and at most so many. An IPv4 address may stand for the last two where
-- that is said.
unfoldable pub groups : Bool → ℕ → List ℕ → Option (List ℕ)
groups with_ipv4 zero text = None
groups with_ipv4 (suc room) text =
    where_found (split_once colon text)
    (λ parts. group parts.0 >>= λ g. option_map (λ others. g ∷ others) (groups with_ipv4 room parts.1))
    (last_groups with_ipv4 (suc room) text)

-- the same, or no group in an empty text
abbrev pub groups_or_none : Bool → ℕ → List ℕ → Option (List ℕ)
groups_or_none with_ipv4 room text = if length text == 0 then Some [] else groups with_ipv4 room text

-- eight groups
unfoldable pub eight_groups : List ℕ → Option (List ℕ)
eight_groups text = do
  all ← groups true 8 text
  if length all == 8 then Some all else None

-- the parts of a text round the first `::` in it
unfoldable pub split_at_elision : List ℕ → Option (List ℕ × List ℕ)
split_at_elision [] = None
split_at_elision (c ∷ rest) =
    where_found (strip_prefix (codes "::") (c ∷ rest)) (λ back. Some ([], back))
    (option_map (λ parts. (c ∷ parts.0, parts.1)) (split_at_elision rest))

-- eight groups, with zeros for those that are missing between these, of which there is one at least
unfoldable pub groups_round_zeros : List ℕ → List ℕ → Option (List ℕ)
groups_round_zeros front back =
    if nat_le (length front + length back) 7
    then Some (front ++ (replicate (8 - (length front + length back)) 0 ++ back)) else None

-- groups round `::`, which stands for groups of zeros, one or more
unfoldable pub elided_groups : List ℕ → Option (List ℕ)
elided_groups text = do
  parts ← split_at_elision text
  front ← groups_or_none false 7 parts.0
  back ← groups_or_none true 7 parts.1
  groups_round_zeros front back

-- groups of 16 bits as one number, the most significant first
abbrev pub number_of_groups : List ℕ → ℕ
number_of_groups all = fold (λ n g. n * 65536 + g) 0 all

-- an IPv6 address: eight groups, or fewer with one `::`
unfoldable pub ipv6 : List ℕ → Option ℕ
ipv6 text = option_map number_of_groups (option_or (eight_groups text) (elided_groups text))

-- ---- Masks

-- the length of a prefix, at most so much, in decimal digits. It may begin with zeros.
unfoldable pub prefix_length : ℕ → List ℕ → Option ℕ
prefix_length most text = digits_upto 10 most text

-- a mask of an IPv4 address: the length of a prefix, or an address
unfoldable pub ipv4_mask : List ℕ → Option ℕ
ipv4_mask text = option_or (option_map (leading_bits 32) (prefix_length 32 text)) (ipv4 text)

-- a mask of an IPv6 address
unfoldable pub ipv6_mask : List ℕ → Option ℕ
ipv6_mask text = option_or (option_map (leading_bits 128) (prefix_length 128 text)) (ipv6 text)
