-- Numbers and Ethernet addresses as texts, as ovs-ofctl(8) writes them. Leading zeros are no part of a decimal number:
-- this profile doesn't guess at octal. Hexadecimal digits may begin with any number of them.
use Rattle.std.specs.Prelude.{ℕ, ◌+◌, ◌*◌, ◌==◌, nat_le, nat_eq, Bool, false, not, ◌&&◌, if◌then◌else◌, List, length, take, drop, position, slice_index, Option, Some, None}
use Rattle.std.specs.List.{list_all, starts_with}
use Rattle.std.specs.Option.{option_map, option_map_or, option_and_then}
use Rattle.std.specs.Char.{is_digit}
use Rattle.std.specs.Str.Parse.{digits_value}
use Rattle.spec_flow_text.specs.Characters.{digit_zero, letter_x, colon}

infixl 10 ◌>>=◌
abbrev pub ◌>>=◌ : {A B : Type 0} → Option A → (A → Option B) → Option B
o >>= f = option_and_then f o

-- what follows from a value, where there is one, or else the other
abbrev pub where_found : {A B : Type 0} → Option A → (A → B) → B → B
where_found None f other = other
where_found (Some a) f other = f a

-- the parts of a text round the first place of a byte
abbrev pub split_once : ℕ → List ℕ → Option (List ℕ × List ℕ)
split_once byte text = option_map (λ i. (take i text, drop (i + 1) text)) (position (λ c. c == byte) text)

-- a text without its start
abbrev pub strip_prefix : List ℕ → List ℕ → Option (List ℕ)
strip_prefix start text = if starts_with nat_eq text start then Some (drop (length start) text) else None

-- whether a text is this word and no more
abbrev pub is_text : List ℕ → List ℕ → Bool
is_text word text = option_map_or (λ rest. length rest == 0) (strip_prefix word text) false

-- digits of a base, at least one
abbrev pub are_digits : ℕ → List ℕ → Bool
are_digits base text = not (length text == 0) && list_all (λ c. is_digit c base) text

-- the number that digits write, where it is at most so much
unfoldable pub digits_upto : ℕ → ℕ → List ℕ → Option ℕ
digits_upto base most text = if are_digits base text && nat_le (digits_value base text) most then Some (digits_value base text) else None

-- a zero stands before further digits
abbrev pub has_leading_zero : List ℕ → Bool
has_leading_zero text = (slice_index text 0 == digit_zero) && not (length text == 1)

-- a number in decimal, at most so much
unfoldable pub decimal_upto : ℕ → List ℕ → Option ℕ
decimal_upto most text = if has_leading_zero text then None else digits_upto 10 most text

-- `0x` stands before it
abbrev pub is_hexadecimal : List ℕ → Bool
is_hexadecimal text = (slice_index text 0 == digit_zero) && (slice_index text 1 == letter_x)

-- a number in decimal, or in hexadecimal digits of either case after `0x`, at most so much
unfoldable pub number_upto : ℕ → List ℕ → Option ℕ
number_upto most text = if is_hexadecimal text then digits_upto 16 most (drop 2 text) else decimal_upto most text

-- the greatest number of a port of a switch (OFPP_MAX of OpenFlow 1.0 is 0xff00; the ports stop below it)
abbrev pub last_port : ℕ
last_port = 65279

-- a number that isn't 0
abbrev pub nonzero : ℕ → Option ℕ
nonzero n = if n == 0 then None else Some n

-- one or two hexadecimal digits
unfoldable pub octet : List ℕ → Option ℕ
octet text = if nat_le (length text) 2 then digits_upto 16 255 text else None

-- such an octet before a colon, and what stands after it
unfoldable pub octet_before_colon : List ℕ → Option (ℕ × List ℕ)
octet_before_colon text = do
  parts ← split_once colon text
  n ← octet parts.0
  Some (n, parts.1)

-- six octets as one number
abbrev pub six_octets : ℕ → ℕ → ℕ → ℕ → ℕ → ℕ → ℕ
six_octets a b c d e f = ((((a * 256 + b) * 256 + c) * 256 + d) * 256 + e) * 256 + f

-- an Ethernet address: six octets with colons between them
unfoldable pub mac : List ℕ → Option ℕ
mac text = do
  a ← octet_before_colon text
  b ← octet_before_colon a.1
  c ← octet_before_colon b.1
  d ← octet_before_colon c.1
  e ← octet_before_colon d.1
  f ← octet e.1
  Some (six_octets a.0 b.0 c.0 d.0 e.0 f)
