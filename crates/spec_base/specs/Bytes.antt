-- Numbers that stand in bytes. A byte after the end of the list reads as 0.
use Rattle.std.specs.Prelude.{ℕ, zero, suc, ◌+◌, ◌*◌, ◌^◌, List, slice_index}
use Rattle.std.specs.Int.{bytes_high_first, bytes_low_first}

-- the number of the n bytes at an offset, the most significant byte first: the byte order of the network
-- (RFC 1700, "Data Notations")
unfoldable pub big_endian_at : ℕ → List ℕ → ℕ → ℕ
big_endian_at zero bytes at = 0
big_endian_at (suc n) bytes at = slice_index bytes at * 256 ^ n + big_endian_at n bytes (at + 1)

-- the number of the n bytes at an offset, the least significant byte first
unfoldable pub little_endian_at : ℕ → List ℕ → ℕ → ℕ
little_endian_at zero bytes at = 0
little_endian_at (suc n) bytes at = slice_index bytes at + 256 * little_endian_at n bytes (at + 1)

-- the low n bytes of a number, the most significant of them first
abbrev pub big_endian : ℕ → ℕ → List ℕ
big_endian n value = bytes_high_first n value

-- the low n bytes of a number, the least significant of them first
abbrev pub little_endian : ℕ → ℕ → List ℕ
little_endian n value = bytes_low_first 0 n value
