-- Bits of a number of a given width. Bit 0 is the least.
use Rattle.std.specs.Prelude.{ℕ, ◌-◌, ◌^◌, bit_and, bit_xor}

-- all bits of a number of this width
abbrev pub all_bits : ℕ → ℕ
all_bits width = 2 ^ width - 1

-- the n most significant of the bits of a number of this width: the mask of a prefix of length n
abbrev pub leading_bits : ℕ → ℕ → ℕ
leading_bits width n = 2 ^ width - 2 ^ (width - n)

-- a number with the bits of the mask replaced by those of a value
abbrev pub merged : ℕ → ℕ → ℕ → ℕ
merged number value mask = bit_xor number (bit_and (bit_xor number value) mask)
