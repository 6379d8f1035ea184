-- The hash of a key: FNV-1a of 64 bits (draft-eastlake-fnv) over the bytes of the fields in order, each field most
-- significant byte first in as many whole bytes as it needs.
use Rattle.std.specs.Prelude.{ℕ, ◌+◌, ◌*◌, ◌/◌, ◌%◌, ◌^◌, List, [], ◌∷◌, ◌++◌, bit_xor}
use Rattle.spec_base.specs.Bytes.{big_endian}
use Rattle.spec_keys.specs.declared.field_id.FieldId.{FieldId}
use Rattle.spec_keys.specs.Fields.{fields, width_of}
use Rattle.spec_keys.specs.Keys.{value_of}

-- the offset basis and the prime of FNV with 64 bits
abbrev pub offset_basis : ℕ
offset_basis = 0xcbf29ce484222325

abbrev pub prime : ℕ
prime = 0x100000001b3

-- one more byte
abbrev pub hash_byte : ℕ → ℕ → ℕ
hash_byte hash byte = bit_xor hash byte * prime % 2 ^ 64

unfoldable pub hash_bytes : ℕ → List ℕ → ℕ
hash_bytes hash [] = hash
hash_bytes hash (byte ∷ bytes) = hash_bytes (hash_byte hash byte) bytes

-- how many bytes a number of so many bits needs
abbrev pub bytes_for : ℕ → ℕ
bytes_for bits = (bits + 7) / 8

-- the bytes of these fields of a key
unfoldable pub field_bytes : List FieldId → List ℕ → List ℕ
field_bytes [] key = []
field_bytes (f ∷ fs) key = big_endian (bytes_for (width_of f)) (value_of key f) ++ field_bytes fs key

unfoldable pub key_hash : List ℕ → ℕ
key_hash key = hash_bytes offset_basis (field_bytes fields key)
