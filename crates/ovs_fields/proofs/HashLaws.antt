-- The hash of bytes in pieces, and of zero bytes.
use Rattle.std.proofs.Common.{◌≡◌, ℕ, zero, suc, ◌+◌, ◌*◌, ◌%◌, ◌<◌, ◌^◌, List, [], ◌∷◌, ◌++◌, replicate, length, take, get_or, true, ◌==◌, refl, sym, ap, ◌∙◌, append_assoc, mul-one, mul_assoc, mod-lt, mod-eq_of_lt, lit<}
use Rattle.std.proofs.Math.Nat.{pow-succ', zero-div, zero-mod}
use Rattle.std.proofs.lemmas.Bool.{and_parts, eqb-true}
use Rattle.std.proofs.lemmas.List.{take_more, replicate-append-replicate}
use Rattle.std.proofs.lemmas.Nat.{mul-mod_first, mul-mod_second}
use Rattle.std.specs.Int.Bits.{xor_zero_r}
use Rattle.spec_keys.specs.declared.field_id.FieldId.{FieldId}
use Rattle.spec_base.specs.Bytes.{big_endian}
use Rattle.spec_keys.specs.Fields.{width_of}
use Rattle.spec_keys.specs.Keys.{value_of, are_zero}
use Rattle.spec_keys.specs.Hash.{prime, hash_byte, hash_bytes, bytes_for, field_bytes}

-- the hash of bytes, and then of more
pub hash_bytes-append : (hash : ℕ) (xs ys : List ℕ) → hash_bytes hash (xs ++ ys) ≡ hash_bytes (hash_bytes hash xs) ys
unfolding hash_bytes
hash_bytes-append hash [] ys = refl
hash_bytes-append hash (x ∷ xs) ys = hash_bytes-append (hash_byte hash x) xs ys

pub hash_bytes-take_more : (hash : ℕ) (bytes : List ℕ) (i : ℕ) → i < length bytes → hash_bytes hash (take (i + 1) bytes) ≡ hash_byte (hash_bytes hash (take i bytes)) (get_or bytes i 0)
unfolding hash_bytes
hash_bytes-take_more hash bytes i within = rw (take_more bytes i 0 within) (hash_bytes-append hash (take i bytes) (get_or bytes i 0 ∷ []))

field_bytes-append : (fs gs : List FieldId) (key : List ℕ) → field_bytes (fs ++ gs) key ≡ field_bytes fs key ++ field_bytes gs key
unfolding field_bytes
field_bytes-append [] gs key = refl
field_bytes-append (f ∷ fs) gs key = rw (field_bytes-append fs gs key, append_assoc) refl

-- the hash of some fields, and then of more
pub then_fields : (hash : ℕ) {middle result : ℕ} (fs gs : List FieldId) (key : List ℕ) → middle ≡ hash_bytes hash (field_bytes fs key) → result ≡ hash_bytes middle (field_bytes gs key) → result ≡ hash_bytes hash (field_bytes (fs ++ gs) key)
then_fields hash fs gs key first rest =
    rest ∙ rw first (sym (rw (field_bytes-append fs gs key) (hash_bytes-append hash (field_bytes fs key) (field_bytes gs key))))

-- one more factor, where each product is cut to a number below m
power_more : (hash p n m : ℕ) → hash * p % m * p ^ n % m ≡ hash * p ^ suc n % m
power_more hash p n m = mul-mod_first (hash * p) (p ^ n) m ∙ rw (mul_assoc hash p (p ^ n), pow-succ' p n) refl

-- the hash of n bytes of 0 is a multiplication by the n-th power of the prime
zeros-power : (n hash : ℕ) → hash < 2 ^ 64 → hash_bytes hash (replicate n 0) ≡ hash * prime ^ n % 2 ^ 64
unfolding hash_bytes
zeros-power zero hash fits = sym (rw mul-one (mod-eq_of_lt fits))
zeros-power (suc n) hash fits =
    let unchanged : hash_bytes hash (replicate (suc n) 0) ≡ hash_bytes (hash * prime % 2 ^ 64) (replicate n 0) =
    ap (λ (x : ℕ). hash_bytes (x * prime % 2 ^ 64) (replicate n 0)) (xor_zero_r hash) in
    unchanged
    ∙ zeros-power n (hash * prime % 2 ^ 64) (mod-lt (hash * prime) (lit< tt))
    ∙ power_more hash prime n (2 ^ 64)

-- how many bytes these fields have
abbrev pub byte_count : List FieldId → ℕ
byte_count [] = 0
byte_count (f ∷ fs) = bytes_for (width_of f) + byte_count fs

bytes_of_zero : (n : ℕ) → big_endian n 0 ≡ replicate n 0
bytes_of_zero zero = refl
bytes_of_zero (suc zero) = refl
bytes_of_zero (suc (suc n)) = rw (zero-div, zero-mod, bytes_of_zero (suc n)) refl

field_bytes-zero : (fs : List FieldId) (key : List ℕ) → are_zero fs key ≡ true → field_bytes fs key ≡ replicate (byte_count fs) 0
unfolding field_bytes
field_bytes-zero [] key zeros = refl
field_bytes-zero (f ∷ fs) key zeros =
    let parts = and_parts (value_of key f == 0) (are_zero fs key) zeros in
    rw (eqb-true (value_of key f) 0 parts.0, bytes_of_zero (bytes_for (width_of f)), field_bytes-zero fs key parts.1)
    (replicate-append-replicate (bytes_for (width_of f)) (byte_count fs) 0)

-- the hash of fields that are 0, by that power modulo 2^64
pub hash_of_zeros : (fs : List FieldId) (key : List ℕ) (power hash : ℕ) → power ≡ prime ^ byte_count fs % 2 ^ 64 → hash < 2 ^ 64 → are_zero fs key ≡ true → hash * power % 2 ^ 64 ≡ hash_bytes hash (field_bytes fs key)
hash_of_zeros fs key power hash is_power fits zeros =
    rw (is_power, mul-mod_second hash (prime ^ byte_count fs) (2 ^ 64), field_bytes-zero fs key zeros)
    (sym (zeros-power (byte_count fs) hash fits))
