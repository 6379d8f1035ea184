-- Worked rows: checksums, and how they are updated.
use Rattle.std.specs.Prelude.{◌≡◌, ℕ, List, [], ◌∷◌, refl}
use Rattle.spec_exec.specs.Checksum.{checksum, updated}

-- the example of RFC 1071, section 3: 0xddf2 is the sum
what_is_carried_out_is_added_at_the_end : checksum (0x0001 ∷ 0xf203 ∷ 0xf4f5 ∷ 0xf6f7 ∷ []) ≡ 0x220d
unfolding checksum
what_is_carried_out_is_added_at_the_end = refl

-- of an IPv4 header from this address to 10.0.0.2
abbrev header_from : ℕ → ℕ → List ℕ
header_from high low = 0x4500 ∷ 0x001c ∷ 0x0000 ∷ 0x0000 ∷ 0x4011 ∷ 0x0000 ∷ high ∷ low ∷ 0x0a00 ∷ 0x0002 ∷ []

a_header_has_a_checksum : checksum (header_from 0x0a00 0x0001) ≡ 0x66cf
unfolding checksum
a_header_has_a_checksum = refl

of_another_source_it_is_updated : (updated 0x66cf 0x0001 0x0009 ≡ 0x66c7) × (checksum (header_from 0x0a00 0x0009) ≡ 0x66c7)
unfolding updated checksum
of_another_source_it_is_updated = (refl, refl)

-- the example of RFC 1624, section 4
an_updated_checksum_may_be_0 : updated 0xdd2f 0x5555 0x3285 ≡ 0x0000
unfolding updated
an_updated_checksum_may_be_0 = refl
