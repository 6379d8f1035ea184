-- Why a number has at most 64 digits: a longer one has the text of another.
use Rattle.std.proofs.Common.{◌≡◌, ◌+◌, ◌^◌, refl}
use Rattle.std.specs.Fmt.{decimal, digits}

longer_number_loses_its_first_digit : decimal (10 ^ 64 + 10 ^ 63) ≡ decimal (10 ^ 63)
unfolding digits
longer_number_loses_its_first_digit = refl
