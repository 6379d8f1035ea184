-- What digits write.
use Rattle.std.specs.Prelude.{ℕ, if◌then◌else◌, List, Option, Some, None}
use Rattle.std.specs.List.{list_all}
use Rattle.std.specs.Char.{is_digit}
use Rattle.std.specs.Str.Parse.{digits_value}

-- the number that a text of digits writes, which may be none
abbrev pub number_of_digits : ℕ → List ℕ → Option ℕ
number_of_digits base text = if list_all (λ c. is_digit c base) text then Some (digits_value base text) else None
