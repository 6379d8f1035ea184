use Rattle.std.proofs.Common.{◌≡◌, take}
use Rattle.std.specs.Str.Parse.{AllDigits, digits_value}
use Rattle.text_numbers.proofs.numbers.number_of_few.Given as goal

-- all bytes so far are digits, and they write the number
abbrev pub invariant-digits : goal.invariant-digits
invariant-digits l = record {
  digits : AllDigits l.base (take l.byte-index l.text);
  number : l.number ≡ digits_value l.base (take l.byte-index l.text);
}
