use Rattle.text_numbers.proofs.Octets.{two_digits_before_colon}
use Rattle.text_numbers.proofs.numbers.read_octet_before_colon.Goals as goal

pub returns-in-Some-read_two_digits-clause-value : goal.returns-in-Some-read_two_digits-clause-value
returns-in-Some-read_two_digits-clause-value c =
    two_digits_before_colon c.in-Some.high c.in-Some.low c.args.text.now c.in-Some.rest.now c.in-Some-read_two_digits.n
    c.in-Some.ensures c.in-Some-read_two_digits.ensures.value
