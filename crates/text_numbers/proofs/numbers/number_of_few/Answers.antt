use Rattle.std.proofs.Common.{◌≡◌, ◌<◌, ◌≤◌, ◌*◌, ◌^◌, take, length, length-take, take_all, sym, ap, ◌∙◌, arith, Some}
use Rattle.std.specs.Str.Parse.{digits_value}
use Rattle.text_numbers.proofs.FewDigits.{few_below, one_more_fits, one_more, some_number}
use Rattle.text_numbers.proofs.numbers.number_of_few.Goals as goal

pub overflow_mul-number : goal.overflow_mul-number
overflow_mul-number c =
    let few : length (take c.digits.byte-index c.args.text.now) ≤ 14 = omega (arith, length-take c.digits.byte-index c.args.text.now) in
    let below : c.digits.number < 16 ^ 14 = omega (arith, few_below c.args.base (take c.digits.byte-index c.args.text.now) (omega arith) few c.digits.invariant.digits) in
    omega (arith, one_more_fits c.digits.number c.from-in-digits.result 0 below (omega arith) (omega arith))

pub overflow_add-number : goal.overflow_add-number
overflow_add-number c =
    let few : length (take c.digits.byte-index c.args.text.now) ≤ 14 = omega (arith, length-take c.digits.byte-index c.args.text.now) in
    let below : c.digits.number < 16 ^ 14 = omega (arith, few_below c.args.base (take c.digits.byte-index c.args.text.now) (omega arith) few c.digits.invariant.digits) in
    omega (arith, one_more_fits c.digits.number c.from-in-digits.result c.from-in-digits-2.result below (omega arith) (omega (arith, c.in_ok-digit.ensures.value)))

pub digits-preserved : goal.digits-preserved
digits-preserved c =
    let more = one_more c.args.base c.args.text.now c.digits.byte-index c.digits.number (c.digits.number * c.from-in-digits.result) c.from.result c.in_ok-digit.digit c.from-in-digits-2.result
    c.digits-test.true c.digits.invariant.digits c.digits.invariant.number c.from.ensures c.in_ok-digit.ensures.value (ap (λ k. c.digits.number * k) c.from-in-digits.ensures) c.from-in-digits-2.ensures in
    record { digits = more.0; number = more.1 }

pub returns : goal.returns
returns c =
    let whole : take c.digits.byte-index c.args.text.now ≡ c.args.text.now = take_all c.digits.byte-index c.args.text.now (omega arith) in
    ap Some (c.digits.invariant.number ∙ ap (digits_value c.args.base) whole) ∙ sym (some_number c.args.base c.args.text.now (rw whole at c.digits.invariant.digits))
