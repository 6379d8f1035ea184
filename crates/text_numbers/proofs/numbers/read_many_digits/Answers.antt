use Rattle.std.proofs.Common.{◌≡◌, true, sym, ◌∙◌, arith}
use Rattle.spec_flow_text.specs.Numbers.{are_digits}
use Rattle.text_numbers.proofs.Digits.{utf8, too_great}
use Rattle.text_numbers.proofs.numbers.read_many_digits.Goals as goal

pub returns-in_default-clause-value : goal.returns-in_default-clause-value
returns-in_default-clause-value c =
    let h : are_digits c.args.base c.args.text.now ≡ true = sym c.has_digits.ensures ∙ c.if-not-has_digits.false in
    absurd (c.in_default.ensures.cases.0 (utf8 c.args.base c.requires.high c.args.text.now h))

pub returns-in-Err-clause-value : goal.returns-in-Err-clause-value
returns-in-Err-clause-value c =
    let h : are_digits c.args.base c.args.text.now ≡ true = sym c.has_digits.ensures ∙ c.if-not-has_digits.false in
    sym (too_great c.args.base c.args.most c.args.text.now c.in-Ok.text.now c.requires.high (omega arith) h c.in-Ok.ensures.cases.0 c.in-Err.ensures.value)
