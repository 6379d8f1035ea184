use Rattle.std.proofs.Common.{arith}
use Rattle.field_text.proofs.Forms.{limit-within}
use Rattle.field_text.proofs.values.read_masked_value.Goals as goal

pub returns-then-named-clause-fits : goal.returns-then-named-clause-fits
returns-then-named-clause-fits c =
    let within = limit-within c.args.field in
    grind (arith, within)
