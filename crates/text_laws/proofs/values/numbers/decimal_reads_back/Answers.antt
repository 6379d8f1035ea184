use Rattle.std.proofs.Common.{arith}
use Rattle.text_laws.proofs.values.DigitLaws.{number_upto-decimal}
use Rattle.text_laws.proofs.values.numbers.decimal_reads_back.Goals as goal

pub returns : goal.returns
returns c most n le small = number_upto-decimal most n le (omega arith)
