use Rattle.std.proofs.Common.{arith}
use Rattle.text_laws.proofs.values.DigitLaws.{number_upto-hexadecimal}
use Rattle.text_laws.proofs.values.numbers.hexadecimal_reads_back.Goals as goal

pub returns : goal.returns
returns c most n le small = number_upto-hexadecimal most n le (omega arith)
