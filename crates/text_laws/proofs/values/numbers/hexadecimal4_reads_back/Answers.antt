use Rattle.text_laws.proofs.values.DigitLaws.{number_upto-hexadecimal4}
use Rattle.text_laws.proofs.values.numbers.hexadecimal4_reads_back.Goals as goal

pub returns : goal.returns
returns c = number_upto-hexadecimal4
