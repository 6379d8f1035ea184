use Rattle.std.proofs.Common.{arith}
use Rattle.text_laws.proofs.values.CharacterLaws.{decimal_characters, hexadecimal_characters, hexadecimal4_characters}
use Rattle.text_laws.proofs.values.characters.numbers_have_value_characters.Goals as goal

pub returns-clause-decimal : goal.returns-clause-decimal
returns-clause-decimal c n small = decimal_characters n (omega arith)

pub returns-clause-hexadecimal : goal.returns-clause-hexadecimal
returns-clause-hexadecimal c n small = hexadecimal_characters n (omega arith)

pub returns-clause-hexadecimal4 : goal.returns-clause-hexadecimal4
returns-clause-hexadecimal4 c = hexadecimal4_characters
