use Rattle.std.proofs.Common.{bit_and, ap, ◌∙◌, arith}
use Rattle.std.proofs.lemmas.Nat.{and_le_l, and_assoc}
use Rattle.std.specs.Int.Bits.{and_self}
use Rattle.field_text.proofs.parts.part.Goals as goal

pub returns-clause-within : goal.returns-clause-within
returns-clause-within c =
    let value = c.args.bits.value in
    let mask = c.args.bits.mask in
    (omega (arith, and_le_l value mask, c.requires), c.requires.1, and_assoc mask value mask ∙ ap (bit_and value) (and_self mask))
