use Rattle.std.proofs.Common.{refl, sym, ◌∙◌, arith}
use Rattle.ovs_fields.specs.Lists.{list_of}
use Rattle.spec_keys.specs.Fields.{register_fields}
use Rattle.ovs_fields.proofs.HashLaws.{hash_of_zeros}
use Rattle.ovs_fields.proofs.hash.hash_registers.Goals as goal

pub returns-then-registers_are_zero : goal.returns-then-registers_are_zero
returns-then-registers_are_zero c =
    hash_of_zeros register_fields (list_of c.args.fields.now) _ c.args.hash refl (omega arith)
    (sym c.registers_are_zero.ensures ∙ c.if-registers_are_zero.true)
