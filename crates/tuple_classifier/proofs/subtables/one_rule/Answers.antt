use Rattle.std.proofs.Common.{[], ap, sym, ◌∙◌}
use Rattle.ovs_fields.specs.Packed.{bits}
use Rattle.ovs_fields.specs.Equality.{same_from_equal}
use Rattle.tuple_classifier.proofs.subtables.one_rule.Goals as goal

pub insert-requires-clause-mask : goal.insert-requires-clause-mask
insert-requires-clause-mask c = same_from_equal _ _ (sym c.new-subtable.ensures.mask)

pub insert-requires-clause-new : goal.insert-requires-clause-new
insert-requires-clause-new c = ([], c.new-subtable.ensures.rules.staged, λ r m e. m)

pub returns-in-Ok : goal.returns-in-Ok
returns-in-Ok c = record {
  mask_is = ap bits c.in-Ok.ensures.mask ∙ c.new-subtable.ensures.mask;
  has_one = λ r is of_rank. c.in-Ok.ensures.ok [] r c.new-subtable.ensures.rules is of_rank;
}
