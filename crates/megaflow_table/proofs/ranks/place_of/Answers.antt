use Rattle.std.proofs.Common.{sym, ◌∙◌}
use Rattle.ovs_fields.specs.Equality.{equal_from_same}
use Rattle.megaflow_table.proofs.HitLaws.{mask_at, masks_found}
use Rattle.megaflow_table.proofs.ranks.place_of.Goals as goal

pub returns-in-Some-clause-mask : goal.returns-in-Some-clause-mask
returns-in-Some-clause-mask c =
    mask_at c.args.subtables.now c.args.seen (c.in-Some.there.now, c.in-Some.field-0-1.now) _ (sym c.in-Some.ensures.entry) (equal_from_same _ _ (sym c.eq.ensures ∙ c.if-eq.true))

pub returns-in_default-clause-mask : goal.returns-in_default-clause-mask
returns-in_default-clause-mask c = masks_found c.args.subtables.now c.args.mask.now c.get_index_of.result c.get_index_of.ensures.index c.get_index_of.ensures.within
