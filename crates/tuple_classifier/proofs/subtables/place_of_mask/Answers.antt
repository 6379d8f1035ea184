use Rattle.ovs_fields.specs.Packed.{bits}
use Rattle.tuple_classifier.proofs.KeptLaws.{found_masks, missing_masks}
use Rattle.tuple_classifier.proofs.subtables.place_of_mask.Goals as goal

pub returns-clause-some : goal.returns-clause-some
returns-clause-some c = found_masks (bits c.args.mask.now) c.args.by_mask.now.entries c.args.mask.now c.requires c.get_index_of.result c.get_index_of.ensures.index

pub returns-clause-none : goal.returns-clause-none
returns-clause-none c = missing_masks (bits c.args.mask.now) c.args.by_mask.now.entries c.args.mask.now c.requires c.get_index_of.result c.get_index_of.ensures.index
