use Rattle.std.proofs.Common.{◌∙◌}
use Rattle.indexmap.proofs.CallerLemmas.{insert_entry-new}
use Rattle.spec_keys.specs.Keys.{same}
use Rattle.ovs_fields.specs.declared.mask.Mask.{Mask}
use Rattle.ovs_fields.specs.Packed.{bits}
use Rattle.tuple_classifier.proofs.subtables.add_subtable.Goals as goal

pub returns-clause-ok : goal.returns-clause-ok
returns-clause-ok c =
    c.in_ok-insert.ensures.entries ∙ insert_entry-new (λ (a b : Mask). same (bits a) (bits b)) c.args.by_mask.now c.args.mask.now c.args.subtable c.requires
