use Rattle.std.proofs.Common.{sym, ap, ◌∙◌}
use Rattle.spec_keys.specs.Keys.{joined}
use Rattle.ovs_fields.specs.Packed.{bits}
use Rattle.masked_map.specs.Unions.{union_of}
use Rattle.staged_lookup.specs.Subtables.{tested_part}
use Rattle.tuple_classifier.proofs.lookup.told.Goals as goal

pub returns-in-Ended-clause-consulted : goal.returns-in-Ended-clause-consulted
returns-in-Ended-clause-consulted c own is =
    c.add_part_to.ensures own is ∙ ap (joined (union_of c.args.consulted.now)) (sym (ap (λ p. tested_part p (bits c.args.staged.now.mask)) c.in-Ended.is))

pub returns-in-Best-clause-consulted : goal.returns-in-Best-clause-consulted
returns-in-Best-clause-consulted c own is =
    c.add_mask_to.ensures own is ∙ ap (joined (union_of c.args.consulted.now)) (sym (ap (λ p. tested_part p (bits c.args.staged.now.mask)) c.in-Best.is))
