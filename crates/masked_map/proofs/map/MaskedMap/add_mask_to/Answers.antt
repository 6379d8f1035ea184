use Rattle.std.proofs.Common.{sym, ap, ◌∙◌}
use Rattle.spec_keys.specs.Keys.{joined}
use Rattle.masked_map.specs.Maps.{mask_in}
use Rattle.masked_map.specs.Unions.{union_of}
use Rattle.masked_map.proofs.map.MaskedMap.add_mask_to.Goals as goal

pub returns-in-Compact : goal.returns-in-Compact
returns-in-Compact g c = c.add_compact.ensures ∙ ap (λ e. joined (union_of c.args.union.now) (mask_in e)) (sym c.in-Compact.is)

pub returns-in-Whole : goal.returns-in-Whole
returns-in-Whole g c = c.add_whole.ensures ∙ ap (λ e. joined (union_of c.args.union.now) (mask_in e)) (sym c.in-Whole.is)
