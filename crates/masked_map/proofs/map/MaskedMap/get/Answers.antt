use Rattle.std.proofs.Common.{sym, ap, ◌∙◌}
use Rattle.std.specs.Map.{lookup}
use Rattle.spec_keys.specs.Keys.{masked, same}
use Rattle.ovs_fields.specs.Packed.{numbers}
use Rattle.masked_map.specs.Maps.{mask_in, entries_in}
use Rattle.masked_map.proofs.map.MaskedMap.get.Goals as goal

pub returns-in-Compact : goal.returns-in-Compact
returns-in-Compact g c =
    c.get.ensures
    ∙ ap (λ e. lookup (same (masked (numbers c.args.key.now.key.now) (mask_in e))) (entries_in e)) (sym c.in-Compact.is)

pub returns-in-Whole : goal.returns-in-Whole
returns-in-Whole g c =
    c.get_whole.ensures
    ∙ ap (λ e. lookup (same (masked (numbers c.args.key.now.key.now) (mask_in e))) (entries_in e)) (sym c.in-Whole.is)
