use Rattle.std.proofs.Common.{refl, sym, ap, ◌∙◌}
use Rattle.std.specs.Map.{lookup}
use Rattle.spec_keys.specs.Keys.{same}
use Rattle.ovs_fields.specs.Packed.{numbers}
use Rattle.masked_map.specs.Compact.{list_of}
use Rattle.masked_map.specs.Maps.{entries_in}
use Rattle.masked_map.proofs.CompactLaws.{none_compact}
use Rattle.masked_map.proofs.MapLaws.{lookup_at}
use Rattle.masked_map.proofs.map.MaskedMap.get_exact.Goals as goal

pub returns-in-Some : goal.returns-in-Some
returns-in-Some g c =
    c.value_of.ensures ∙ lookup_at list_of c.in-Compact.map.by_key.entries c.in-Some.fields _ c.in-Some.ensures.some
    ∙ ap (λ e. lookup (same (numbers c.args.key.now)) (entries_in e)) (sym c.in-Compact.is)

pub returns-in-None : goal.returns-in-None
returns-in-None g c =
    sym (none_compact (numbers c.args.key.now) c.in-Compact.map.by_key.entries (c.in-None.ensures.none refl))
    ∙ ap (λ e. lookup (same (numbers c.args.key.now)) (entries_in e)) (sym c.in-Compact.is)

pub returns-in-Whole : goal.returns-in-Whole
returns-in-Whole g c =
    c.value_of-in-Whole.ensures ∙ lookup_at numbers c.in-Whole.map.entries c.args.key.now _ refl
    ∙ ap (λ e. lookup (same (numbers c.args.key.now)) (entries_in e)) (sym c.in-Whole.is)
