use Rattle.std.proofs.Common.{sym, ap, ◌∙◌}
use Rattle.std.specs.Map.Iter.{deref_pair}
use Rattle.std.specs.Option.{option_map}
use Rattle.masked_map.proofs.MapLaws.{none_but_only}
use Rattle.masked_map.proofs.index_map.only_value.Goals as goal

pub returns-else-eq : goal.returns-else-eq
returns-else-eq g c =
    sym (none_but_only (g.K.PartialEq.eq c.args.key.now) c.args.map.now.entries c.in-Some.only.now c.in-Some.value.now c.requires
    (sym c.get_index.ensures.entry ∙ ap (option_map deref_pair) c.in-Some.is) (sym c.eq.ensures ∙ c.if-eq.false))
