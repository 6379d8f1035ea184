use Rattle.std.proofs.Common.{sym, subst}
use Rattle.std.specs.List.{IsDistinct}
use Rattle.std.specs.Map.{keys_of}
use Rattle.spec_keys.specs.Keys.{same}
use Rattle.ovs_fields.specs.Packed.{numbers}
use Rattle.masked_map.specs.Compact.{list_of}
use Rattle.masked_map.specs.Maps.{entries_in}
use Rattle.masked_map.proofs.MapLaws.{distinct_listed}
use Rattle.masked_map.proofs.map.MaskedMap.len.Goals as goal

pub returns-in-Compact-clause-distinct : goal.returns-in-Compact-clause-distinct
returns-in-Compact-clause-distinct g c =
    subst (λ e. IsDistinct same (keys_of (entries_in e))) (sym c.in-Compact.is) (distinct_listed list_of c.in-Compact.map.by_key.entries c.len.ensures.unique)

pub returns-in-Whole-clause-distinct : goal.returns-in-Whole-clause-distinct
returns-in-Whole-clause-distinct g c =
    subst (λ e. IsDistinct same (keys_of (entries_in e))) (sym c.in-Whole.is) (distinct_listed numbers c.in-Whole.map.entries c.len-in-Whole.ensures.unique)
