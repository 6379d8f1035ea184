use Rattle.std.proofs.Common.{sym, ap, ◌∙◌}
use Rattle.std.specs.Map.Iter.{deref_pair}
use Rattle.std.specs.Option.{option_map}
use Rattle.spec_keys.specs.Keys.{masked, same}
use Rattle.ovs_fields.specs.Packed.{numbers}
use Rattle.masked_map.specs.Compact.{list_of}
use Rattle.masked_map.proofs.MapLaws.{none_but_only, only_found, lookup_listed}
use Rattle.masked_map.proofs.compact_map.CompactMap.get_only.Goals as goal

pub returns-then-is : goal.returns-then-is
returns-then-is g c =
    let under = masked (numbers c.args.key.now.key.now) (list_of c.args.mask.now.bits.fields) in
    sym (lookup_listed list_of under c.args.self.now.by_key.entries
    ∙ only_found (λ k. same under (list_of k)) c.args.self.now.by_key.entries c.in-Some.own.now c.in-Some.value.now c.requires
    (sym c.get_index.ensures.entry ∙ ap (option_map deref_pair) c.in-Some.is) (sym c.is.ensures ∙ c.if-is.true))

pub returns-else-is : goal.returns-else-is
returns-else-is g c =
    let under = masked (numbers c.args.key.now.key.now) (list_of c.args.mask.now.bits.fields) in
    sym (lookup_listed list_of under c.args.self.now.by_key.entries
    ∙ none_but_only (λ k. same under (list_of k)) c.args.self.now.by_key.entries c.in-Some.own.now c.in-Some.value.now c.requires
    (sym c.get_index.ensures.entry ∙ ap (option_map deref_pair) c.in-Some.is) (sym c.is.ensures ∙ c.if-is.false))
