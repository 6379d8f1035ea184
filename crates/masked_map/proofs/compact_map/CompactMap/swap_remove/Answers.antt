use Rattle.std.proofs.Common.{None, refl, ◌∙◌}
use Rattle.std.specs.Map.{lookup}
use Rattle.spec_keys.specs.Keys.{same}
use Rattle.masked_map.specs.Compact.{list_of}
use Rattle.masked_map.specs.Listed.{listed}
use Rattle.masked_map.proofs.FilterLaws.{none_left}
use Rattle.masked_map.proofs.MapLaws.{lookup_at, updated_at_key}
use Rattle.masked_map.proofs.compact_map.CompactMap.swap_remove.Goals as goal

pub invariant_of-self : goal.invariant_of-self
invariant_of-self g c = record {
  filtered = λ key out.
      updated_at_key list_of c.args.self.now.by_key c.swap_remove.new.self c.args.key.now _ None refl c.swap_remove.ensures.updates key
      ∙ none_left (same key (list_of c.args.key.now)) (lookup (same key) (listed list_of c.args.self.now.by_key.entries)) (c.args.self.now.filtered key out);
}

pub returns-clause-old : goal.returns-clause-old
returns-clause-old g c = c.swap_remove.ensures.value ∙ lookup_at list_of c.args.self.now.by_key.entries c.args.key.now _ refl

pub returns-clause-values : goal.returns-clause-values
returns-clause-values g c q = updated_at_key list_of c.args.self.now.by_key c.swap_remove.new.self c.args.key.now _ None refl c.swap_remove.ensures.updates q
