use Rattle.std.proofs.Common.{Some, refl, sym, ap, ◌∙◌}
use Rattle.std.specs.Prelude.{if◌then◌else◌}
use Rattle.std.specs.Map.{lookup}
use Rattle.spec_keys.specs.Keys.{same}
use Rattle.masked_map.specs.Compact.{list_of}
use Rattle.masked_map.specs.Filters.{has_mark}
use Rattle.masked_map.specs.Listed.{listed}
use Rattle.masked_map.specs.Marks.{mark_of}
use Rattle.masked_map.proofs.FilterLaws.{not_added, no_more}
use Rattle.masked_map.proofs.MapLaws.{lookup_at, updated_at_key}
use Rattle.masked_map.proofs.compact_map.CompactMap.insert.Goals as goal

pub put-requires : goal.put-requires
put-requires g c none = c.requires (sym (lookup_at list_of c.args.self.now.by_key.entries c.args.key _ refl) ∙ none)

pub invariant_of-self : goal.invariant_of-self
invariant_of-self g c = record {
  filtered = λ key out.
      let old = lookup (same key) (listed list_of c.args.self.now.by_key.entries) in
      updated_at_key list_of c.args.self.now.by_key c.put.new.map c.args.key _ (Some c.args.value) refl c.put.ensures.updates key
      ∙ ap (λ t. if t then Some c.args.value else old) (not_added c.add.new.self key (list_of c.args.key) (sym (ap (has_mark c.add.new.self) (c.mark.ensures (list_of c.args.key) c.of.ensures.words)) ∙ c.add.ensures.marked) out)
      ∙ c.args.self.now.filtered key (no_more c.args.self.now.filter c.add.new.self key (c.add.ensures.keeps (mark_of key)) out);
}

pub returns-clause-old : goal.returns-clause-old
returns-clause-old g c = c.put.ensures.old ∙ lookup_at list_of c.args.self.now.by_key.entries c.args.key _ refl

pub returns-clause-values : goal.returns-clause-values
returns-clause-values g c q = updated_at_key list_of c.args.self.now.by_key c.put.new.map c.args.key _ (Some c.args.value) refl c.put.ensures.updates q
